-- Every slot and value record keeps one value that was read, and no value is kept in a record that
-- is not listed. Assumes nothing.
use Rattle.std.specs.Prelude.{if◌then◌else◌, ◌≡◌, refl, Bool, true, false, List, [], ◌∷◌, ℕ, ◌+◌, ◌<◌, ◌≤◌, eqb}
use Rattle.std.proofs.Common.{ap, inl, inr, ⊎_elim, arith, eq-eqb, ne_eqb, eqb-true}
use mathlib.Core.List.Memᴰ
use Rattle.definition.specs.Memory.{Input, in_map, in_slot, in_value, dropped, Event, opened, passed, item, value, resolve, begins, synchronize, Mem}
use Rattle.definition.specs.Call.{Rooms, Call, input_of, told_of}
use Rattle.assurance.proofs.EventRules.{EventRules, tables_have}
use Rattle.assurance.proofs.Listed.{below}
use Rattle.assurance.specs.Words.{Accepted, in_slots, in_values}
use Rattle.assurance.specs.Kept.{KeptInSlot, KeptInValue}

-- f is 1 below a bound, and 0 from it on
pub record Once (f : ℕ → ℕ) (n : ℕ) : Type 0 where
  pub one : (k : ℕ) → k < n → f k ≡ 1
  pub none : (k : ℕ) → n ≤ k → f k ≡ 0

once_more : (f : ℕ → ℕ) (n : ℕ) → Once f n → Once (λ k. if eqb k n then f k + 1 else f k) (n + 1)
once_more f n h =
    record {
      one =
          below (λ k. (if eqb k n then f k + 1 else f k) ≡ 1) n
          (λ k l. rw (ne_eqb k n (λ e. omega arith)) (h.one k l))
          (rw (eq-eqb n n refl) (ap (λ (i : ℕ). i + 1) (h.none n (omega arith))));
      none = (λ k l. rw (ne_eqb k n (λ e. omega arith)) (h.none k (omega arith)));
    }

abbrev P : ℕ → ℕ → List Event → Type 0
P slots values es = (Once (in_slots es) slots) × (Once (in_values es) values)

rules : (x : Input) → EventRules x (λ S ot st vt. P st.count vt.count)
unfolding in_slots in_values
rules x =
    record {
      on_passed = (λ S ot st vt es a n h. h);
      on_begins = (λ S ot st vt es q h. h);
      on_synchronize = (λ S ot st vt es q h. h);
      on_dropped = (λ S ot st vt es v h. h);
      on_value = (λ S ot st vt es v l h. (h.0, once_more (in_values es) vt.count h.1));
      on_open = (λ S ot st vt es q w p i l h. h);
      on_flag = (λ S ot st vt es o l h. h);
      on_map = (λ S ot st vt es o size v p h. (once_more (in_slots es) st.count h.0, h.1));
      on_item = (λ S ot st vt es o size done w v k p e q l h. (once_more (in_slots es) st.count h.0, h.1));
      on_unknown = (λ S ot st vt es n o h. h);
      on_fill = (λ S ot st vt es n o k w h. h);
      on_close = (λ S ot st vt es o size l p h. h);
    }

-- THE THEOREM
pub kept_once : (c : Call) (rooms : Rooms) (m : Mem) → Accepted c rooms m → P m.slots.count m.values.count (told_of m.log)
unfolding in_slots in_values
kept_once c rooms m a = tables_have c rooms m a _ (rules (input_of c)) (record { one = (λ k l. absurd (omega arith)); none = (λ k l. refl) }, record { one = (λ k l. absurd (omega arith)); none = (λ k l. refl) })

-- ---- a record that keeps a value: which

slot_later : (es : List Event) (e : Event) (k : ℕ) → KeptInSlot es k → KeptInSlot (e ∷ es) k
slot_later es e k h = (h.0, ⊎_elim (λ t. inl (Memᴰ.tail t)) (λ t. inr (Memᴰ.tail t)) h.1)

value_later : (es : List Event) (e : Event) (k : ℕ) → KeptInValue es k → KeptInValue (e ∷ es) k
value_later es e k h = (h.0, Memᴰ.tail h.1)

-- a count that is not 0 has found one, here or before
found : (C : Type 0) (t : Bool) (n : ℕ) → (t ≡ true → C) → (1 ≤ n → C) → 1 ≤ (if t then n + 1 else n) → C
found C true n y f l = y refl
found C false n y f l = f l

pub slot_value : (es : List Event) (k : ℕ) → 1 ≤ in_slots es k → KeptInSlot es k
unfolding in_slots
slot_value [] k l = absurd (omega arith)
slot_value (opened q w ∷ es) k l = slot_later es _ k (slot_value es k l)
slot_value (passed a n ∷ es) k l = slot_later es _ k (slot_value es k l)
slot_value (item o s w j ∷ es) k l = slot_later es _ k (slot_value es k l)
slot_value (value v (in_map j) ∷ es) k l = found (KeptInSlot (value v (in_map j) ∷ es) k) (eqb k j) (in_slots es k) (λ t. (v, inl (Memᴰ.head (ap (λ (i : ℕ). value v (in_map i)) (eqb-true k j t))))) (λ g. slot_later es _ k (slot_value es k g)) l
slot_value (value v (in_slot j) ∷ es) k l = found (KeptInSlot (value v (in_slot j) ∷ es) k) (eqb k j) (in_slots es k) (λ t. (v, inr (Memᴰ.head (ap (λ (i : ℕ). value v (in_slot i)) (eqb-true k j t))))) (λ g. slot_later es _ k (slot_value es k g)) l
slot_value (value v (in_value j) ∷ es) k l = slot_later es _ k (slot_value es k l)
slot_value (value v dropped ∷ es) k l = slot_later es _ k (slot_value es k l)
slot_value (resolve n o ∷ es) k l = slot_later es _ k (slot_value es k l)
slot_value (begins q ∷ es) k l = slot_later es _ k (slot_value es k l)
slot_value (synchronize q ∷ es) k l = slot_later es _ k (slot_value es k l)

pub value_value : (es : List Event) (k : ℕ) → 1 ≤ in_values es k → KeptInValue es k
unfolding in_values
value_value [] k l = absurd (omega arith)
value_value (opened q w ∷ es) k l = value_later es _ k (value_value es k l)
value_value (passed a n ∷ es) k l = value_later es _ k (value_value es k l)
value_value (item o s w j ∷ es) k l = value_later es _ k (value_value es k l)
value_value (value v (in_map j) ∷ es) k l = value_later es _ k (value_value es k l)
value_value (value v (in_slot j) ∷ es) k l = value_later es _ k (value_value es k l)
value_value (value v (in_value j) ∷ es) k l = found (KeptInValue (value v (in_value j) ∷ es) k) (eqb k j) (in_values es k) (λ t. (v, Memᴰ.head (ap (λ (i : ℕ). value v (in_value i)) (eqb-true k j t)))) (λ g. value_later es _ k (value_value es k g)) l
value_value (value v dropped ∷ es) k l = value_later es _ k (value_value es k l)
value_value (resolve n o ∷ es) k l = value_later es _ k (value_value es k l)
value_value (begins q ∷ es) k l = value_later es _ k (value_value es k l)
value_value (synchronize q ∷ es) k l = value_later es _ k (value_value es k l)
