-- The rules for a property of the tables and of the recorded events: only the steps that change
-- those are left. Assumes nothing.
use Rattle.std.specs.Prelude.{if◌then◌else◌, ◌≡◌, refl, Bool, true, false, ℕ, zero, suc, ◌+◌, ◌*◌, ◌/◌, ◌<◌, ◌≤◌}
use Rattle.std.proofs.Common.{subst, arith}
use mathlib.Core.List.{List, [], ◌∷◌}
use Rattle.tables.specs.declared.values.Ref.TheVariants.{Object, Root, RoRef, Attached}
use Rattle.tables.specs.declared.values.SlotValue.{SlotValue}
use Rattle.tables.specs.declared.values.SlotValue.TheVariants.{Ref as IsRef, Repeat, RepeatPrev, Skip, StreamBytes, Raw as IsRaw, ClearedWeak, WeakRef, PendingRef}
use Rattle.tables.specs.declared.values.Fields.{Fields}
use Rattle.tables.specs.Values.{triple, raw_kind, fields_of, width_of}
use Rattle.tables.specs.Records.{room, object_row, slot_row, value_row, filled}
use Rattle.definition.specs.Memory.{Input, word, in_map, in_slot, in_value, dropped, Event, opened, passed, item, value, resolve, begins, synchronize, Table, table, Mem, added}
use Rattle.definition.specs.Slots.{counted, waits_for, waiter, waits_of}
use Rattle.definition.specs.Object.{flagged}
use Rattle.definition.specs.Call.{Rooms, Call, input_of, empty, told_of}
use Rattle.assurance.specs.Words.{Accepted, IntegerAt, width_of_value}
use Rattle.assurance.specs.Steps.{Frame, frame, OpensAt, Base, Rules, AtEnd, resolve_case}
use Rattle.assurance.specs.Whole.{Any}
use Rattle.assurance.specs.Induct.{graph_has}
use Rattle.assurance.specs.On.{On, on_note, on_note_two, on_map, on_told}

-- slot k of n is the newest that waits under a number
abbrev Waiter : List ℕ → ℕ → ℕ → ℕ → Type 0
Waiter rows number n k = (k < n) × (waits_for rows number k ≡ true)

waiter-pick : (rows : List ℕ) (number n k : ℕ) (t : Bool) → waits_for rows number n ≡ t → (waiter rows number n ≡ suc k → Waiter rows number n k) → (if t then suc n else waiter rows number n) ≡ suc k → Waiter rows number (suc n) k
waiter-pick rows number n k true w f z = let q : n ≡ k = omega arith in (omega arith, subst (λ (i : ℕ). waits_for rows number i ≡ true) q w)
waiter-pick rows number n k false w f z = let h = f z in (omega (arith, h.0), h.1)

pub waiter_is : (rows : List ℕ) (number n k : ℕ) → waiter rows number n ≡ suc k → Waiter rows number n k
unfolding waiter
waiter_is rows number zero k e = let z : ◌≡◌ {A = ℕ} 0 (suc k) = e in absurd (omega arith)
waiter_is rows number (suc n) k e = waiter-pick rows number n k (waits_for rows number n) refl (waiter_is rows number n k) e

-- the width of a value, by its fields
width_of_lem : (ts : ℕ) (v : SlotValue) → width_of ts v ≡ width_of_value ts (fields_of v)
width_of_lem ts (IsRef (Object i)) = refl
width_of_lem ts (IsRef (Root i)) = refl
width_of_lem ts (IsRef (RoRef c i)) = refl
width_of_lem ts (IsRef (Attached i)) = refl
width_of_lem ts (Repeat n k) = refl
width_of_lem ts (RepeatPrev n) = refl
width_of_lem ts (Skip n) = refl
width_of_lem ts (StreamBytes n) = refl
width_of_lem ts (IsRaw r) = at r.advances
  where
    at : (b : Bool) → (if b then r.len else 0) ≡ width_of_value ts (triple (raw_kind b) r.off r.len)
    at true = refl
    at false = refl
width_of_lem ts ClearedWeak = refl
width_of_lem ts (WeakRef k) = refl
width_of_lem ts (PendingRef n) = refl

-- what is known of an object whose record a slot is counted in, and of the slots' table
pub record Placing (o : ℕ) (objects slots : Table) : Type 0 where
  pub listed : o < objects.count
  pub objects_fit : objects.count ≤ room 4 objects.rows
  pub roomy : slots.count < room 6 slots.rows

pub record EventRules (x : Input) (P : List Frame → Table → Table → Table → List Event → Type 0) : Type 0 where
  pub on_passed : (S : List Frame) (ot st vt : Table) (es : List Event) (a n : ℕ) → P S ot st vt es → P S ot st vt (passed a n ∷ es)
  pub on_begins : (S : List Frame) (ot st vt : Table) (es : List Event) (q : ℕ) → P S ot st vt es → P S ot st vt (begins q ∷ es)
  pub on_synchronize : (S : List Frame) (ot st vt : Table) (es : List Event) (q : ℕ) → P S ot st vt es → P S ot st vt (synchronize q ∷ es)
  pub on_dropped : (S : List Frame) (ot st vt : Table) (es : List Event) (v : Fields) → P S ot st vt es → P S ot st vt (value v dropped ∷ es)
  pub on_value : (S : List Frame) (ot st vt : Table) (es : List Event) (v : Fields) → vt.count < room 3 vt.rows → P S ot st vt es → P S ot st (added vt (value_row v)) (value v (in_value vt.count) ∷ es)
  pub on_open : (S : List Frame) (ot st vt : Table) (es : List Event) (tag words : ℕ) → OpensAt x tag → IntegerAt x.payload (tag + 1) words → ot.count < room 4 ot.rows → P S ot st vt es → P (frame ot.count (words * word x) 0 ∷ S) (added ot (object_row (words * word x) tag)) st vt (opened tag words ∷ es)
  pub on_flag : (S : List Frame) (ot st vt : Table) (es : List Event) (o : ℕ) → o < ot.count → P S ot st vt es → P S (flagged o ot) st vt es
  pub on_map : (S : List Frame) (ot st vt : Table) (es : List Event) (o size : ℕ) (v : Fields) → Placing o ot st → P (frame o size 0 ∷ S) ot st vt es → P (frame o size (word x) ∷ S) (counted o ot) (added st (slot_row o 0 v 0)) vt (item o 0 (word x) st.count ∷ value v (in_map st.count) ∷ es)
  pub on_item : (S : List Frame) (ot st vt : Table) (es : List Event) (o size done width : ℕ) (v : Fields) (waits : ℕ) → Placing o ot st → width ≡ width_of_value (word x) v → 1 ≤ done → done < size → P (frame o size done ∷ S) ot st vt es → P (frame o size (done + width) ∷ S) (counted o ot) (added st (slot_row o (done / word x) v waits)) vt (item o done width st.count ∷ value v (in_slot st.count) ∷ es)
  pub on_unknown : (S : List Frame) (ot st vt : Table) (es : List Event) (number o : ℕ) → P S ot st vt es → P S ot st vt (resolve number o ∷ es)
  pub on_fill : (S : List Frame) (ot st vt : Table) (es : List Event) (number o k : ℕ) → Waiter st.rows number st.count k → P S ot st vt es → P S ot (table (filled st.rows k o) st.count) vt (resolve number o ∷ es)
  pub on_close : (S : List Frame) (ot st vt : Table) (es : List Event) (o size : ℕ) → o < ot.count → 1 ≤ size → P (frame o size size ∷ S) ot st vt es → P S ot st vt es

module _ (x : Input) (P : List Frame → Table → Table → Table → List Event → Type 0) (rules : EventRules x P) where
  abbrev pub Inv : List Frame → Mem → Type 0
  Inv S m = On (P S m.objects m.slots m.values) m.log

  placing : (S : List Frame) (o size done : ℕ) (m : Mem) → Base x (frame o size done ∷ S) m → m.slots.count < room 6 m.slots.rows → Placing o m.objects m.slots
  placing S o size done m b l = record { listed = b.open_below.0; objects_fit = b.objects_fit; roomy = l }

  rules_of : Rules x Inv Any
  unfolding Any
  rules_of =
      record {
        on_move = (λ S m at h l g. h);
        on_long = (λ S m n h. h);
        on_object = (λ S m i h l. tt);
        on_root = (λ S m i h. tt);
        on_read_only = (λ S m c o h. tt);
        on_attached = (λ S m i h. tt);
        on_cleared = (λ S m h. tt);
        on_hot = (λ S m i r h l e. tt);
        on_enter = (λ S m r t h w. (h, tt));
        on_pending = (λ S m h. (h, tt));
        on_raw = (λ S m n a h l g. (on_note _ _ (passed m.at n) m.log (λ es. rules.on_passed S m.objects m.slots m.values es m.at n) h, tt));
        on_value = (λ S m v h w l. (on_note _ _ (value (fields_of v) (in_value m.values.count)) m.log (λ es. rules.on_value S m.objects m.slots m.values es (fields_of v) l) h, tt, λ n. tt));
        on_open = (λ S m tag words q i h l. on_note _ _ (opened tag words) m.log (λ es. rules.on_open S m.objects m.slots m.values es tag words q i l) h);
        on_flag = (λ S m o v l h w. (on_map _ _ m.log (λ es. rules.on_flag S m.objects m.slots m.values es o l) h, tt));
        on_map = (λ S m o size v b h w l. on_note_two _ _ (value (fields_of v) (in_map m.slots.count)) (item o 0 (word x) m.slots.count) m.log (λ es. rules.on_map S m.objects m.slots m.values es o size (fields_of v) (placing S o size 0 m b l)) h);
        on_item = (λ S m o size done v b h w p d l. on_note_two _ _ (value (fields_of v) (in_slot m.slots.count)) (item o done (width_of (word x) v) m.slots.count) m.log (λ es. rules.on_item S m.objects m.slots m.values es o size done (width_of (word x) v) (fields_of v) (waits_of v) (placing S o size done m b l) (width_of_lem (word x) v) p d) h);
        on_resolve =
            (λ S m o size done n b h. resolve_case m n o (Inv (frame o size done ∷ S))
            (λ e. on_note _ _ (resolve n o) m.log (λ es. rules.on_unknown (frame o size done ∷ S) m.objects m.slots m.values es n o) h)
            (λ k e. on_note _ _ (resolve n o) m.log (λ es. rules.on_fill (frame o size done ∷ S) m.objects m.slots m.values es n o k (waiter_is m.slots.rows n m.slots.count k e)) h));
        on_close = (λ S m o size l p h. on_map _ _ m.log (λ es. rules.on_close S m.objects m.slots m.values es o size l p) h);
        on_drop = (λ S m v h w. on_note _ _ (value (fields_of v) dropped) m.log (λ es. rules.on_dropped S m.objects m.slots m.values es (fields_of v)) h);
        on_align = (λ S m a h. h);
        on_begins = (λ m n h. on_note _ _ (begins m.at) m.log (λ es. rules.on_begins [] m.objects m.slots m.values es m.at) h);
      }

  at_end : AtEnd Inv
  at_end m h =
      on_note_two _ _ (begins m.at) (synchronize m.at) m.log
      (λ es i. rules.on_synchronize [] m.objects m.slots m.values _ m.at (rules.on_begins [] m.objects m.slots m.values es m.at i)) h

-- THE THEOREM: a property that those rules keep holds of what an accepted payload leaves
pub tables_have : (c : Call) (rooms : Rooms) (m : Mem) → Accepted c rooms m → (P : List Frame → Table → Table → Table → List Event → Type 0) → EventRules (input_of c) P → P [] (empty rooms.objects) (empty rooms.slots) (empty rooms.values) [] → P [] m.objects m.slots m.values (told_of m.log)
tables_have c rooms m a P rules i = on_told (P [] m.objects m.slots m.values) m.log (graph_has c rooms m a (Inv (input_of c) P rules) Any (rules_of (input_of c) P rules) i (at_end (input_of c) P rules))
