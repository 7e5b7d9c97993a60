-- THE THEOREMS on pending numbers: in every reading waits is 1 only at kind 13, at most one slot
-- waits under a number, none under a number that was not given out, and the count of those that
-- wait is exact (Waiting.antt). Assumes nothing.
use Rattle.std.specs.Prelude.{if◌then◌else◌, ◌≡◌, refl, Bool, true, false, List, [], ◌∷◌, ℕ, zero, suc, ◌+◌, ◌*◌, ◌^◌, ◌<◌, ◌≤◌, eqb, length}
use Rattle.std.proofs.Common.{sym, subst, arith, eqb-true}
use Rattle.tables.specs.declared.values.SlotValue.{SlotValue}
use Rattle.tables.specs.declared.values.SlotValue.TheVariants.{Ref as IsRef, Repeat, RepeatPrev, Skip, StreamBytes, Raw, ClearedWeak, WeakRef, PendingRef}
use Rattle.tables.specs.Values.{fields_of, width_of}
use Rattle.tables.specs.Records.{room}
use Rattle.definition.specs.Memory.{Input, word, Log, Mem, Out, got, no}
use Rattle.definition.specs.Slots.{waiter, fill_waiter, resolved, waits_of, place_item}
use Rattle.definition.specs.Object.{read_map, keep_map, resolves, items, object}
use Rattle.definition.specs.Reference.{ref_at}
use Rattle.definition.specs.Closing.{closing}
use Rattle.definition.specs.Call.{Rooms, walk}
use Rattle.laws.specs.Sound.{Proper, Sound, Counted}
use Rattle.laws.specs.Waiting.{Waits, Fresh, waiter_found, waits_more, waits_restart, fresh_next, waits_added, waits_filled, waits_start}
use Rattle.laws.specs.Rules.{Frame, frame, Listed, Given, Sides, sides, Rules}
use Rattle.laws.specs.Steps.{Good, Result, Ends}
use Rattle.laws.specs.Keeps.{waits_low, object-keeping, map_ends, keep_map_ends, resolves_end, place_item-ends, items_end}
use Rattle.laws.specs.References.{ref_keeping}
use Rattle.laws.specs.ClosingKeeps.{closing_ends, walk_ends, begun, start_sound, start-counted}

-- of what a reader has
abbrev pub Numbered : Mem → Type 0
Numbered m = Waits m.slots.rows m.slots.count m.pending m.waiting

-- of a value that was read: the number of a pending reference is free
abbrev FreshIn : Sides → SlotValue → Type 0
FreshIn s (PendingRef n) = Fresh s.slots.rows s.slots.count s.pending n
FreshIn s (IsRef r) = Unit {0}
FreshIn s (Repeat n k) = Unit {0}
FreshIn s (RepeatPrev n) = Unit {0}
FreshIn s (Skip n) = Unit {0}
FreshIn s (StreamBytes n) = Unit {0}
FreshIn s (Raw r) = Unit {0}
FreshIn s ClearedWeak = Unit {0}
FreshIn s (WeakRef k) = Unit {0}

abbrev pub FreshValue : Mem → SlotValue → Type 0
FreshValue m v = FreshIn (sides m) v

-- the same as an invariant
abbrev pub Numbers : List Frame → Mem → Type 0
Numbers S m = Numbered m

-- ---- the rules

given_fresh : (x : Input) (s : Sides) (v : SlotValue) → Given x v → FreshIn s v
given_fresh x s (PendingRef n) d = absurd d
given_fresh x s (IsRef r) d = tt
given_fresh x s (Repeat n k) d = tt
given_fresh x s (RepeatPrev n) d = tt
given_fresh x s (Skip n) d = tt
given_fresh x s (StreamBytes n) d = tt
given_fresh x s (Raw r) d = tt
given_fresh x s ClearedWeak d = tt
given_fresh x s (WeakRef k) d = tt

never : {A : Type 0} → ◌≡◌ {A = ℕ} 0 1 → A
never e = absurd (omega arith)

slot_fresh : (m : Mem) (v : SlotValue) → FreshValue m v → waits_of v ≡ 1 → (Fresh m.slots.rows m.slots.count m.pending (fields_of v).a) × ((fields_of v).kind ≡ 13)
slot_fresh m (PendingRef n) h e = (h, refl)
slot_fresh m (IsRef r) h e = never e
slot_fresh m (Repeat n k) h e = never e
slot_fresh m (RepeatPrev n) h e = never e
slot_fresh m (Skip n) h e = never e
slot_fresh m (StreamBytes n) h e = never e
slot_fresh m (Raw r) h e = never e
slot_fresh m ClearedWeak h e = never e
slot_fresh m (WeakRef k) h e = never e

-- numbering returns to 0 where none waits
renumbers : (st : List ℕ) (count pending waiting : ℕ) → Waits st count pending waiting → (t : Bool) → eqb waiting 0 ≡ t → Waits st count (if t then 0 else pending) waiting
renumbers st count pending waiting w true e = waits_restart w (eqb-true _ _ e)
renumbers st count pending waiting w false e = w

fills : (m : Mem) (o number k : ℕ) → m.slots.count * 6 ≤ length m.slots.rows → Numbered m → waiter m.slots.rows number m.slots.count ≡ k → Numbered (fill_waiter k o m)
fills m o number zero fits w e = renumbers _ _ _ _ w _ refl
fills m o number (suc k) fits w e =
    let f = waiter_found m.slots.rows number m.slots.count k e in
    let roomy : k < room 6 m.slots.rows = omega (arith, f.0) in
    renumbers _ _ _ _ (waits_filled w k o f.0 f.1 roomy) _ refl

pub resolved-numbered : (m : Mem) (o number : ℕ) → m.slots.count * 6 ≤ length m.slots.rows → Numbered m → Numbered (resolved number o m)
unfolding resolved
resolved-numbered m o number fits w = fills m o number _ fits w refl

pub numbered-rules : (x : Input) → Rules x Numbers FreshValue
numbered-rules x =
    record {
      on_move = λ S m at s i h l. i;
      on_long = λ S m n i. i;
      on_amount = λ S m n s i d h. i;
      on_enter = λ S m r s i v. i;
      aside = λ m m' v a h. subst (λ (s : Sides). FreshIn s v) (sym a) h;
      on_given = λ S m v i d. given_fresh x (sides m) v d;
      on_backref = λ S m o i h. tt;
      on_hot = λ S m i r s h e. tt;
      on_single = λ S m space value r s i e. tt;
      on_place = λ S m space place s i. tt;
      on_raw = λ S m n advances s i h. (i, tt);
      on_pending = λ S m s i h. (waits_more i (m.pending + 1) (omega arith), fresh_next i);
      on_value = λ S m v s i h l. (i, tt, λ n. tt);
      on_previous = λ S m n s i h l. (i, tt);
      on_object = λ S m tag words s i l. i;
      on_flag = λ S m o size done v s i h e. i;
      on_map = λ S m o size v s i h b l. waits_added i o 0 (fields_of v) 0 l (λ e. never e) (omega arith);
      on_resolve = λ S m o size done number s i b. resolved-numbered m o number s.slots_fit i;
      on_item = λ S m o size done v s i h d b l r. waits_added i o _ (fields_of v) (waits_of v) r (slot_fresh m v h) (waits_low v);
      on_skip = λ S m o size done n i h. i;
      on_bytes = λ S m o size done n i h. i;
      on_deferred = λ S m o size done b i e h l. i;
      on_close = λ S m o size i b. (i, tt);
      on_aligned = λ S m a i. i;
      on_chunk = λ S m space i. i;
      on_allocate = λ S m o size done space s i b h r e z. i;
      on_drop = λ m v i h. i;
      on_begins = λ m i. i;
      on_synchronize = λ m i h e. i;
      on_entry = λ m o index f s e i l. waits_added i o index f 0 l (λ e. never e) (omega arith);
      on_fault = λ S m e i. i;
    }

-- ---- the theorems

-- a reader that starts so ends so, refusals included; Q says more of what it gives
abbrev pub Ordered : {A : Type 0} → (A → Mem → Type 0) → Out A → Type 0
Ordered Q (got a m) = (Numbered m) × (Q a m)
Ordered Q (no n q m) = Numbered m

module _ {x : Input} (g : Proper x) where
  ordered : {A : Type 0} (m : Mem) (T : A → List Frame) {P Q : A → Mem → Type 0} → ((a : A) (m' : Mem) → P a m' → Q a m') → (o : Out A) → Result x Numbers m T P o → Ordered Q o
  ordered m T f (got a m') h = (h.0.has, f a m' h.1)
  ordered m T f (no n q m') h = h.1.has

  pub orders : {A : Type 0} {m : Mem} {T : A → List Frame} {P Q : A → Mem → Type 0} {o : Out A} → Ends x Numbers m T P o → ((a : A) (m' : Mem) → P a m' → Q a m') → Ordered Q o
  orders {m = m} {T} {o = o} e f = ordered m T f o e.result

  module _ (m : Mem) (s : Sound x m) (c : Counted m) (n : Numbered m) where
    pub good : (S : List Frame) → Listed S m.objects.count → Good x Numbers S m m
    good S l = record { kept = record { sound = s; counted = c; onward = omega arith }; has = n; listed = l }

    pub ref_numbered : (k : ℕ) → Ordered (λ v m'. FreshValue m' v) (ref_at x k m)
    ref_numbered k = orders ((ref_keeping g (numbered-rules x) k).ends [] m (good [] tt)) (λ v m' p. p.has)

    pub object-numbered : (k space tag : ℕ) → space < 256 → Ordered (λ v m'. FreshValue m' v) (object x (ref_at x k) space tag m)
    object-numbered k space tag h = orders ((object-keeping g (numbered-rules x) (ref_keeping g (numbered-rules x) k) space tag h).ends [] m (good [] tt)) (λ v m' p. p.has)

    -- an object o that has a record
    module _ (o size done : ℕ) (l : o < m.objects.count) where
      pub map_numbered : (k space bytes : ℕ) → space < 256 → Ordered (λ v m'. FreshValue m' v) (read_map x (ref_at x k) space bytes o m)
      map_numbered k space bytes h = orders (map_ends g (numbered-rules x) (ref_keeping g (numbered-rules x) k) (good (frame o bytes 0 ∷ []) (l, tt)) space h) (λ v m' p. p.has)

      pub keep_map-numbered : (v : SlotValue) → FreshValue m v → Ordered (λ _ m'. Unit {0}) (keep_map x o v m)
      keep_map-numbered v h = orders (keep_map_ends g (numbered-rules x) (good (frame o size 0 ∷ []) (l, tt)) v h) (λ _ m' p. tt)

      pub resolves-numbered : (fuel : ℕ) → Ordered (λ _ m'. Unit {0}) (resolves x o fuel m)
      resolves-numbered fuel = orders (resolves_end g (numbered-rules x) fuel (good (frame o size done ∷ []) (l, tt))) (λ _ m' p. tt)

      pub place_item-numbered : (v : SlotValue) → FreshValue m v → width_of (word x) v ≤ 2 ^ 34 → done < size → Ordered (λ d m'. Unit {0}) (place_item x o done v m)
      place_item-numbered v h n d = orders (place_item-ends g (numbered-rules x) (good (frame o size done ∷ []) (l, tt)) v h n d) (λ d m' p. tt)

      pub items-numbered : (k fuel : ℕ) → Ordered (λ d m'. Unit {0}) (items x (ref_at x k) o size fuel done m)
      items-numbered k fuel = orders (items_end g (numbered-rules x) (ref_keeping g (numbered-rules x) k) fuel done (good (frame o size done ∷ []) (l, tt))) (λ d m' p. tt)

    pub closing-numbered : Ordered (λ _ m'. Unit {0}) (closing x m)
    closing-numbered = orders (closing_ends g (numbered-rules x) (good [] tt)) (λ _ m' p. tt)

    pub walk-numbered : Ordered (λ _ m'. Unit {0}) (walk x m)
    walk-numbered = orders (walk_ends g (numbered-rules x) (good [] tt)) (λ _ m' p. tt)

  -- a call starts so
  pub call_numbered : (rooms : Rooms) (st dt : List ℕ) (log : Log) → Ordered (λ _ m'. Unit {0}) (walk x (begun rooms st dt log))
  call_numbered rooms st dt log = walk-numbered (begun rooms st dt log) (start_sound x rooms st dt log) (start-counted rooms st dt log) (waits_start _)
