-- Steps, records, objects and their items: each keeps what it has in order (Sound.antt) and an
-- invariant with its rules (Rules.antt), and gives what its callers need. Assumes nothing.
use Rattle.std.specs.Prelude.{if◌then◌else◌, ◌≡◌, Bool, ◌&&◌, List, ◌∷◌, leb, Option, Some, None}
use Rattle.std.proofs.Math.Path.{refl, ap}
use Rattle.std.proofs.Common.{sym, ◌∙◌, subst, ⊎_elim}
use Rattle.std.proofs.Math.Bool.{true, false}
use Prim.Native.Nat.{ℕ, zero, suc, ◌+◌, ◌-◌, ◌*◌, ◌^◌, ◌<◌, ◌≤◌, max}
use native.Mathlib.Omega.{arith}
use borrow.Author.Tests.{ltb-true, leb-false, eqb-true, eqb-false}
use Rattle.std.proofs.Math.Dec.{ltb, eqb}
use Rattle.std.proofs.Math.ListN.{length}
use Rattle.stream.specs.declared.putint.Int.{Int}
use Rattle.stream.specs.Bytes.{peek_at}
use Rattle.std.specs.Int.{from_bool}
use Rattle.stream.specs.PutInt.{int_at, is_long}
use Rattle.sheet.specs.Names.{k_deferred}
use Rattle.sheet.specs.Sheet.{is_legacy, is_six_x, is_map_first, lo_space}
use Rattle.sheet.specs.Usable.{Usable}
use Rattle.sheet.specs.Tests.{is_resolve, is_deferred, is_next_chunk, alignment_of}
use Rattle.std.proofs.lemmas.Bool.{and_parts}
use Rattle.sheet.proofs.UsableSheet.{usable_gives}
use Rattle.tables.specs.declared.values.SlotValue.{SlotValue}
use Rattle.tables.specs.declared.values.SlotValue.TheVariants.{Ref as IsRef, Repeat, RepeatPrev, Skip, StreamBytes, Raw, ClearedWeak, WeakRef, PendingRef}
use Rattle.tables.specs.declared.values.Fields.{Fields}
use Rattle.tables.specs.Values.{fields_of, width_of}
use Rattle.tables.specs.Records.{room}
use Rattle.tables.proofs.RecordLaws.{filled_length}
use Rattle.alloc.specs.Allocation.{Outcome, allocate_of}
use Rattle.definition.specs.Memory.{Input, word, Kept as Where, item, tell, Table, Mem, Out, got, no, Reader, and_then, ◌>>=◌, change, give, refuse, moved, with_skip, byte, after_int, int, appended, with_long}
use Rattle.definition.specs.Slots.{add_value, add_slot, waiter, fill_waiter, resolved, waits_of, keep_item, repeat_previous, place_item}
use Rattle.definition.specs.Object.{peek, add_object, large_byte, change_chunk, after_allocation, allocate, alignment_byte, chunk_changes, map_first, map_then_allocate, read_map, flags, flag_object, keep_map, resolves, items, closed, body, object}
use Rattle.laws.specs.Sound.{Proper, Kept}
use Rattle.laws.specs.Leaves.{IntEnds, int_ends, tag_inside, peek-inside, peek-below, alignment_inside, Counters, chunk_counters, Allocates, allocate_grants}
use Rattle.laws.specs.Rules.{Frame, frame, Sides, Aside, Slotted, Rules, with_slot}
use Rattle.laws.specs.Steps.{listed_up, Good, Ends, Keeping, gives, refuses, either, here, by, last, then₁, then₂, then₃, then₄, law, append-ends, kept_noted, kept_pending, kept_skip, kept_counters, counters_now, kept_allocated, kept_value, kept_slot, kept_filled, kept_object, kept_flagged, good_moved, good_long, good_aligned}

-- ---- what readers give

-- nothing more
abbrev pub Any : {A : Type 0} → Mem → A → Mem → Type 0
Any m a m' = Unit {0}

-- a byte at least was read
abbrev pub Reads : {A : Type 0} → Mem → A → Mem → Type 0
Reads m a m' = m.at < m'.at

-- a number was read, and only the cursor moved, and integers were counted
pub record Passed (most : ℕ) (m : Mem) (v : ℕ) (m' : Mem) : Type 0 where
  pub reads : m.at < m'.at
  pub small : v < most
  pub skip_same : m'.skip ≡ m.skip
  pub pending_same : m'.pending ≡ m.pending
  pub only : m' ≡ with_long m'.long_integers (moved m'.at m)

-- a table has one record more
pub record More (t : Mem → Table) (m m' : Mem) : Type 0 where
  pub more : (t m').count ≡ (t m).count + 1
  pub at_same : m'.at ≡ m.at
  pub skip_same : m'.skip ≡ m.skip
  pub pending_same : m'.pending ≡ m.pending

-- and its number was given
pub record Appended (t : Mem → Table) (m : Mem) (k : ℕ) (m' : Mem) : Type 0 where
  pub number : k ≡ (t m).count
  pub one : More t m m'

-- an item was placed after `done` bytes
pub record Placed (done : ℕ) (m : Mem) (d : ℕ) (m' : Mem) : Type 0 where
  pub rises : done ≤ d
  pub bound : d ≤ done + m.skip + 2 ^ 34
  pub at_same : m'.at ≡ m.at
  pub skip_none : m'.skip ≡ 0

-- a reference was read, of which W holds
pub record Refers (x : Input) (W : Mem → SlotValue → Type 0) (m : Mem) (v : SlotValue) (m' : Mem) : Type 0 where
  pub reads : m.at < m'.at
  pub narrow : width_of (word x) v ≤ 2 ^ 34
  pub has : W m' v

-- a step besides values was taken
abbrev pub Besides : {A : Type 0} → Mem → A → Mem → Type 0
Besides m a m' = Aside m m'

-- items were placed after `done` bytes
pub record Filled (size done : ℕ) (m : Mem) (d : ℕ) (m' : Mem) : Type 0 where
  pub rises : done ≤ d
  pub bound : d ≤ max done (size + 2 ^ 55)

module _ {x : Input} (g : Proper x) where
  pub sheet_gives : Usable x.sheet
  sheet_gives = usable_gives x.sheet g.sheet_usable

  pub word_low : word x ≤ 8
  word_low = ⊎_elim (λ e. omega arith) (λ e. omega arith) sheet_gives.word

  -- the object's own space is no byte past the end
  space_inside : (space at : ℕ) → space < 256 → eqb (peek_at x.payload at) space ≡ true → at < length x.payload
  space_inside space at h e = let same : peek_at x.payload at ≡ space = eqb-true _ _ e in peek-inside x.payload at (λ z. omega arith)

pick_low : (t : Bool) (n : ℕ) → (if t then 0 else n) ≤ n
pick_low true n = omega arith
pick_low false n = omega arith

fill_kept : {x : Input} {m₀ m : Mem} → Kept x m₀ m → (k o : ℕ) → Kept x m₀ (fill_waiter k o m)
fill_kept {m} w zero o =
    kept_pending w _ _ (omega (arith, pick_low (eqb m.waiting 0) m.pending, w.sound.pending_low)) w.sound.waiting_low
fill_kept {m} w (suc k) o =
    kept_pending (kept_filled w _ (filled_length m.slots.rows k o)) _ _
    (omega (arith, pick_low (eqb (m.waiting - 1) 0) m.pending, w.sound.pending_low))
    (omega (arith, w.sound.waiting_low))

pub resolved_kept : {x : Input} {m₀ m : Mem} → Kept x m₀ m → (number o : ℕ) → Kept x m₀ (resolved number o m)
unfolding resolved
resolved_kept {m} w number o = kept_noted (fill_kept w (waiter m.slots.rows number m.slots.count) o) _

fill_objects : (k o : ℕ) (m : Mem) → (fill_waiter k o m).objects ≡ m.objects
fill_objects zero o m = refl
fill_objects (suc k) o m = refl

pub resolved_objects : (number o : ℕ) (m : Mem) → (resolved number o m).objects ≡ m.objects
unfolding resolved
resolved_objects number o m = fill_objects (waiter m.slots.rows number m.slots.count) o m

pub waits_low : (v : SlotValue) → waits_of v ≤ 1
waits_low (PendingRef n) = omega arith
waits_low (IsRef r) = omega arith
waits_low (Repeat n k) = omega arith
waits_low (RepeatPrev n) = omega arith
waits_low (Skip n) = omega arith
waits_low (StreamBytes n) = omega arith
waits_low (Raw r) = omega arith
waits_low ClearedWeak = omega arith
waits_low (WeakRef k) = omega arith

module _ {x : Input} {I : List Frame → Mem → Type 0} {W : Mem → SlotValue → Type 0} (g : Proper x) (R : Rules x I W) where
  -- ---- steps

  pub byte_keeps : Keeping x I (Passed 256) (byte x)
  unfolding byte
  byte_keeps =
      law (λ S m w. either (ltb m.at (length x.payload)) _ _
      (λ e. let l : m.at < length x.payload = ltb-true _ _ e in
      gives (good_moved R w (m.at + 1) (omega arith) (omega arith)) (record { reads = omega arith; small = g.bytes m.at; skip_same = refl; pending_same = refl; only = refl }))
      (λ _. refuses (good_moved R w (length x.payload) w.kept.sound.within (omega arith))))

  one_at_most : (b : Bool) → from_bool b ≤ 1
  one_at_most true = omega arith
  one_at_most false = omega arith

  int_after : {S : List Frame} {m : Mem} → Good x I S m m → (i : Option Int) → IntEnds x.payload m.at i → Ends x I m (λ _. S) (Passed (2 ^ 30) m) (after_int x i m)
  int_after {m} w (Some i) e =
      let v = good_moved R w (m.at + i.count) (omega arith) (omega arith) in
      gives (good_long R v (m.long_integers + from_bool (is_long i)) (omega (arith, w.kept.sound.long_low, one_at_most (is_long i)))) (record { reads = omega arith; small = e.3; skip_same = refl; pending_same = refl; only = refl })
  int_after w None e = refuses (good_moved R w (length x.payload) w.kept.sound.within (omega arith))

  pub int_keeps : Keeping x I (Passed (2 ^ 30)) (int x)
  unfolding int
  int_keeps = law (λ S m w. int_after w (int_at x.payload m.at) (int_ends x.payload m.at g.bytes))

  -- ---- records

  pub value_ends : {S : List Frame} {m : Mem} → Good x I S m m → (v : SlotValue) → W m v → Ends x I m (λ _. S) (λ k m'. (Appended (λ m. m.values) m k m') × (W m' (WeakRef k)) × ((n : ℕ) → W m' (Repeat n k))) (add_value (fields_of v) m)
  unfolding add_value
  value_ends {S} {m} w v h =
      append-ends w 3 (λ m. m.values) _ (λ l. let z = R.on_value S m v w.kept.sound w.has h l in
      (record { kept = kept_noted (kept_value w.kept (fields_of v) l) _; has = z.0; listed = w.listed }, (omega arith, z.1, z.2)))

  previous_ends : {S : List Frame} {m : Mem} → Good x I S m m → (n : ℕ) → W m (RepeatPrev n) → Ends x I m (λ _. S) (λ k m'. (Appended (λ m. m.values) m k m') × (W m' (Repeat n k))) (repeat_previous m)
  unfolding add_value
  previous_ends {S} {m} w n h =
      append-ends w 3 (λ m. m.values) _ (λ l. let z = R.on_previous S m n w.kept.sound w.has h l in
      (record { kept = kept_noted (kept_value w.kept _ l) _; has = z.0; listed = w.listed }, (omega arith, z.1)))

  -- a slot record, and what K makes of its number
  pub slot_then : {B : Type 0} {S : List Frame} {m₀ m : Mem} {U : B → List Frame} {Q : B → Mem → Type 0} → Good x I S m₀ m → (o index : ℕ) (f : Fields) (waits : ℕ) (k : ℕ → Where) (K : Out ℕ → Out B)
      → ((n q : ℕ) (m' : Mem) → K (no n q m') ≡ no n q m')
      → (m.slots.count < room 6 m.slots.rows → Ends x I m₀ U Q (K (got m.slots.count (with_slot o index f waits k m)))) → Ends x I m₀ U Q (K (add_slot o index f waits k m))
  unfolding add_slot
  slot_then {m₀} {m} {U} {Q} w o index f waits k K p h = test (ltb m.slots.count (room 6 m.slots.rows)) refl
    where
      test : (t : Bool) → ltb m.slots.count (room 6 m.slots.rows) ≡ t → Ends x I m₀ U Q (K ((if t then appended (λ m. m.slots) (with_slot o index f waits k) else refuse 3) m))
      test true e = h (ltb-true _ _ e)
      test false e = rw (p 3 m.at m) (refuses w)

  pub add_object_ends : {S : List Frame} {m : Mem} → Good x I S m m → (tag words : ℕ) → Ends x I m (λ o. frame o (words * word x) 0 ∷ S) (Appended (λ m. m.objects) m) (add_object x tag words m)
  unfolding add_object
  add_object_ends {S} {m} w tag words =
      append-ends w 4 (λ m. m.objects) _ (λ l.
      (record { kept = kept_noted (kept_object w.kept (words * word x) tag l) _; has = R.on_object S m tag words w.kept.sound w.has l; listed = (omega arith, listed_up S (omega arith) w.listed) }, omega arith))

  -- ---- an object's head and legacy allocation

  pub large_keeps : (space : ℕ) → Keeping x I Any (large_byte x space)
  large_keeps space =
      law (λ S m w. either (is_six_x x.sheet && eqb space (lo_space x.sheet)) _ _
      (λ _. then₁ w (by w byte_keeps) _ (λ b m1 w1 k1 p. gives w1 tt))
      (λ _. gives w tt))

  pub alignment_keeps : Keeping x I Besides (alignment_byte x)
  alignment_keeps =
      law (λ S m w. either (eqb (alignment_of x.sheet (peek x m)) 0) _ _ (λ _. gives w refl)
      (λ e. let l : m.at < length x.payload = alignment_inside x.sheet (sheet_gives g) x.payload m.at (eqb-false _ _ e) in
      gives (good_aligned R (good_moved R w (m.at + 1) (omega arith) (omega arith)) _) refl))

  -- a chunk change where the cursor moved: the counters are no higher than it
  good_chunk : {S : List Frame} {m₀ m : Mem} → Good x I S m₀ m → (space at : ℕ) → m.at < at → at ≤ length x.payload → Good x I S m₀ (change_chunk x space (moved at m))
  good_chunk {S} {m = m} w space at h l =
      let c : Counters (m.at + 1) _ = chunk_counters m.alloc x.spaces space m.at (counters_now w.kept) in
      let v = good_moved R w at (omega arith) l in
      record {
        kept = kept_counters v.kept m.alignment _ (record { cur_length = c.cur_length; used_length = c.used_length; low = λ s. omega (arith, c.low s) });
        has = R.on_chunk S (moved at m) space v.has;
        listed = w.listed;
      }

  -- a chunk change that names its space
  pub chunk_byte_keeps : Keeping x I Reads (byte x >>= (λ space. change (change_chunk x space)))
  chunk_byte_keeps =
      law (λ S m w. then₁ w (by w byte_keeps) _
      (λ space m1 w1 k1 p. gives (subst (λ (n : Mem). Good x I S m (change_chunk x space n)) (sym p.only) (good_long R (good_chunk w space m1.at p.reads w1.kept.sound.within) m1.long_integers w1.kept.sound.long_low)) p.reads))

  chunk_keeps : (space n : ℕ) → space < 256 → Keeping x I Besides (chunk_changes x space n)
  unfolding chunk_changes
  chunk_keeps space zero h = law (λ S m w. gives w refl)
  chunk_keeps space (suc n) h =
      law {P = Besides} (λ S m w. either (is_next_chunk x.sheet (peek x m) && eqb (peek_at x.payload (m.at + 1)) space) _ _
      (λ e. let l : m.at + 1 < length x.payload = space_inside g space (m.at + 1) h (and_parts (is_next_chunk x.sheet (peek x m)) _ e).1 in
      let w1 = good_chunk w space (m.at + 2) (omega arith) (omega arith) in
      last w1 (by w1 (chunk_keeps space n h)) (λ _ m2 w2 k2 p. p))
      (λ _. gives w refl))

  pub chunks_keep : (space : ℕ) → space < 256 → Keeping x I Besides (λ m. chunk_changes x space (length x.payload - m.at) m)
  chunks_keep space h = law (λ S m w. last w (by w (chunk_keeps space _ h)) (λ _ m1 w1 k1 p. p))

  -- ---- an object that is being read

  module _ {S : List Frame} {o size done : ℕ} where
    pub allocate-ends : {m : Mem} → Good x I (frame o size done ∷ S) m m → (space : ℕ) → space < 256 → Ends x I m (λ _. frame o size done ∷ S) (Besides m) (allocate x space size o m)
    unfolding allocate
    allocate-ends {m} w space low = after _ refl (allocate_grants m.addresses.rows m.addresses.count x.spaces _ m.alloc)
      where
        after : (r : Outcome) → r ≡ allocate_of m.addresses.rows m.addresses.count x.spaces (record { space = space; size = size; object = o; alignment = m.alignment; word = word x }) m.alloc → (r.number ≡ 0 → Allocates m.addresses.rows m.addresses.count m.alloc r) → Ends x I m (λ _. frame o size done ∷ S) (Besides m) (after_allocation r m)
        after r q h =
            either (eqb r.number 0) _ _
            (λ e. let z : r.number ≡ 0 = eqb-true _ _ e in
            gives (record { kept = kept_allocated w.kept r.alignment r (h z); has = R.on_allocate S m o size done space w.kept.sound w.has w.listed.0 low r q z; listed = w.listed }) refl)
            (λ _. refuses w)

    flag_ends : {m : Mem} → Good x I (frame o size done ∷ S) m m → (v : SlotValue) → W m v → Ends x I m (λ _. frame o size done ∷ S) (λ _ m'. (Aside m m') × (m'.at ≡ m.at) × (m'.skip ≡ m.skip)) (flag_object x o v m)
    unfolding flag_object
    flag_ends {m} w v h =
        either (flags x v) _ _
        (λ e. gives (record { kept = kept_flagged w.kept o; has = R.on_flag S m o size done v w.kept.sound w.has h e; listed = w.listed }) (refl, refl, refl))
        (λ _. gives w (refl, refl, refl))

    pub resolves_end : (n : ℕ) {m : Mem} → Good x I (frame o size done ∷ S) m m → Ends x I m (λ _. frame o size done ∷ S) (Any m) (resolves x o n m)
    unfolding resolves
    resolves_end zero w = gives w tt
    resolves_end (suc n) {m} w =
        either (is_resolve x.sheet (peek x m)) _ _
        (λ _. then₃ w (by w byte_keeps) _ _ _
        (λ _ m1 w1 k1 p. then₂ w1 (by w1 int_keeps) _ _
        (λ number m2 w2 k2 q. let w3 = good_resolved w2 number in last w3 (resolves_end n (here w3)) (λ _ m3 w3 k3 _. tt))))
        (λ _. gives w tt)
      where
        good_resolved : {m₀ m : Mem} → Good x I (frame o size done ∷ S) m₀ m → (number : ℕ) → Good x I (frame o size done ∷ S) m₀ (resolved number o m)
        good_resolved {m = m} w number = record { kept = resolved_kept w.kept number o; has = R.on_resolve S m o size done number w.kept.sound w.has w.listed.0; listed = rw (resolved_objects number o m) w.listed }

    -- an item that becomes a slot
    keep_item-ends : {m : Mem} → Good x I (frame o size done ∷ S) m m → (v : SlotValue) → W m v → Slotted v → width_of (word x) v ≤ 2 ^ 34 → done < size → Ends x I m (λ d. frame o size d ∷ S) (Placed done m) (keep_item x o done v m)
    unfolding keep_item
    keep_item-ends {m} w v h s n l =
        slot_then w o _ (fields_of v) (waits_of v) _
        (λ (z : Out ℕ). and_then (and_then (and_then z (λ k. tell (item o (done + m.skip) (width_of (word x) v) k))) (λ _. change (with_skip 0))) (λ _. give (done + m.skip + width_of (word x) v))) (λ n q m'. refl)
        (λ r. gives (record {
          kept = kept_skip (kept_noted (kept_noted (kept_slot w.kept o _ (fields_of v) (waits_of v) (waits_low v) r) _) _) 0 (omega arith);
          has = R.on_item S m o size done v w.kept.sound w.has h s w.listed.0 l r;
          listed = w.listed;
        }) (omega arith))

    pub place_item-ends : {m : Mem} → Good x I (frame o size done ∷ S) m m → (v : SlotValue) → W m v → width_of (word x) v ≤ 2 ^ 34 → done < size → Ends x I m (λ d. frame o size d ∷ S) (Placed done m) (place_item x o done v m)
    unfolding place_item
    place_item-ends {m} w (Skip n) h b l = gives (record { kept = kept_skip w.kept 0 (omega arith); has = R.on_skip S m o size done n w.has h; listed = w.listed }) (omega arith)
    place_item-ends {m} w (StreamBytes n) h b l = gives (record { kept = kept_skip w.kept 0 (omega arith); has = R.on_bytes S m o size done n w.has h; listed = w.listed }) (omega arith)
    place_item-ends w (RepeatPrev n) h b l =
        then₁ w (previous_ends w n h) _
        (λ k m1 w1 k1 p. last w1 (keep_item-ends (here w1) (Repeat n k) p.1 tt b l) (λ d m2 w2 k2 q. omega (arith, p.0, q)))
    place_item-ends w (IsRef r) h b l = keep_item-ends w (IsRef r) h tt b l
    place_item-ends w (Repeat n k) h b l = keep_item-ends w (Repeat n k) h tt b l
    place_item-ends w (Raw r) h b l = keep_item-ends w (Raw r) h tt b l
    place_item-ends w ClearedWeak h b l = keep_item-ends w ClearedWeak h tt b l
    place_item-ends w (WeakRef k) h b l = keep_item-ends w (WeakRef k) h tt b l
    place_item-ends w (PendingRef n) h b l = keep_item-ends w (PendingRef n) h tt b l

    -- the items fill the object
    closed-ends : {m : Mem} → Good x I (frame o size done ∷ S) m m → (tag : ℕ) → Ends x I m (λ _. S) (λ v m'. (width_of (word x) v ≤ 2 ^ 34) × (W m' v)) (closed o tag size done m)
    closed-ends {m} w tag =
        either (eqb done size) _ _
        (λ e. let z = R.on_close S m o size (subst (λ (d : ℕ). I (frame o size d ∷ S) m) (eqb-true _ _ e) w.has) w.listed.0 in
        gives (record { kept = w.kept; has = z.0; listed = w.listed.1 }) (omega (arith, word_low g), z.1))
        (λ _. refuses w)

  pub keep_map_ends : {S : List Frame} {o size : ℕ} {m : Mem} → Good x I (frame o size 0 ∷ S) m m → (v : SlotValue) → W m v → Ends x I m (λ _. frame o size (word x) ∷ S) (λ _ m'. More (λ m. m.slots) m m') (keep_map x o v m)
  unfolding keep_map
  keep_map_ends {S} {o} {size} w v h =
      then₂ w (flag_ends w v h) _ _
      (λ _ m1 w1 k1 p. slot_then w1 o 0 (fields_of v) 0 _ (λ (z : Out ℕ). and_then z (λ k. tell (item o 0 (word x) k))) (λ n q m'. refl)
      (λ r. gives (record {
        kept = kept_noted (kept_noted (kept_slot w1.kept o 0 (fields_of v) 0 (omega arith) r) _) _;
        has = R.on_map S m1 o size v w1.kept.sound w1.has (R.aside _ m1 v p.0 h) w1.listed.0 r;
        listed = w1.listed;
      }) (omega (arith, p, ap (λ (s : Sides). s.slots.count) p.0, ap (λ (s : Sides). s.pending) p.0))))

  -- ---- an object, whose references r reads

  module _ {r : Reader SlotValue} (k : Keeping x I (Refers x W) r) where
    module _ {S : List Frame} {o size : ℕ} where
      first_ends : {m : Mem} → Good x I (frame o size 0 ∷ S) m m → (space : ℕ) → space < 256 → Ends x I m (λ _. frame o size 0 ∷ S) (Refers x W m) (map_first x r space size o m)
      unfolding map_first
      first_ends {m} w space h =
          then₁ w (by w k) _
          (λ v m1 w1 k1 p. let w2 = good_aligned R w1 m.alignment in
          then₃ w2 (by w2 alignment_keeps) _ _ _
          (λ _ m3 w3 k3 a3. then₂ w3 (by w3 (chunks_keep space h)) _ _
          (λ _ m4 w4 k4 a4. then₁ w4 (allocate-ends (here w4) space h) _
          (λ _ m5 w5 k5 a5. gives w5 (record { reads = omega (arith, p.reads, k3.onward, k4.onward, k5.onward); narrow = p.narrow; has = R.aside m1 m5 v (a5 ∙ a4 ∙ a3) p.has })))))

      then_ends : {m : Mem} → Good x I (frame o size 0 ∷ S) m m → (space : ℕ) → space < 256 → Ends x I m (λ _. frame o size 0 ∷ S) (Refers x W m) (map_then_allocate x r space size o m)
      then_ends w space h =
          then₁ w (by w k) _
          (λ v m1 w1 k1 p. then₁ w1 (allocate-ends (here w1) space h) _
          (λ _ m2 w2 k2 a2. gives w2 (record { reads = omega (arith, p.reads, k2.onward); narrow = p.narrow; has = R.aside m1 m2 v a2 p.has })))

      pub map_ends : {m : Mem} → Good x I (frame o size 0 ∷ S) m m → (space : ℕ) → space < 256 → Ends x I m (λ _. frame o size 0 ∷ S) (Refers x W m) (read_map x r space size o m)
      map_ends w space h =
          either (is_map_first x.sheet) _ _ (λ _. first_ends w space h)
          (λ _. either (is_legacy x.sheet) _ _ (λ _. then_ends w space h) (λ _. by w k))

      pub items_end : (n done : ℕ) {m : Mem} → Good x I (frame o size done ∷ S) m m → Ends x I m (λ d. frame o size d ∷ S) (Filled size done m) (items x r o size n done m)
      unfolding items
      items_end zero done w = gives w (omega arith)
      items_end (suc n) done {m} w =
          either (leb size done) _ _ (λ _. gives w (omega arith))
          (λ e. let l : done < size = leb-false _ _ e in
          either (is_deferred x.sheet (peek x m)) _ _
          (λ d. let a : m.at < length x.payload = tag_inside x.sheet (sheet_gives g) k_deferred (omega arith) x.payload m.at d in
          then₁ w (by w byte_keeps) _
          (λ b m1 w1 k1 p. gives (record { kept = w1.kept; has = R.on_deferred S m1 o size done (peek x m) w1.has d (peek-below x.payload m.at g.bytes a) l; listed = w1.listed }) (omega arith)))
          (λ _. then₂ w (by w k) _ _
          (λ v m1 w1 k1 p. then₁ w1 (place_item-ends (here w1) v p.has p.narrow l) _
          (λ d m2 w2 k2 q. last w2 (items_end n d (here w2))
          (λ z m3 w3 k3 f. let s = w1.kept.sound.skip_low in let a = w1.kept.sound.within in let c = g.short in omega (arith, q, f))))))

    pub body-ends : {S : List Frame} {o : ℕ} {m : Mem} (words : ℕ) → Good x I (frame o (words * word x) 0 ∷ S) m m → (space tag : ℕ) → space < 256 → Ends x I m (λ _. S) (Refers x W m) (body x r space tag words o m)
    unfolding body
    body-ends words w space tag h =
        then₄ w (map_ends w space h) _ _ _ _
        (λ v m1 w1 k1 p. then₃ w1 (keep_map_ends (here w1) v p.has) _ _ _
        (λ _ m2 w2 k2 q. then₂ w2 (resolves_end _ (here w2)) _ _
        (λ _ m3 w3 k3 _. then₁ w3 (items_end _ _ (here w3)) _
        (λ d m4 w4 k4 f. last w4 (closed-ends (here w4) tag)
        (λ u m5 w5 k5 z. record { reads = omega (arith, p.reads, k2.onward, k3.onward, k4.onward, k5.onward); narrow = z.0; has = z.1 })))))

    pub object-keeping : (space tag : ℕ) → space < 256 → Keeping x I (Refers x W) (object x r space tag)
    unfolding object
    object-keeping space tag h =
        law (λ S m w. then₁ w (by w int_keeps) _
        (λ words m1 w1 k1 p. then₂ w1 (by w1 (large_keeps space)) _ _
        (λ _ m2 w2 k2 _. then₁ w2 (add_object_ends (here w2) tag words) _
        (λ o m3 w3 k3 q. last w3 (body-ends words (here w3) space tag h)
        (λ v m4 w4 k4 z. record { reads = omega (arith, p.reads, k2.onward, k3.onward, k4.onward); narrow = z.narrow; has = z.has })))))
