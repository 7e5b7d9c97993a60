-- Ways to prove that a reader keeps what it has in order: laws of the combinators, and of each
-- change of what a reader has. Assumes nothing.
use Rattle.std.specs.Prelude.{if◌then◌else◌, ◌≡◌, refl, Bool, true, false, List, [], ◌∷◌, ℕ, ◌+◌, ◌*◌, ◌^◌, ◌<◌, ◌≤◌, ltb, eqb, length, get_or, set}
use Rattle.std.proofs.Common.{ap, le_trans, arith, ltb-true, eqb-true, length-set}
use Rattle.std.proofs.lemmas.Bool.{eqb-false}
use Rattle.tables.specs.declared.values.Ref.{Ref}
use Rattle.tables.specs.declared.values.SlotValue.{SlotValue}
use Rattle.tables.specs.declared.values.SlotValue.TheVariants.{Ref as IsRef}
use Rattle.tables.specs.declared.values.Fields.{Fields}
use Rattle.tables.specs.Records.{room, field, object_row, slot_row, value_row, written}
use Rattle.tables.proofs.RecordLaws.{record_end, written_length, written_same, written_else, set_else}
use Rattle.alloc.specs.declared.legacy_alloc.LegacyAlloc.{LegacyAlloc}
use Rattle.alloc.specs.Allocation.{Outcome}
use Rattle.backref.specs.declared.hot_ring.HotRing.{HotRing}
use Rattle.backref.specs.HotRing.{entered}
use Rattle.definition.specs.Memory.{Input, Event, Table, table, Mem, Out, got, no, Reader, and_then, moved, with_objects, with_slots, with_values, with_hot, with_pending, with_skip, with_alloc, aligned, noted, added, append, with_long}
use Rattle.definition.specs.Slots.{counted}
use Rattle.definition.specs.Object.{flagged}
use Rattle.laws.specs.Sound.{Onward, Kept}
use Rattle.laws.specs.Leaves.{set_at_most, Counters, Allocates, entered_length}
use Rattle.laws.specs.Rules.{Frame, frame, Listed, Rules}

-- ---- combinators

pub onward_trans : {m₀ m m' : Mem} → Onward m₀ m → Onward m m' → Onward m₀ m'
onward_trans a b = omega (arith, a, b)

pub kept_trans : {x : Input} {m₀ m m' : Mem} → Kept x m₀ m → Kept x m m' → Kept x m₀ m'
kept_trans w k = record { sound = k.sound; counted = k.counted; onward = onward_trans w.onward k.onward }

-- objects that have records keep them
pub listed_up : (S : List Frame) {n n' : ℕ} → n ≤ n' → Listed S n → Listed S n'
listed_up [] h l = tt
listed_up (frame o size done ∷ S) h l = (omega (arith, l.0), listed_up S h l.1)

-- a reading began with m₀ and has m, with an invariant
pub record Good (x : Input) (I : List Frame → Mem → Type 0) (S : List Frame) (m₀ m : Mem) : Type 0 where
  pub kept : Kept x m₀ m
  pub has : I S m
  pub listed : Listed S m.objects.count

-- what holds of what a reader gives, refusals included; T says which objects are then being read
abbrev pub Result : {A : Type 0} → Input → (List Frame → Mem → Type 0) → Mem → (A → List Frame) → (A → Mem → Type 0) → Out A → Type 0
Result x I m₀ T Q (got a m) = (Good x I (T a) m₀ m) × (Q a m)
Result x I m₀ T Q (no n q m) = (S : List Frame) × (Good x I S m₀ m)

-- records, so that antt reads their arguments off a goal
pub record Ends {A : Type 0} (x : Input) (I : List Frame → Mem → Type 0) (m₀ : Mem) (T : A → List Frame) (Q : A → Mem → Type 0) (o : Out A) : Type 0 where
  pub result : Result x I m₀ T Q o

-- a reader's law: it reads no object only in part
pub record Keeping {A : Type 0} (x : Input) (I : List Frame → Mem → Type 0) (P : Mem → A → Mem → Type 0) (r : Reader A) : Type 0 where
  pub ends : (S : List Frame) (m : Mem) → Good x I S m m → Ends x I m (λ _. S) (P m) (r m)

module _ {x : Input} {I : List Frame → Mem → Type 0} {m₀ m : Mem} {A : Type 0} {T : A → List Frame} {Q : A → Mem → Type 0} where
  pub gives : {a : A} → Good x I (T a) m₀ m → Q a m → Ends x I m₀ T Q (got a m)
  gives w q = record { result = (w, q) }

  pub refuses : {S : List Frame} {n q : ℕ} → Good x I S m₀ m → Ends x I m₀ T Q (no n q m)
  refuses {S} w = record { result = (S, w) }

  -- a test
  pub either : (t : Bool) (f g : Reader A) → (t ≡ true → Ends x I m₀ T Q (f m)) → (t ≡ false → Ends x I m₀ T Q (g m)) → Ends x I m₀ T Q ((if t then f else g) m)
  either true f g y n = y refl
  either false f g y n = n refl

module _ {x : Input} {I : List Frame → Mem → Type 0} {m₀ m : Mem} {S : List Frame} (w : Good x I S m₀ m) where
  -- begun anew
  pub here : Good x I S m m
  here = record { kept = record { sound = w.kept.sound; counted = w.kept.counted; onward = omega arith }; has = w.has; listed = w.listed }

  good_trans : {U : List Frame} {m' : Mem} → Good x I U m m' → Good x I U m₀ m'
  good_trans g = record { kept = kept_trans w.kept g.kept; has = g.has; listed = g.listed }

  -- a reader, by its law
  pub by : {A : Type 0} {P : Mem → A → Mem → Type 0} {r : Reader A} → Keeping x I P r → Ends x I m (λ _. S) (P m) (r m)
  by k = k.ends S m here

  module _ {A : Type 0} {T : A → List Frame} {P : A → Mem → Type 0} where
    last_by : {Q : A → Mem → Type 0} (o : Out A) → Result x I m T P o → ((a : A) (m' : Mem) → Good x I (T a) m₀ m' → Kept x m m' → P a m' → Q a m') → Ends x I m₀ T Q o
    last_by (got a m') h f = let w' = good_trans h.0 in record { result = (w', f a m' w' h.0.kept h.1) }
    last_by (no n q m') h f = record { result = (h.0, good_trans h.1) }

    -- what K makes of what a reader gives, where K passes refusals on
    then_by : {B : Type 0} {U : B → List Frame} {Q : B → Mem → Type 0} (K : Out A → Out B) → ((n q : ℕ) (m' : Mem) → K (no n q m') ≡ no n q m') → (o : Out A) → Result x I m T P o → ((a : A) (m' : Mem) → Good x I (T a) m₀ m' → Kept x m m' → P a m' → Ends x I m₀ U Q (K (got a m'))) → Ends x I m₀ U Q (K o)
    then_by K p (got a m') h f = f a m' (good_trans h.0) h.0.kept h.1
    then_by {B} {U} {Q} K p (no n q m') h f = rw (p n q m') (record { result = (h.0, good_trans h.1) })

    module _ {o : Out A} (e : Ends x I m T P o) where
      -- a reader comes last
      pub last : {Q : A → Mem → Type 0} → ((a : A) (m' : Mem) → Good x I (T a) m₀ m' → Kept x m m' → P a m' → Q a m') → Ends x I m₀ T Q o
      last f = last_by o e.result f

      -- one, two, .. readers come after it
      pub then₁ : {B : Type 0} {U : B → List Frame} {Q : B → Mem → Type 0} (f : A → Reader B)
          → ((a : A) (m' : Mem) → Good x I (T a) m₀ m' → Kept x m m' → P a m' → Ends x I m₀ U Q (f a m')) → Ends x I m₀ U Q (and_then o f)
      then₁ f h = then_by (λ o. and_then o f) (λ n q m'. refl) o e.result h

      pub then₂ : {B C : Type 0} {U : C → List Frame} {Q : C → Mem → Type 0} (f : A → Reader B) (g : B → Reader C)
          → ((a : A) (m' : Mem) → Good x I (T a) m₀ m' → Kept x m m' → P a m' → Ends x I m₀ U Q (and_then (f a m') g)) → Ends x I m₀ U Q (and_then (and_then o f) g)
      then₂ f g h = then_by (λ o. and_then (and_then o f) g) (λ n q m'. refl) o e.result h

      pub then₃ : {B C D : Type 0} {U : D → List Frame} {Q : D → Mem → Type 0} (f : A → Reader B) (g : B → Reader C) (h : C → Reader D)
          → ((a : A) (m' : Mem) → Good x I (T a) m₀ m' → Kept x m m' → P a m' → Ends x I m₀ U Q (and_then (and_then (f a m') g) h)) → Ends x I m₀ U Q (and_then (and_then (and_then o f) g) h)
      then₃ f g h l = then_by (λ o. and_then (and_then (and_then o f) g) h) (λ n q m'. refl) o e.result l

      pub then₄ : {B C D E : Type 0} {U : E → List Frame} {Q : E → Mem → Type 0} (f : A → Reader B) (g : B → Reader C) (h : C → Reader D) (i : D → Reader E)
          → ((a : A) (m' : Mem) → Good x I (T a) m₀ m' → Kept x m m' → P a m' → Ends x I m₀ U Q (and_then (and_then (and_then (f a m') g) h) i)) → Ends x I m₀ U Q (and_then (and_then (and_then (and_then o f) g) h) i)
      then₄ f g h i l = then_by (λ o. and_then (and_then (and_then (and_then o f) g) h) i) (λ n q m'. refl) o e.result l

pub law : {A : Type 0} {x : Input} {I : List Frame → Mem → Type 0} {P : Mem → A → Mem → Type 0} {r : Reader A} → ((S : List Frame) (m : Mem) → Good x I S m m → Ends x I m (λ _. S) (P m) (r m)) → Keeping x I P r
law h = record { ends = h }

pub weaken : {A : Type 0} {x : Input} {I : List Frame → Mem → Type 0} {P Q : Mem → A → Mem → Type 0} {r : Reader A} → Keeping x I P r → ((m : Mem) (a : A) (m' : Mem) → P m a m' → Q m a m') → Keeping x I Q r
weaken k h = law (λ S m w. last w (by w k) (λ a m' w' _ p. h m a m' p))

-- a record is appended where there is room
pub append-ends : {x : Input} {I : List Frame → Mem → Type 0} {S : List Frame} {m : Mem} {T : ℕ → List Frame} {P : ℕ → Mem → Type 0} (w : Good x I S m m) (fields : ℕ) (t : Mem → Table) (f : Mem → Mem) → ((t m).count < room fields (t m).rows → (Good x I (T (t m).count) m (f m)) × (P (t m).count (f m))) → Ends x I m T P (append fields t f m)
append-ends {m} w fields t f h =
    either (ltb (t m).count (room fields (t m).rows)) _ _ (λ e. let z = h (ltb-true _ _ e) in gives z.0 z.1) (λ _. refuses w)

-- ---- changes of what a reader has

module _ {x : Input} {m₀ m : Mem} (w : Kept x m₀ m) where
  chunks_on : (at : ℕ) → m.at ≤ at → (s : ℕ) → get_or m.alloc.cur s 0 ≤ at
  chunks_on at h s = le_trans (w.counted.chunk_low s) h

  pub kept_moved : (at : ℕ) → m.at ≤ at → at ≤ length x.payload → Kept x m₀ (moved at m)
  kept_moved at h l =
      record {
        sound = omega (arith, w.sound);
        counted = record { chunk_low = chunks_on at h; count_low = w.counted.count_low };
        onward = omega (arith, w.onward);
      }

  -- what neither the cursor nor a table nor the counters tell
  pub kept_noted : (e : Event) → Kept x m₀ (noted e m)
  kept_noted e =
      record {
        sound = omega (arith, w.sound);
        counted = record { chunk_low = w.counted.chunk_low; count_low = w.counted.count_low };
        onward = omega (arith, w.onward);
      }

  pub kept_hot : (h : HotRing) → length h.places ≡ length m.hot.places → Kept x m₀ (with_hot h m)
  kept_hot h e =
      record {
        sound = omega (arith, w.sound);
        counted = record { chunk_low = w.counted.chunk_low; count_low = w.counted.count_low };
        onward = omega (arith, w.onward);
      }

  pub kept_pending : (n k : ℕ) → n ≤ m.at → k ≤ m.slots.count → Kept x m₀ (with_pending n k m)
  kept_pending n k h l =
      record {
        sound = omega (arith, w.sound);
        counted = record { chunk_low = w.counted.chunk_low; count_low = w.counted.count_low };
        onward = omega (arith, w.onward);
      }

  pub kept_skip : (n : ℕ) → n ≤ m.at * 2 ^ 30 → Kept x m₀ (with_skip n m)
  kept_skip n h =
      record {
        sound = omega (arith, w.sound);
        counted = record { chunk_low = w.counted.chunk_low; count_low = w.counted.count_low };
        onward = omega (arith, w.onward);
      }

  pub kept_long : (n : ℕ) → n ≤ m.at → Kept x m₀ (with_long n m)
  kept_long n h =
      record {
        sound = omega (arith, w.sound);
        counted = record { chunk_low = w.counted.chunk_low; count_low = w.counted.count_low };
        onward = omega (arith, w.onward);
      }

  -- chunk counters
  pub kept_counters : (a : ℕ) (c : LegacyAlloc) → Counters m.at c → Kept x m₀ (with_alloc m.addresses a c m)
  kept_counters a c h =
      record {
        sound = omega (arith, w.sound, h.cur_length, h.used_length);
        counted = record { chunk_low = h.low; count_low = w.counted.count_low };
        onward = omega (arith, w.onward);
      }

  pub counters_now : Counters m.at m.alloc
  counters_now = record { cur_length = w.sound.chunks; used_length = w.sound.offsets; low = w.counted.chunk_low }

  pub kept_aligned : (a : ℕ) → Kept x m₀ (aligned a m)
  kept_aligned a = kept_counters a m.alloc counters_now

  -- an address record
  pub kept_allocated : (a : ℕ) (r : Outcome) → Allocates m.addresses.rows m.addresses.count m.alloc r → Kept x m₀ (with_alloc (table r.table (m.addresses.count + 1)) a r.alloc m)
  kept_allocated a r h =
      let fits : m.addresses.count * 5 + 5 ≤ length m.addresses.rows = record_end 5 m.addresses.count m.addresses.rows (omega arith) h.roomy in
      let same : length r.alloc.cur ≡ length m.alloc.cur = ap length h.cur_same in
      record {
        sound = omega (arith, w.sound, h.size, h.used_length);
        counted = record { chunk_low = rw h.cur_same w.counted.chunk_low; count_low = w.counted.count_low };
        onward = omega (arith, w.onward, h.size);
      }

  -- a value record
  pub kept_value : (v : Fields) → m.values.count < room 3 m.values.rows → Kept x m₀ (with_values (added m.values (value_row v)) m)
  kept_value v h =
      let size : length (written m.values.rows m.values.count (value_row v)) ≡ length m.values.rows = written_length m.values.rows (value_row v) m.values.count in
      record {
        sound = omega (arith, w.sound);
        counted = record { chunk_low = w.counted.chunk_low; count_low = w.counted.count_low };
        onward = omega (arith, w.onward);
      }

  -- a slot record, which the object's slot count counts, and the count of those that wait
  pub kept_slot : (o index : ℕ) (v : Fields) (waits : ℕ) → waits ≤ 1 → m.slots.count < room 6 m.slots.rows → Kept x m₀ (with_pending m.pending (m.waiting + waits) (with_slots (added m.slots (slot_row o index v waits)) (with_objects (counted o m.objects) m)))
  kept_slot o index v waits b h =
      let size : length (written m.slots.rows m.slots.count (slot_row o index v waits)) ≡ length m.slots.rows = written_length m.slots.rows (slot_row o index v waits) m.slots.count in
      let objects : length (set m.objects.rows (o * 4 + 3) (field 4 m.objects.rows o 3 + 1)) ≡ length m.objects.rows = length-set m.objects.rows (o * 4 + 3) (field 4 m.objects.rows o 3 + 1) in
      record {
        sound = omega (arith, w.sound);
        counted = record {
          chunk_low = w.counted.chunk_low;
          count_low = λ p. set_at_most m.objects.rows (o * 4 + 3) (p * 4 + 3) (field 4 m.objects.rows o 3 + 1) (m.slots.count + 1) (omega (arith, w.counted.count_low o)) (omega (arith, w.counted.count_low p));
        };
        onward = omega (arith, w.onward);
      }

  -- slots that waited are filled: records change, and their number stays
  pub kept_filled : (t : List ℕ) → length t ≡ length m.slots.rows → Kept x m₀ (with_slots (table t m.slots.count) m)
  kept_filled t e =
      record {
        sound = omega (arith, w.sound);
        counted = record { chunk_low = w.counted.chunk_low; count_low = w.counted.count_low };
        onward = omega (arith, w.onward);
      }

  -- an object record
  pub kept_object : (bytes tag : ℕ) → m.objects.count < room 4 m.objects.rows → Kept x m₀ (with_objects (added m.objects (object_row bytes tag)) m)
  kept_object bytes tag h =
      let size : length (written m.objects.rows m.objects.count (object_row bytes tag)) ≡ length m.objects.rows = written_length m.objects.rows (object_row bytes tag) m.objects.count in
      record {
        sound = omega (arith, w.sound);
        counted = record { chunk_low = w.counted.chunk_low; count_low = λ o. low o (eqb o m.objects.count) refl };
        onward = omega (arith, w.onward);
      }
    where
      low : (o : ℕ) (t : Bool) → eqb o m.objects.count ≡ t → field 4 (written m.objects.rows m.objects.count (object_row bytes tag)) o 3 ≤ m.slots.count
      low o true e = rw (eqb-true o m.objects.count e, written_same m.objects.rows (object_row bytes tag) m.objects.count 3 (omega arith) h) (omega arith)
      low o false e = rw (written_else m.objects.rows (object_row bytes tag) m.objects.count o 3 (omega arith) (eqb-false _ _ e)) (w.counted.count_low o)

  -- an object is flagged
  pub kept_flagged : (o : ℕ) → Kept x m₀ (with_objects (flagged o m.objects) m)
  kept_flagged o =
      let size : length (set m.objects.rows (o * 4 + 2) 1) ≡ length m.objects.rows = length-set m.objects.rows (o * 4 + 2) 1 in
      record {
        sound = omega (arith, w.sound);
        counted = record { chunk_low = w.counted.chunk_low; count_low = λ p. rw (set_else 4 o 2 m.objects.rows 1 (omega arith) p 3 (omega arith) (λ e z. omega arith)) (w.counted.count_low p) };
        onward = omega (arith, w.onward);
      }

-- ---- the same with an invariant

module _ {x : Input} {I : List Frame → Mem → Type 0} {W : Mem → SlotValue → Type 0} (R : Rules x I W) {S : List Frame} {m₀ m : Mem} (w : Good x I S m₀ m) where
  pub good_moved : (at : ℕ) → m.at ≤ at → at ≤ length x.payload → Good x I S m₀ (moved at m)
  good_moved at h l = record { kept = kept_moved w.kept at h l; has = R.on_move S m at w.kept.sound w.has h l; listed = w.listed }

  pub good_long : (n : ℕ) → n ≤ m.at → Good x I S m₀ (with_long n m)
  good_long n h = record { kept = kept_long w.kept n h; has = R.on_long S m n w.has; listed = w.listed }

  pub good_entered : (r : Ref) → W m (IsRef r) → Good x I S m₀ (with_hot (entered m.hot r) m)
  good_entered r v = record { kept = kept_hot w.kept _ (entered_length m.hot r); has = R.on_enter S m r w.kept.sound w.has v; listed = w.listed }

  pub good_aligned : (a : ℕ) → Good x I S m₀ (aligned a m)
  good_aligned a = record { kept = kept_aligned w.kept a; has = R.on_aligned S m a w.has; listed = w.listed }
