-- The closing section, the padding and the whole walk keep what they have in order (Sound.antt) and
-- an invariant with its rules (Rules.antt); a call starts in order. Assumes nothing.
use Rattle.std.specs.Prelude.{if◌then◌else◌, ◌≡◌, refl, Bool, true, false, leb, eqb, length, get_or, replicate}
use mathlib.Core.List.{List, []}
use Prim.Native.Nat.{ℕ, zero, suc, ◌+◌, ◌-◌, ◌*◌, ◌<◌, max}
use Rattle.std.proofs.Common.{arith, leb-false}
use Rattle.sheet.specs.Names.{k_new_object}
use Rattle.sheet.specs.Sheet.{is_legacy, number}
use Rattle.std.proofs.lemmas.Bool.{and_parts}
use Rattle.sheet.specs.declared.tests.Closing.{Closing}
use Rattle.sheet.specs.declared.tests.Closing.TheVariants.{Synchronize, Alignment, Deferred, Reference}
use Rattle.sheet.specs.Tests.{closing_of, is_nop, opens}
use Rattle.tables.specs.declared.values.SlotValue.{SlotValue}
use Rattle.tables.specs.declared.values.Fields.{Fields}
use Rattle.tables.specs.Values.{fields_of}
use Rattle.tables.specs.Records.{field}
use Rattle.alloc.specs.Allocation.{zero_counters}
use Rattle.definition.specs.Memory.{Input, Log, in_slot, begins, synchronize, table, Mem, Out, got, no, Reader, and_then, ◌>>=◌, refuse_at, with_slots, with_alloc, noted, byte}
use Rattle.definition.specs.Object.{peek, object}
use Rattle.definition.specs.Reference.{ref_at}
use Rattle.definition.specs.Closing.{add_slots, entry_fields, entry_slots, entry_count, entry_item, entry_items, entry_of, entry, drop_reference, ends_legacy, after_entry, by_entry, entries, padding, closing}
use Rattle.definition.specs.Call.{Rooms, start, top_space, walk}
use Rattle.laws.specs.Sound.{Proper, Sound, Counted}
use Rattle.laws.specs.Leaves.{deferred_legacy}
use Rattle.laws.specs.Rules.{Frame, Rules, with_slot}
use Rattle.laws.specs.Steps.{Good, Ends, Result, Keeping, gives, refuses, either, here, by, last, then₁, then₂, law, kept_noted, kept_slot, good_aligned}
use Rattle.laws.specs.Keeps.{Any, Reads, byte_keeps, int_keeps, slot_then, object-keeping}
use Rattle.laws.specs.References.{legacy_reference_keeps, ref_keeping}

-- so many slots were added
pub record Slots (n : ℕ) (m m' : Mem) : Type 0 where
  pub more : m'.slots.count ≡ m.slots.count + n
  pub at_same : m'.at ≡ m.at

top_space_lem : (x : Input) (b : ℕ) → b < 256 → top_space x b < 256
top_space_lem x b h = picked (is_legacy x.sheet)
  where
    picked : (t : Bool) → (if t then b - number x.sheet k_new_object else 0) < 256
    picked true = omega arith
    picked false = omega arith

module _ {x : Input} {I : List Frame → Mem → Type 0} {W : Mem → SlotValue → Type 0} (g : Proper x) (R : Rules x I W) where
  -- ---- legacy deferred entries

  module _ (legacy : is_legacy x.sheet ≡ true) where
    pub add_slots_end : (o : ℕ) (v : Fields) (index n : ℕ) {m : Mem} → Good x I [] m m → Ends x I m (λ _. []) (λ _ m'. Slots n m m') (add_slots o v index n m)
    unfolding add_slots
    add_slots_end o v index zero w = gives w (omega arith)
    add_slots_end o v index (suc n) {m} w =
        slot_then g R w o index v 0 in_slot (λ (z : Out ℕ). and_then z (λ _. add_slots o v (index + 1) n)) (λ n q m'. refl)
        (λ r. let w1 : Good x I [] m (with_slot o index v 0 in_slot m) = record { kept = kept_noted (kept_slot w.kept o index v 0 (omega arith) r) _; has = R.on_entry m o index v w.kept.sound legacy w.has r; listed = tt } in
        last w1 (add_slots_end o v (index + 1) n (here w1)) (λ _ m2 w2 k2 q. omega (arith, q)))

    pub entry_item-ends : (o index : ℕ) (v : SlotValue) {m : Mem} → Good x I [] m m → Ends x I m (λ _. []) (λ _ m'. Slots (entry_slots x v) m m') (entry_item x o index v m)
    entry_item-ends o index v {m} w = add_slots_end o (entry_fields m.values v) index (entry_slots x v) w

    pub entry_items_end : (o size n index done : ℕ) {m : Mem} → Good x I [] m m → Ends x I m (λ _. []) (Any m) (entry_items x o size n index done m)
    unfolding entry_items
    entry_items_end o size zero index done w = gives w tt
    entry_items_end o size (suc n) index done w =
        either (leb size done) _ _ (λ _. gives w tt)
        (λ _. then₁ w (by w (ref_keeping g R 64)) _
        (λ v m1 w1 k1 p. then₁ w1 (entry_item-ends o index v (here w1)) _
        (λ _ m2 w2 k2 q. last w2 (entry_items_end o size n (index + entry_slots x v) (done + entry_count x v) (here w2)) (λ _ m3 w3 k3 _. tt))))

    pub entry_of_ends : (f : Fields) {m : Mem} → Good x I [] m m → Ends x I m (λ _. []) (Any m) (entry_of x f m)
    entry_of_ends f w =
        either (eqb f.kind 1) _ _
        (λ _. then₁ w (by w (int_keeps g R)) _
        (λ size m1 w1 k1 p. last w1 (entry_items_end f.a size _ (max (field 4 m1.objects.rows f.a 3) 1) 1 (here w1)) (λ _ m2 w2 k2 _. tt)))
        (λ _. refuses w)

    pub entry-ends : (space : ℕ) {m : Mem} → Good x I [] m m → Ends x I m (λ _. []) (Reads m) (entry x space m)
    unfolding entry
    entry-ends space w =
        then₂ w (by w (byte_keeps g R)) _ _
        (λ _ m1 w1 k1 p. then₁ w1 (by w1 (legacy_reference_keeps g R space)) _
        (λ v m2 w2 k2 q. last w2 (entry_of_ends (fields_of v) (here w2)) (λ _ m3 w3 k3 _. omega (arith, p.reads, k2.onward, k3.onward))))

  -- ---- the section

  pub drop_reference_ends : {m : Mem} → Good x I [] m m → Ends x I m (λ _. []) (Reads m) (drop_reference x m)
  drop_reference_ends w =
      then₁ w (by w (ref_keeping g R 65)) _
      (λ v m1 w1 k1 p. gives (record { kept = kept_noted w1.kept _; has = R.on_drop m1 v w1.has p.has; listed = tt }) p.reads)

  -- after a refusal that only ends the section, all is in order too
  module _ {k : Reader (Unit {0})} (h : (m : Mem) → Good x I [] m m → Ends x I m (λ _. []) (Any m) (k m)) where
    after_ends : {m : Mem} (P : Unit {0} → Mem → Type 0) (o : Out (Unit {0})) → Result x I m (λ _. []) P o → Ends x I m (λ _. []) (Any m) (after_entry x k o)
    after_ends P (got v m1) w = last w.0 (h m1 (here w.0)) (λ _ m2 w2 k2 _. tt)
    after_ends P (no n q m1) w =
        either (ends_legacy x n) _ _
        (λ e. gives (record { kept = w.1.kept; has = R.on_fault w.0 m1 (and_parts (is_legacy x.sheet) _ e).0 w.1.has; listed = tt }) tt)
        (λ _. refuses w.1)

    by_entry_ends : {m : Mem} → Good x I [] m m → m.at < length x.payload → (c : Closing) → closing_of x.sheet (peek x m) ≡ c → Ends x I m (λ _. []) (Any m) (by_entry x k c m)
    by_entry_ends {m} w l Synchronize e =
        let w1 : Good x I [] m (noted (synchronize m.at) m) = record { kept = kept_noted w.kept _; has = R.on_synchronize m w.has l e; listed = tt } in
        then₁ w1 (by w1 (byte_keeps g R)) _ (λ _ m2 w2 k2 _. gives w2 tt)
    by_entry_ends w l (Alignment a) e =
        then₂ w (by w (byte_keeps g R)) _ _ (λ _ m1 w1 k1 _. let w2 = good_aligned R w1 a in last w2 (h _ (here w2)) (λ _ m2 w2 k2 _. tt))
    by_entry_ends {m} w l (Deferred space) e = after_ends (Reads m) (entry x space m) (entry-ends (deferred_legacy x.sheet (peek x m) space e) space w).result
    by_entry_ends {m} w l Reference e = after_ends (Reads m) (drop_reference x m) (drop_reference_ends w).result

  pub entries_end : (n : ℕ) {m : Mem} → Good x I [] m m → Ends x I m (λ _. []) (Any m) (entries x n m)
  unfolding entries
  entries_end zero w = gives w tt
  entries_end (suc n) {m} w =
      either (leb (length x.payload) m.at) _ _
      (λ _. either (is_legacy x.sheet) _ _ (λ _. gives w tt) (λ _. refuses w))
      (λ e. let w1 : Good x I [] m (noted (begins m.at) m) = record { kept = kept_noted w.kept _; has = R.on_begins m w.has; listed = tt } in
      last w1 (by_entry_ends (λ m w. entries_end n w) (here w1) (leb-false _ _ e) (closing_of x.sheet (peek x m)) refl) (λ _ m2 w2 k2 _. tt))

  pub padding_keeps : (n : ℕ) → Keeping x I Any (padding x n)
  unfolding padding
  padding_keeps zero = law (λ S m w. gives w tt)
  padding_keeps (suc n) =
      law (λ S m w. either (leb (length x.payload) m.at) _ _ (λ _. gives w tt)
      (λ _. either (is_nop x.sheet (peek x m)) _ _ (λ _. then₁ w (by w (byte_keeps g R)) _ (λ _ m1 w1 k1 _. last w1 (by w1 (padding_keeps n)) (λ _ m2 w2 k2 _. tt)))
      (λ _. either (is_legacy x.sheet) _ _ (λ _. gives w tt) (λ _. refuses w))))

  pub closing_ends : {m : Mem} → Good x I [] m m → Ends x I m (λ _. []) (Any m) (closing x m)
  unfolding closing
  closing_ends w = then₁ w (entries_end _ w) _ (λ _ m1 w1 k1 _. last w1 (by w1 (padding_keeps _)) (λ _ m2 w2 k2 _. tt))

  -- ---- the walk

  top_keeps : Keeping x I Reads (byte x >>= (λ b. if opens x.sheet b then object x (ref_at x 64) (top_space x b) 0 else refuse_at 5 0))
  top_keeps =
      law (λ S m w. then₁ w (by w (byte_keeps g R)) _
      (λ b m1 w1 k1 p. either (opens x.sheet b) _ _
      (λ _. last w1 (by w1 (object-keeping g R (ref_keeping g R 64) (top_space x b) 0 (top_space_lem x b p.small))) (λ v m2 w2 k2 q. omega (arith, p.reads, q.reads)))
      (λ _. refuses w1)))

  pub walk_ends : {m : Mem} → Good x I [] m m → Ends x I m (λ _. []) (Reads m) (walk x m)
  unfolding walk
  walk_ends w = then₁ w (by w top_keeps) _ (λ _ m1 w1 k1 p. last w1 (closing_ends (here w1)) (λ _ m2 w2 k2 _. omega (arith, p, k2.onward)))

-- ---- a call starts in order, whatever its slots and addresses hold

-- its start with these in place of zeros
abbrev pub begun : Rooms → List ℕ → List ℕ → Log → Mem
begun rooms st dt log = with_alloc (table dt 0) 0 zero_counters (with_slots (table st 0) (start rooms log))

pub zero_at : (n i : ℕ) → ◌≡◌ {A = ℕ} (get_or (replicate n 0) i 0) 0
zero_at zero i = refl
zero_at (suc n) zero = refl
zero_at (suc n) (suc i) = zero_at n i

pub start_sound : (x : Input) (rooms : Rooms) (st dt : List ℕ) (log : Log) → Sound x (begun rooms st dt log)
start_sound x rooms st dt log = omega arith

pub start-counted : (rooms : Rooms) (st dt : List ℕ) (log : Log) → Counted (begun rooms st dt log)
start-counted rooms st dt log =
    record { chunk_low = λ s. rw (zero_at 256 s) (omega arith); count_low = λ o. rw (zero_at rooms.objects (o * 4 + 3)) (omega arith) }
