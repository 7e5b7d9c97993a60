-- An object's map and head in the steps that the code takes: the map's own reading and then what
-- follows it; the head and then the body. Assumes nothing.
use mathlib.Core.Path.{◌≡◌, refl}
use mathlib.Core.Bool.{Bool, true, false, ◌&&◌}
use Prim.Native.Nat.{ℕ, ◌-◌, ◌*◌}
use lib.Dec.{ltb, eqb}
use lib.ListN.{length}
use Rattle.std.specs.Prelude.{if◌then◌else◌, Option, Some, None}
use Rattle.stream.specs.declared.putint.Int.{Int}
use Rattle.stream.specs.PutInt.{int_at}
use Rattle.sheet.specs.Sheet.{is_legacy, is_six_x, is_map_first, lo_space}
use Rattle.tables.specs.declared.values.SlotValue.{SlotValue}
use Rattle.tables.specs.Records.{object_row}
use Rattle.definition.specs.Memory.{Input, Mem, Out, got, no, Reader, and_then, ◌>>=◌, ◌>>◌, give, change, aligned, refuse, cut, after_int, byte, int, has_room, added, noted, opened, with_objects, word, next_byte, appended}
use Rattle.definition.specs.Object.{large_byte, add_object, alignment_byte, chunk_changes, allocate, map_first, map_then_allocate, read_map, body, object}
use Rattle.objects.specs.Head.{recording, opening}
use Rattle.objects.specs.Map.{after_map}

-- ---- the map

-- what follows a map, by the two tests of the sheet
abbrev followed : Bool → Bool → Input → ℕ → ℕ → ℕ → ℕ → Reader (Unit {0})
followed first legacy x before space bytes o =
    if first then change (aligned before)
    >> alignment_byte x
    >> (λ m. chunk_changes x space (length x.payload - m.at) m)
    >> allocate x space bytes o
    else if legacy then allocate x space bytes o else give tt

module _ (x : Input) (r : Reader SlotValue) (space bytes o : ℕ) (m : Mem) where
  abbrev reading : Bool → Bool → Out SlotValue
  reading first legacy = (if first then map_first x r space bytes o else if legacy then map_then_allocate x r space bytes o else r) m

  refused : (first legacy : Bool) {n q : ℕ} {m' : Mem} → r m ≡ no n q m' → reading first legacy ≡ no n q m'
  unfolding map_first
  refused true legacy e = rw e
  refused false true e = rw e
  refused false false e = e

  went : (first legacy : Bool) (v : SlotValue) {m' : Mem} → r m ≡ got v m' → reading first legacy ≡ (followed first legacy x m.alignment space bytes o >> give v) m'
  unfolding map_first
  went true legacy v e = rw e
  went false true v e = rw e
  went false false v e = e

  pub map_no : {n q : ℕ} {m' : Mem} → r m ≡ no n q m' → read_map x r space bytes o m ≡ no n q m'
  map_no e = refused (is_map_first x.sheet) (is_legacy x.sheet) e

  pub map_got : (v : SlotValue) {m' : Mem} → r m ≡ got v m' → read_map x r space bytes o m ≡ (after_map x m.alignment space bytes o >> give v) m'
  map_got v e = went (is_map_first x.sheet) (is_legacy x.sheet) v e

-- ---- the head

-- the objects stay as they are
abbrev Keeps : {A : Type 0} → Mem → Out A → Type 0
Keeps m (got v m') = m'.objects ≡ m.objects
Keeps m (no n q m') = Unit {0}

int_keeps : (x : Input) (m : Mem) (i : Option Int) → Keeps m (after_int x i m)
int_keeps x m (Some i) = refl
int_keeps x m None = tt

byte_keeps : (x : Input) (m : Mem) (more : Bool) → Keeps m (and_then ((if more then next_byte x else cut x) m) (λ _. give (tt {0})))
byte_keeps x m true = refl
byte_keeps x m false = tt

large_keeps : (x : Input) (m : Mem) (large : Bool) → Keeps m ((if large then byte x >> give (tt {0}) else give (tt {0})) m)
unfolding byte
large_keeps x m true = byte_keeps x m (ltb m.at (length x.payload))
large_keeps x m false = refl

module _ (x : Input) (r : Reader SlotValue) (space tag : ℕ) where
  -- what the head's record gives is what the body goes on from
  record_no : (words : ℕ) (o : Out ℕ) {n q : ℕ} {m' : Mem} → and_then o (λ _. give words) ≡ no n q m' → and_then o (body x r space tag words) ≡ no n q m'
  record_no words (got v m) e = cc
  record_no words (no n q m) e = cc

  room_got : (more : Bool) (f : Mem → Mem) (words : ℕ) (m : Mem) {size : ℕ} {m' : Mem} → and_then ((if more then appended (λ m. m.objects) f else refuse 3) m) (λ _. give words) ≡ got size m'
      → and_then ((if more then appended (λ m. m.objects) f else refuse 3) m) (body x r space tag words) ≡ body x r space tag size m.objects.count m'
  room_got true f words m e = cc
  room_got false f words m e = cc

  record_got : (words : ℕ) (m : Mem) {size : ℕ} {m' : Mem} → recording x tag words m ≡ got size m' → and_then (add_object x tag words m) (body x r space tag words) ≡ body x r space tag size m.objects.count m'
  unfolding add_object
  record_got words m e =
      room_got (has_room 4 m.objects) (λ m. noted (opened tag words) (with_objects (added m.objects (object_row (words * word x) tag)) m)) words m e

  -- after the byte of a large object
  large_no : (words : ℕ) (o : Out (Unit {0})) {n q : ℕ} {m' : Mem} → and_then o (λ _. recording x tag words) ≡ no n q m' → and_then (and_then o (λ _. add_object x tag words)) (body x r space tag words) ≡ no n q m'
  large_no words (got v m) e = record_no words (add_object x tag words m) e
  large_no words (no n q m) e = cc

  large_got : (words : ℕ) (o : Out (Unit {0})) (m : Mem) → Keeps m o → {size : ℕ} {m' : Mem} → and_then o (λ _. recording x tag words) ≡ got size m'
      → and_then (and_then o (λ _. add_object x tag words)) (body x r space tag words) ≡ body x r space tag size m.objects.count m'
  large_got words (got v m₁) m k {size} {m'} e = rw (← k) (record_got words m₁ e)
  large_got words (no n q m₁) m k e = cc

  -- after the size
  size_no : (o : Out ℕ) {n q : ℕ} {m' : Mem} → and_then o (λ words. large_byte x space >> recording x tag words) ≡ no n q m'
      → and_then o (λ words. large_byte x space >> add_object x tag words >>= body x r space tag words) ≡ no n q m'
  size_no (got words m) e = large_no words (large_byte x space m) e
  size_no (no n q m) e = cc

  size_got : (o : Out ℕ) (m : Mem) → Keeps m o → {words : ℕ} {m' : Mem} → and_then o (λ words. large_byte x space >> recording x tag words) ≡ got words m'
      → and_then o (λ words. large_byte x space >> add_object x tag words >>= body x r space tag words) ≡ body x r space tag words m.objects.count m'
  size_got (got words m₁) m k e = rw (← k) (large_got words (large_byte x space m₁) m₁ (large_keeps x m₁ (is_six_x x.sheet && eqb space (lo_space x.sheet))) e)
  size_got (no n q m₁) m k e = cc

  pub object_no : (m : Mem) {n q : ℕ} {m' : Mem} → opening x space tag m ≡ no n q m' → object x r space tag m ≡ no n q m'
  unfolding object
  object_no m e = size_no (int x m) e

  pub object_got : (m : Mem) {words : ℕ} {m' : Mem} → opening x space tag m ≡ got words m' → object x r space tag m ≡ body x r space tag words m.objects.count m'
  unfolding object int
  object_got m e = size_got (int x m) m (int_keeps x m (int_at x.payload m.at)) e
