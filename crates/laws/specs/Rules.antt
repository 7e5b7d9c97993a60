-- The elementary steps of a reading, as rules for an invariant: what holds at the start and is kept
-- by each step holds of every reading. The invariant I speaks of the objects that are being read,
-- the innermost first, and of what a reader has, also where it refuses; W speaks of a value that
-- was read, until it is kept or dropped. Assumes nothing: these are definitions.
use Rattle.std.specs.Prelude.{◌≡◌, Bool, true, false, List, [], ◌∷◌, ℕ, ◌+◌, ◌*◌, ◌/◌, ◌^◌, ◌<◌, ◌≤◌, length, Some}
use Rattle.sheet.specs.Sheet.{is_legacy}
use Rattle.sheet.specs.declared.tests.Closing.TheVariants.{Synchronize}
use Rattle.sheet.specs.Tests.{is_deferred, closing_of}
use Rattle.heads.specs.declared.kinds.Kind.{Kind}
use Rattle.heads.specs.declared.kinds.Kind.TheVariants.{LegacyBackrefWithSkip, HotWithSkip, RootConstantWithSkip, Internal, Deoptimizer, StreamBytes, EmbedderFields, OffHeapTarget, Api, Skip, RepeatPrevious, VariableRepeatPrevious}
use Rattle.heads.specs.Heads.{head_of}
use Rattle.tables.specs.declared.values.Ref.{Ref}
use Rattle.tables.specs.declared.values.Ref.TheVariants.{Object}
use Rattle.tables.specs.declared.values.SlotValue.{SlotValue}
use Rattle.tables.specs.declared.values.SlotValue.TheVariants.{Ref as IsRef, Repeat, RepeatPrev, Skip, StreamBytes, Raw as IsRaw, ClearedWeak, WeakRef, PendingRef}
use Rattle.tables.specs.declared.values.Fields.{Fields}
use Rattle.tables.specs.Values.{fields_of, width_of}
use Rattle.tables.specs.Records.{room, object_row, slot_row, value_row}
use Rattle.alloc.specs.Allocation.{Outcome, allocate_of}
use Rattle.backref.specs.HotRing.{entered, hot_at}
use Rattle.alloc.specs.declared.resolve.Place.{Place as Position}
use Rattle.backref.specs.Legacy.{placed, single}
use Rattle.definition.specs.Memory.{Input, word, Kept as Place, in_map, in_slot, in_value, dropped, opened, passed, item, value, begins, synchronize, Table, table, Mem, moved, with_objects, with_slots, with_values, with_hot, with_pending, with_skip, with_long, with_alloc, aligned, noted, added}
use Rattle.definition.specs.Slots.{counted, resolved, waits_of, previous}
use Rattle.definition.specs.Object.{peek, change_chunk, flags, flagged}
use Rattle.laws.specs.Sound.{Sound}

-- an object that is being read: its number, its size in bytes, and how many bytes of it were read
pub data Frame : Type 0 where
  frame : ℕ → ℕ → ℕ → Frame

-- each of them has a record
abbrev pub Listed : List Frame → ℕ → Type 0
Listed [] n = Unit {0}
Listed (frame o size done ∷ S) n = (o < n) × (Listed S n)

-- ---- where a value comes from

-- a byte has such a kind as a head
abbrev pub HeadOf : Input → (Kind → Bool) → Type 0
HeadOf x test = (b : ℕ) × (b < 256) × (test (head_of x.sheet b).kind ≡ true)

-- kinds of heads with a with-skip amount, and those that give a skip, stream bytes or a repeat of
-- the previous slot
abbrev pub with_amount : Kind → Bool
with_amount LegacyBackrefWithSkip = true
with_amount HotWithSkip = true
with_amount RootConstantWithSkip = true
with_amount Api = true
with_amount OffHeapTarget = true
with_amount kind = false

abbrev pub gives_skip : Kind → Bool
gives_skip Internal = true
gives_skip Deoptimizer = true
gives_skip Skip = true
gives_skip kind = false

abbrev pub gives_bytes : Kind → Bool
gives_bytes StreamBytes = true
gives_bytes EmbedderFields = true
gives_bytes kind = false

abbrev pub gives_previous : Kind → Bool
gives_previous RepeatPrevious = true
gives_previous VariableRepeatPrevious = true
gives_previous kind = false

abbrev pub GivenRef : Ref → Type 0
GivenRef (Object o) = ⊥
GivenRef r = Unit {0}

-- a value that a head gives by itself
abbrev pub Given : Input → SlotValue → Type 0
Given x (IsRef r) = GivenRef r
Given x ClearedWeak = Unit {0}
Given x (Skip n) = HeadOf x gives_skip
Given x (StreamBytes n) = HeadOf x gives_bytes
Given x (RepeatPrev n) = HeadOf x gives_previous
Given x v = ⊥

-- a value that becomes a slot as it is
abbrev pub Slotted : SlotValue → Type 0
Slotted (Skip n) = ⊥
Slotted (StreamBytes n) = ⊥
Slotted (RepeatPrev n) = ⊥
Slotted v = Unit {0}

-- what values speak of: the number of objects, the slots, the values, and the pending numbers
pub record Sides : Type 0 where
  pub objects : ℕ
  pub slots : Table
  pub values : Table
  pub pending : ℕ
  pub waiting : ℕ

abbrev pub sides : Mem → Sides
sides m = record { objects = m.objects.count; slots = m.slots; values = m.values; pending = m.pending; waiting = m.waiting }

-- a step that leaves it as it was
abbrev pub Aside : Mem → Mem → Type 0
Aside m m' = sides m' ≡ sides m

-- ---- what a reader has after a record is appended

abbrev pub with_value : Fields → Mem → Mem
with_value f m = noted (value f (in_value m.values.count)) (with_values (added m.values (value_row f)) m)

abbrev pub with_slot : ℕ → ℕ → Fields → ℕ → (ℕ → Place) → Mem → Mem
with_slot o index f waits k m =
    noted (value f (k m.slots.count))
    (with_pending m.pending (m.waiting + waits)
    (with_slots (added m.slots (slot_row o index f waits)) (with_objects (counted o m.objects) m)))

abbrev pub with_object : Input → ℕ → ℕ → Mem → Mem
with_object x tag words m = noted (opened tag words) (with_objects (added m.objects (object_row (words * word x) tag)) m)

abbrev pub with_raw : ℕ → Mem → Mem
with_raw n m = noted (passed m.at n) (moved (m.at + n) m)

-- an item of object o that becomes a slot, after `done` bytes
abbrev pub with_item : Input → ℕ → ℕ → SlotValue → Mem → Mem
with_item x o done v m =
    with_skip 0
    (noted (item o (done + m.skip) (width_of (word x) v) m.slots.count)
    (with_slot o ((done + m.skip) / word x) (fields_of v) (waits_of v) in_slot m))

abbrev pub with_map : Input → ℕ → SlotValue → Mem → Mem
with_map x o v m = noted (item o 0 (word x) m.slots.count) (with_slot o 0 (fields_of v) 0 in_map m)

-- ---- the rules

pub record Rules (x : Input) (I : List Frame → Mem → Type 0) (W : Mem → SlotValue → Type 0) : Type 0 where
  -- the cursor moves on
  pub on_move : (S : List Frame) (m : Mem) (at : ℕ) → Sound x m → I S m → m.at ≤ at → at ≤ length x.payload → I S (moved at m)
  -- integers that are longer than their values need are counted
  pub on_long : (S : List Frame) (m : Mem) (n : ℕ) → I S m → I S (with_long n m)
  -- a with-skip amount is read
  pub on_amount : (S : List Frame) (m : Mem) (n : ℕ) → Sound x m → I S m → HeadOf x with_amount → n < 2 ^ 30 → I S (with_skip (m.skip + n) m)
  -- a reference enters the ring
  pub on_enter : (S : List Frame) (m : Mem) (r : Ref) → Sound x m → I S m → W m (IsRef r) → I S (with_hot (entered m.hot r) m)
  -- values
  pub aside : (m m' : Mem) (v : SlotValue) → Aside m m' → W m v → W m' v
  pub on_given : (S : List Frame) (m : Mem) (v : SlotValue) → I S m → Given x v → W m v
  pub on_backref : (S : List Frame) (m : Mem) (o : ℕ) → I S m → o < m.objects.count → W m (IsRef (Object o))
  pub on_hot : (S : List Frame) (m : Mem) (i : ℕ) (r : Ref) → Sound x m → I S m → hot_at m.hot i ≡ Some r → W m (IsRef r)
  pub on_single : (S : List Frame) (m : Mem) (space value : ℕ) (r : Ref) → Sound x m → I S m
      → single x.sheet m.addresses.rows m.addresses.count m.alignment space value ≡ Some r → W m (IsRef r)
  pub on_place : (S : List Frame) (m : Mem) (space : ℕ) (place : Position) → Sound x m → I S m
      → W m (IsRef (placed x.sheet m.addresses.rows m.addresses.count m.alignment space place))
  pub on_raw : (S : List Frame) (m : Mem) (n : ℕ) (advances : Bool) → Sound x m → I S m → m.at + n ≤ length x.payload → (I S (with_raw n m)) × (W (with_raw n m) (IsRaw (record { off = m.at; len = n; advances = advances })))
  pub on_pending : (S : List Frame) (m : Mem) → Sound x m → I S m → m.pending < m.at → (I S (with_pending (m.pending + 1) m.waiting m)) × (W (with_pending (m.pending + 1) m.waiting m) (PendingRef m.pending))
  -- a value record, for a weak or for repeats; in 6.x of the previous slot's value
  pub on_value : (S : List Frame) (m : Mem) (v : SlotValue) → Sound x m → I S m → W m v → m.values.count < room 3 m.values.rows → (I S (with_value (fields_of v) m)) × (W (with_value (fields_of v) m) (WeakRef m.values.count)) × ((n : ℕ) → W (with_value (fields_of v) m) (Repeat n m.values.count))
  pub on_previous : (S : List Frame) (m : Mem) (n : ℕ) → Sound x m → I S m → W m (RepeatPrev n) → m.values.count < room 3 m.values.rows → (I S (with_value (previous m.slots) m)) × (W (with_value (previous m.slots) m) (Repeat n m.values.count))
  -- an object
  pub on_object : (S : List Frame) (m : Mem) (tag words : ℕ) → Sound x m → I S m → m.objects.count < room 4 m.objects.rows → I (frame m.objects.count (words * word x) 0 ∷ S) (with_object x tag words m)
  pub on_flag : (S : List Frame) (m : Mem) (o size done : ℕ) (v : SlotValue) → Sound x m → I (frame o size done ∷ S) m → W m v → flags x v ≡ true → I (frame o size done ∷ S) (with_objects (flagged o m.objects) m)
  pub on_map : (S : List Frame) (m : Mem) (o size : ℕ) (v : SlotValue) → Sound x m → I (frame o size 0 ∷ S) m → W m v → o < m.objects.count → m.slots.count < room 6 m.slots.rows → I (frame o size (word x) ∷ S) (with_map x o v m)
  pub on_resolve : (S : List Frame) (m : Mem) (o size done number : ℕ) → Sound x m → I (frame o size done ∷ S) m → o < m.objects.count → I (frame o size done ∷ S) (resolved number o m)
  pub on_item : (S : List Frame) (m : Mem) (o size done : ℕ) (v : SlotValue) → Sound x m → I (frame o size done ∷ S) m → W m v → Slotted v → o < m.objects.count → done < size → m.slots.count < room 6 m.slots.rows → I (frame o size (done + m.skip + width_of (word x) v) ∷ S) (with_item x o done v m)
  pub on_skip : (S : List Frame) (m : Mem) (o size done n : ℕ) → I (frame o size done ∷ S) m → W m (Skip n) → I (frame o size (done + n) ∷ S) (with_skip 0 m)
  pub on_bytes : (S : List Frame) (m : Mem) (o size done n : ℕ) → I (frame o size done ∷ S) m → W m (StreamBytes n) → I (frame o size done ∷ S) (with_skip 0 m)
  pub on_deferred : (S : List Frame) (m : Mem) (o size done b : ℕ) → I (frame o size done ∷ S) m → is_deferred x.sheet b ≡ true → b < 256 → done < size → I (frame o size size ∷ S) m
  pub on_close : (S : List Frame) (m : Mem) (o size : ℕ) → I (frame o size size ∷ S) m → o < m.objects.count → (I S m) × (W m (IsRef (Object o)))
  -- legacy allocation
  pub on_aligned : (S : List Frame) (m : Mem) (a : ℕ) → I S m → I S (aligned a m)
  pub on_chunk : (S : List Frame) (m : Mem) (space : ℕ) → I S m → I S (change_chunk x space m)
  pub on_allocate : (S : List Frame) (m : Mem) (o size done space : ℕ) → Sound x m → I (frame o size done ∷ S) m → o < m.objects.count → space < 256 →
      (r : Outcome) → r ≡ allocate_of m.addresses.rows m.addresses.count x.spaces (record { space = space; size = size; object = o; alignment = m.alignment; word = word x }) m.alloc → r.number ≡ 0 →
      I (frame o size done ∷ S) (with_alloc (table r.table (m.addresses.count + 1)) r.alignment r.alloc m)
  -- the closing section; a fault may end it in legacy, with objects left open
  pub on_drop : (m : Mem) (v : SlotValue) → I [] m → W m v → I [] (noted (value (fields_of v) dropped) m)
  pub on_begins : (m : Mem) → I [] m → I [] (noted (begins m.at) m)
  pub on_synchronize : (m : Mem) → I [] m → m.at < length x.payload → closing_of x.sheet (peek x m) ≡ Synchronize → I [] (noted (synchronize m.at) m)
  pub on_entry : (m : Mem) (o index : ℕ) (f : Fields) → Sound x m → is_legacy x.sheet ≡ true → I [] m → m.slots.count < room 6 m.slots.rows → I [] (with_slot o index f 0 in_slot m)
  pub on_fault : (S : List Frame) (m : Mem) → is_legacy x.sheet ≡ true → I S m → I [] m

-- the invariant that says nothing
abbrev pub Nothing : List Frame → Mem → Type 0
Nothing S m = Unit {0}

abbrev pub NoValue : Mem → SlotValue → Type 0
NoValue m v = Unit {0}
