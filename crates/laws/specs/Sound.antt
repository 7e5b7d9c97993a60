-- What holds of a call's input, and of what a reader has at its start and at its end. Assumes
-- nothing: these are definitions.
use Rattle.std.specs.Prelude.{◌≡◌, true, ℕ, ◌*◌, ◌^◌, ◌<◌, ◌≤◌, length, get_or}
use Rattle.sheet.specs.Sheet.{usable}
use Rattle.tables.specs.declared.values.SlotValue.{SlotValue}
use Rattle.tables.specs.Values.{width_of}
use Rattle.tables.specs.Records.{field}
use Rattle.definition.specs.Memory.{Input, word, Table, Mem, Out, got, no, Reader}

-- an input that the walk takes: a usable sheet, and a payload of bytes within the length limit
pub record Proper (x : Input) : Type 0 where
  pub sheet_usable : usable x.sheet ≡ true
  pub short : length x.payload ≤ 16777216
  pub bytes : (i : ℕ) → get_or x.payload i 0 < 256

-- a table has room for its records
abbrev pub Within : ℕ → Table → Type 0
Within fields t = t.count * fields ≤ length t.rows

-- what a reader has is in order: in numbers
pub record Sound (x : Input) (m : Mem) : Type 0 where
  pub within : m.at ≤ length x.payload
  pub objects_fit : Within 4 m.objects
  pub slots_fit : Within 6 m.slots
  pub values_fit : Within 3 m.values
  pub addresses_fit : Within 5 m.addresses
  pub ring : length m.hot.places ≡ 8
  pub chunks : length m.alloc.cur ≡ 256
  pub offsets : length m.alloc.used ≡ 256
  pub skip_low : m.skip ≤ m.at * 2 ^ 30
  pub pending_low : m.pending ≤ m.at
  pub waiting_low : m.waiting ≤ m.slots.count
  pub long_low : m.long_integers ≤ m.at

-- and at every index: chunk numbers are no higher than the cursor, and slot counts than the number
-- of slots
pub record Counted (m : Mem) : Type 0 where
  pub chunk_low : (s : ℕ) → get_or m.alloc.cur s 0 ≤ m.at
  pub count_low : (o : ℕ) → field 4 m.objects.rows o 3 ≤ m.slots.count

-- from m a reader came to m': the cursor has not fallen, no count has fallen, and no table has
-- changed its length
pub record Onward (m m' : Mem) : Type 0 where
  pub at_up : m.at ≤ m'.at
  pub objects_up : m.objects.count ≤ m'.objects.count
  pub slots_up : m.slots.count ≤ m'.slots.count
  pub values_up : m.values.count ≤ m'.values.count
  pub addresses_up : m.addresses.count ≤ m'.addresses.count
  pub objects_size : length m'.objects.rows ≡ length m.objects.rows
  pub slots_size : length m'.slots.rows ≡ length m.slots.rows
  pub values_size : length m'.values.rows ≡ length m.values.rows
  pub addresses_size : length m'.addresses.rows ≡ length m.addresses.rows

pub record Kept (x : Input) (m m' : Mem) : Type 0 where
  pub sound : Sound x m'
  pub counted : Counted m'
  pub onward : Onward m m'

-- a reader that starts in order ends in order, refusals included; P says more of what it gives
abbrev pub Holds : {A : Type 0} → Input → Mem → (A → Mem → Type 0) → Out A → Type 0
Holds x m P (got a m') = Kept x m m' × P a m'
Holds x m P (no n q m') = Kept x m m'

abbrev pub Keeps : {A : Type 0} → Input → (Mem → A → Mem → Type 0) → Reader A → Type 0
Keeps x P r = (m : Mem) → Sound x m → Counted m → Holds x m (P m) (r m)

-- of a reference: it reads a byte, and no item is wider than this
pub record Referred (x : Input) (m : Mem) (v : SlotValue) (m' : Mem) : Type 0 where
  pub reads : m.at < m'.at
  pub narrow : width_of (word x) v ≤ 2 ^ 34
