-- The raw slots of filled tables. Assumes nothing: these are definitions.
use Rattle.std.specs.Prelude.{Bool, ◌==◌, ◌||◌, if◌then◌else◌, List, ℕ, nat_lt, Option, Some, None}
use Rattle.tables.specs.Records.{field}
use Rattle.filled.specs.declared.filled.Filled.{Filled}
use Rattle.filled.specs.declared.range.Range.{Range}

-- a slot is raw: kind 5 or 6
abbrev pub is_raw : List ℕ → ℕ → Bool
is_raw slots k = field 6 slots k 2 == 5 || field 6 slots k 2 == 6

-- the range of slot k, if the slot is raw
abbrev pub range_of : List ℕ → ℕ → Option Range
range_of slots k =
    if is_raw slots k then Some (record { begin = field 6 slots k 3; len = field 6 slots k 4 }) else None

-- the same, if the slot is listed
abbrev pub raw_slot : Filled → ℕ → Option Range
raw_slot filled k =
    if nat_lt k filled.counts.slots then range_of filled.tables.slots.now k else None
