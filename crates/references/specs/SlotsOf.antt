-- The slots of each object, as lists in scratch. Assumes nothing: these are definitions.
use Rattle.std.specs.Prelude.{◌≡◌, ◌≢◌, List, ℕ, ◌+◌, ◌-◌, ◌<◌, ◌≤◌, slice_index}
use Rattle.tables.specs.Records.{slot_of}
use Rattle.filled.specs.declared.filled.Filled.{Filled}

-- the object that slot s belongs to
abbrev pub owner_of : Filled → ℕ → ℕ
owner_of part s = (slot_of part.tables.slots.now s).object

-- v is the first slot of object o from `from` on, or the slot count, which stands for none
pub record IsFirstFrom (part : Filled) (from o v : ℕ) : Type 0 where
  pub from_on : from ≤ v
  pub to_end : v ≤ part.counts.slots
  pub none_before : (s : ℕ) → from ≤ s → s < v → owner_of part s ≢ o
  pub of_object : v < part.counts.slots → owner_of part v ≡ o

-- each object's first slot from slot n on, and for each slot from n on the next one of its object
pub record HasLists (part : Filled) (n : ℕ) (first next : List ℕ) : Type 0 where
  pub first_of : (o : ℕ)
      → part.starts.objects ≤ o
      → o < part.counts.objects
      → IsFirstFrom part n o (slice_index first (o - part.starts.objects))
  pub next_of : (s : ℕ)
      → n ≤ s
      → s < part.counts.slots
      → part.starts.objects ≤ owner_of part s
      → owner_of part s < part.counts.objects
      → IsFirstFrom part (s + 1) (owner_of part s) (slice_index next (s - part.starts.slots))
