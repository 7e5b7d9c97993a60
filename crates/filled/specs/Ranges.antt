-- Which raw range of a slot table covers a payload byte. Assumes nothing: these are definitions.
use Rattle.std.specs.Prelude.{◌≡◌, Bool, true, false, List, ℕ, ◌<◌, ◌≤◌, Option}
use Rattle.std.specs.Option.{option_map_or, option_and_then}
use Rattle.filled.specs.RawSlots.{range_of}
use Rattle.filled.specs.Sides as Range
use Rattle.filled.specs.Nearest.{Nearest}
use Rattle.filled.specs.declared.covering.Covering.{Covering}
use Rattle.filled.specs.declared.covering.Covering.TheVariants.{Slot, Gap}

-- slot k is raw, and its range contains the byte; ends so far before it; begins so far after it
abbrev pub contains : List ℕ → ℕ → ℕ → Bool
contains slots offset k = option_map_or (λ r. Range.contains r offset) (range_of slots k) false

abbrev pub distance_before : List ℕ → ℕ → ℕ → Option ℕ
distance_before slots offset k = option_and_then (λ r. Range.distance_before r offset) (range_of slots k)

abbrev pub distance_after : List ℕ → ℕ → ℕ → Option ℕ
distance_after slots offset k = option_and_then (λ r. Range.distance_after r offset) (range_of slots k)

-- none of the slots from `start` to below `end` contains the byte
abbrev pub NoneContains : List ℕ → ℕ → ℕ → ℕ → Type 0
NoneContains slots start end offset =
    (j : ℕ) → start ≤ j → j < end → contains slots offset j ≡ false

-- k is the lowest slot of the part whose range contains the byte
pub record IsFirst (slots : List ℕ) (start end offset k : ℕ) : Type 0 where
  pub from_start : start ≤ k
  pub below_end : k < end
  pub contains_it : contains slots offset k ≡ true
  pub lower_not : NoneContains slots start k offset

-- no range of the part contains the byte; of two slots one ends nearest before it, and one begins
-- nearest after it
pub record IsGap (slots : List ℕ) (start end offset : ℕ) (low high : Option ℕ) : Type 0 where
  pub none_contains : NoneContains slots start end offset
  pub before : Nearest (distance_before slots offset) start end low
  pub after : Nearest (distance_after slots offset) start end high

-- what covers the byte, among the slots from `start` to below `end`
abbrev pub Covers : List ℕ → ℕ → ℕ → ℕ → Covering → Type 0
Covers slots start end offset (Slot k) = IsFirst slots start end offset k
Covers slots start end offset (Gap low high) = IsGap slots start end offset low high
