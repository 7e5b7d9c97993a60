-- What the exported search answers. Assumes nothing: these are definitions.
use Rattle.std.specs.Prelude.{◌≡◌, List, [], ◌∷◌, ℕ, Option}
use Rattle.std.specs.Option.{unwrap_or}
use Rattle.filled.specs.declared.covering.Covering.{Covering}
use Rattle.filled.specs.declared.covering.Covering.TheVariants.{Slot, Gap}
use Rattle.filled.specs.Ranges.{Covers}
use Rattle.dawichko.specs.Part.{Asked, counts_of}

-- stands for no slot: 2^64 - 1, which no listed slot has as its number
abbrev pub no_slot : ℕ
no_slot = 18446744073709551615

-- the covering slot; the one that ends nearest before; the one that begins nearest after
abbrev pub covering_numbers : Covering → List ℕ
covering_numbers (Slot k) = k ∷ no_slot ∷ no_slot ∷ []
covering_numbers (Gap low high) = no_slot ∷ unwrap_or low no_slot ∷ unwrap_or high no_slot ∷ []

-- these numbers are those of what covers the byte, in the part's slots
pub record IsCovering (asked : Asked) (offset : ℕ) (numbers : List ℕ) : Type 0 where
  pub covering : Covering
  pub covers : Covers asked.slots (counts_of asked.starts).slots (counts_of asked.counts).slots
      offset covering
  pub numbers_are : numbers ≡ covering_numbers covering
