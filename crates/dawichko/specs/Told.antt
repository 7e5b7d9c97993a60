-- What the other exported functions answer. Assumes nothing: these are definitions.
use Rattle.std.specs.Prelude.{◌≡◌, ◌≢◌, ◌⊎◌, ◌^◌, ◌<◌, ◌≤◌, ◌↔◌, List, [], ◌∷◌, ℕ, ℤ, length, get_or, if◌then◌else◌, ◌==◌, Option, Some, None, Result, Ok, Err, replicate}
use Rattle.std.specs.Int.{w64, cast_unsigned}
use Rattle.refusals.specs.Numbers.{number_of}
use Rattle.filled.specs.declared.filled.Filled.{Filled}
use Rattle.filled.specs.declared.range.Range.{Range}
use Rattle.filled.specs.declared.refused.Refused.{Refused}
use Rattle.filled.specs.declared.number.Wish.{Wish}
use Rattle.filled.specs.declared.number.Wish.TheVariants.{Smi as AsSmi, Double as AsDouble}
use Rattle.filled.specs.declared.number.Number.{Number}
use Rattle.filled.specs.declared.number.Number.TheVariants.{Smi, Double, Empty}
use Rattle.filled.specs.Numbers.{number_at}
use Rattle.filled.specs.View.{view_of}
use Rattle.kept.specs.declared.keep.Kept.{Kept}
use Rattle.kept.specs.Kept.{IsKept}
use Rattle.kept.specs.Bytes.{all_bytes}
use Rattle.dawichko.specs.Part.{Asked, IsPart}

-- ---- a number

-- 0 asks for a double, any other number for a Smi in a word of so many bytes
abbrev pub wish_of : ℕ → Wish
wish_of n = if n == 0 then AsDouble else AsSmi n

-- kind and bits: 0 no number; 1 a small integer, its bits sign-extended to 64; 2 a double
abbrev pub number_bits : Number → List ℕ
number_bits Empty = 0 ∷ 0 ∷ []
number_bits (Smi value) = 1 ∷ cast_unsigned w64 value ∷ []
number_bits (Double double) = 2 ∷ double.bits ∷ []

-- the number that is returned, and the answer, which is zero where that is not 0
abbrev pub TellsNumber : Result Number Refused → ℕ → List ℕ → Type 0
TellsNumber (Ok number) returned answer = (returned ≡ 0) × (answer ≡ number_bits number)
TellsNumber (Err refused) returned answer =
    (returned ≡ number_of refused.refusal) × (answer ≡ replicate 2 0)

pub record IsNumber (asked : Asked) (payload : List ℕ) (slot at wish returned : ℕ) (answer : List ℕ)
    : Type 0 where
  pub part : Filled
  pub is_part : IsPart asked part
  pub tells : TellsNumber (number_at part payload slot at (wish_of wish)) returned answer

-- the bits of a small integer, sign-extended to 64, in an array of one; zero where there is none
abbrev pub smi_bits : Option ℤ → List ℕ
smi_bits (Some value) = cast_unsigned w64 value ∷ []
smi_bits None = 0 ∷ []

-- 1 where there is one, else 0
abbrev pub smi_number : Option ℤ → ℕ
smi_number (Some value) = 1
smi_number None = 0

-- ---- a view

abbrev pub TellsView : Result Range Refused → ℕ → List ℕ → Type 0
TellsView (Ok r) returned range = (returned ≡ 0) × (range ≡ r.begin ∷ r.len ∷ [])
TellsView (Err refused) returned range =
    (returned ≡ number_of refused.refusal) × (range ≡ replicate 2 0)

pub record IsView (asked : Asked) (bytes slot returned : ℕ) (range : List ℕ) : Type 0 where
  pub part : Filled
  pub is_part : IsPart asked part
  pub tells : TellsView (view_of bytes part slot) returned range

-- ---- what the top object keeps

-- the sums: through any reference; through references under no weak value
abbrev pub kept_of : List ℕ → Kept
kept_of sums = record { bytes = get_or sums 0 0; strong_bytes = get_or sums 1 0 }

-- 19, and nothing is written but the sums, which are zero; or marks and sums
pub record IsKeeping (asked : Asked) (before marks sums : List ℕ) (returned : ℕ) : Type 0 where
  pub part : Filled
  pub is_part : IsPart asked part
  pub refused : returned ≡ 19
      ↔ ((length before < part.counts.objects) ⊎ (2 ^ 64 ≤ all_bytes part))
  pub kept : returned ≢ 19 → (returned ≡ 0) × IsKept part marks (kept_of sums)
