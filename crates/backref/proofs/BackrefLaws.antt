-- The bounds that the code of legacy back-references needs. Assumes nothing.
use mathlib.Core.Path.{◌≡◌, refl}
use mathlib.Core.Bool.{Bool, true, false}
use mathlib.Core.List.{List}
use mathlib.Core.Logic.{⊎_elim}
use Prim.Native.Nat.{ℕ, ◌-◌, ◌*◌, ◌%◌, ◌^◌, ◌<◌, ◌≤◌}
use native.Mathlib.Nat.{mod-lt, lt_of_lt_of_le, mul-le-mul_left}
use native.Mathlib.Omega.{arith}
use lib.Dec.{eqb}
use lib.Pow.{pow_pos, pow_mono}
use Rattle.std.specs.Prelude.{if◌then◌else◌}
use Rattle.sheet.specs.Sheet.{space_tag_size, page_size_bits, word_bytes, usable}
use Rattle.sheet.proofs.UsableSheet.{usable_gives}
use Rattle.backref.specs.Legacy.{offset_bits, index_of}

-- ---- what a usable sheet bounds

two_or_three : (b : Bool) → 2 ≤ (if b then 2 else 3)
two_or_three true = omega arith
two_or_three false = omega arith

module _ (v : List ℕ) (u : usable v ≡ true) where
  pub word_small : {word : ℕ} → word ≡ word_bytes v → word ≤ 8
  word_small w = ⊎_elim (λ e. omega arith) (λ e. omega arith) (usable_gives v u).word

  pub tag_small : space_tag_size v ≤ 16
  tag_small = omega (arith, (usable_gives v u).tag_size_high)

  pub page_low : 3 ≤ page_size_bits v
  page_low = omega (arith, (usable_gives v u).page_bits_low)

  pub page_high : page_size_bits v ≤ 28
  page_high = omega (arith, (usable_gives v u).page_bits_high)

  -- an offset in a page is below 2 ^ 29
  pub offset_small : (index : ℕ) → index % 2 ^ offset_bits v * word_bytes v < 2 ^ 29
  offset_small index =
      let bits : offset_bits v ≤ 26 = omega (arith, page_high, two_or_three (eqb (word_bytes v) 4)) in
      let below : index % 2 ^ offset_bits v < 2 ^ 26 = lt_of_lt_of_le (mod-lt index (pow_pos (offset_bits v))) (pow_mono {j = 26} bits) in
      omega (arith, mul-le-mul_left (index % 2 ^ offset_bits v) (word_small refl))

pub index_small : (v : List ℕ) (value : ℕ) → index_of v value < 2 ^ 32
index_small v value = lt_of_lt_of_le (mod-lt value (pow_pos (32 - space_tag_size v))) (pow_mono {j = 32} (omega arith))
