-- Signed numbers and Smi words at each way out. Assumes nothing.
use mathlib.Core.Path.{◌≡◌, refl, ap, subst, ◌∙◌}
use mathlib.Core.Bool.{Bool, true, false}
use mathlib.Core.List.{List}
use Prim.Native.Nat.{ℕ, ◌-◌, ◌/◌, ◌%◌, ◌^◌, ◌<◌, ◌≤◌, suc}
use native.Mathlib.Omega.{arith}
use native.Mathlib.Nat.{lt_of_le_of_lt}
use borrow.Author.Tests.{ltb-true, ltb-false, eq-eqb, ne_eqb}
use mir.Syntax.{w32, w64}
use mir.Val.{SFits, to_z, of_z}
use mir.Facts.{to_z-of_z, to_z_pos, to_z-neg}
use lib.IntN.{ℤ, pos, negsuc}
use lib.Signed.{shr_z, mag, mag_shr}
use lib.ListN.{length}
use lib.Dec.{ltb}
use Rattle.std.specs.Prelude.{if◌then◌else◌, Some, None}
use Rattle.stream.specs.Bytes.{little_endian}
use Rattle.stream.specs.Smi.{signed, smi_of}
use Rattle.stream.proofs.ByteLaws.{Bytes, le_below}

pick_mag : (t : Bool) (a b : ℤ) → mag a < 2 ^ 63 → mag b < 2 ^ 63 → mag (if t then a else b) < 2 ^ 63
pick_mag true a b h l = h
pick_mag false a b h l = l

module _ (n : ℕ) where
  signed_by : n < 2 ^ 32 → (t : Bool) → ltb n (2 ^ 31) ≡ t → to_z w32 n ≡ (if t then pos n else negsuc (2 ^ 32 - suc n))
  signed_by l true e = to_z_pos w32 {n = n} (ltb-true n (2 ^ 31) e)
  signed_by l false e =
      let high : 2 ^ 31 ≤ n = ltb-false n (2 ^ 31) e in
      subst (λ m. to_z w32 m ≡ negsuc (2 ^ 32 - suc n)) (omega arith) (to_z-neg w32 (2 ^ 32 - suc n) (omega arith))

  -- what 32 bits are as a signed number
  pub signed_is : n < 2 ^ 32 → to_z w32 n ≡ signed n
  unfolding signed
  signed_is l = signed_by l (ltb n (2 ^ 31)) refl

  -- 32 bits fit a word of 64
  signed_fits : n < 2 ^ 32 → SFits w64 (signed n)
  unfolding signed
  signed_fits h = record { sfits = pick_mag (ltb n (2 ^ 31)) (pos n) (negsuc (2 ^ 32 - suc n)) (omega arith) (omega arith) }

-- a signed number that fits is read back from its bits
read_back : {z w : ℤ} → z ≡ w → SFits w64 w → to_z w64 (of_z w64 z) ≡ w
read_back e f = ap (λ x. to_z w64 (of_z w64 x)) e ∙ to_z-of_z f

half_fits : {z : ℤ} → SFits w64 z → SFits w64 (shr_z z 2)
half_fits {z} f = record { sfits = lt_of_le_of_lt (mag_shr z 2) f.sfits }

module _ (d : List ℕ) where
  -- a word of four bytes has 32 bits
  pub word_below : {raw : ℕ} → Bytes d → raw ≡ little_endian d 0 4 → raw < 2 ^ 32
  word_below bs e = rw e (le_below d 0 4 bs)

  module _ (l : length d ≡ 8) {raw : ℕ} (e : raw ≡ little_endian d 0 8) where
    pub smi8_is : {z : ℤ} → raw % 4294967296 ≡ 0 → raw / 4294967296 < 2 ^ 32 → z ≡ signed (raw / 4294967296) → Some (to_z w64 (of_z w64 z)) ≡ smi_of d
    unfolding smi_of
    smi8_is h f r =
        rw (eq-eqb (length d) 8 l, ← e, eq-eqb (raw % 4294967296) 0 h, read_back r (signed_fits (raw / 4294967296) f))

    pub smi8_no : (raw % 4294967296 ≡ 0 → ⊥) → None ≡ smi_of d
    unfolding smi_of
    smi8_no h = rw (eq-eqb (length d) 8 l, ← e, ne_eqb (raw % 4294967296) 0 h)

  module _ (l : length d ≡ 4) {raw : ℕ} (e : raw ≡ little_endian d 0 4) where
    pub smi4_is : {z : ℤ} → raw % 2 ≡ 0 → raw < 2 ^ 32 → z ≡ signed raw → Some (to_z w64 (of_z w64 (shr_z (to_z w64 (of_z w64 z)) 2))) ≡ smi_of d
    unfolding smi_of
    smi4_is h f r =
        rw (l, ← e, eq-eqb (raw % 2) 0 h, read_back r (signed_fits raw f), to_z-of_z (half_fits (signed_fits raw f)))

    pub smi4_no : (raw % 2 ≡ 0 → ⊥) → None ≡ smi_of d
    unfolding smi_of
    smi4_no h = rw (l, ← e, ne_eqb (raw % 2) 0 h)

  pub smi_no : (length d ≡ 8 → ⊥) → (length d ≡ 4 → ⊥) → None ≡ smi_of d
  unfolding smi_of
  smi_no h l = rw (ne_eqb (length d) 8 h, ne_eqb (length d) 4 l)
