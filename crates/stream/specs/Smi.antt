-- Small integers in words (docs/FORMAT.md, "Small integers"). Assumes nothing: these are
-- definitions.
use Rattle.std.specs.Prelude.{if◌then◌else◌, List, ℕ, suc, ◌-◌, ◌/◌, ◌%◌, ◌^◌, ℤ, pos, negsuc, length, ltb, eqb, Option, Some, None}
use Rattle.std.specs.Int.Signed.{shr_z}
use Rattle.stream.specs.Bytes.{little_endian}

-- 32 bits as a signed number, in two's complement
unfoldable pub signed : ℕ → ℤ
signed n = if ltb n (2 ^ 31) then pos n else negsuc (2 ^ 32 - suc n)

-- a word of eight bytes: with a zero lower half, the upper half as a signed number
abbrev pub smi8 : ℕ → Option ℤ
smi8 w = if eqb (w % 2 ^ 32) 0 then Some (signed (w / 2 ^ 32)) else None

-- a word of four bytes: even, half of the signed number (`shr_z z 2` halves and rounds down)
abbrev pub smi4 : ℕ → Option ℤ
smi4 w = if eqb (w % 2) 0 then Some (shr_z (signed w) 2) else None

-- eight and four bytes; any other number of bytes is no Smi
unfoldable pub smi_of : List ℕ → Option ℤ
smi_of d =
    if eqb (length d) 8 then smi8 (little_endian d 0 8)
    else if eqb (length d) 4 then smi4 (little_endian d 0 4) else None
