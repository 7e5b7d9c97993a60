-- Numbers in raw data. Assumes nothing: these are definitions.
use Rattle.std.specs.Prelude.{if◌then◌else◌, List, ℕ, ◌+◌, length, take, drop, nat_le, Option, Some, None, Result, Ok, Err}
use Rattle.std.specs.Option.{option_map_or}
use Rattle.stream.specs.Bytes.{little_endian}
use Rattle.stream.specs.Smi.{smi_of}
use Rattle.filled.specs.declared.filled.Filled.{Filled}
use Rattle.filled.specs.declared.range.Range.{Range}
use Rattle.filled.specs.declared.refused.Refused.{Refused}
use Rattle.filled.specs.View.{view_of, viewed}
use Rattle.filled.specs.declared.number.Wish.{Wish}
use Rattle.filled.specs.declared.number.Wish.TheVariants.{Smi as AsSmi, Double as AsDouble}
use Rattle.filled.specs.declared.number.Number.{Number}
use Rattle.filled.specs.declared.number.Number.TheVariants.{Smi, Double, Empty}

-- the n bytes from a place on, if so many are left there
abbrev pub part_of : List ℕ → ℕ → ℕ → Option (List ℕ)
part_of bytes at n = if nat_le (at + n) (length bytes) then Some (take n (drop at bytes)) else None

-- a word as a small integer, eight bytes as a double
abbrev pub smi_number : List ℕ → Number
smi_number word = option_map_or Smi (smi_of word) Empty

abbrev pub double_number : List ℕ → Number
double_number bytes = Double (record { bits = little_endian bytes 0 8 })

-- the number at a place in some bytes
abbrev pub number_in : List ℕ → ℕ → Wish → Number
number_in bytes at AsDouble = option_map_or double_number (part_of bytes at 8) Empty
number_in bytes at (AsSmi size) = option_map_or smi_number (part_of bytes at size) Empty

-- the number at a place in the range of raw slot k
abbrev pub number_of : List ℕ → ℕ → Wish → Result Range Refused → Result Number Refused
number_of payload at wish (Ok range) = Ok (number_in (viewed payload (Ok range)) at wish)
number_of payload at wish (Err refused) = Err refused

abbrev pub number_at : Filled → List ℕ → ℕ → ℕ → Wish → Result Number Refused
number_at filled payload k at wish = number_of payload at wish (view_of (length payload) filled k)
