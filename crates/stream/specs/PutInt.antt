-- The integer of one to four bytes (V8's PutUint30, in older versions PutInt; docs/FORMAT.md,
-- "Integers"). Assumes nothing: these are definitions.
use Rattle.std.specs.Prelude.{if◌then◌else◌, Bool, List, ℕ, ◌+◌, ◌-◌, ◌/◌, ◌%◌, ◌^◌, ◌<◌, length, get_or, ltb, leb, Option, Some, None}
use Rattle.stream.specs.declared.putint.Int.{Int}
use Rattle.stream.specs.Bytes.{little_endian}

-- the low two bits of the first byte plus 1 say how many bytes an integer has
unfoldable pub int_length : List ℕ → ℕ → ℕ
int_length p at = get_or p at 0 % 4 + 1

-- an integer: that many bytes, little-endian, shifted right by 2; a payload that ends before it
-- does has none (refusal 4)
unfoldable pub int_at : List ℕ → ℕ → Option Int
int_at p at =
    if leb (length p) at then None
    else if ltb (length p - at) (int_length p at) then None
    else Some (record { value = little_endian p at (int_length p at) / 4; count = int_length p at })

-- the fewest bytes that a value needs: the first byte has six bits of it, each other one eight
unfoldable pub shortest : ℕ → ℕ
shortest value =
    if ltb value (2 ^ 6) then 1 else if ltb value (2 ^ 14) then 2 else if ltb value (2 ^ 22) then 3 else 4

-- an integer has more bytes than its value needs: a shorter one has the same value
unfoldable pub is_long : Int → Bool
is_long i = ltb (shortest i.value) i.count

-- an integer's value has 30 bits, since a payload's bytes are below 256
abbrev pub Small : Option Int → Type 0
Small (Some i) = i.value < 2 ^ 30
Small None = Unit {0}
