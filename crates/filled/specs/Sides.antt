-- A range of a payload, seen from a byte. Assumes nothing: these are definitions.
use Rattle.std.specs.Prelude.{Bool, ◌&&◌, if◌then◌else◌, ℕ, ◌+◌, ◌-◌, nat_lt, nat_le, Option, Some, None}
use Rattle.filled.specs.declared.range.Range.{Range}

abbrev pub end_of : Range → ℕ
end_of r = r.begin + r.len

-- the byte lies in the range
abbrev pub contains : Range → ℕ → Bool
contains r offset = nat_le r.begin offset && nat_lt offset (end_of r)

-- how far before the byte the range ends, if it ends at the byte or before it
abbrev pub distance_before : Range → ℕ → Option ℕ
distance_before r offset = if nat_le (end_of r) offset then Some (offset - end_of r) else None

-- how far after the byte the range begins, if it begins after it
abbrev pub distance_after : Range → ℕ → Option ℕ
distance_after r offset = if nat_lt offset r.begin then Some (r.begin - offset) else None
