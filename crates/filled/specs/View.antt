-- The view of a raw slot. Assumes nothing: these are definitions.
use Rattle.std.specs.Prelude.{if◌then◌else◌, List, [], ℕ, take, drop, nat_le, Option, Some, None, Result, Ok, Err}
use Rattle.refusals.specs.declared.refusal.Refusal.TheVariants.{NoView}
use Rattle.filled.specs.declared.filled.Filled.{Filled}
use Rattle.filled.specs.declared.range.Range.{Range}
use Rattle.filled.specs.declared.refused.Refused.{Refused}
use Rattle.filled.specs.Refused.{refused}
use Rattle.filled.specs.Sides.{end_of}
use Rattle.filled.specs.RawSlots.{raw_slot}

-- a range, if there is one and it lies in a payload of so many bytes
abbrev pub in_payload : ℕ → Option Range → Result Range Refused
in_payload bytes (Some r) = if nat_le (end_of r) bytes then Ok r else Err (refused NoView)
in_payload bytes None = Err (refused NoView)

-- where the bytes of slot k lie in a payload of so many bytes
abbrev pub view_of : ℕ → Filled → ℕ → Result Range Refused
view_of bytes filled k = in_payload bytes (raw_slot filled k)

-- the view: that part of the payload itself; where it is refused, empty
abbrev pub viewed : List ℕ → Result Range Refused → List ℕ
viewed payload (Ok r) = take r.len (drop r.begin payload)
viewed payload (Err e) = []
