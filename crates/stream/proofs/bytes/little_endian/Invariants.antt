use mathlib.Core.Path.{◌≡◌}
use Rattle.stream.specs.Bytes.{little_endian}
use Rattle.stream.proofs.bytes.little_endian.Given as goal

abbrev pub invariant-loop-i : goal.invariant-loop-i
invariant-loop-i l = l.raw ≡ little_endian l.p l.at l.i
