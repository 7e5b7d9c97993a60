use native.Mathlib.Omega.{arith}
use Rattle.stream.proofs.ByteLaws.{le_zero, le_next}
use Rattle.stream.proofs.bytes.little_endian.Goals as goal

pub loop-i-init : goal.loop-i-init
loop-i-init c = le_zero _ _

pub loop-i-preserved : goal.loop-i-preserved
loop-i-preserved c = le_next _ _ _ _ (λ i. omega (arith, c.type_inv.p i)) (omega arith) c.loop-i.invariant c.byte.ensures.0
