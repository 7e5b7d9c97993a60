use native.Mathlib.Omega.{arith}
use Rattle.stream.proofs.ByteLaws.{raw_past, raw_to}
use Rattle.stream.proofs.bytes.raw.Goals as goal
use Rattle.stream.proofs.bytes.raw.Goals.{then-p-at-via-then-p-at, then-p-at-via-else-p-at+then-p-at-2}

pub returns-then-p-at : goal.returns-then-p-at
returns-then-p-at c =
    elim c.then-p-at.branch [
      | then-p-at-via-then-p-at w ↦ raw_past _ _ _ (let h = w.if-p-at.true in omega arith)
      | then-p-at-via-else-p-at+then-p-at-2 w ↦ raw_past _ _ _ (let h = w.if-p-at.false in let k = w.if-p-at-2.true in omega arith)
    ]

pub returns : goal.returns
returns c = let h = c.if-p-at.false in let k = c.if-p-at-2.false in raw_to _ _ _ (omega arith)
