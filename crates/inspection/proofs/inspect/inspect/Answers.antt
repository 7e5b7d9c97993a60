use Rattle.std.proofs.Common.{arith}
use Rattle.inspection.proofs.Laws.{written_found}
use Rattle.inspection.proofs.inspect.inspect.Goals as goal

pub loop-b-preserved : goal.loop-b-preserved
loop-b-preserved c =
    written_found _ _ _ _ _ _ _ _ (omega arith) c.loop-b.invariant c.find-found.ensures c.unwrap_or.ensures c.from.ensures
