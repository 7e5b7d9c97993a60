use Rattle.inspection.proofs.Laws.{Written}
use Rattle.inspection.proofs.inspect.inspect.Given as goal

abbrev pub invariant-loop-b : goal.invariant-loop-b
invariant-loop-b l = Written l.sheet l.b l.names l.shared
