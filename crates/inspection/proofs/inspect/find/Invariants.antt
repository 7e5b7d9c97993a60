use Rattle.inspection.proofs.Laws.{Left}
use Rattle.inspection.proofs.inspect.find.Given as goal

abbrev pub invariant-loop-c : goal.invariant-loop-c
invariant-loop-c l = Left l.sheet l.b l.c-iterator.iter.rest.now l.found.name l.found.shared
