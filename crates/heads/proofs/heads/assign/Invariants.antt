use Rattle.std.proofs.Common.{◌-◌}
use Rattle.heads.specs.Assigning.{Assigned}
use Rattle.heads.proofs.heads.assign.Given as goal

abbrev pub invariant-loop-b : goal.invariant-loop-b
invariant-loop-b l = Assigned l.initial.heads l.first (l.b - l.first) l.kind l.argument l.mask l.heads
