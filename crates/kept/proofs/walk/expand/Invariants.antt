use Rattle.std.proofs.Common.{◌-◌}
use Rattle.kept.specs.Walk.{Walk}
use Rattle.kept.proofs.WalkLaws.{Expands}
use Rattle.kept.proofs.walk.expand.Given as goal

abbrev pub invariant-loop-slot : goal.invariant-loop-slot
invariant-loop-slot l =
    record {
      walk : Walk l.index.filled l.through_weak l.marks l.queue l.done l.met;
      expands : Expands l.index.filled l.through_weak l.marks l.queue l.done l.met l.object l.slot;
    }

abbrev pub decreases-loop-slot : goal.decreases-loop-slot
decreases-loop-slot l = l.end - l.slot
