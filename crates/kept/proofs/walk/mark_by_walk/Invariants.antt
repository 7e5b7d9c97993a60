use Rattle.std.proofs.Common.{◌-◌}
use Rattle.kept.specs.Bytes.{object_count}
use Rattle.kept.specs.Walk.{Walk}
use Rattle.kept.proofs.walk.mark_by_walk.Given as goal

abbrev pub invariant-loop-done : goal.invariant-loop-done
invariant-loop-done l = Walk l.index.filled l.through_weak l.marks l.queue l.done l.met

abbrev pub decreases-loop-done : goal.decreases-loop-done
decreases-loop-done l = object_count l.index.filled - l.done
