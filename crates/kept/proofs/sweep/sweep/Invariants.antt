use Rattle.std.specs.Bool.{OnTrue, OnFalse}
use Rattle.kept.specs.Marking.{Marking, HasMore}
use Rattle.kept.proofs.SweepLaws.{ClosedBelow}
use Rattle.kept.proofs.sweep.sweep.Given as goal

abbrev pub invariant-loop-slot : goal.invariant-loop-slot
invariant-loop-slot l =
    record {
      marking : Marking l.filled l.through_weak l.marks;
      changed : OnTrue l.changed (HasMore l.filled l.initial.marks l.marks);
      closed : OnFalse l.changed (ClosedBelow l.filled l.through_weak l.initial.marks l.marks l.slot);
    }
