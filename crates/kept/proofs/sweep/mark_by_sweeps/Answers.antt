use Rattle.std.proofs.Common.{arith}
use Rattle.std.proofs.lemmas.Bool.{OnTrue_at, OnFalse_at}
use Rattle.kept.proofs.MarkLaws.{marking_few, marks_done}
use Rattle.kept.proofs.sweep.mark_by_sweeps.Goals as goal

pub sweeps-init : goal.sweeps-init
sweeps-init c = c.begin.ensures.marked c.args.through_weak

pub returns-then-not-sweep : goal.returns-then-not-sweep
returns-then-not-sweep c =
    let k = c.sweep.ensures in
    marks_done c.args.filled c.args.through_weak c.sweep.new.marks k.marking (OnFalse_at c.if-not-sweep.true k.closed)

pub sweeps-smaller : goal.sweeps-smaller
sweeps-smaller c =
    let k = c.sweep.ensures in
    let more = OnTrue_at c.if-not-sweep.false k.changed in
    let few = marking_few c.args.filled c.args.through_weak c.sweep.new.marks k.marking in
    omega (arith, more.more, few)
