use Rattle.std.proofs.lemmas.Bool.{OnTrue_at, OnFalse_at}
use Rattle.kept.proofs.SweepLaws.{swept_new, swept_same, swept_closed}
use Rattle.kept.proofs.sweep.sweep.Goals as goal
use Rattle.kept.proofs.sweep.sweep.Goals.{then-look, else-look}

pub loop-slot-preserved : goal.loop-slot-preserved
loop-slot-preserved c =
    let part = c.args.filled in
    let l = c.loop-slot in
    let k = c.look.ensures in
    elim c.if-look.branch [
      | then-look w ↦
          rw w.changed-is
          (record {
            marking = k.marking;
            changed = swept_new part c.args.through_weak c.args.marks.now l.marks c.look.new.marks l.slot l.changed l.invariant.changed l.invariant.closed (OnTrue_at w.if-look.true k.changed);
            closed = tt;
          })
      | else-look w ↦
          (let on = swept_same part c.args.through_weak c.args.marks.now l.marks c.look.new.marks l.slot l.changed (OnFalse_at w.if-look.false k.same) l.invariant.changed l.invariant.closed k.closed in
          rw w.changed-is (record { marking = k.marking; changed = on.changed_on; closed = on.closed_on }))
    ]

pub returns-clause-closed : goal.returns-clause-closed
returns-clause-closed c =
    swept_closed c.args.filled c.args.through_weak c.args.marks.now c.loop-slot.marks c.loop-slot.slot c.loop-slot.changed c.loop-slot.invariant.closed c.loop-slot-test.false
