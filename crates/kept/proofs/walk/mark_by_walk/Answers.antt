use Rattle.std.proofs.Common.{arith, get_or-set_same}
use Rattle.kept.proofs.WalkLaws.{walk_begins, walk_ends, met_few}
use Rattle.kept.proofs.walk.mark_by_walk.Goals as goal
use Rattle.kept.proofs.walk.mark_by_walk.Goals.{then-met-gt0, else-met-gt0}

pub loop-done-init : goal.loop-done-init
loop-done-init c =
    let part = c.args.index.filled in
    let weak = c.args.through_weak in
    let b = c.begin-met.ensures in
    elim c.if-met-gt0.branch [
      | then-met-gt0 w ↦
          walk_begins part weak c.begin-met.new.marks c.if-met-gt0.queue c.begin-met.result (b.marked weak) b.first
          (λ some. rw w.queue-is (get_or-set_same c.args.queue.now 0 part.starts.objects 0 (let there = b.first.there some in omega (arith, there, c.requires.room))))
      | else-met-gt0 w ↦
          walk_begins part weak c.begin-met.new.marks c.if-met-gt0.queue c.begin-met.result (b.marked weak) b.first
          (λ some. absurd (omega (arith, some, w.if-met-gt0.false)))
    ]

pub loop-done-smaller : goal.loop-done-smaller
loop-done-smaller c =
    let l = c.loop-done in
    let few = met_few c.args.index.filled c.args.through_weak l.marks l.queue l.done l.met l.invariant in
    omega (arith, few, c.loop-done-test.true)

pub returns : goal.returns
returns c =
    let l = c.loop-done in
    walk_ends c.args.index.filled c.args.through_weak l.marks l.queue l.done l.met l.invariant c.loop-done-test.false
