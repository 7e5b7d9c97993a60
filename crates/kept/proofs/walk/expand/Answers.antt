use Rattle.std.proofs.Common.{◌≤◌, arith, refl, slice_index, length}
use Rattle.kept.specs.Bytes.{object_count}
use Rattle.kept.proofs.MarkLaws.{leads_listed}
use Rattle.kept.proofs.WalkLaws.{waiting_listed, met_few, queue_room, walk_more, expand_begins, expand_ends, expand_old, expand_new, owner_marked, next_first}
use Rattle.kept.proofs.walk.expand.Goals as goal
use Rattle.kept.proofs.walk.expand.Goals.{in-Some, in_default}

pub offset_bounds-queue-done : goal.offset_bounds-queue-done
offset_bounds-queue-done c =
    let r = c.requires in
    let few = met_few c.args.index.filled c.args.through_weak c.args.marks.now c.args.queue.now c.args.done c.args.met r.walk in
    omega (arith, few, r.waiting, r.room)

pub bounds-queue-done : goal.bounds-queue-done
bounds-queue-done c =
    let r = c.requires in
    let few = met_few c.args.index.filled c.args.through_weak c.args.marks.now c.args.queue.now c.args.done c.args.met r.walk in
    omega (arith, few, r.waiting, r.room)

pub overflow_sub-slot : goal.overflow_sub-slot
overflow_sub-slot c =
    let r = c.requires in
    let listed = waiting_listed c.args.index.filled c.args.through_weak c.args.marks.now c.args.queue.now c.args.done c.args.met r.walk r.waiting in
    listed.from_start

pub offset_bounds-index-object : goal.offset_bounds-index-object
offset_bounds-index-object c =
    let r = c.requires in
    let listed = waiting_listed c.args.index.filled c.args.through_weak c.args.marks.now c.args.queue.now c.args.done c.args.met r.walk r.waiting in
    omega (arith, listed.from_start, listed.below_count, r.indexed.first_room)

pub bounds-index-object : goal.bounds-index-object
bounds-index-object c =
    let r = c.requires in
    let listed = waiting_listed c.args.index.filled c.args.through_weak c.args.marks.now c.args.queue.now c.args.done c.args.met r.walk r.waiting in
    omega (arith, listed.from_start, listed.below_count, r.indexed.first_room)

pub loop-slot-init : goal.loop-slot-init
loop-slot-init c =
    let r = c.requires in
    let part = c.args.index.filled in
    let object = slice_index c.args.queue.now c.args.done in
    let listed = waiting_listed part c.args.through_weak c.args.marks.now c.args.queue.now c.args.done c.args.met r.walk r.waiting in
    record {
      walk = r.walk;
      expands = expand_begins part c.args.through_weak c.args.marks.now c.args.queue.now c.args.done c.args.met object _ r.waiting refl (r.indexed.lists.first_of object listed.from_start listed.below_count);
    }

pub meet-requires : goal.meet-requires
meet-requires c q e =
    let i = c.loop-slot.invariant in
    let listed = leads_listed c.args.index.filled c.args.through_weak c.loop-slot.slot q (c.target.ensures.there q e) in
    omega (arith, listed.below_count, i.walk.marking.room)

pub offset_bounds-queue-met : goal.offset_bounds-queue-met
offset_bounds-queue-met c =
    let i = c.loop-slot.invariant in
    let part = c.args.index.filled in
    let l = c.loop-slot in
    let m = c.in-Some.ensures in
    let room = queue_room part c.args.through_weak l.marks l.queue c.args.done l.met l.slot c.in-Some.reached i.walk (omega (arith, c.requires.room, l.auto.queue)) (owner_marked part c.args.through_weak l.marks l.queue c.args.done l.met _ l.slot i.walk i.expands c.loop-slot-test.true) (c.target.ensures.there c.in-Some.reached m.0) m.1 in
    omega (arith, room, l.auto.queue)

pub bounds-queue-met : goal.bounds-queue-met
bounds-queue-met c =
    let i = c.loop-slot.invariant in
    let part = c.args.index.filled in
    let l = c.loop-slot in
    let m = c.in-Some.ensures in
    queue_room part c.args.through_weak l.marks l.queue c.args.done l.met l.slot c.in-Some.reached i.walk (omega (arith, c.requires.room, l.auto.queue))
    (owner_marked part c.args.through_weak l.marks l.queue c.args.done l.met _ l.slot i.walk i.expands c.loop-slot-test.true)
    (c.target.ensures.there c.in-Some.reached m.0) m.1

pub overflow_add-met : goal.overflow_add-met
overflow_add-met c =
    let i = c.loop-slot.invariant in
    let part = c.args.index.filled in
    let l = c.loop-slot in
    let m = c.in-Some.ensures in
    let room = queue_room part c.args.through_weak l.marks l.queue c.args.done l.met l.slot c.in-Some.reached i.walk (omega (arith, c.requires.room, l.auto.queue)) (owner_marked part c.args.through_weak l.marks l.queue c.args.done l.met _ l.slot i.walk i.expands c.loop-slot-test.true) (c.target.ensures.there c.in-Some.reached m.0) m.1 in
    omega (arith, room, l.auto.queue)

pub loop-slot-smaller : goal.loop-slot-smaller
loop-slot-smaller c =
    let i = c.loop-slot.invariant in
    let l = c.loop-slot in
    let next = next_first c.args.index.filled c.args.through_weak l.marks l.queue c.args.index.first.now c.args.index.next.now c.args.done l.met _ l.slot c.requires.indexed.lists i.walk i.expands c.loop-slot-test.true in
    let on = next.from_on in
    omega (arith, on, c.loop-slot-test.true)

pub loop-slot-preserved : goal.loop-slot-preserved
loop-slot-preserved c =
    let part = c.args.index.filled in
    let weak = c.args.through_weak in
    let l = c.loop-slot in
    let i = l.invariant in
    let next = next_first part weak l.marks l.queue c.args.index.first.now c.args.index.next.now c.args.done l.met _ l.slot c.requires.indexed.lists i.walk i.expands c.loop-slot-test.true in
    let on = owner_marked part weak l.marks l.queue c.args.done l.met _ l.slot i.walk i.expands c.loop-slot-test.true in
    let room : object_count part ≤ length l.queue = omega (arith, c.requires.room, l.auto.queue) in
    elim c.match-meet.branch [
      | in-Some w ↦
          (let q = w.in-Some.reached in
          let m = w.in-Some.ensures in
          rw (w.queue-is, w.met-is, m.2)
          (record {
            walk = walk_more part weak l.marks l.queue c.args.done l.met l.slot q i.walk room on (c.target.ensures.there q m.0) m.1;
            expands = expand_new part weak l.marks l.queue c.args.done l.met _ l.slot _ q c.target.result i.walk room i.expands c.loop-slot-test.true c.target.ensures m.0 m.1 next;
          }))
      | in_default w ↦
          (let m = rw w.in_default.is at c.meet.ensures in
          rw (w.queue-is, w.met-is, m.1)
          (record {
            walk = i.walk;
            expands = expand_old part weak l.marks l.queue c.args.done l.met _ l.slot _ c.target.result i.expands c.target.ensures m.0 next;
          }))
    ]

pub returns : goal.returns
returns c =
    let l = c.loop-slot in
    let i = l.invariant in
    expand_ends c.args.index.filled c.args.through_weak l.marks l.queue c.args.done l.met _ l.slot i.walk i.expands c.loop-slot-test.false
