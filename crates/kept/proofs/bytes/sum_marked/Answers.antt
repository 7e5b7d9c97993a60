use Rattle.std.proofs.Common.{◌+◌, ◌-◌, arith, sym, ◌∙◌}
use Rattle.kept.specs.Bytes.{size_of, marked_size, object_count}
use Rattle.kept.proofs.TotalLaws.{total_more, total_mono, total_below, marked_on, marked_below}
use Rattle.kept.proofs.bytes.sum_marked.Goals as goal

pub overflow_add-sum : goal.overflow_add-sum
overflow_add-sum c =
    let part = c.args.filled in
    let marks = c.args.marks.now in
    let l = c.loop-object in
    let here = marked_on part marks l.object (sym c.is_marked.ensures ∙ c.if-is_marked.true) in
    let more = total_more (marked_size part marks) part.starts.objects l.object (omega (arith, l.auto.object)) in
    let all = total_mono (marked_size part marks) part.starts.objects (l.object + 1 - part.starts.objects) (object_count part) (omega (arith, c.loop-object-test.true)) in
    let below = total_below (marked_size part marks) (size_of part) part.starts.objects (object_count part) (marked_below part marks) in
    omega (arith, here, more, all, below, l.invariant, c.requires, c.size-sum.ensures)
