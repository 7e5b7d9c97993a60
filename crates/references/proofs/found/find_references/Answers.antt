use Rattle.std.proofs.Common.{arith}
use Rattle.references.proofs.ReferenceLaws.{refers_listed}
use Rattle.references.proofs.FoundLaws.{found_next}
use Rattle.references.proofs.found.find_references.Goals as goal

pub packed-requires : goal.packed-requires
packed-requires c r e =
    let part = c.args.filled in
    let listed = refers_listed part _ _ r.weak r.object (c.value_reference.ensures.there r.object r.weak e) in
    omega (arith, listed.below_count, part.objects_fit, c.if-prove.false)

pub loop-number-preserved : goal.loop-number-preserved
loop-number-preserved c =
    let part = c.args.filled in
    let l = c.loop-number in
    let n = l.number in
    found_next part n l.found c.packed.result c.value_reference.result (omega (arith, l.auto.number)) c.loop-number-test.true (omega (arith, c.requires, l.auto.found)) (rw c.value_fields-value.ensures at c.value_reference.ensures) c.packed.ensures l.invariant
