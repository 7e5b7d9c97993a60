use Rattle.std.proofs.Common.{refl, arith}
use Prim.Native.Nat.{◌+◌}
use Rattle.leaves.proofs.LeafLaws.{leaf_few}
use Rattle.objects.proofs.HeadLaws.{bytes_small}
use Rattle.opened_leaves.proofs.OpeningLaws.{bit_low, new_count, new_indexed, map_refused, opened_lent, opened_read}
use Rattle.opened_leaves.proofs.opening.open_leaf.Goals as goal

pub give_address-requires : goal.give_address-requires
give_address-requires c =
    let q = c.requires.usable in
    (q.0, q.1, bytes_small _ q.0 c.word_bytes.ensures.0 c.in_ok-size.ensures.some.small, c.requires.linked_before)

pub append_slot-requires : goal.append_slot-requires
append_slot-requires c = new_count c.in_ok-t.ensures.alone _ _ _ c.in_ok-add_object.ensures

pub overflow_add-u-4 : goal.overflow_add-u-4
overflow_add-u-4 c =
    let a = c.args in
    let m = c.in_ok-size.ensures.some in
    omega (arith, c.requires.usable.3, m.leaf.0.0, leaf_few a.w.now (a.s.at + c.in_ok-size.size.count) (a.s.objects + 1) c.in_ok-size.map m.leaf a.s, c.from-2.ensures, bit_low c.is_long.result)

pub returns-clause-there : goal.returns-clause-there
returns-clause-there c =
    record { size = c.in_ok-size.size; map = c.in_ok-size.map; is = c.in_ok-size.ensures.some }

pub returns-clause-by_heads : goal.returns-clause-by_heads
returns-clause-by_heads c =
    let a = c.args in
    let p = c.in_ok-append_slot.ensures in
    λ inner. rw (c.from-2.ensures, c.is_long.ensures) (opened_lent a.w.now _ a.s _ _ _ _ a.new.space a.new.tag c.word_bytes.ensures.0 c.in_ok-size.ensures.some c.in_ok-t.ensures c.in_ok-add_object.ensures p.count c.from.ensures p.slot c.enter.ensures inner)

pub returns-clause-read : goal.returns-clause-read
returns-clause-read c =
    let a = c.args in
    let ew = c.word_bytes.ensures.0 in
    let m = c.in_ok-size.ensures.some in
    let p = c.in_ok-append_slot.ensures in
    (c.if-d-ge-DEEPEST.false, bytes_small _ c.requires.usable.0 ew m.small, omega arith, λ h inner. rw (c.from-2.ensures, c.is_long.ensures) (opened_read a.w.now _ a.s _ _ _ _ a.new.space a.new.tag ew m c.in_ok-t.ensures c.in_ok-add_object.ensures p.count c.from.ensures p.slot c.enter.ensures inner h))

pub returns-clause-indexed : goal.returns-clause-indexed
returns-clause-indexed c = new_indexed c.in_ok-t.ensures.alone _ _ _ _ c.in_ok-append_slot.ensures.slot

pub returns-in_err-size-clause-found : goal.returns-in_err-size-clause-found
returns-in_err-size-clause-found c =
    let a = c.args in
    λ none deep count b roomy h inner. map_refused a.w.now a.s count a.new.space a.new.tag h b (c.in_err-size.ensures.none refl count b) roomy.0 inner
