use native.Mathlib.Omega.{arith}
use mathlib.Core.Path.{refl, ◌∙◌}
use Rattle.readers.proofs.ViewLaws.{put_done, put_below, put_full}
use Rattle.objects.proofs.WaiterLaws.{indexed_plain}
use Rattle.leaves.proofs.LeafLaws.{item_lent, item_is, item_refused, item_full}
use Rattle.leaves.proofs.leaf.place_leaf.Goals as goal

pub overflow_add-t-2 : goal.overflow_add-t-2
overflow_add-t-2 c =
    let f = c.in_ok-leaf.ensures in
    omega (arith, c.requires.2, f.there.0, (f.found c.args.s.at).few)

pub returns-clause-by_heads : goal.returns-clause-by_heads
returns-clause-by_heads c =
    let a = c.args in
    let f = c.in_ok-leaf.ensures in
    let p = c.in_ok-append_slot.ensures.slot in
    let e = c.in_ok-start.ensures.1 in
    λ inner. rw (c.in_ok-end.ensures.1, e) (item_lent a.w.now a.s c.in_ok-leaf.leaf f.there.0 f.found a.level.object a.level.done _ _ _ (put_below p refl) (rw (← e, ← c.words_in.ensures, ← c.from.ensures) (put_done p refl).1) c.in_ok-append_slot.ensures.count c.enter.ensures inner)

pub returns-clause-read : goal.returns-clause-read
returns-clause-read c =
    let a = c.args in
    (c.if-d-ge-DEEPEST.false, λ h inner. returns-clause-by_heads c inner ∙ item_is a.w.now a.s a.level.object a.level.done inner h c.in_ok-leaf.ensures.there)

pub returns-clause-order : goal.returns-clause-order
returns-clause-order c =
    let p = c.in_ok-append_slot.ensures.slot in
    (rw (put_done p refl).1 (indexed_plain _ _ _ _ _ 0 (put_below p refl) refl _), λ h. h)

pub returns-in_err-leaf-clause-none : goal.returns-in_err-leaf-clause-none
returns-in_err-leaf-clause-none c =
    let a = c.args in
    λ none deep b roomy h inner. item_refused a.w.now a.s a.level.object a.level.done h b.0 (c.in_err-leaf.ensures.none refl b) inner

pub returns-in_err-end-clause-none : goal.returns-in_err-end-clause-none
returns-in_err-end-clause-none c =
    λ none deep b roomy h inner. absurd (c.in_err-end.ensures (omega (arith, c.in_ok-start.ensures.1, (c.in_ok-leaf.ensures.found c.args.s.at).narrow roomy.1, roomy.0)))

pub returns-in_err-append_slot-clause-none : goal.returns-in_err-append_slot-clause-none
returns-in_err-append_slot-clause-none c =
    let a = c.args in
    let f = c.in_ok-leaf.ensures in
    λ none deep b roomy h inner. item_full a.w.now a.s c.in_ok-leaf.leaf f.there.0 f.found a.level.object a.level.done (put_full c.in_err-append_slot.ensures.slot refl).0 inner h f.there.1
