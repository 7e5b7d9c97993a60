use mathlib.Core.Path.{◌≡◌, refl, sym, ◌∙◌}
use mathlib.Core.Bool.{Bool, true, false}
use native.Mathlib.Omega.{arith}
use Prim.Native.Nat.{◌+◌}
use borrow.Author.Tests.{lt-ltb}
use Rattle.leaves.proofs.LeafLaws.{leaf_few}
use Rattle.readers.proofs.ViewLaws.{put_done, put_full}
use Rattle.objects.proofs.WaiterLaws.{indexed_plain}
use Rattle.weak_leaves.proofs.WeakLaws.{weak_placed, weak_is, weak_refused, unheld_refused}
use Rattle.weak_leaves.proofs.weak.place_weak.Goals as goal

pub overflow_add-t-3 : goal.overflow_add-t-3
overflow_add-t-3 c =
    let f = c.in_ok-leaf.ensures.is.leaf in
    omega (arith, c.requires.1, f.0.0, leaf_few c.args.w.now (c.args.s.at + 1) c.args.s.objects c.in_ok-leaf.leaf f c.args.s)

pub returns-clause-by_heads : goal.returns-clause-by_heads
returns-clause-by_heads c =
    let a = c.args in
    let q = c.in_ok-leaf.ensures in
    let e = c.in_ok-start.ensures.1 in
    let n = c.word_bytes-word.ensures.0 in
    λ inner. rw (c.in_ok-end.ensures.1, e, n) (weak_placed a.w.now a.s a.d c.in_ok-leaf.leaf q.is a.level.object a.level.done (rw c.from-2.ensures at c.in_ok-add_value.ensures) c.in_ok-append_slot.ensures.slot (rw (← e) c.words_in.ensures) c.from.ensures c.in_ok-append_slot.ensures.count c.enter.ensures inner)

pub returns-clause-read : goal.returns-clause-read
returns-clause-read c =
    let a = c.args in
    let q = c.in_ok-leaf.ensures.is in
    (q.deep, λ h inner. returns-clause-by_heads c inner ∙ weak_is a.w.now a.s a.d c.in_ok-leaf.leaf a.level.object a.level.done inner h q)

pub returns-clause-order : goal.returns-clause-order
returns-clause-order c =
    let p = c.in_ok-append_slot.ensures.slot in
    (rw (put_done p refl).1 (indexed_plain _ _ _ _ _ 0 c.in_ok-leaf.ensures.roomy refl _), λ h. h)

pub returns-in_err-append_slot-clause-order : goal.returns-in_err-append_slot-clause-order
returns-in_err-append_slot-clause-order c =
    let p = c.in_err-append_slot.ensures.slot in
    let some = lt-ltb c.args.s.slots _ c.in_ok-leaf.ensures.roomy in
    absurd (let z : ◌≡◌ {A = Bool} true false = sym some ∙ (put_full p refl).0 in cc)

pub returns-in_err-leaf-clause-none : goal.returns-in_err-leaf-clause-none
returns-in_err-leaf-clause-none c =
    let a = c.args in
    λ none deep b room roomy h inner. weak_refused a.w.now a.s a.level.object a.level.done h b (c.in_err-leaf.ensures.none refl deep b room) inner

pub returns-in_err-add_value-clause-none : goal.returns-in_err-add_value-clause-none
returns-in_err-add_value-clause-none c =
    let a = c.args in
    λ none deep b room roomy h inner. unheld_refused a.w.now a.s a.d c.in_ok-leaf.leaf a.level.object a.level.done h c.in_ok-leaf.ensures.is (rw c.from-2.ensures at c.in_err-add_value.ensures) inner
