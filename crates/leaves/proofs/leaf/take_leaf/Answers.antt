use native.Mathlib.Omega.{arith}
use mathlib.Core.Path.{refl, ◌∙◌}
use Rattle.readers.specs.Lent.{lent_of}
use Rattle.leaves.proofs.LeafLaws.{leaf_few, leaf_lent, lent_is, leaf_refused}
use Rattle.leaves.proofs.leaf.take_leaf.Goals as goal

pub overflow_add-t : goal.overflow_add-t
overflow_add-t c =
    let f = c.in_ok-leaf.ensures.some in
    omega (arith, c.requires, f.0.0, leaf_few c.args.w.now c.args.s.at c.args.s.objects c.in_ok-leaf.leaf f c.args.s)

pub returns-clause-by_heads : goal.returns-clause-by_heads
returns-clause-by_heads c =
    let a = c.args in
    λ inner. rw c.enter.ensures (leaf_lent a.w.now a.s.at a.s.objects c.in_ok-leaf.leaf c.in_ok-leaf.ensures.some inner a.s (lent_of a.w.now) refl refl refl)

pub returns-clause-read : goal.returns-clause-read
returns-clause-read c =
    λ h inner. returns-clause-by_heads c inner ∙ lent_is c.args.w.now c.args.s (lent_of c.args.w.now) inner h c.in_ok-leaf.ensures.some.0

pub returns-in_err-leaf-clause-none : goal.returns-in_err-leaf-clause-none
returns-in_err-leaf-clause-none c = λ none b h inner. leaf_refused c.args.w.now c.args.s (lent_of c.args.w.now) refl h b.0 (c.in_err-leaf.ensures.none refl b) inner
