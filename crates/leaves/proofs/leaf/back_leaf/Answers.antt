use native.Mathlib.Omega.{arith}
use mathlib.Core.Path.{sym, ◌∙◌}
use Rattle.readers.proofs.IntLaws.{int_ends}
use Rattle.leaves.proofs.LeafLaws.{back_found, back_cut, back_past}
use Rattle.leaves.proofs.leaf.back_leaf.Goals as goal

pub overflow_add-at : goal.overflow_add-at
overflow_add-at c = omega (arith, int_ends c.in_ok-i.was _ _ c.putint.ensures.value)

pub returns-clause-some : goal.returns-clause-some
returns-clause-some c = λ hot i. rw (c.reference.ensures, c.from-long.ensures, c.is_long.ensures) (back_found _ hot _ _ _ _ i (sym c.putint.ensures.value ∙ c.in_ok-i.was) (omega (arith, c.if-objects-i.false)))

pub returns-in_err-i-clause-none : goal.returns-in_err-i-clause-none
returns-in_err-i-clause-none c = λ none hot i. back_cut _ hot _ _ _ i (sym c.putint.ensures.value ∙ c.in_err-i.was)

pub returns-then-objects-i-clause-none : goal.returns-then-objects-i-clause-none
returns-then-objects-i-clause-none c =
    λ none hot i. back_past _ hot _ _ _ _ i (sym c.putint.ensures.value ∙ c.in_ok-i.was) (omega (arith, c.if-objects-i.true))
