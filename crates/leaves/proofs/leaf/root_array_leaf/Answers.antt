use native.Mathlib.Omega.{arith}
use mathlib.Core.Path.{sym, ◌∙◌}
use Rattle.readers.proofs.IntLaws.{int_ends}
use Rattle.leaves.proofs.LeafLaws.{root_array_found, root_array_cut}
use Rattle.leaves.proofs.leaf.root_array_leaf.Goals as goal

pub overflow_add-at : goal.overflow_add-at
overflow_add-at c = omega (arith, int_ends c.in_ok-i.was _ _ c.putint.ensures.value)

pub returns-clause-some : goal.returns-clause-some
returns-clause-some c = λ hot objects i. rw (c.reference.ensures, c.from-long.ensures, c.is_long.ensures) (root_array_found _ hot objects _ _ _ i (sym c.putint.ensures.value ∙ c.in_ok-i.was))

pub returns-in_err-i-clause-none : goal.returns-in_err-i-clause-none
returns-in_err-i-clause-none c = λ none hot objects i. root_array_cut _ hot objects _ _ i (sym c.putint.ensures.value ∙ c.in_err-i.was)
