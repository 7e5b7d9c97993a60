use native.Mathlib.Omega.{arith}
use mathlib.Core.Path.{sym, ◌∙◌}
use Rattle.readers.proofs.IntLaws.{int_ends}
use Rattle.leaves.proofs.LeafLaws.{read_only_found, chunk_cut, offset_cut}
use Rattle.leaves.proofs.leaf.read_only_leaf.Goals as goal

pub overflow_add-next : goal.overflow_add-next
overflow_add-next c = omega (arith, int_ends c.in_ok-chunk.was _ _ c.putint.ensures.value)

pub overflow_add-end : goal.overflow_add-end
overflow_add-end c = omega (arith, int_ends c.in_ok-offset.was _ _ c.putint-2.ensures.value)

pub returns-clause-some : goal.returns-clause-some
returns-clause-some c = λ hot objects i. rw (c.reference.ensures, c.from.ensures, c.from-2.ensures, c.is_long.ensures, c.is_long-2.ensures) (read_only_found _ hot objects _ _ _ _ i (sym c.putint.ensures.value ∙ c.in_ok-chunk.was) (sym c.putint-2.ensures.value ∙ c.in_ok-offset.was))

pub returns-in_err-chunk-clause-none : goal.returns-in_err-chunk-clause-none
returns-in_err-chunk-clause-none c = λ none hot objects i. chunk_cut _ hot objects _ _ i (sym c.putint.ensures.value ∙ c.in_err-chunk.was)

pub returns-in_err-offset-clause-none : goal.returns-in_err-offset-clause-none
returns-in_err-offset-clause-none c =
    λ none hot objects i. offset_cut _ hot objects _ _ _ i (sym c.putint.ensures.value ∙ c.in_ok-chunk.was) (sym c.putint-2.ensures.value ∙ c.in_err-offset.was)
