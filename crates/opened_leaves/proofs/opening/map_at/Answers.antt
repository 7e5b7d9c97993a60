use Rattle.std.proofs.Common.{◌≡◌, Bool, true, false, [], sym, ◌∙◌, arith}
use Rattle.readers.proofs.IntLaws.{int_ends}
use Rattle.opened_leaves.proofs.opening.map_at.Goals as goal

pub overflow_add-s : goal.overflow_add-s
overflow_add-s c = omega (arith, int_ends c.in_ok-size.was _ _ c.putint.ensures.value)

pub returns-then-is_flagged-clause-none : goal.returns-then-is_flagged-clause-none
returns-then-is_flagged-clause-none c =
    λ none count b. absurd (let z : ◌≡◌ {A = Bool} true false = sym c.if-is_flagged.true ∙ c.is_flagged.ensures [] [] 0 ∙ b.unflagged c.in_ok-map.map.value [] [] 0 in cc)
