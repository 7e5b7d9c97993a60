use Rattle.std.proofs.Common.{arith, refl, sym, ◌∙◌}
use Rattle.inspection.proofs.Laws.{left_all, left_none, left_low, left_passed, left_taken}
use Rattle.inspection.proofs.inspect.find.Goals as goal

pub loop-c-init : goal.loop-c-init
loop-c-init c = left_all _ _ _ _ _ (cc) refl refl

pub overflow_cast-c : goal.overflow_cast-c
overflow_cast-c c =
    omega (arith, left_low _ _ _ _ _ _ _ c.in-Some.ensures.steps c.loop-c.invariant)

pub loop-c-preserved-then-claims : goal.loop-c-preserved-then-claims
loop-c-preserved-then-claims c =
    left_taken _ _ _ _ _ _ _ c.in-Some.ensures.steps c.loop-c.invariant _ _ (sym c.claims.ensures ∙ c.if-claims.true) c.with_row-found.ensures.name c.with_row-found.ensures.shared

pub loop-c-preserved : goal.loop-c-preserved
loop-c-preserved c =
    left_passed _ _ _ _ _ _ _ c.in-Some.ensures.steps c.loop-c.invariant (sym c.claims.ensures ∙ c.if-claims.false)

pub returns : goal.returns
returns c = left_none _ _ _ _ _ c.in-None.ensures.steps.0 c.loop-c.invariant
