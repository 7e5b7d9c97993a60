use Rattle.std.proofs.Common.{sym, ◌∙◌}
use Rattle.std.proofs.lemmas.Result.{err_from_is_err_and}
use Rattle.readers.proofs.SimpleLaws.{first_no, single_no, single_to, second_no, place_to}
use Rattle.readers.proofs.simple.legacy_backref.Goals as goal

pub returns-in_err-first-clause-is : goal.returns-in_err-first-clause-is
returns-in_err-first-clause-is c = let p = err_from_is_err_and c.from_residual.result c.from_residual.ensures.1 in rw (p.1, p.2) (first_no _ _ _ (c.in_err-first.ensures.by_index _ _ _ _))

pub returns-in_err-second-clause-is : goal.returns-in_err-second-clause-is
returns-in_err-second-clause-is c =
    let p = err_from_is_err_and c.from_residual-in_err-second.result c.from_residual-in_err-second.ensures.1 in
    rw (p.1, p.2) (second_no _ _ _ (c.in_ok-first.ensures.by_index _ _ _ _) (sym c.if-is_single.ensures) (c.in_err-second.ensures.by_index _ _ _ _))

pub returns-in_default-clause-is : goal.returns-in_default-clause-is
returns-in_default-clause-is c = rw c.refused.ensures (single_no _ _ _ (c.in_ok-first.ensures.by_index _ _ _ _) (sym c.if-is_single.ensures) c.find_single.ensures c.in_default.is)

pub returns-then-is_single-clause-is : goal.returns-then-is_single-clause-is
returns-then-is_single-clause-is c = c.enter.ensures.is ∙ single_to _ _ _ (c.in_ok-first.ensures.by_index _ _ _ _) (sym c.if-is_single.ensures) c.find_single.ensures c.in-Some.is

pub returns-clause-is : goal.returns-clause-is
returns-clause-is c = c.enter-2.ensures.is ∙ place_to _ _ _ (c.in_ok-first.ensures.by_index _ _ _ _) (sym c.if-is_single.ensures) (c.in_ok-second.ensures.by_index _ _ _ _) c.find_place-r.ensures
