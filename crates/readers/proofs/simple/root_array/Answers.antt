use Rattle.std.proofs.lemmas.Result.{err_from_is_err_and}
use Rattle.readers.proofs.ViewLaws.{then_got, then_no}
use Rattle.readers.proofs.simple.root_array.Goals as goal

pub returns-in_err-i-clause-is : goal.returns-in_err-i-clause-is
returns-in_err-i-clause-is c = let p = err_from_is_err_and c.from_residual.result c.from_residual.ensures.1 in rw (p.1, p.2) (then_no _ (c.in_err-i.ensures.by_index _ _ _ _))

pub returns-clause-is : goal.returns-clause-is
returns-clause-is c = then_got _ (c.in_ok-i.ensures.by_index _ _ _ _) c.enter.ensures.is
