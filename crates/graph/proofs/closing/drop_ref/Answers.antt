use native.Mathlib.Omega.{arith}
use mathlib.Core.Path.{◌∙◌}
use Rattle.std.proofs.lemmas.Result.{err_from_is_err_and}
use Rattle.walker.proofs.ReferenceLaws.{ref_object, space_low}
use Rattle.graph.proofs.ClosingLaws.{drop_no, drop_got}
use Rattle.graph.proofs.closing.drop_ref.Goals as goal

pub parse_object-requires-clause-depth : goal.parse_object-requires-clause-depth
parse_object-requires-clause-depth c = (omega arith, space_low c.requires.ready c.in-Some.ensures.some)

pub returns-in_err-t-2-clause-is : goal.returns-in_err-t-2-clause-is
returns-in_err-t-2-clause-is c =
    let p = err_from_is_err_and c.from_residual-in_err-t-2.result c.from_residual-in_err-t-2.ensures.1 in
    rw (p.1, p.2) (drop_no _ _ (c.in_err-t-2.ensures.is ∙ ref_object c.requires.ready c.in-Some.ensures.some 0 (omega arith)))

pub returns-clause-is : goal.returns-clause-is
returns-clause-is c = drop_got _ _ _ _ (c.in_ok-t-2.ensures.is ∙ ref_object c.requires.ready c.in-Some.ensures.some 0 (omega arith))
