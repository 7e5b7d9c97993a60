use Rattle.std.proofs.lemmas.Result.{err_from_is_err_and}
use Rattle.readers.specs.Views.{mem}
use Rattle.readers.specs.Lent.{input_of, lent_of}
use Rattle.objects.proofs.AnswerLaws.{fixed_on}
use Rattle.graph.proofs.WalkLaws.{walk_no, walk_on}
use Rattle.graph.proofs.walk.walk.Goals as goal

pub returns-in_err-t-clause-is : goal.returns-in_err-t-clause-is
returns-in_err-t-clause-is c = let p = err_from_is_err_and c.from_residual.result c.from_residual.ensures.1 in rw (p.1, p.2) (walk_no (input_of c.args.w.now) (mem c.args.s (lent_of c.args.w.now)) c.in_err-t.ensures.is)

pub returns : goal.returns
returns c =
    let f = c.top_object.ensures.fixed in
    record { is = walk_on (input_of c.args.w.now) (mem c.args.s (lent_of c.args.w.now)) c.in_ok-t.ensures.is (rw (f.sheet, f.payload, f.spaces, f.trusted) at c.closing.ensures.is); fixed = fixed_on f c.closing.ensures.fixed }
