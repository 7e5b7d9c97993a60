use Rattle.std.proofs.lemmas.Result.{err_from_is_err_and}
use Rattle.readers.specs.Views.{mem}
use Rattle.readers.specs.Lent.{input_of, lent_of}
use Rattle.graph.proofs.ClosingLaws.{closing_no, closing_on}
use Rattle.graph.proofs.closing.closing.Goals as goal

pub returns-in_err-t-clause-is : goal.returns-in_err-t-clause-is
returns-in_err-t-clause-is c = let p = err_from_is_err_and c.from_residual.result c.from_residual.ensures.1 in rw (p.1, p.2) (closing_no (input_of c.args.w.now) (mem c.args.s (lent_of c.args.w.now)) c.in_err-t.ensures.is)

pub returns-clause-is : goal.returns-clause-is
returns-clause-is c = let f = c.entries.ensures.fixed in closing_on (input_of c.args.w.now) (mem c.args.s (lent_of c.args.w.now)) c.in_ok-t.ensures.is (rw (f.sheet, f.payload) at (c.padding.ensures c.args.w.now.trusted.now c.args.w.now.spaces (lent_of c.entries.new.w)))
