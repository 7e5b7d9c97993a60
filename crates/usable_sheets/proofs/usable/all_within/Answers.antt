use Rattle.std.proofs.Common.{rules, true, false, arith}
use borrow.Author.Tests.{tests}
use Rattle.std.proofs.lemmas.Iterator.{cases_from_all, YieldsList-from_range}
use Rattle.usable_sheets.proofs.WithinLaws.{Tests, decided}
use Rattle.usable_sheets.proofs.usable.all_within.Goals as goal

pub returns : goal.returns
returns c =
    let a = c.args in
    decided a.sheet.now a.most a.absent a.n _
    (cases_from_all _ _ _ (Tests a.sheet.now a.most a.absent true) (Tests a.sheet.now a.most a.absent false) c.all.ensures.ran (YieldsList-from_range 0 a.n a.n (cc) (omega arith)) (λ x q k. search (rules, tests)) (λ x q k. search (rules, tests)))
