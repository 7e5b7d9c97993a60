use Rattle.std.proofs.Common.{rules, ◌∙◌, arith}
use borrow.Author.Tests.{tests}
use Rattle.alloc.proofs.FindLaws.{none_found, one_found, found_low}
use Rattle.alloc.proofs.resolve.find_address.Goals as goal

pub returns-in_err-newest : goal.returns-in_err-newest
returns-in_err-newest c =
    let a = c.args in
    c.from_residual.ensures
    ∙ none_found a.table.now a.space a.place.chunk a.place.offset _ a.n c.find.result c.find.ensures.ran c.rev.ensures.source (λ x b q k. search (rules, tests)) c.in_err-newest.was

pub address_at-requires : goal.address_at-requires
address_at-requires c =
    let a = c.args in
    omega (arith, c.requires, found_low a.table.now a.space a.place.chunk a.place.offset _ a.n c.find.result c.find.ensures.ran c.rev.ensures.source (λ x b q k. search (rules, tests)) c.in_ok-newest.was)

pub returns : goal.returns
returns c =
    let a = c.args in
    rw c.address_at.ensures
    (one_found a.table.now a.space a.place.chunk a.place.offset _ a.n c.find.result c.find.ensures.ran c.rev.ensures.source (λ x b q k. search (rules, tests)) c.in_ok-newest.was)
