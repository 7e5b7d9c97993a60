use Rattle.std.proofs.Common.{rules, ◌∙◌, arith}
use borrow.Author.Tests.{tests}
use Rattle.alloc.proofs.FindLaws.{none_numbered, one_numbered, numbered_low}
use Rattle.alloc.proofs.resolve.resolve_ordinal.Goals as goal

pub returns-in_err-i : goal.returns-in_err-i
returns-in_err-i c =
    let a = c.args in
    c.from_residual.ensures
    ∙ none_numbered a.table.now a.space _ a.n a.index c.nth.result c.nth.ensures.ran c.filter.ensures.source c.filter.ensures.closure (λ x b q k. search (rules, tests)) c.in_err-i.was

pub address_at-requires : goal.address_at-requires
address_at-requires c =
    let a = c.args in
    omega (arith, c.requires, numbered_low a.table.now a.space _ a.n a.index c.nth.result c.nth.ensures.ran c.filter.ensures.source c.filter.ensures.closure (λ x b q k. search (rules, tests)) c.in_ok-i.was)

pub returns : goal.returns
returns c =
    let a = c.args in
    rw c.address_at.ensures
    (one_numbered a.table.now a.space _ a.n a.index c.nth.result c.nth.ensures.ran c.filter.ensures.source c.filter.ensures.closure (λ x b q k. search (rules, tests)) c.in_ok-i.was)
