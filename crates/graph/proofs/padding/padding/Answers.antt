use mathlib.Core.Path.{◌≡◌, sym, ◌∙◌}
use mathlib.Core.Bool.{true, false}
use borrow.Author.Tests.{tests}
use Rattle.std.proofs.Common.{rules}
use Rattle.std.proofs.lemmas.Iterator.{IsFirst-from_position, YieldsList-from_slice}
use Rattle.sheet.specs.Tests.{is_nop}
use Rattle.graph.proofs.PaddingLaws.{rest_of, FirstOther, padding_all, padding_legacy, padding_refused}
use Rattle.graph.proofs.padding.padding.Goals.{then-nops-rest-via-then-nops-rest, then-nops-rest-via-else-nops-rest+then-legacy}
use Rattle.graph.proofs.padding.padding.Goals as goal

pub returns-then-nops-rest : goal.returns-then-nops-rest
returns-then-nops-rest c =
    let v = c.args.sheet.now in
    let found : FirstOther v (rest_of c.args.p.now c.min.result) c.position.result = IsFirst-from_position _ _ _ (λ b. is_nop v b ≡ false) (λ b. is_nop v b ≡ true) c.position.ensures.ran (YieldsList-from_slice _ c.iter.ensures.rest) (λ x q k. search (rules, tests)) (λ x q k. search (rules, tests)) in
    λ tr sp l. elim c.then-nops-rest.branch [ then-nops-rest-via-then-nops-rest w ↦ padding_all _ _ _ _ c.min.ensures _ found c.unwrap_or-nops.ensures w.if-nops-rest.true | then-nops-rest-via-else-nops-rest+then-legacy w ↦ padding_legacy _ _ _ _ c.min.ensures _ found c.unwrap_or-nops.ensures w.if-nops-rest.false (sym w.legacy.ensures ∙ w.if-legacy.true) ]

pub returns : goal.returns
returns c =
    let v = c.args.sheet.now in
    let found : FirstOther v (rest_of c.args.p.now c.min.result) c.position.result = IsFirst-from_position _ _ _ (λ b. is_nop v b ≡ false) (λ b. is_nop v b ≡ true) c.position.ensures.ran (YieldsList-from_slice _ c.iter.ensures.rest) (λ x q k. search (rules, tests)) (λ x q k. search (rules, tests)) in
    λ tr sp l. rw c.refused.ensures (padding_refused _ _ _ _ c.min.ensures _ found c.unwrap_or-nops.ensures c.if-nops-rest.false (sym c.legacy.ensures ∙ c.if-legacy.false))
