use Rattle.std.proofs.Common.{rules, sym, ◌∙◌}
use Rattle.sheet.proofs.TestsLaws.{present_is, absent_is}
use Rattle.heads.proofs.Answers.{left_all, left_none, left_absent, left_untested, left_fits, left_claimed}
use Rattle.heads.proofs.heads.claim_all.Goals as goal
use Rattle.heads.proofs.heads.claim_all.Goals.{in_default-via-in-Some-present_number+else-tested, in_default-via-in-None-1}

pub loop-c-init : goal.loop-c-init
loop-c-init c = left_all _ _ _ (cc) c.requires.heads_value

pub assign-requires : goal.assign-requires
assign-requires c =
    let p = present_is c.args.sheet.now c.in-Some.c.now.name (sym c.in-Some-present_number.is ∙ c.present_number.ensures.0) in
    left_fits _ _ _ _ _ c.in-Some.ensures.steps c.loop-c.invariant _ _ (sym p.1) c.span_of-n.ensures p.0 (sym c.tested.ensures ∙ c.if-tested.true) c.requires.sheet_value

pub loop-c-preserved-in-loop-c : goal.loop-c-preserved-in-loop-c
loop-c-preserved-in-loop-c c =
    let p = present_is c.args.sheet.now c.in-Some.c.now.name (sym c.in-Some-present_number.is ∙ c.present_number.ensures.0) in
    left_claimed _ _ _ _ _ c.in-Some.ensures.steps c.loop-c.invariant _ _ (sym p.1) c.span_of-n.ensures p.0 (sym c.tested.ensures ∙ c.if-tested.true) _ _ c.root_mask-mask.ensures.0 c.assign.ensures

pub loop-c-preserved : goal.loop-c-preserved
loop-c-preserved c =
    elim c.in_default.branch [
      | in_default-via-in-Some-present_number+else-tested b ↦ left_untested _ _ _ _ _ c.in-Some.ensures.steps c.loop-c.invariant (sym b.tested.ensures ∙ b.if-tested.false)
      | in_default-via-in-None-1 b ↦ left_absent _ _ _ _ _ c.in-Some.ensures.steps c.loop-c.invariant (absent_is c.args.sheet.now c.in-Some.c.now.name (search rules))
    ]

pub returns : goal.returns
returns c = left_none _ _ _ c.in-None.ensures.steps.0 c.loop-c.invariant
