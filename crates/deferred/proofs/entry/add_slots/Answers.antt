use Rattle.std.proofs.lemmas.Result.{err_from_is_err_and}
use mathlib.Core.Path.{◌∙◌}
use Rattle.objects.proofs.AnswerLaws.{fixed_on}
use Rattle.deferred.proofs.SlotsLaws.{adding_end, adding_full, adding_turn}
use Rattle.deferred.proofs.entry.add_slots.Goals as goal

pub returns-in_err-u : goal.returns-in_err-u
returns-in_err-u c =
    let p = err_from_is_err_and c.from_residual.result c.from_residual.ensures.1 in
    let w = c.loop-i.invariant in
    let k = c.push_slot.ensures.kept in
    rw (p.1, p.2) (record { is = adding_full w c.loop-i-test.true c.push_slot.new.w c.in_err-u.ensures.is; index = λ i. tt; kept = (fixed_on w.kept.0 k.0, (k.1.0 ∙ w.kept.1.0, k.1.1 ∙ w.kept.1.1)) })

pub loop-i-preserved : goal.loop-i-preserved
loop-i-preserved c = adding_turn c.loop-i.invariant c.loop-i-test.true c.push_slot.new.w c.in_ok-u.ensures.is c.push_slot.ensures.kept

pub returns : goal.returns
returns c = let w = c.loop-i.invariant in record { is = adding_end w c.loop-i-test.false; index = w.right; kept = w.kept }
