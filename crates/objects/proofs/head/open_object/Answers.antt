use mathlib.Core.Path.{◌∙◌}
use Rattle.readers.specs.Views.{mem}
use Rattle.readers.specs.Lent.{input_of, lent_of}
use Rattle.objects.proofs.AnswerLaws.{passed_on}
use Rattle.objects.proofs.HeadLaws.{open_cut, open_plain, open_small, open_large_cut, open_large}
use Rattle.objects.proofs.head.open_object.Goals as goal
use Rattle.objects.proofs.head.open_object.Goals.{then-not-six_x-via-then-not-six_x, then-not-six_x-via-else-not-six_x+then-new-lo_space}

pub returns-in_err-words-clause-is : goal.returns-in_err-words-clause-is
returns-in_err-words-clause-is c =
    let a = c.args in
    passed_on _ _ _ c.from_residual.ensures.1
    ∙ open_cut (input_of a.w.now) a.new.space a.new.tag (mem a.s (lent_of a.w.now)) (c.in_err-words.ensures.by_index _ _ _ _)

pub returns-then-not-six_x-clause-is : goal.returns-then-not-six_x-clause-is
returns-then-not-six_x-clause-is c =
    let a = c.args in
    let r = c.in_ok-words.ensures.by_index a.w.now.sheet.now a.w.now.trusted.now a.w.now.spaces (lent_of a.w.now) in
    elim c.then-not-six_x.branch [
      | then-not-six_x-via-then-not-six_x w ↦ open_plain (input_of a.w.now) a.new.space a.new.tag (mem a.s (lent_of a.w.now)) r c.six_x.ensures w.if-not-six_x.true c.add_record.ensures.is
      | then-not-six_x-via-else-not-six_x+then-new-lo_space w ↦ open_small (input_of a.w.now) a.new.space a.new.tag (mem a.s (lent_of a.w.now)) r c.six_x.ensures w.if-not-six_x.false w.lo_space.ensures.0 w.if-new-lo_space.true c.add_record.ensures.is
    ]

pub returns-in_err-u-clause-is : goal.returns-in_err-u-clause-is
returns-in_err-u-clause-is c =
    let a = c.args in
    let r = c.in_ok-words.ensures.by_index a.w.now.sheet.now a.w.now.trusted.now a.w.now.spaces (lent_of a.w.now) in
    passed_on _ _ _ c.from_residual-in_err-u.ensures.1
    ∙ open_large_cut (input_of a.w.now) a.new.space a.new.tag (mem a.s (lent_of a.w.now)) r c.six_x.ensures c.if-not-six_x.false c.lo_space.ensures.0 c.if-new-lo_space.false (c.in_err-u.ensures.by_index _ _ _ _)

pub returns-clause-is : goal.returns-clause-is
returns-clause-is c =
    let a = c.args in
    let r = c.in_ok-words.ensures.by_index a.w.now.sheet.now a.w.now.trusted.now a.w.now.spaces (lent_of a.w.now) in
    let q = c.in_ok-u.ensures.by_index a.w.now.sheet.now a.w.now.trusted.now a.w.now.spaces (lent_of a.w.now) in
    open_large (input_of a.w.now) a.new.space a.new.tag (mem a.s (lent_of a.w.now)) r c.six_x.ensures c.if-not-six_x.false c.lo_space.ensures.0 c.if-new-lo_space.false q c.add_record-2.ensures.is
