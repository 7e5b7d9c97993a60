use Rattle.std.proofs.lemmas.Result.{err_from_is_err_and}
use Rattle.readers.specs.Lent.{input_of, lent_of}
use Rattle.levels.proofs.LevelLaws.{put_no, put_is}
use Rattle.levels.proofs.level.put_object.Goals as goal

pub returns-in_err-t-clause-is : goal.returns-in_err-t-clause-is
returns-in_err-t-clause-is c =
    let a = c.args in
    let p = err_from_is_err_and c.from_residual.result c.from_residual.ensures.1 in
    rw (p.1, p.2) (put_no (input_of a.w.now) a.outer.object a.outer.done a.child a.s _ (lent_of a.w.now) _ c.words_in-index.ensures c.from.ensures c.in_err-t.ensures.is)

pub returns-clause-is : goal.returns-clause-is
returns-clause-is c =
    let a = c.args in
    rw c.word_bytes-word.ensures.0 (put_is (input_of a.w.now) a.outer.object a.outer.done a.child a.s _ (lent_of a.w.now) _ c.words_in-index.ensures c.from.ensures c.in_ok-t.ensures.is)
