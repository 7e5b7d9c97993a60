use Rattle.std.proofs.lemmas.Result.{err_from_is_err_and}
use Rattle.readers.proofs.PrefixLaws.{chunk_no, chunk_on, root_is, count_cut, count_on, root_cut, root_counted, root_begins}
use Rattle.readers.proofs.prefix.begin.Goals as goal

pub returns-in_err-space-in-NextChunk-clause-begins : goal.returns-in_err-space-in-NextChunk-clause-begins
returns-in_err-space-in-NextChunk-clause-begins c = let p = err_from_is_err_and c.from_residual.result c.from_residual.ensures.1 in rw (p.1, p.2) (λ tag r. chunk_no _ r tag _ _ c.in-NextChunk.is (c.in_err-space-in-NextChunk.ensures.by_index _ _ _ _))

pub returns-in_ok-space-in-NextChunk-clause-begins : goal.returns-in_ok-space-in-NextChunk-clause-begins
returns-in_ok-space-in-NextChunk-clause-begins c = λ tag r. rw c.next_chunk.ensures (chunk_on _ r tag _ _ c.in-NextChunk.is (c.in_ok-space-in-NextChunk.ensures.by_index _ _ _ _))

pub returns-in-FixedRepeatRoot-clause-begins : goal.returns-in-FixedRepeatRoot-clause-begins
returns-in-FixedRepeatRoot-clause-begins c = λ tag. root_begins _ tag _ _ _ _ _ _ _ (λ r. root_is _ r tag _ _ c.in-FixedRepeatRoot.is) (c.repeat_root.ensures _ _ _ _)

pub returns-in_err-n-in-VariableRepeat-clause-begins : goal.returns-in_err-n-in-VariableRepeat-clause-begins
returns-in_err-n-in-VariableRepeat-clause-begins c = let p = err_from_is_err_and c.from_residual-in_err-n-in-VariableRepeat.result c.from_residual-in_err-n-in-VariableRepeat.ensures.1 in rw (p.1, p.2) (λ tag r. count_cut _ r tag _ _ c.in-VariableRepeat.is (c.in_err-n-in-VariableRepeat.ensures.by_index _ _ _ _))

pub returns-in_ok-n-in-VariableRepeat-clause-begins : goal.returns-in_ok-n-in-VariableRepeat-clause-begins
returns-in_ok-n-in-VariableRepeat-clause-begins c = λ tag r. count_on _ r tag _ _ c.in-VariableRepeat.is (c.in_ok-n-in-VariableRepeat.ensures.by_index _ _ _ _)

pub returns-in_err-n-in-VariableRepeatRoot-clause-begins : goal.returns-in_err-n-in-VariableRepeatRoot-clause-begins
returns-in_err-n-in-VariableRepeatRoot-clause-begins c = let p = err_from_is_err_and c.from_residual-in_err-n-in-VariableRepeatRoot.result c.from_residual-in_err-n-in-VariableRepeatRoot.ensures.1 in rw (p.1, p.2) (λ tag r. root_cut _ r tag _ _ c.in-VariableRepeatRoot.is (c.in_err-n-in-VariableRepeatRoot.ensures.by_index _ _ _ _))

pub returns-in_ok-n-in-VariableRepeatRoot-clause-begins : goal.returns-in_ok-n-in-VariableRepeatRoot-clause-begins
returns-in_ok-n-in-VariableRepeatRoot-clause-begins c = λ tag. root_begins _ tag _ _ _ _ _ _ _ (λ r. root_counted _ r tag _ _ c.in-VariableRepeatRoot.is (c.in_ok-n-in-VariableRepeatRoot.ensures.by_index _ _ _ _)) (c.repeat_root-in-VariableRepeatRoot.ensures _ _ _ _)
