use Rattle.heads.proofs.Answers.{Left}
use Rattle.heads.proofs.heads.claim_all.Given as goal

abbrev pub invariant-loop-c : goal.invariant-loop-c
invariant-loop-c l = Left l.sheet l.c-iterator.iter.rest.now l.heads
