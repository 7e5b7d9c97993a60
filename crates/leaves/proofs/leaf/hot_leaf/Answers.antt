use Rattle.std.proofs.Common.{rules}
use Rattle.backref.specs.HotRing.{hot_at}
use Rattle.leaves.proofs.LeafLaws.{hot_found, hot_missing}
use Rattle.leaves.proofs.leaf.hot_leaf.Goals as goal

pub returns-clause-some : goal.returns-clause-some
unfolding hot_at
returns-clause-some c = λ p objects. rw c.reference.ensures (hot_found p _ objects _ _ _ (search rules) _ c.in_ok-r.was)

pub returns-in_err-get-clause-none : goal.returns-in_err-get-clause-none
unfolding hot_at
returns-in_err-get-clause-none c = λ none p objects. hot_missing p _ objects _ _ _ (search rules)

pub returns-in_err-r-clause-none : goal.returns-in_err-r-clause-none
unfolding hot_at
returns-in_err-r-clause-none c = λ none p objects. hot_missing p _ objects _ _ _ (search rules)
