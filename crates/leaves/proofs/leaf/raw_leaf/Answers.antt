use mathlib.Core.Path.{sym, ◌∙◌}
use Rattle.leaves.proofs.LeafLaws.{raw_found, raw_missing}
use Rattle.leaves.proofs.leaf.raw_leaf.Goals as goal

pub returns-clause-some : goal.returns-clause-some
returns-clause-some c = λ hot objects. raw_found _ hot objects _ _ _ _ c.requires.0 (sym c.raw.ensures ∙ c.in_ok-next.was)

pub returns-in_err-next-clause-none : goal.returns-in_err-next-clause-none
returns-in_err-next-clause-none c = λ none hot objects. raw_missing _ hot objects _ _ _ (sym c.raw.ensures ∙ c.in_err-next.was)
