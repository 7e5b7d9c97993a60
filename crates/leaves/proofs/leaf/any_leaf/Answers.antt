use Rattle.leaves.proofs.LeafLaws.{found_in, missing_in, item_leaf}
use Rattle.leaves.proofs.leaf.any_leaf.Goals as goal

pub returns-in_default-clause-found : goal.returns-in_default-clause-found
returns-in_default-clause-found c =
    rw (← c.in_ok-head.ensures.some.is) (found_in c.args.w.now c.args.s _ _ _ c.leaf_of.result c.leaf_of.ensures.some)

pub returns-in-LegacyBackref-clause-found : goal.returns-in-LegacyBackref-clause-found
returns-in-LegacyBackref-clause-found c = rw (← c.in_ok-head.ensures.some.is, c.in-LegacyBackref.is) c.legacy_leaf.ensures.some

pub returns-in_default-clause-none : goal.returns-in_default-clause-none
returns-in_default-clause-none c =
    let a = c.args in
    let e = c.in_ok-head.ensures.some.is in
    λ none b tag inner. rw (← e) (missing_in a.w.now a.s _ _ _ (c.leaf_of.ensures.none none (item_leaf _ c.in_default.not-LegacyBackref (rw (← e) at b.1))) tag inner)
