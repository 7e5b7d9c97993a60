use Rattle.std.specs.Prelude.{Some}
use Rattle.leaves.proofs.LeafLaws.{found_kind, root_found}
use Rattle.leaves.proofs.leaf.leaf_of.Goals as goal

pub returns-in-Backref-clause-some : goal.returns-in-Backref-clause-some
returns-in-Backref-clause-some c = rw (← c.word_bytes-word.ensures.0) (found_kind _ _ _ _ _ _ _ c.in-Backref.is (c.back_leaf.ensures.some _ _))

pub returns-in-Hot-clause-some : goal.returns-in-Hot-clause-some
returns-in-Hot-clause-some c = rw (← c.word_bytes-word.ensures.0) (found_kind _ _ _ _ _ _ _ c.in-Hot.is (c.hot_leaf.ensures.some _ _))

pub returns-in-RootArray-clause-some : goal.returns-in-RootArray-clause-some
returns-in-RootArray-clause-some c = rw (← c.word_bytes-word.ensures.0) (found_kind _ _ _ _ _ _ _ c.in-RootArray.is (c.root_array_leaf.ensures.some _ _ _))

pub returns-in-RootConstant-clause-some : goal.returns-in-RootConstant-clause-some
returns-in-RootConstant-clause-some c =
    let a = c.args in
    rw (← c.word_bytes-word.ensures.0, c.reference.ensures) (found_kind _ _ _ _ _ _ (Some _) c.in-RootConstant.is (root_found a.w.now.payload.now a.w.now.hot a.objects c.word_bytes-word.result a.at a.head.argument))

pub returns-in-ReadOnly-clause-some : goal.returns-in-ReadOnly-clause-some
returns-in-ReadOnly-clause-some c = rw (← c.word_bytes-word.ensures.0) (found_kind _ _ _ _ _ _ _ c.in-ReadOnly.is (c.read_only_leaf.ensures.some _ _ _))

pub returns-in-FixedRaw-clause-some : goal.returns-in-FixedRaw-clause-some
returns-in-FixedRaw-clause-some c = rw (← c.word_bytes-word.ensures.0) (found_kind _ _ _ _ _ _ _ c.in-FixedRaw.is (c.raw_leaf.ensures.some _ _))
