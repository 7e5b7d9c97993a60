use mathlib.Core.Path.{◌≡◌, ◌∙◌, refl, sym, subst}
use mathlib.Core.Logic.{inl, inr}
use native.Mathlib.Omega.{arith}
use Prim.Native.Nat.{ℕ, ◌+◌}
use lib.ListN.{length}
use Rattle.address_index.specs.Layout.{capacity}
use Rattle.address_index.specs.Links.{Lists}
use Rattle.address_index.specs.Entries.{OffList}
use Rattle.address_index.proofs.LinkLaws.{off_before, off_behind, bucket_else, bucket_chains, list_else, list_lists, lists_before, chains_behind, list_skips, links_of}
use Rattle.address_index.proofs.links.add_entry.Goals as goal

-- ---- a space without a list

pub returns-else-entry-lt-LISTED_SPACES-clause-linked : goal.returns-else-entry-lt-LISTED_SPACES-clause-linked
returns-else-entry-lt-LISTED_SPACES-clause-linked c =
    let a = c.args in
    let q = c.requires.0 in
    let others = bucket_else a.index.now a.n a.entry.bucket c.requires.1.bucket_low c.add_to_bucket.ensures in
    λ t is linked _.
    let w = linked (omega (arith, q)) in
    links_of a.index.now c.add_to_bucket.auto.index (others 8 (off_before _ _ _ _ (omega arith)))
    (list_skips (rw is.space at c.if-entry-lt-LISTED_SPACES.false) (lists_before (omega (arith, q)) (λ x l. others x (off_before _ _ _ x l)) w.lists))
    (bucket_chains a.index.now a.n a.entry.bucket c.requires.1.bucket_low c.add_to_bucket.ensures q t _ is.bucket w.chains)

pub returns-else-entry-lt-LISTED_SPACES-clause-seed : goal.returns-else-entry-lt-LISTED_SPACES-clause-seed
returns-else-entry-lt-LISTED_SPACES-clause-seed c =
    bucket_else c.args.index.now c.args.n c.args.entry.bucket c.requires.1.bucket_low c.add_to_bucket.ensures 8 (off_before _ _ _ _ (omega arith))

pub returns-else-entry-lt-LISTED_SPACES-clause-others : goal.returns-else-entry-lt-LISTED_SPACES-clause-others
returns-else-entry-lt-LISTED_SPACES-clause-others c =
    λ x o. bucket_else c.args.index.now c.args.n c.args.entry.bucket c.requires.1.bucket_low c.add_to_bucket.ensures x o.off_bucket

-- ---- and one with a list

pub returns-then-entry-lt-LISTED_SPACES-clause-linked : goal.returns-then-entry-lt-LISTED_SPACES-clause-linked
returns-then-entry-lt-LISTED_SPACES-clause-linked c =
    let a = c.args in
    let low = c.if-entry-lt-LISTED_SPACES.true in
    let small = c.requires.1.number_low low in
    let q = c.requires.0 in
    let e : capacity (length c.add_to_bucket.new.index) ≡ capacity (length a.index.now) = rw c.add_to_bucket.auto.index in
    let others = bucket_else a.index.now a.n a.entry.bucket c.requires.1.bucket_low c.add_to_bucket.ensures in
    let behind = list_else c.add_to_bucket.new.index a.n a.entry.space a.entry.number low small (rw e q) c.add_to_list.ensures in
    λ t is linked _.
    let w = linked (omega (arith, q)) in
    let before : Lists t a.n (capacity (length a.index.now)) c.add_to_bucket.new.index = lists_before (omega (arith, q)) (λ x l. others x (off_before _ _ _ x l)) w.lists in
    let seed = behind 8 (off_behind a.index.now a.n _ a.entry.space a.entry.number low small (rw e q) 8 (inl refl)) ∙ others 8 (off_before _ _ _ _ (omega arith)) in
    links_of a.index.now (c.add_to_list.auto.index ∙ c.add_to_bucket.auto.index) seed
    (subst (λ (r : ℕ). Lists t (a.n + 1) r c.add_to_list.new.index) e (list_lists c.add_to_bucket.new.index a.n a.entry.space a.entry.number low small (rw e q) c.add_to_list.ensures t (sym is.space) (is.number low) (subst (λ (r : ℕ). Lists t a.n r c.add_to_bucket.new.index) (sym e) before)))
    (chains_behind (λ x h. behind x (subst (λ (r : ℕ). OffList r a.entry.space a.entry.number x) (sym e) (off_behind a.index.now a.n _ a.entry.space a.entry.number low small q x (inr h))))
    (bucket_chains a.index.now a.n a.entry.bucket c.requires.1.bucket_low c.add_to_bucket.ensures q t _ is.bucket w.chains))

pub returns-then-entry-lt-LISTED_SPACES-clause-seed : goal.returns-then-entry-lt-LISTED_SPACES-clause-seed
returns-then-entry-lt-LISTED_SPACES-clause-seed c =
    let a = c.args in
    let low = c.if-entry-lt-LISTED_SPACES.true in
    let small = c.requires.1.number_low low in
    let e : capacity (length c.add_to_bucket.new.index) ≡ capacity (length a.index.now) = rw c.add_to_bucket.auto.index in
    list_else c.add_to_bucket.new.index a.n a.entry.space a.entry.number low small (rw e c.requires.0) c.add_to_list.ensures 8 (off_behind a.index.now a.n _ a.entry.space a.entry.number low small (rw e c.requires.0) 8 (inl refl))
    ∙ bucket_else a.index.now a.n a.entry.bucket c.requires.1.bucket_low c.add_to_bucket.ensures 8 (off_before _ _ _ _ (omega arith))

pub returns-then-entry-lt-LISTED_SPACES-clause-others : goal.returns-then-entry-lt-LISTED_SPACES-clause-others
returns-then-entry-lt-LISTED_SPACES-clause-others c =
    let a = c.args in
    let low = c.if-entry-lt-LISTED_SPACES.true in
    let e : capacity (length c.add_to_bucket.new.index) ≡ capacity (length a.index.now) = rw c.add_to_bucket.auto.index in
    λ x o.
    list_else c.add_to_bucket.new.index a.n a.entry.space a.entry.number low (c.requires.1.number_low low) (rw e c.requires.0) c.add_to_list.ensures x (subst (λ (r : ℕ). OffList r a.entry.space a.entry.number x) (sym e) (o.off_list low))
    ∙ bucket_else a.index.now a.n a.entry.bucket c.requires.1.bucket_low c.add_to_bucket.ensures x o.off_bucket
