-- Where the index keeps what: lists, buckets and links lie apart. Assumes nothing.
use Rattle.std.specs.Prelude.{if◌then◌else◌, ◌≡◌, ◌≢◌, Bool, true, false, ℕ, ◌+◌, ◌-◌, ◌*◌, ◌/◌, ◌%◌, ◌<◌, ◌≤◌, eqb}
use Rattle.std.proofs.Common.{refl, sym, subst, arith}
use Rattle.std.proofs.lemmas.Nat.{mod_below, same_from_place, mul-add-lt}
use Rattle.std.proofs.Math.Nat.{mod-eq_of_lt, mod-eq-sub-mod}
use borrow.Author.Tests.{eqb-true, eqb-false}
use Rattle.address_index.specs.Layout.{list_cell, block, block_start, in_block, bucket}

-- lists lie before the buckets
pub list_low : (r space k : ℕ) → space < 8 → k < r → (9 ≤ list_cell r space k) × (list_cell r space k < 9 + r * 4)
list_low r space k low l = go (eqb (space % 2) 0)
  where
    half : space / 2 < 4
    half = omega (arith, low)

    go : (d : Bool) → (9 ≤ 9 + space / 2 * r + (if d then k else r - 1 - k)) × (9 + space / 2 * r + (if d then k else r - 1 - k) < 9 + r * 4)
    go true = let z = mul-add-lt (space / 2) r k 4 half l in (omega arith, omega (arith, z))
    go false = let z = mul-add-lt (space / 2) r (r - 1 - k) 4 half (omega (arith, l)) in (omega arith, omega (arith, z))

-- two places of lists: of one space with two numbers, or of two spaces that together have no more
-- records than there is room for
pub list_apart : (r s k s' k' : ℕ) → k < r → k' < r → (s ≡ s' → k ≢ k') → (s ≢ s' → k + k' + 1 < r) → list_cell r s k ≢ list_cell r s' k'
list_apart r s k s' k' l l' same other e = go (eqb (s % 2) 0) (eqb (s' % 2) 0) refl refl e
  where
    places : (b b' : ℕ) → b < r → b' < r → 9 + s / 2 * r + b ≡ 9 + s' / 2 * r + b' → (s / 2 ≡ s' / 2) × (b ≡ b')
    places b b' h h' q = same_from_place (s / 2) b (s' / 2) b' r h h' (omega (arith, q))

    mixed : (s % 2 ≡ 0 → ⊥) → s' % 2 ≡ 0 → s ≢ s'
    mixed x y q = x (subst (λ (z : ℕ). z % 2 ≡ 0) (sym q) y)

    mixed' : s % 2 ≡ 0 → (s' % 2 ≡ 0 → ⊥) → s ≢ s'
    mixed' x y q = y (subst (λ (z : ℕ). z % 2 ≡ 0) q x)

    go : (a b : Bool) → eqb (s % 2) 0 ≡ a → eqb (s' % 2) 0 ≡ b → 9 + s / 2 * r + (if a then k else r - 1 - k) ≡ 9 + s' / 2 * r + (if b then k' else r - 1 - k') → ⊥
    go true true p q e =
        let z = places k k' l l' e in
        let x = eqb-true _ _ p in
        let y = eqb-true _ _ q in
        same (omega (arith, z.0, x, y)) z.1
    go true false p q e =
        let z = places k (r - 1 - k') l (omega (arith, l')) e in
        let o = other (mixed' (eqb-true _ _ p) (eqb-false _ _ q)) in
        omega (arith, z.1, l', o)
    go false true p q e =
        let z = places (r - 1 - k) k' (omega (arith, l)) l' e in
        let o = other (mixed (eqb-false _ _ p) (eqb-true _ _ q)) in
        omega (arith, z.1, l, o)
    go false false p q e =
        let z = places (r - 1 - k) (r - 1 - k') (omega (arith, l)) (omega (arith, l')) e in
        let x = eqb-false _ _ p in
        let y = eqb-false _ _ q in
        same (omega (arith, z.0, x, y)) (omega (arith, z.1, l, l'))

-- a bucket below the last, and one that is counted on from the first
module _ (r seed space chunk offset s : ℕ) (e : s ≡ block_start r seed (block space chunk offset)) where
  pub bucket_low : s + in_block offset < r * 3 → (s + in_block offset ≡ bucket r seed space chunk offset) × (s + in_block offset < r * 3)
  unfolding bucket
  bucket_low q = (rw (← e) (sym (mod-eq_of_lt q)), q)

  pub bucket_around : 0 < r → r * 3 ≤ s + in_block offset → ((s + in_block offset - r * 3) % (r * 3) ≡ bucket r seed space chunk offset) × ((s + in_block offset - r * 3) % (r * 3) < r * 3)
  unfolding bucket
  bucket_around l q = (rw (← e) (sym (mod-eq-sub-mod q)), mod_below _ (r * 3) (omega (arith, l)))
