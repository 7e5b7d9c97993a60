-- Sums of a function over numbers in a row. Assumes nothing.
use Rattle.std.specs.Prelude.{◌≡◌, ◌≢◌, refl, zero, suc, Bool, true, false, if◌then◌else◌, ◌==◌, List, slice_index, ℕ, ◌+◌, ◌-◌, ◌<◌, ◌≤◌}
use Rattle.std.proofs.Common.{arith, sym, ap, subst, ⊎_elim}
use Rattle.std.proofs.lemmas.Bool.{cases_eq}
use Rattle.filled.specs.declared.filled.Filled.{Filled}
use Rattle.kept.specs.Bytes.{total_from, size_of, marked_size}

-- one more
pub total_more : (f : ℕ → ℕ) (start k : ℕ) → start ≤ k → total_from f start (k + 1 - start) ≡ total_from f start (k - start) + f k
total_more f start k h =
    let n : k + 1 - start ≡ suc (k - start) = omega arith in
    let at : start + (k - start) ≡ k = omega arith in
    rw n (ap (λ (j : ℕ). total_from f start (k - start) + f j) at)

total_grows : (f : ℕ → ℕ) (start n d : ℕ) → total_from f start n ≤ total_from f start (n + d)
total_grows f start n zero = let e : n + 0 ≡ n = omega arith in rw e (omega arith)
total_grows f start n (suc d) =
    let e : n + suc d ≡ suc (n + d) = omega arith in
    let h = total_grows f start n d in
    rw e (omega (arith, h))

pub total_mono : (f : ℕ → ℕ) (start n m : ℕ) → n ≤ m → total_from f start n ≤ total_from f start m
total_mono f start n m h =
    let e : n + (m - n) ≡ m = omega arith in
    subst (λ (k : ℕ). total_from f start n ≤ total_from f start k) e (total_grows f start n (m - n))

pub total_below : (f g : ℕ → ℕ) (start n : ℕ) → ((k : ℕ) → f k ≤ g k) → total_from f start n ≤ total_from g start n
total_below f g start zero h = omega arith
total_below f g start (suc n) h =
    let before = total_below f g start n h in
    let here = h (start + n) in
    omega (arith, before, here)

pub total_small : (f : ℕ → ℕ) (start n : ℕ) → ((k : ℕ) → f k ≤ 1) → total_from f start n ≤ n
total_small f start zero h = omega arith
total_small f start (suc n) h =
    let before = total_small f start n h in
    let here = h (start + n) in
    omega (arith, before, here)

pub total_zero : (f : ℕ → ℕ) (start n : ℕ) → ((k : ℕ) → f k ≡ 0) → total_from f start n ≡ 0
total_zero f start zero h = refl
total_zero f start (suc n) h =
    let before = total_zero f start n h in
    let here = h (start + n) in
    omega (arith, before, here)

total_same : (f g : ℕ → ℕ) (start n : ℕ) → ((k : ℕ) → k < start + n → f k ≡ g k) → total_from f start n ≡ total_from g start n
total_same f g start zero h = refl
total_same f g start (suc n) h =
    let before = total_same f g start n (λ k l. h k (omega (arith, l))) in
    let here = h (start + n) (omega arith) in
    omega (arith, before, here)

-- one value is 1 higher
pub total_change : (f g : ℕ → ℕ) (start n q : ℕ) → start ≤ q → q < start + n → g q ≡ f q + 1 → ((k : ℕ) → k ≢ q → g k ≡ f k) → total_from g start n ≡ total_from f start n + 1
total_change f g start zero q a b e other = absurd (omega arith)
total_change f g start (suc n) q a b e other =
    ⊎_elim
    (λ (at : q ≡ start + n).
    let before = total_same g f start n (λ k l. other k (λ u. omega (arith, l, u, at))) in
    let here : g (start + n) ≡ f (start + n) + 1 = subst (λ (j : ℕ). g j ≡ f j + 1) at e in
    omega (arith, before, here))
    (λ away.
    let before = total_change f g start n q a (omega (arith, b, away)) e other in
    let here = other (start + n) (λ u. away (sym u)) in
    omega (arith, before, here))
    (cases_eq q (start + n))

-- the byte size of a marked object, and at most that
pub marked_on : (part : Filled) (marks : List ℕ) (o : ℕ) → (slice_index marks o == 1) ≡ true → marked_size part marks o ≡ size_of part o
marked_on part marks o e = rw e refl

pub marked_below : (part : Filled) (marks : List ℕ) (o : ℕ) → marked_size part marks o ≤ size_of part o
marked_below part marks o = go (slice_index marks o == 1)
  where
    go : (b : Bool) → (if b then size_of part o else 0) ≤ size_of part o
    go true = omega arith
    go false = omega arith
