-- A table with zeros after it: what is read of it, written into it and searched in it is the same.
-- Assumes nothing.
use Rattle.std.specs.Prelude.{◌≡◌, List, [], ◌∷◌, ◌++◌, get_or, set, replicate}
use Rattle.std.proofs.Math.Path.{refl}
use Rattle.std.proofs.Common.{ap, ◌∙◌, arith, length-set}
use Prim.Native.Nat.{ℕ, zero, suc, ◌+◌, ◌-◌, ◌*◌, ◌<◌, ◌≤◌}
use Rattle.std.proofs.Math.ListN.{length}
use Rattle.std.proofs.lemmas.List.Edits.{sets}
use Rattle.std.proofs.lemmas.List.{set-append_left}
use Rattle.alloc.specs.Fill.{fill_to_align}
use Rattle.alloc.specs.Resolve.{addressed, resolve_of, ordinal_from}
use Rattle.definition.specs.Slots.{waiter}

abbrev pub wide : ℕ → List ℕ → List ℕ
wide k t = t ++ replicate k 0

pub zeros_get : (k i : ℕ) → ◌≡◌ {A = ℕ} (get_or (replicate k 0) i 0) 0
zeros_get zero i = refl
zeros_get (suc k) zero = refl
zeros_get (suc k) (suc i) = zeros_get k i

pub wide_get : (k : ℕ) (t : List ℕ) (i : ℕ) → get_or (wide k t) i 0 ≡ get_or t i 0
wide_get k [] i = zeros_get k i
wide_get k (x ∷ t) zero = refl
wide_get k (x ∷ t) (suc i) = wide_get k t i

pub wide_sets : (k : ℕ) (vs t : List ℕ) (i : ℕ) → i + length vs ≤ length t → sets (wide k t) i vs ≡ wide k (sets t i vs)
wide_sets k [] t i h = refl
wide_sets k (v ∷ vs) t i h =
    ap (λ (l : List ℕ). sets l (suc i) vs) (set-append_left t (replicate k 0) i v (omega arith))
    ∙ wide_sets k vs (set t i v) (suc i) (rw length-set (omega arith))

-- searches, of tables that have the same in the records that are searched
module _ (t u : List ℕ) where
  pub waiter_same : (number n : ℕ) → ((i : ℕ) → i < n * 6 → get_or u i 0 ≡ get_or t i 0) → waiter u number n ≡ waiter t number n
  unfolding waiter
  waiter_same number zero same = refl
  waiter_same number (suc n) same =
      rw (same (n * 6 + 5) (omega arith), same (n * 6 + 3) (omega arith), waiter_same number n (λ i l. same i (omega arith)))

  addressed_same : (space chunk offset n : ℕ) → ((i : ℕ) → i < n * 5 → get_or u i 0 ≡ get_or t i 0) → addressed u space chunk offset n ≡ addressed t space chunk offset n
  unfolding addressed
  addressed_same space chunk offset zero same = refl
  addressed_same space chunk offset (suc n) same =
      rw (same (n * 5 + 0) (omega arith), same (n * 5 + 1) (omega arith), same (n * 5 + 2) (omega arith), same (n * 5 + 3) (omega arith), same (n * 5 + 4) (omega arith), addressed_same space chunk offset n (λ i l. same i (omega arith)))

  pub resolve_of_same : (n space chunk offset alignment word : ℕ) → ((i : ℕ) → i < n * 5 → get_or u i 0 ≡ get_or t i 0) → resolve_of u n space chunk offset alignment word ≡ resolve_of t n space chunk offset alignment word
  unfolding resolve_of
  resolve_of_same n space chunk offset alignment word same =
      rw (addressed_same space chunk offset n same, addressed_same space chunk (offset + fill_to_align offset alignment word) n same)

  pub ordinal_from_same : (space index k n : ℕ) → ((i : ℕ) → i < (k + n) * 5 → get_or u i 0 ≡ get_or t i 0) → ordinal_from u space index k n ≡ ordinal_from t space index k n
  unfolding ordinal_from
  ordinal_from_same space index k zero same = refl
  ordinal_from_same space index k (suc n) same =
      let more : (i : ℕ) → i < (k + 1 + n) * 5 → get_or u i 0 ≡ get_or t i 0 = (λ i l. same i (omega arith)) in
      rw (same (k * 5 + 0) (omega arith), same (k * 5 + 3) (omega arith), ordinal_from_same space (index - 1) (k + 1) n more, ordinal_from_same space index (k + 1) n more)
