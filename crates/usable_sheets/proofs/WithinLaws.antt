-- A test of some numbers of a sheet, from the test of each. Assumes nothing.
use Rattle.std.proofs.Common.{◌≡◌, refl, sym, Bool, true, false, List, ℕ, zero, suc, ◌+◌, ◌<◌, ◌≤◌, length, get_or, arith}
use mathlib.Core.Bool.{and-false}
use mathlib.Core.Logic.{⊎_elim}
use native.Mathlib.Nat.{eq-or-lt_of_le}
use Rattle.std.specs.Bool.{MatchBool}
use Rattle.std.specs.List.{range_with_len, AllWithin, HoldsAt}
use Rattle.std.proofs.lemmas.List.FromFn.{length-range_with_len, get_or-range_with_len}
use Rattle.sheet.specs.Sheet.{number, within, all_within}

item : (n k : ℕ) → k < n → get_or (range_with_len 0 n) k 0 ≡ k
item n k h = omega (arith, get_or-range_with_len 0 n k 0 h)

module _ (v : List ℕ) (most : ℕ) (absent : Bool) where
  -- the test of the number at a place
  abbrev pub Tests : Bool → ℕ → Type 0
  Tests t k = within most absent (number v k) ≡ t

  from_each : (n at : ℕ) → ((k : ℕ) → at ≤ k → k < at + n → Tests true k) → all_within v most absent at n ≡ true
  unfolding all_within
  from_each zero at h = refl
  from_each (suc n) at h =
      rw (h at (omega arith) (omega arith)) (from_each n (at + 1) (λ k l m. h k (omega arith) (omega arith)))

  from_one : (n at k : ℕ) → at ≤ k → k < at + n → Tests false k → all_within v most absent at n ≡ false
  unfolding all_within
  from_one zero at k l m e = absurd (omega arith)
  from_one (suc n) at k l m e =
      ⊎_elim (λ (q : at ≡ k). let f : Tests false at = rw q e in rw f) (λ r. rw (from_one n (at + 1) k (omega arith) (omega arith) e, and-false)) (eq-or-lt_of_le l)

  pub decided : (n : ℕ) (r : Bool) → MatchBool r (AllWithin (Tests true) (range_with_len 0 n) 0 (length (range_with_len 0 n))) ((k : ℕ) × (k < length (range_with_len 0 n)) × HoldsAt (Tests false) (range_with_len 0 n) k) → r ≡ all_within v most absent 0 n
  decided n true h =
      sym (from_each n 0 (λ k _ m. let l : k < n = omega arith in rw (item n k l) at (h k 0 (omega arith) (rw length-range_with_len l))))
  decided n false h =
      let l : h.0 < n = rw length-range_with_len at h.1 in
      sym (from_one n 0 h.0 (omega arith) (omega arith) (rw (item n h.0 l) at (h.2 0)))
