-- What a usable sheet gives, and the laws of conjunctions and bounds that lead there. Assumes
-- nothing.
use mathlib.Core.Path.{◌≡◌, refl}
use mathlib.Core.Bool.{Bool, true, false, not, ◌&&◌, ◌||◌}
use mathlib.Core.Logic.{◌⊎◌, inl, inr, ⊎_elim}
use mathlib.Core.List.{List, [], ◌∷◌}
use Prim.Native.Nat.{ℕ, zero, suc, ◌+◌, ◌<◌, ◌≤◌}
use native.Mathlib.Omega.{arith}
use lib.Dec.{leb, eqb}
use lib.ListN.{length, get_or}
use borrow.Author.Tests.{leb-true, eqb-true, eqb-false, not-true}
use Rattle.std.proofs.lemmas.Bool.{and_parts, or_cases}
use Rattle.sheet.specs.Names.{k_new_object, k_backref, k_hot_object, k_root_array_constants, k_fixed_raw_data, k_alignment_prefix, k_hot_object_with_skip, k_root_array_constants_with_skip, k_fixed_repeat, k_fixed_repeat_root, k_backref_with_skip}
use Rattle.sheet.specs.Sheet.{number, present, number_of_spaces, root_mask, word_bytes, page_size_bits, space_tag_size, is_legacy, is_six_x, has_length, has_word_size, within, all_within, has_required, numbers_fit, between, space_tag_size_fits, page_size_bits_fits, six_x_is_legacy, span_fits, spans_fit, legacy_spans_fit, usable}
use Rattle.sheet.specs.Usable.{SpanFits, Usable}

-- `not a || b` is an implication
pub implies : (a b : Bool) → not a || b ≡ true → a ≡ true → b ≡ true
implies true b e h = e
implies false b e h = cc

-- a conjunction of any length, as a chain of `&&` nests it
abbrev all_of : Bool → List Bool → Bool
all_of a [] = a
all_of a (b ∷ l) = all_of (a && b) l

all_first : (a : Bool) (l : List Bool) → all_of a l ≡ true → a ≡ true
all_first a [] e = e
all_first a (b ∷ l) e = (and_parts a b (all_first (a && b) l e)).0

all_at : (a : Bool) (l : List Bool) → all_of a l ≡ true → (k : ℕ) → get_or l k true ≡ true
all_at a [] e k = refl
all_at a (b ∷ l) e zero = (and_parts a b (all_first (a && b) l e)).1
all_at a (b ∷ l) e (suc k) = all_at (a && b) l e k

-- each part of a conjunction that holds
pub parts : (l : List Bool) → all_of true l ≡ true → (k : ℕ) → get_or l k true ≡ true
parts = all_at true

between_low : (low high x : ℕ) → between low high x ≡ true → low ≤ x
between_low low high x e = leb-true low x (and_parts (leb low x) (leb x high) e).0

between_high : (low high x : ℕ) → between low high x ≡ true → x ≤ high
between_high low high x e = leb-true x high (and_parts (leb low x) (leb x high) e).1

pub one_of : (x a b : ℕ) → eqb x a || eqb x b ≡ true → (x ≡ a) ⊎ (x ≡ b)
one_of x a b e = ⊎_elim (λ h. inl (eqb-true x a h)) (λ h. inr (eqb-true x b h)) (or_cases (eqb x a) (eqb x b) e)

-- the bound from the test of a span
span_bound : (v : List ℕ) (k n : ℕ) → span_fits v k n ≡ true → SpanFits v k n
span_bound v k n e h = leb-true (number v k + n) 255 (implies (present v k) (leb (number v k + n) 255) e h)

module _ (most x : ℕ) where
  -- a number that may be absent is bounded or absent
  bounded_or_absent : within most true x ≡ true → (x ≤ most) ⊎ (x ≡ 65535)
  bounded_or_absent e = ⊎_elim (λ h. inl (leb-true x most h)) (λ h. inr (eqb-true x 65535 h)) (or_cases (leb x most) (eqb x 65535) e)

  -- a number that must be present is bounded
  pub bounded : within most false x ≡ true → x ≤ most
  bounded e = ⊎_elim (leb-true x most) (λ h. leb-true x most (cc)) (or_cases (leb x most) false e)

-- each of the numbers that `all_within` goes through is within
within_at : (v : List ℕ) (most : ℕ) (absent : Bool) (n at i k : ℕ) → all_within v most absent at n ≡ true → i < n → k ≡ at + i → within most absent (number v k) ≡ true
unfolding all_within
within_at v most absent zero at i k e h q = absurd (omega arith)
within_at v most absent (suc n) at zero k e h q =
    let at_first : k ≡ at = omega arith in
    rw at_first (and_parts (within most absent (number v at)) (all_within v most absent (at + 1) n) e).0
within_at v most absent (suc n) at (suc i) k e h q = within_at v most absent n (at + 1) i k (and_parts (within most absent (number v at)) (all_within v most absent (at + 1) n) e).1 (omega arith) (omega arith)

module _ (v : List ℕ) where
  abbrev clauses : List Bool
  clauses = has_length v ∷ has_word_size v ∷ has_required v ∷ numbers_fit v ∷ space_tag_size_fits v ∷ page_size_bits_fits v ∷ six_x_is_legacy v ∷ spans_fit v ∷ legacy_spans_fit v ∷ []

  abbrev spans : List Bool
  spans = span_fits v k_hot_object 8 ∷ span_fits v k_hot_object_with_skip 8 ∷ span_fits v k_root_array_constants (root_mask v + 1) ∷ span_fits v k_root_array_constants_with_skip (root_mask v + 1) ∷ span_fits v k_fixed_raw_data 32 ∷ span_fits v k_fixed_repeat 16 ∷ span_fits v k_fixed_repeat_root 16 ∷ span_fits v k_alignment_prefix 3 ∷ []

  abbrev legacy_spans : List Bool
  legacy_spans = span_fits v k_new_object (number_of_spaces v) ∷ span_fits v k_backref (number_of_spaces v) ∷ span_fits v k_backref_with_skip (number_of_spaces v) ∷ []

  pub usable_gives : usable v ≡ true → Usable v
  unfolding usable
  usable_gives u =
      let e = parts clauses u in
      let s = parts spans (e 7) in
      let l : is_legacy v ≡ true → (k : ℕ) → get_or legacy_spans k true ≡ true = λ h. parts legacy_spans (implies (is_legacy v) (all_of true legacy_spans) (e 8) h) in
      let n : (k : ℕ) → k < 56 → (number v k ≤ 255) ⊎ (number v k ≡ 65535) = λ k h. bounded_or_absent 255 (number v k) (within_at v 255 true 56 0 k k (e 3) h (omega arith)) in
      let r : (k : ℕ) → k < 9 → number v k ≤ 65534 = λ k h. bounded 65534 (number v k) (within_at v 65534 false 9 0 k k (e 2) h (omega arith)) in
      record {
        size = eqb-true (length v) 58 (e 0);
        word = one_of (word_bytes v) 4 8 (e 1);
        numbers = n;
        required = λ k h. ⊎_elim (λ b. b) (λ a. omega (arith, r k h)) (n k (omega arith));
        tag_size_low = between_low 1 16 (space_tag_size v) (e 4);
        tag_size_high = between_high 1 16 (space_tag_size v) (e 4);
        page_bits_low = between_low 3 28 (page_size_bits v) (e 5);
        page_bits_high = between_high 3 28 (page_size_bits v) (e 5);
        six_x_legacy = implies (is_six_x v) (is_legacy v) (e 6);
        hot_object = span_bound v k_hot_object 8 (s 0);
        hot_object_with_skip = span_bound v k_hot_object_with_skip 8 (s 1);
        root_constants = span_bound v k_root_array_constants (root_mask v + 1) (s 2);
        root_constants_with_skip = span_bound v k_root_array_constants_with_skip (root_mask v + 1) (s 3);
        fixed_raw_data = span_bound v k_fixed_raw_data 32 (s 4);
        fixed_repeat_lem = span_bound v k_fixed_repeat 16 (s 5);
        fixed_repeat_root_lem = span_bound v k_fixed_repeat_root 16 (s 6);
        alignment_prefix = span_bound v k_alignment_prefix 3 (s 7);
        new_object_lem = λ h. span_bound v k_new_object (number_of_spaces v) (l h 0);
        backref = λ h. span_bound v k_backref (number_of_spaces v) (l h 1);
        backref_with_skip = λ h. span_bound v k_backref_with_skip (number_of_spaces v) (l h 2);
      }

module _ (v : List ℕ) (u : Usable v) (k : ℕ) (h : k < 56) where
  -- a present tag or constant is at most 255
  present_bound : present v k ≡ true → number v k ≤ 255
  present_bound p = ⊎_elim (λ b. b) (λ a. absurd (eqb-false (number v k) 65535 (not-true (eqb (number v k) 65535) p) a)) (u.numbers k h)
