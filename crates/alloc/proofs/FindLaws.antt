-- The searches by address and by number, from what `find` and `nth` answer. Assumes nothing.
use Rattle.std.specs.Prelude.{if◌then◌else◌}
use Rattle.std.proofs.Common.{◌≡◌, refl, sym, ◌∙◌, ap, subst, cond, Bool, true, false, List, [], ◌∷◌, ℕ, zero, suc, ◌+◌, ◌-◌, ◌<◌, eqb, length, Option, Some, None, option_map, find, filter, slice_get, arith}
use Rattle.std.specs.List.{range_with_len}
use Rattle.std.specs.declared.iter.Rev.{Rev}
use Rattle.std.specs.declared.iter.Filter.{Filter}
use Rattle.std.specs.declared.ops.Range.{Range}
use Rattle.std.specs.Iterator.Adapters.{rev_source, rev_steps, filter_source, filter_callee, filter_steps}
use Rattle.std.specs.Fn.{CalledAt}
use Rattle.std.specs.Iterator.{FindsItem, SkipsThenYields}
use Rattle.std.proofs.iter.Yields.{nat_range_steps}
use denote.Ref.{Bor}
use denote.Param.Members.{Mut}
use Rattle.std.proofs.iter.runs.Sources.{nat_range_steps_back}
use Rattle.std.proofs.lemmas.Iterator.{YieldsList, YieldsList-from_range}
use Rattle.std.proofs.lemmas.Iterator.Consumers.{YieldsList-from_shown, YieldsList-from_filter, nth_from_yields_List}
use Rattle.std.proofs.lemmas.Iterator.Search.{find_from_yields_List}
use Rattle.std.proofs.Math.Dec.{eqb-suc-zero}
use Rattle.std.proofs.lemmas.Option.{none-some, same_Some}
use Rattle.tables.specs.Records.{field}
use Rattle.alloc.specs.Resolve.{is_address, addressed, ordinal_from}

-- the k numbers from a on, the highest first
abbrev falling : ℕ → ℕ → List ℕ
falling a zero = []
falling a (suc k) = (a + k) ∷ falling a k

abbrev left : Rev (Range ℕ) → List ℕ
left s = falling (rev_source s).start ((rev_source s).end - (rev_source s).start)

none_left : (s t : Rev (Range ℕ)) → rev_steps nat_range_steps_back s None t → length (left s) ≡ 0
none_left s t p = rw (p.1.0) refl

falls-step : (a k : ℕ) {b x c : ℕ} → b ≡ a → x ≡ a + k → c ≡ suc k → falling b c ≡ x ∷ falling a k
falls-step a k e f g = rw (e, f, g) refl

one_left : (s : Rev (Range ℕ)) (x : ℕ) (t : Rev (Range ℕ)) → rev_steps nat_range_steps_back s (Some x) t → left s ≡ x ∷ left t
one_left s x t p =
    falls-step (rev_source t).start ((rev_source t).end - (rev_source t).start) (sym p.0) (omega (arith, p.0, p.1)) (omega (arith, p.0, p.1))

-- a range from 0 on that is run from its end
YieldsList-from_rev_range : {s : Rev (Range ℕ)} (n : ℕ) → rev_source s ≡ record { start = 0; end = n } → YieldsList (rev_steps nat_range_steps_back) (λ x. x) s (falling 0 n)
YieldsList-from_rev_range {s} n e =
    let all : n - 0 ≡ n = omega arith in
    subst (λ k. YieldsList (rev_steps nat_range_steps_back) (λ x. x) s (falling 0 k)) all
    (subst (λ (r : Range ℕ). YieldsList (rev_steps nat_range_steps_back) (λ x. x) s (falling r.start (r.end - r.start))) e
    (YieldsList-from_shown (rev_steps nat_range_steps_back) (λ x. x) left none_left one_left s))

-- what is found in such a list is below its end
in_case : (test : ℕ → Bool) (a k i : ℕ) (b : Bool) → Some i ≡ cond b (Some (a + k)) (find test (falling a k)) → (Some i ≡ find test (falling a k) → i < a + k) → i < a + suc k
in_case test a k i true e h = omega (arith, same_Some i (a + k) e)
in_case test a k i false e h = omega (arith, h e)

found_below : (test : ℕ → Bool) (a k i : ℕ) → Some i ≡ find test (falling a k) → i < a + k
found_below test a zero i e = absurd (none-some i (sym e))
found_below test a (suc k) i e = in_case test a k i (test (a + k)) e (found_below test a k i)

-- ---- by address

picked : (t : List ℕ) (b : Bool) (i : ℕ) (r : Option ℕ)
    → option_map (λ k. field 5 t k 3) (cond b (Some i) r) ≡ (if b then Some (field 5 t i 3) else (option_map (λ k. field 5 t k 3) r))
picked t true i r = refl
picked t false i r = refl

module _ (t : List ℕ) (space chunk offset : ℕ) where
  -- the first of the numbers below n, from the highest on, is the newest record
  newest_is : (n : ℕ) → option_map (λ k. field 5 t k 3) (find (is_address t space chunk offset) (falling 0 n)) ≡ addressed t space chunk offset n
  unfolding addressed
  newest_is zero = refl
  newest_is (suc n) =
      let e : 0 + n ≡ n = omega arith in
      rw e (picked t (is_address t space chunk offset n) n (find (is_address t space chunk offset) (falling 0 n)) ∙ ap (λ (q : Option ℕ). if is_address t space chunk offset n then Some (field 5 t n 3) else q) (newest_is n))

  -- what `find` answers over those numbers, with a closure that tests an address
  module _ {F : Type 0} {g : Mut F (Bor ℕ × Unit {0}) Bool} {s : Rev (Range ℕ)} {f : F} (u : Rev (Range ℕ)) (n : ℕ) (r : Option ℕ)
      (ran : FindsItem (rev_steps nat_range_steps_back) g s f r u)
      (source : rev_source s ≡ record { start = 0; end = n })
      (tested : (x : ℕ) (b : Bool) (q : F) → CalledAt g f x b q → (q ≡ f) × (b ≡ is_address t space chunk offset x))
    where
      found : {o : Option ℕ} → r ≡ o → option_map (λ i. i) o ≡ find (is_address t space chunk offset) (falling 0 n)
      found was =
          sym (ap (option_map (λ i. i)) was)
          ∙ find_from_yields_List (is_address t space chunk offset) u f r ran (YieldsList-from_rev_range n source) tested

      pub none_found : r ≡ None → None ≡ addressed t space chunk offset n
      none_found was = ap (option_map (λ k. field 5 t k 3)) (found was) ∙ newest_is n

      pub one_found : {i : ℕ} → r ≡ Some i → Some (field 5 t i 3) ≡ addressed t space chunk offset n
      one_found was = ap (option_map (λ k. field 5 t k 3)) (found was) ∙ newest_is n

      pub found_low : {i : ℕ} → r ≡ Some i → i < n
      found_low {i} was = omega (arith, found_below (is_address t space chunk offset) 0 n i (found was))

-- ---- by number

in_row : (f : ℕ → ℕ) (b : Bool) (k index : ℕ) (xs : List ℕ) (q r : Option ℕ)
    → option_map f (slice_get xs (index - 1)) ≡ q → option_map f (slice_get xs index) ≡ r
    → option_map f (slice_get (cond b (k ∷ xs) xs) index) ≡ (if b then (if eqb index 0 then Some (f k) else q) else r)
in_row f true k zero xs q r d e = refl
in_row f true k (suc i) xs q r d e =
    let z : suc i - 1 ≡ i = omega arith in
    rw (eqb-suc-zero i) (subst (λ j. option_map f (slice_get xs j) ≡ q) z d)
in_row f false k index xs q r d e = e

row_low : (b : Bool) (k index i m : ℕ) (xs : List ℕ) → Some i ≡ slice_get (cond b (k ∷ xs) xs) index → ((j : ℕ) → Some i ≡ slice_get xs j → i < m) → k < m → i < m
row_low true k zero i m xs e h l = omega (arith, same_Some i k e, l)
row_low true k (suc j) i m xs e h l = h j e
row_low false k index i m xs e h l = h index e

module _ (t : List ℕ) (space : ℕ) where
  abbrev of_space : ℕ → Bool
  of_space i = eqb (field 5 t i 0) space

  numbered_is : (n k index : ℕ) → option_map (λ i. field 5 t i 3) (slice_get (filter of_space (range_with_len k n)) index) ≡ ordinal_from t space index k n
  unfolding ordinal_from
  numbered_is zero k index = refl
  numbered_is (suc n) k index =
      in_row (λ i. field 5 t i 3) (of_space k) k index (filter of_space (range_with_len (k + 1) n)) _ _ (numbered_is n (k + 1) (index - 1)) (numbered_is n (k + 1) index)

  numbered_below : (n k index i : ℕ) → Some i ≡ slice_get (filter of_space (range_with_len k n)) index → i < k + n
  numbered_below zero k index i e = absurd (none-some i (sym e))
  numbered_below (suc n) k index i e =
      row_low (of_space k) k index i (k + suc n) (filter of_space (range_with_len (k + 1) n)) e (λ j d. omega (arith, numbered_below n (k + 1) j i d)) (omega arith)

  -- what `nth` answers over the numbers below n that a closure which tests the space leaves
  module _ {F : Type 0} {g : Mut F (Bor ℕ × Unit {0}) Bool} {s : Filter (Range ℕ) F} {f : F} (u : Filter (Range ℕ) F) (n index : ℕ) (r : Option ℕ)
      (ran : SkipsThenYields (filter_steps nat_range_steps g) s index r u)
      (source : filter_source s ≡ record { start = 0; end = n })
      (callee : filter_callee s ≡ f)
      (tested : (x : ℕ) (b : Bool) (q : F) → CalledAt g f x b q → (q ≡ f) × (b ≡ of_space x))
    where
      counted : {o : Option ℕ} → r ≡ o → option_map (λ i. i) o ≡ slice_get (filter of_space (range_with_len 0 n)) index
      counted was =
          sym (ap (option_map (λ i. i)) was)
          ∙ nth_from_yields_List r u index ran (YieldsList-from_filter g of_space (YieldsList-from_range 0 n n source (omega arith)) callee tested)

      pub none_numbered : r ≡ None → None ≡ ordinal_from t space index 0 n
      none_numbered was = ap (option_map (λ i. field 5 t i 3)) (counted was) ∙ numbered_is n 0 index

      pub one_numbered : {i : ℕ} → r ≡ Some i → Some (field 5 t i 3) ≡ ordinal_from t space index 0 n
      one_numbered was = ap (option_map (λ i. field 5 t i 3)) (counted was) ∙ numbered_is n 0 index

      pub numbered_low : {i : ℕ} → r ≡ Some i → i < n
      numbered_low {i} was = omega (arith, numbered_below n 0 index i (counted was))
