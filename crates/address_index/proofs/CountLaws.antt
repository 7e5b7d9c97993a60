-- How many records of a space there are, and the record that has a number in it. Assumes nothing.
use Rattle.std.specs.Prelude.{◌≡◌, ◌≢◌, Bool, true, false, List, ℕ, zero, suc, ◌+◌, ◌-◌, ◌*◌, ◌<◌, ◌≤◌, eqb, get_or, Some, None}
use Rattle.std.proofs.Common.{refl, sym, ap, subst, ◌∙◌, ⊎_elim, add-zero, zero-add, add-one, arith}
use Rattle.std.proofs.lemmas.Bool.{cases_eq}
use borrow.Author.Tests.{eqb-true, eqb-false, eq-eqb, ne_eqb}
use Rattle.tables.specs.Records.{field}
use Rattle.alloc.specs.Resolve.{ordinal_from}
use Rattle.address_index.specs.Links.{space_of, count_in}
use Rattle.address_index.specs.Numbered.{Numbered}

pub space_field : (t : List ℕ) (k : ℕ) → field 5 t k 0 ≡ space_of t k
space_field t k = ap (λ (i : ℕ). get_or t i 0) (add-zero (k * 5))

module _ (t : List ℕ) (s : ℕ) where
  pub count_on : (n : ℕ) → space_of t n ≡ s → count_in t s (suc n) ≡ suc (count_in t s n)
  unfolding count_in
  count_on n e = rw (eq-eqb (space_of t n) s e)

  pub count_off : (n : ℕ) → space_of t n ≢ s → count_in t s (suc n) ≡ count_in t s n
  unfolding count_in
  count_off n e = rw (ne_eqb (space_of t n) s e)

  pub count_up : (a b : ℕ) → a ≤ b → count_in t s a ≤ count_in t s b
  count_up a zero l = let z : a ≡ 0 = omega (arith, l) in rw z (omega arith)
  count_up a (suc b) l = go (eqb a (suc b)) refl (λ l'. count_up a b l')
    where
      go : (d : Bool) → eqb a (suc b) ≡ d → (a ≤ b → count_in t s a ≤ count_in t s b) → count_in t s a ≤ count_in t s (suc b)
      go true e f = rw (eqb-true a (suc b) e) (omega arith)
      go false e f =
          let z = eqb-false a (suc b) e in
          let y = f (omega (arith, l, z)) in
          ⊎_elim (λ q. let u = count_on b q in omega (arith, u, y)) (λ q. let u = count_off b q in omega (arith, u, y)) (cases_eq (space_of t b) s)

  step_on : (number k n : ℕ) → space_of t k ≡ s → (number ≡ 0 → ⊥) → ordinal_from t s number k (suc n) ≡ ordinal_from t s (number - 1) (k + 1) n
  unfolding ordinal_from
  step_on number k n e z = rw (eq-eqb (field 5 t k 0) s (space_field t k ∙ e), ne_eqb number 0 z)

  step_first : (k n : ℕ) → space_of t k ≡ s → ordinal_from t s 0 k (suc n) ≡ Some (field 5 t k 3)
  unfolding ordinal_from
  step_first k n e = rw (eq-eqb (field 5 t k 0) s (space_field t k ∙ e))

  step_off : (number k n : ℕ) → space_of t k ≢ s → ordinal_from t s number k (suc n) ≡ ordinal_from t s number (k + 1) n
  unfolding ordinal_from
  step_off number k n e = rw (ne_eqb (field 5 t k 0) s (λ q. e (sym (space_field t k) ∙ q)))

  next_on : (k : ℕ) → space_of t k ≡ s → count_in t s (k + 1) ≡ count_in t s k + 1
  next_on k e = rw (add-one k) (count_on k e ∙ sym (add-one (count_in t s k)))

  next_off : (k : ℕ) → space_of t k ≢ s → count_in t s (k + 1) ≡ count_in t s k
  next_off k e = rw (add-one k) (count_off k e)

  -- a later record of the space has a higher number
  pub count_after : (i k : ℕ) → space_of t i ≡ s → i < k → count_in t s i < count_in t s k
  count_after i k e l = let u = count_up (i + 1) k (omega (arith, l)) in let m = next_on i e in omega (arith, u, m)

  -- the record with a number is found
  pub ordinal_found : (n k number j : ℕ) → k ≤ j → j < k + n → space_of t j ≡ s → count_in t s j ≡ count_in t s k + number → ordinal_from t s number k n ≡ Some (field 5 t j 3)
  ordinal_found zero k number j a b e c = absurd (omega (arith, a, b))
  ordinal_found (suc n) k number j a b e c =
      ⊎_elim
      (λ q. found_on n k number j a b e c q (eqb number 0) refl (λ l d. ordinal_found n (k + 1) (number - 1) j (omega (arith, l)) (omega (arith, b)) e d))
      (λ q. let z : k ≢ j = (λ y. q (subst (λ (i : ℕ). space_of t i ≡ s) (sym y) e)) in step_off number k n q ∙ ordinal_found n (k + 1) number j (omega (arith, a, z)) (omega (arith, b)) e (c ∙ ap (λ (m : ℕ). m + number) (sym (next_off k q))))
      (cases_eq (space_of t k) s)
    where
      found_on : (n k number j : ℕ) → k ≤ j → j < k + suc n → space_of t j ≡ s → count_in t s j ≡ count_in t s k + number → space_of t k ≡ s → (d : Bool) → eqb number 0 ≡ d → (k < j → count_in t s j ≡ count_in t s (k + 1) + (number - 1) → ordinal_from t s (number - 1) (k + 1) n ≡ Some (field 5 t j 3)) → ordinal_from t s number k (suc n) ≡ Some (field 5 t j 3)
      found_on n k number j a b e c q true z f =
          let y : number ≡ 0 = eqb-true number 0 z in
          rw y (step_first k n q ∙ ap (λ (i : ℕ). Some (field 5 t i 3)) (first (eqb k j) refl y))
        where
          first : (d : Bool) → eqb k j ≡ d → number ≡ 0 → k ≡ j
          first true w y = eqb-true k j w
          first false w y = let v = eqb-false k j w in absurd (let u = count_after k j q (omega (arith, a, v)) in omega (arith, u, c, y))
      found_on n k number j a b e c q false z f =
          let y : number ≡ 0 → ⊥ = eqb-false number 0 z in
          let m = next_on k q in
          step_on number k n q y ∙ f (later (eqb k j) refl y) (omega (arith, c, m, y))
        where
          later : (d : Bool) → eqb k j ≡ d → (number ≡ 0 → ⊥) → k < j
          later true w y = absurd (let v = eqb-true k j w in let u : count_in t s j ≡ count_in t s k = ap (count_in t s) (sym v) in omega (arith, u, c, y))
          later false w y = let v = eqb-false k j w in omega (arith, a, v)

  -- there are no more than so many
  pub ordinal_none : (n k number : ℕ) → count_in t s (k + n) ≤ count_in t s k + number → ordinal_from t s number k n ≡ None
  unfolding ordinal_from
  ordinal_none zero k number h = refl
  ordinal_none (suc n) k number h =
      let z : k + 1 + n ≡ k + suc n = omega arith in
      ⊎_elim
      (λ q. let m = next_on k q in let u = count_up (k + 1) (k + suc n) (omega arith) in let y : number ≡ 0 → ⊥ = (λ d. omega (arith, d, m, u, h)) in step_on number k n q y ∙ ordinal_none n (k + 1) (number - 1) (rw z (omega (arith, h, m, y))))
      (λ q. let m = next_off k q in step_off number k n q ∙ ordinal_none n (k + 1) number (rw z (omega (arith, h, m))))
      (cases_eq (space_of t k) s)

  pub count_low : (n : ℕ) → count_in t s n ≤ n
  unfolding count_in
  count_low zero = omega arith
  count_low (suc n) =
      let h = count_low n in
      ⊎_elim (λ e. let z = count_on n e in omega (arith, z)) (λ e. let z = count_off n e in omega (arith, z, h)) (cases_eq (space_of t n) s)

  -- each number below the count is that of a record
  pub numbered_there : (n k : ℕ) → k < count_in t s n → (i : ℕ) × Numbered t n s k i
  unfolding count_in
  numbered_there zero k l = absurd (omega (arith, l))
  numbered_there (suc n) k l = ⊎_elim (λ e. last e (eqb k (count_in t s n)) refl (numbered_there n k)) (λ e. up (numbered_there n k (rw (count_off n e) at l))) (cases_eq (space_of t n) s)
    where
      up : (i : ℕ) × Numbered t n s k i → (i : ℕ) × Numbered t (suc n) s k i
      up h = let w = h.1.within in (h.0, record { within = omega (arith, w); of_space = h.1.of_space; number = h.1.number })

      last : space_of t n ≡ s → (b : Bool) → eqb k (count_in t s n) ≡ b → (k < count_in t s n → (i : ℕ) × Numbered t n s k i) → (i : ℕ) × Numbered t (suc n) s k i
      last e true q f = (n, record { within = omega arith; of_space = e; number = sym (eqb-true _ _ q) })
      last e false q f = let z = eqb-false _ _ q in let y = count_on n e in up (f (omega (arith, l, y, z)))

-- the object of the record that has a number in a space
module _ (t : List ℕ) (s n k : ℕ) where
  count_first : count_in t s 0 ≡ 0
  unfolding count_in
  count_first = refl

  pub ordinal_is : {i : ℕ} → Numbered t n s k i → ordinal_from t s k 0 n ≡ Some (field 5 t i 3)
  ordinal_is {i} m = let w = m.within in let z = count_first in ordinal_found t s n 0 k i (omega arith) (omega (arith, w)) m.of_space (omega (arith, m.number, z))

  pub ordinal_past : count_in t s n ≤ k → ordinal_from t s k 0 n ≡ None
  ordinal_past l = let z = count_first in ordinal_none t s n 0 k (rw (zero-add n) (omega (arith, l, z)))

-- two spaces together have no more records than there are
pub count_two : (t : List ℕ) (s s' n : ℕ) → s ≢ s' → count_in t s n + count_in t s' n ≤ n
unfolding count_in
count_two t s s' zero d = omega arith
count_two t s s' (suc n) d =
    let h = count_two t s s' n d in
    ⊎_elim
    (λ e. let z = count_on t s n e in let y = count_off t s' n (λ q. d (sym e ∙ q)) in omega (arith, z, y, h))
    (λ e. let z = count_off t s n e in let y : count_in t s' (suc n) ≤ count_in t s' n + 1 = ⊎_elim (λ q. let x = count_on t s' n q in omega (arith, x)) (λ q. let x = count_off t s' n q in omega (arith, x)) (cases_eq (space_of t n) s') in omega (arith, z, y, h))
    (cases_eq (space_of t n) s)
