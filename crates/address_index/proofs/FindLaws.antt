-- The search for an address: what its code tells of the records. Assumes nothing.
use mathlib.Core.Path.{◌≡◌, refl, sym, subst, ◌∙◌}
use mathlib.Core.Logic.{◌≢◌, ◌⊎◌, inl, inr, ⊎_elim}
use mathlib.Core.Bool.{Bool, true, false, ◌&&◌, ◌||◌}
use mathlib.Core.List.{List}
use Prim.Native.Nat.{ℕ, zero, suc, ◌+◌, ◌<◌, ◌≤◌}
use native.Mathlib.Numerals.{add-one}
use native.Mathlib.Omega.{arith}
use borrow.Author.Tests.{eqb-true, eqb-false, eq-eqb, ltb-true, ltb-false}
use lib.Dec.{ltb, eqb}
use Rattle.std.specs.Prelude.{Some, None}
use Rattle.std.proofs.lemmas.Bool.{cases_eq, cases_lt, false_from_ne_true}
use Rattle.tables.specs.Records.{field}
use Rattle.alloc.specs.Resolve.{is_address, addressed}
use Rattle.address_index.specs.Layout.{bucket}
use Rattle.address_index.specs.Links.{space_of, count_in, bucket_of, Names}
use Rattle.address_index.specs.Numbered.{Numbered, AfterFrom, NoneAfterBelow, Parts}
use Rattle.address_index.specs.Sorted.{AtMost, Sorted, is_after}
use Rattle.address_index.proofs.CountLaws.{space_field, count_up, count_after}
use Rattle.address_index.proofs.LinkLaws.{names_gap, names_none, names_other, names_on}

not_both : {b : Bool} → b ≡ true → b ≡ false → ⊥
not_both p q = cc

-- ---- the newest record at an address

-- none of the records from m on, and below n, passes a test
abbrev pub NoneFrom : (ℕ → Bool) → ℕ → ℕ → Type 0
NoneFrom test m n = (k : ℕ) → m ≤ k → k < n → test k ≡ false

module _ (t : List ℕ) (space chunk offset : ℕ) where
  abbrev at : ℕ → Bool
  at = is_address t space chunk offset

  addressed-skip : (m n : ℕ) → m ≤ n → NoneFrom at m n → addressed t space chunk offset n ≡ addressed t space chunk offset m
  unfolding addressed
  addressed-skip m zero l h = let z : m ≡ 0 = omega (arith, l) in rw z
  addressed-skip m (suc n) l h = go (cases_eq m (suc n)) (λ l'. addressed-skip m n l' (λ k a b. h k a (omega (arith, b))))
    where
      go : (m ≡ suc n) ⊎ (m ≢ suc n) → (m ≤ n → addressed t space chunk offset n ≡ addressed t space chunk offset m) → addressed t space chunk offset (suc n) ≡ addressed t space chunk offset m
      go (inl e) f = rw e
      go (inr e) f = rw (h n (omega (arith, l, e)) (omega arith)) (f (omega (arith, l, e)))

  addressed-passes : (k : ℕ) → at k ≡ true → addressed t space chunk offset (suc k) ≡ Some (field 5 t k 3)
  unfolding addressed
  addressed-passes k e = rw e

  -- record k is there and no later one is
  pub addressed-at : (n k : ℕ) → k < n → at k ≡ true → NoneFrom at (k + 1) n → addressed t space chunk offset n ≡ Some (field 5 t k 3)
  addressed-at n k l e h = addressed-skip (suc k) n l (rw (add-one k) at h) ∙ addressed-passes k e

  pub addressed-none : (n : ℕ) → NoneFrom at 0 n → addressed t space chunk offset n ≡ None
  unfolding addressed
  addressed-none n h = addressed-skip 0 n (omega arith) h

-- ---- an address

pub record At (t : List ℕ) (space chunk offset k : ℕ) : Type 0 where
  pub of_space : space_of t k ≡ space
  pub chunk_is : field 5 t k 1 ≡ chunk
  pub offset_is : field 5 t k 2 ≡ offset
  pub placed : field 5 t k 4 ≡ 1

at_address : (t : List ℕ) (space chunk offset k : ℕ) → is_address t space chunk offset k ≡ true → At t space chunk offset k
at_address t space chunk offset k e =
    let a = eqb (field 5 t k 0) space in
    let b = eqb (field 5 t k 1) chunk in
    let c = eqb (field 5 t k 2) offset in
    let d = eqb (field 5 t k 4) 1 in
    go a b c d refl refl refl refl e
  where
    go : (a b c d : Bool) → eqb (field 5 t k 0) space ≡ a → eqb (field 5 t k 1) chunk ≡ b → eqb (field 5 t k 2) offset ≡ c → eqb (field 5 t k 4) 1 ≡ d → a && b && c && d ≡ true → At t space chunk offset k
    go true true true true p q r s e = record { of_space = sym (space_field t k) ∙ eqb-true _ _ p; chunk_is = eqb-true _ _ q; offset_is = eqb-true _ _ r; placed = eqb-true _ _ s }
    go true true true false p q r s e = absurd (let z : ◌≡◌ {A = ℕ} 0 1 = cc in omega arith)
    go true true false d p q r s e = absurd (let z : ◌≡◌ {A = ℕ} 0 1 = cc in omega arith)
    go true false c d p q r s e = absurd (let z : ◌≡◌ {A = ℕ} 0 1 = cc in omega arith)
    go false b c d p q r s e = absurd (let z : ◌≡◌ {A = ℕ} 0 1 = cc in omega arith)

is_at : (t : List ℕ) (space chunk offset k : ℕ) → At t space chunk offset k → is_address t space chunk offset k ≡ true
is_at t space chunk offset k h =
    rw (eq-eqb (field 5 t k 0) space (space_field t k ∙ h.of_space), eq-eqb (field 5 t k 1) chunk h.chunk_is, eq-eqb (field 5 t k 2) offset h.offset_is, eq-eqb (field 5 t k 4) 1 h.placed)

pub address_of_space : (t : List ℕ) (space chunk offset i : ℕ) → is_address t space chunk offset i ≡ true → space_of t i ≡ space
address_of_space t space chunk offset i e = (at_address t space chunk offset i e).of_space

-- an address that is higher
pub record After (t : List ℕ) (i chunk offset : ℕ) : Type 0 where
  pub higher : (chunk < field 5 t i 1) ⊎ ((chunk ≡ field 5 t i 1) × (offset < field 5 t i 2))

is_after_lem : (t : List ℕ) (i chunk offset : ℕ) → is_after t i chunk offset ≡ true → After t i chunk offset
is_after_lem t i chunk offset e = go (ltb chunk (field 5 t i 1)) (eqb chunk (field 5 t i 1)) (ltb offset (field 5 t i 2)) refl refl refl e
  where
    go : (a b c : Bool) → ltb chunk (field 5 t i 1) ≡ a → eqb chunk (field 5 t i 1) ≡ b → ltb offset (field 5 t i 2) ≡ c → a || (b && c) ≡ true → After t i chunk offset
    go true b c p q r e = record { higher = inl (ltb-true _ _ p) }
    go false true true p q r e = record { higher = inr (eqb-true _ _ q, ltb-true _ _ r) }
    go false true false p q r e = absurd (let z : ◌≡◌ {A = ℕ} 0 1 = cc in omega arith)
    go false false c p q r e = absurd (let z : ◌≡◌ {A = ℕ} 0 1 = cc in omega arith)

not_after : (t : List ℕ) (i chunk offset : ℕ) → is_after t i chunk offset ≡ false → AtMost (field 5 t i 1) (field 5 t i 2) chunk offset
not_after t i chunk offset e = go (ltb chunk (field 5 t i 1)) (eqb chunk (field 5 t i 1)) (ltb offset (field 5 t i 2)) refl refl refl e
  where
    go : (a b c : Bool) → ltb chunk (field 5 t i 1) ≡ a → eqb chunk (field 5 t i 1) ≡ b → ltb offset (field 5 t i 2) ≡ c → a || (b && c) ≡ false → AtMost (field 5 t i 1) (field 5 t i 2) chunk offset
    go true b c p q r e = absurd (let z : ◌≡◌ {A = ℕ} 0 1 = cc in omega arith)
    go false true true p q r e = absurd (let z : ◌≡◌ {A = ℕ} 0 1 = cc in omega arith)
    go false true false p q r e = let z = eqb-true chunk (field 5 t i 1) q in let y = ltb-false offset (field 5 t i 2) r in inr (sym z, omega (arith, y))
    go false false c p q r e = let y = ltb-false chunk (field 5 t i 1) p in let z = eqb-false chunk (field 5 t i 1) q in inl (omega (arith, y, z))

-- ---- where a record lies

module _ {t : List ℕ} {n : ℕ} (s : Sorted t n) (space chunk offset i : ℕ) (e : space_of t i ≡ space) where
  -- neither here nor higher: nowhere among the older ones
  pub none_older : i < n → is_address t space chunk offset i ≡ false → is_after t i chunk offset ≡ false → NoneFrom (is_address t space chunk offset) 0 (i + 1)
  none_older l a h k _ b = go (eqb k i) refl
    where
      same : (y : At t space chunk offset k) → k < i → AtMost (field 5 t k 1) (field 5 t k 2) (field 5 t i 1) (field 5 t i 2) → AtMost (field 5 t i 1) (field 5 t i 2) chunk offset → ⊥
      same y c (inl u) (inl v) = omega (arith, u, v, y.chunk_is)
      same y c (inl u) (inr v) = omega (arith, u, v.0, y.chunk_is)
      same y c (inr u) (inl v) = omega (arith, u.0, v, y.chunk_is)
      same y c (inr u) (inr v) =
          not_both
          (is_at t space chunk offset i (record { of_space = e; chunk_is = v.0; offset_is = omega (arith, u.1, v.1, y.offset_is); placed = sym (s.alike k i c l (y.of_space ∙ sym e)) ∙ y.placed })) a

      go : (d : Bool) → eqb k i ≡ d → is_address t space chunk offset k ≡ false
      go true q = subst (λ (x : ℕ). is_address t space chunk offset x ≡ false) (sym (eqb-true k i q)) a
      go false q =
          let c : k < i = (let z = eqb-false k i q in omega (arith, z, b)) in
          false_from_ne_true _ (λ d. let y = at_address t space chunk offset k d in same y c (s.rising k i c l (y.of_space ∙ sym e)) (not_after t i chunk offset h))

-- a record that lies after the address is not there
pub after_not_at : (t : List ℕ) (space chunk offset i : ℕ) → is_after t i chunk offset ≡ true → is_address t space chunk offset i ≡ false
after_not_at t space chunk offset i h = false_from_ne_true _ (λ q. let y = at_address t space chunk offset i q in clash y (is_after_lem t i chunk offset h).higher)
  where
    clash : At t space chunk offset i → (chunk < field 5 t i 1) ⊎ ((chunk ≡ field 5 t i 1) × (offset < field 5 t i 2)) → ⊥
    clash y (inl u) = omega (arith, u, y.chunk_is)
    clash y (inr u) = omega (arith, u.1, y.offset_is)

-- ---- by the list of a space

module _ {t : List ℕ} {n : ℕ} (s : Sorted t n) (space chunk offset : ℕ) where
  -- a later record of the space lies after the address too
  after_up : (i j : ℕ) → i < j → j < n → space_of t i ≡ space_of t j → is_after t i chunk offset ≡ true → is_after t j chunk offset ≡ true
  after_up i j a l e h = go (is_after t j chunk offset) refl
    where
      clash : (chunk < field 5 t i 1) ⊎ ((chunk ≡ field 5 t i 1) × (offset < field 5 t i 2)) → AtMost (field 5 t i 1) (field 5 t i 2) (field 5 t j 1) (field 5 t j 2) → AtMost (field 5 t j 1) (field 5 t j 2) chunk offset → ⊥
      clash (inl u) (inl v) (inl w) = omega (arith, u, v, w)
      clash (inl u) (inl v) (inr w) = omega (arith, u, v, w.0)
      clash (inl u) (inr v) (inl w) = omega (arith, u, v.0, w)
      clash (inl u) (inr v) (inr w) = omega (arith, u, v.0, w.0)
      clash (inr u) (inl v) (inl w) = omega (arith, u.0, v, w)
      clash (inr u) (inl v) (inr w) = omega (arith, u.0, v, w.0)
      clash (inr u) (inr v) (inl w) = omega (arith, u.0, v.0, w)
      clash (inr u) (inr v) (inr w) = omega (arith, u.1, v.1, w.1)

      go : (b : Bool) → is_after t j chunk offset ≡ b → is_after t j chunk offset ≡ true
      go true q = q
      go false q = absurd (clash (is_after_lem t i chunk offset h).higher (s.rising i j a l e) (not_after t j chunk offset q))

  -- records of the space lie as their numbers do
  before : {i j : ℕ} → count_in t space i < count_in t space j → i < j
  before {i} {j} l = ⊎_elim (λ a. a) (λ a. absurd (let z = count_up t space j i a in omega (arith, z, l))) (cases_lt i j)

  same : {i j : ℕ} → space_of t i ≡ space → space_of t j ≡ space → count_in t space i ≡ count_in t space j → i ≡ j
  same {i} {j} e f q =
      ⊎_elim (λ a. absurd (let z = count_after t space i j e a in omega (arith, z, q)))
      (λ a. ⊎_elim (λ b. absurd (let z = count_after t space j i f b in omega (arith, z, q))) (λ b. omega (arith, a, b)) (cases_lt j i))
      (cases_lt i j)

  module _ {k i : ℕ} (m : Numbered t n space k i) where
    -- record number k lies after the address, and so do those after it
    pub after_from : is_after t i chunk offset ≡ true → AfterFrom t n space chunk offset k
    after_from h j l e a =
        ⊎_elim (λ q. subst (λ (x : ℕ). is_after t x chunk offset ≡ true) (same m.of_space e (m.number ∙ q)) h)
        (λ q. let z = m.number in after_up i j (before (omega (arith, z, q, a))) l (m.of_space ∙ sym e) h)
        (cases_eq k (count_in t space j))

    -- it does not, and so do none before it
    pub none_after_below : is_after t i chunk offset ≡ false → NoneAfterBelow t n space chunk offset (k + 1)
    none_after_below h j l e a =
        ⊎_elim (λ q. subst (λ (x : ℕ). is_after t x chunk offset ≡ false) (sym (same e m.of_space (q ∙ sym m.number))) h)
        (λ q. let z = m.number in false_from_ne_true _ (λ y. not_both (after_up j i (before (omega (arith, z, q, a))) m.within (e ∙ sym m.of_space) y) h))
        (cases_eq (count_in t space j) k)

  -- none of the space lies at the address or below
  pub parts_none : Parts t n space chunk offset 0 → addressed t space chunk offset n ≡ None
  parts_none p =
      addressed-none t space chunk offset n (λ k a b. false_from_ne_true _ (λ q.
      not_both q (after_not_at t space chunk offset k (p.from k b (address_of_space t space chunk offset k q) (omega arith)))))

  -- the last one that does
  module _ {k i : ℕ} (p : Parts t n space chunk offset (suc k)) (m : Numbered t n space k i) where
    rest : NoneFrom (is_address t space chunk offset) (i + 1) n
    rest j a b =
        false_from_ne_true _ (λ q.
        let e = address_of_space t space chunk offset j q in
        let z = count_after t space i j m.of_space (omega (arith, a)) in
        let y = m.number in
        not_both q (after_not_at t space chunk offset j (p.from j b e (omega (arith, z, y)))))

    pub parts_found : is_address t space chunk offset i ≡ true → addressed t space chunk offset n ≡ Some (field 5 t i 3)
    parts_found h = addressed-at t space chunk offset n i m.within h rest

    pub parts_other : is_address t space chunk offset i ≡ false → addressed t space chunk offset n ≡ None
    parts_other h =
        let y = m.number in
        let older = none_older s space chunk offset i m.of_space m.within h (p.below i m.within m.of_space (omega (arith, y))) in
        addressed-none t space chunk offset n (λ j a b. ⊎_elim (λ c. older j a c) (λ c. rest j c b) (cases_lt j (i + 1)))

-- ---- along the links of a bucket

-- the search may go on below a record, with what a number of the index names: no record from there
-- on is at the address
pub record Walk (t : List ℕ) (n r seed space chunk offset below link : ℕ) : Type 0 where
  pub low : below ≤ n
  pub names : Names (bucket_of t r seed) (bucket r seed space chunk offset) below link
  pub none : NoneFrom (is_address t space chunk offset) below n

-- what is at an address is in its bucket
in_bucket : (t : List ℕ) (r seed space chunk offset k : ℕ) → is_address t space chunk offset k ≡ true → bucket_of t r seed k ≡ bucket r seed space chunk offset
in_bucket t r seed space chunk offset k q = let y = at_address t space chunk offset k q in rw (y.of_space, y.chunk_is, y.offset_is)

module _ {t : List ℕ} {n r seed space chunk offset : ℕ} where
  module _ {below link : ℕ} (w : Walk t n r seed space chunk offset below link) where
    pub walk_none : (link ≡ 0) ⊎ (below < link) → addressed t space chunk offset n ≡ None
    walk_none out =
        addressed-none t space chunk offset n (λ k a b.
        ⊎_elim (λ c. false_from_ne_true _ (λ q. names_none (bucket_of t r seed) _ w.names out k c (in_bucket t r seed space chunk offset k q))) (λ c. w.none k c b) (cases_lt k below))

    -- record h, which is named, is of another bucket
    pub walk_other : {h : ℕ} → link ≡ suc h → bucket_of t r seed h ≢ bucket r seed space chunk offset → addressed t space chunk offset n ≡ None
    walk_other e d =
        addressed-none t space chunk offset n (λ k a b.
        ⊎_elim (λ c. false_from_ne_true _ (λ q. names_other (bucket_of t r seed) _ (subst (Names (bucket_of t r seed) _ below) e w.names) d k c (in_bucket t r seed space chunk offset k q))) (λ c. w.none k c b)
        (cases_lt k below))

    -- record h, which is named
    module _ {h : ℕ} (e : link ≡ suc h) (l : h < below) where
      past : NoneFrom (is_address t space chunk offset) (h + 1) n
      past k a b =
          ⊎_elim (λ c. false_from_ne_true _ (λ q. names_gap (bucket_of t r seed) _ (subst (Names (bucket_of t r seed) _ below) e w.names) k (omega (arith, a)) c (in_bucket t r seed space chunk offset k q))) (λ c. w.none k c b)
          (cases_lt k below)

      pub walk_found : is_address t space chunk offset h ≡ true → addressed t space chunk offset n ≡ Some (field 5 t h 3)
      walk_found q = let z = w.low in addressed-at t space chunk offset n h (omega (arith, z, l)) q past

      pub walk_on : {link' : ℕ} → is_address t space chunk offset h ≡ false → Names (bucket_of t r seed) (bucket_of t r seed h) h link' → Walk t n r seed space chunk offset h link'
      walk_on q u =
          let z = w.low in
          record {
            low = omega (arith, z, l);
            names = names_on (bucket_of t r seed) _ (subst (Names (bucket_of t r seed) _ below) e w.names) l u;
            none = λ k a b. ⊎_elim (λ c. subst (λ (x : ℕ). is_address t space chunk offset x ≡ false) c q) (λ c. past k (omega (arith, a, c)) b) (cases_eq h k);
          }
