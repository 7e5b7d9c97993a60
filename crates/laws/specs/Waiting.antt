-- Which slots wait, after each change of the slot table: waits is 1 only at kind 13, under a number
-- that was given out, at most one slot waits under a number, and the count of those that wait is
-- exact. Assumes nothing.
use Rattle.std.specs.Prelude.{if◌then◌else◌, ◌≡◌, Bool, ◌≢◌, List, eqb, get_or}
use Rattle.std.proofs.Math.Path.{refl}
use Rattle.std.proofs.Common.{sym, ap, ◌∙◌, subst, add-one}
use Rattle.std.proofs.Math.Bool.{true, false}
use Prim.Native.Nat.{ℕ, zero, suc, ◌+◌, ◌-◌, ◌<◌, ◌≤◌}
use native.Mathlib.Omega.{arith}
use borrow.Author.Tests.{eqb-true, eqb-false, eq-eqb, ne_eqb}
use Rattle.std.proofs.lemmas.Bool.{and_parts}
use Rattle.tables.specs.declared.values.Fields.{Fields}
use Rattle.tables.specs.Records.{room, field, slot_row, written, filled}
use Rattle.tables.proofs.RecordLaws.{written_same, written_else, filled_same, filled_else}
use Rattle.definition.specs.Slots.{waits_for, waiter}

-- slot record k waits
abbrev pub Waiting : List ℕ → ℕ → Type 0
Waiting st k = field 6 st k 5 ≡ 1

-- how many of the first n slots wait
unfoldable pub waiters_in : List ℕ → ℕ → ℕ
waiters_in st zero = 0
waiters_in st (suc n) = if eqb (field 6 st n 5) 1 then suc (waiters_in st n) else waiters_in st n

-- of the first `count` slots, with the next pending number and how many wait
pub record Waits (st : List ℕ) (count pending waiting : ℕ) : Type 0 where
  pub kind : (k : ℕ) → k < count → Waiting st k → field 6 st k 2 ≡ 13
  pub low : (k : ℕ) → k < count → Waiting st k → field 6 st k 3 < pending
  pub one : (i j : ℕ) → i < count → j < count → Waiting st i → Waiting st j → field 6 st i 3 ≡ field 6 st j 3 → i ≡ j
  pub exact : waiting ≡ waiters_in st count

-- a number was given out, and no slot waits under it
pub record Fresh (st : List ℕ) (count pending n : ℕ) : Type 0 where
  pub given : n < pending
  pub free : (k : ℕ) → k < count → Waiting st k → field 6 st k 3 ≢ n

same_or : {P : Type 0} (a b : ℕ) → (a ≡ b → P) → (a ≢ b → P) → P
same_or {P} a b y n = by (eqb a b) refl
  where
    by : (t : Bool) → eqb a b ≡ t → P
    by true e = y (eqb-true a b e)
    by false e = n (eqb-false a b e)

clash : (t : Bool) → t ≡ true → t ≡ false → ⊥
clash t a b = let z : ◌≡◌ {A = ℕ} 0 1 = cc in omega arith

-- ---- the count

module _ (st : List ℕ) where
  count_yes : (n : ℕ) → Waiting st n → waiters_in st (suc n) ≡ suc (waiters_in st n)
  unfolding waiters_in
  count_yes n e = rw (eq-eqb (field 6 st n 5) 1 e)

  count_no : (n : ℕ) → (Waiting st n → ⊥) → waiters_in st (suc n) ≡ waiters_in st n
  unfolding waiters_in
  count_no n h = rw (ne_eqb (field 6 st n 5) 1 h)

  count_start : waiters_in st 0 ≡ 0
  unfolding waiters_in
  count_start = refl

  -- where none is counted none waits
  count_none : (n : ℕ) → waiters_in st n ≡ 0 → (k : ℕ) → k < n → Waiting st k → ⊥
  count_none zero e k h y = omega arith
  count_none (suc n) e k h y =
      same_or {P = ⊥} (field 6 st n 5) 1 (λ w. omega (arith, count_yes n w))
      (λ w. same_or {P = ⊥} k n (λ z. w (rw z at y)) (λ z. count_none n (sym (count_no n w) ∙ e) k (omega arith) y))

  -- where one waits, one is counted
  pub count_some : (n k : ℕ) → k < n → Waiting st k → 0 < waiters_in st n
  count_some n k h y = same_or {P = 0 < waiters_in st n} (waiters_in st n) 0 (λ z. absurd (count_none n z k h y)) (λ z. omega arith)

  module _ (st' : List ℕ) where
    count_same : (n : ℕ) → ((k : ℕ) → k < n → field 6 st' k 5 ≡ field 6 st k 5) → waiters_in st' n ≡ waiters_in st n
    unfolding waiters_in
    count_same zero h = refl
    count_same (suc n) h = rw (h n (omega arith), count_same n (λ k l. h k (omega arith)))

-- one slot waits no more
count_less : (st st' : List ℕ) (j n : ℕ) → j < n → Waiting st j → (Waiting st' j → ⊥) → ((k : ℕ) → k ≢ j → field 6 st' k 5 ≡ field 6 st k 5) → waiters_in st n ≡ suc (waiters_in st' n)
count_less st st' j zero h y w s = absurd (omega arith)
count_less st st' j (suc n) h y w s =
    same_or n j
    (λ z. count_yes st n (rw z y) ∙ ap suc (sym (count_same st st' n (λ k l. s k (λ e. omega arith))) ∙ sym (count_no st' n (λ q. w (rw z at q)))))
    (λ z. let ih = count_less st st' j n (omega arith) y w s in
    same_or (field 6 st n 5) 1
    (λ q. count_yes st n q ∙ ap suc (ih ∙ sym (count_yes st' n (s n z ∙ q))))
    (λ q. count_no st n q ∙ ih ∙ ap suc (sym (count_no st' n (λ p. q (sym (s n z) ∙ p))))))

-- ---- the search

module _ (st : List ℕ) (number : ℕ) where
  said : (k : ℕ) → waits_for st number k ≡ true → (Waiting st k) × (field 6 st k 3 ≡ number)
  said k e = (eqb-true _ _ (and_parts (eqb (field 6 st k 5) 1) (eqb (field 6 st k 3) number) e).0, eqb-true _ _ (and_parts (eqb (field 6 st k 5) 1) (eqb (field 6 st k 3) number) e).1)

  -- what the search finds waits under the number
  pub waiter_found : (n k : ℕ) → waiter st number n ≡ suc k → (k < n) × (Waiting st k) × (field 6 st k 3 ≡ number)
  unfolding waiter
  waiter_found zero k e = absurd (omega arith)
  waiter_found (suc n) k e = by (waits_for st number n) refl e (λ z. waiter_found n k z)
    where
      by : (t : Bool) → waits_for st number n ≡ t → (if t then suc n else waiter st number n) ≡ suc k → (waiter st number n ≡ suc k → (k < n) × (Waiting st k) × (field 6 st k 3 ≡ number)) → (k < suc n) × (Waiting st k) × (field 6 st k 3 ≡ number)
      by true y z r = let q : n ≡ k = omega arith in let w = said n y in (omega arith, rw q at w.0, rw q at w.1)
      by false y z r = let w = r z in (omega arith, w.1, w.2)

  -- and where it finds none, none does
  pub waiter_missed : (n : ℕ) → waiter st number n ≡ 0 → (k : ℕ) → k < n → Waiting st k → field 6 st k 3 ≢ number
  unfolding waiter
  waiter_missed zero e k l y q = omega arith
  waiter_missed (suc n) e k l y q = by (waits_for st number n) refl e (λ z h. waiter_missed n z k h y q)
    where
      by : (t : Bool) → waits_for st number n ≡ t → (if t then suc n else waiter st number n) ≡ 0 → (waiter st number n ≡ 0 → k < n → ⊥) → ⊥
      by true f z r = omega arith
      by false f z r =
          same_or {P = ⊥} k n
          (λ i. let yes : waits_for st number k ≡ true = rw (eq-eqb (field 6 st k 5) 1 y, eq-eqb (field 6 st k 3) number q) in
          clash (waits_for st number k) yes (rw i f))
          (λ i. r z (omega arith))

-- what the search finds, and when it finds none
module _ {st : List ℕ} {count pending waiting : ℕ} (w : Waits st count pending waiting) where
  search_by : (n : ℕ) (P : ℕ → Type 0) → (waiter st n count ≡ 0 → P 0) → ((k : ℕ) → k < count → Waiting st k → field 6 st k 3 ≡ n → P (suc k)) → P (waiter st n count)
  search_by n P none some = of (waiter st n count) refl
    where
      of : (z : ℕ) → waiter st n count ≡ z → P z
      of zero e = none e
      of (suc k) e = let f = waiter_found st n count k e in some k f.0 f.1 f.2

  -- the one slot that waits under a number
  pub waiter_is : (n i : ℕ) → i < count → Waiting st i → field 6 st i 3 ≡ n → waiter st n count ≡ suc i
  waiter_is n i l y e =
      search_by n (λ z. z ≡ suc i) (λ z. absurd (waiter_missed st n count z i l y e))
      (λ k h p q. ap suc (w.one k i h l p y (q ∙ sym e)))

  -- none waits under a number that was not given out, nor under one that is free
  pub waiter_high : (n : ℕ) → pending ≤ n → waiter st n count ≡ 0
  waiter_high n h = search_by n (λ z. z ≡ 0) (λ z. refl) (λ k l y e. absurd (omega (arith, w.low k l y)))

  pub waiter_fresh : (n : ℕ) → Fresh st count pending n → waiter st n count ≡ 0
  waiter_fresh n f = search_by n (λ z. z ≡ 0) (λ z. refl) (λ k l y e. absurd (f.free k l y e))

  -- as the search says it
  pub waiter_one : (n i : ℕ) → i < count → waits_for st n i ≡ true → suc i ≡ waiter st n count
  waiter_one n i l e = let f = said st n i e in sym (waiter_is n i l f.0 f.1)

  pub waiter_none : waiting ≡ 0 → (n : ℕ) → waiter st n count ≡ 0
  waiter_none e n = search_by n (λ z. z ≡ 0) (λ z. refl) (λ k l y q. absurd (count_none st count (sym w.exact ∙ e) k l y))

  -- where a slot waits the count is not 0
  pub some_wait : (k : ℕ) → k < count → Waiting st k → 0 < waiting
  some_wait k l y = rw w.exact (count_some st count k l y)

-- ---- changes

module _ {st : List ℕ} {count pending waiting : ℕ} (w : Waits st count pending waiting) where
  -- more numbers are given out
  pub waits_more : (pending' : ℕ) → pending ≤ pending' → Waits st count pending' waiting
  waits_more q h = record { kind = w.kind; low = λ k l y. omega (arith, w.low k l y); one = w.one; exact = w.exact }

  -- where none waits, numbering may start again
  pub waits_restart : waiting ≡ 0 → Waits st count 0 waiting
  waits_restart e =
      record { kind = w.kind; low = λ k l y. absurd (count_none st count (sym w.exact ∙ e) k l y); one = w.one; exact = w.exact }

  -- the next number is free
  pub fresh_next : Fresh st count (pending + 1) pending
  fresh_next = record { given = omega arith; free = λ k l y e. omega (arith, w.low k l y) }

  -- a slot record is added; where it waits, its value is a pending reference whose number is free
  module _ (o index : ℕ) (f : Fields) (waits : ℕ) (fits : count < room 6 st) (fresh : waits ≡ 1 → (Fresh st count pending f.a) × (f.kind ≡ 13)) where
    abbrev after : List ℕ
    after = written st count (slot_row o index f waits)

    old : (k j : ℕ) → j < 6 → k < count → field 6 after k j ≡ field 6 st k j
    old k j h l = written_else st (slot_row o index f waits) count k j h (λ e. omega arith)

    new : (j : ℕ) → j < 6 → field 6 after count j ≡ get_or (slot_row o index f waits) j 0
    new j h = written_same st (slot_row o index f waits) count j h fits

    -- what holds of a slot that waits then, from what holds of the old ones and of the new one
    split : (P : ℕ → Type 0) → ((k : ℕ) → k < count → Waiting st k → P k) → (waits ≡ 1 → P count) → (k : ℕ) → k < count + 1 → Waiting after k → P k
    split P a b k l y =
        same_or k count (λ z. subst P (sym z) (b (sym (new 5 (omega arith)) ∙ (rw z at y))))
        (λ z. let h : k < count = omega arith in a k h (sym (old k 5 (omega arith) h) ∙ y))

    -- no old one waits under the new one's number
    alone : waits ≡ 1 → (k : ℕ) → k < count → Waiting st k → field 6 after k 3 ≢ field 6 after count 3
    alone e k l y q = (fresh e).0.free k l y (sym (old k 3 (omega arith) l) ∙ q ∙ new 3 (omega arith))

    counts : {n : ℕ} → waits ≤ 1 → waiters_in after count ≡ n → waiters_in after (count + 1) ≡ n + waits
    counts {n} bit e =
        rw (add-one count)
        (same_or waits 1
        (λ z. omega (arith, count_yes after count (new 5 (omega arith) ∙ z)))
        (λ z. omega (arith, count_no after count (λ q. z (sym (new 5 (omega arith)) ∙ q)))))

    pub waits_added : waits ≤ 1 → Waits after (count + 1) pending (waiting + waits)
    waits_added bit =
        record {
          kind = split (λ k. field 6 after k 2 ≡ 13) (λ k l y. old k 2 (omega arith) l ∙ w.kind k l y) (λ e. new 2 (omega arith) ∙ (fresh e).1);
          low = split (λ k. field 6 after k 3 < pending) (λ k l y. rw (old k 3 (omega arith) l) (w.low k l y)) (λ e. rw (new 3 (omega arith)) (fresh e).0.given);
          one = λ i j a b y z q.
              split (λ i. field 6 after i 3 ≡ field 6 after j 3 → i ≡ j)
              (λ i a y. split (λ j. field 6 after i 3 ≡ field 6 after j 3 → i ≡ j)
              (λ j b z q. w.one i j a b y z (sym (old i 3 (omega arith) a) ∙ q ∙ old j 3 (omega arith) b)) (λ e q. absurd (alone e i a y q)) j b z)
              (λ e. split (λ j. field 6 after count 3 ≡ field 6 after j 3 → count ≡ j) (λ j b z q. absurd (alone e j b z (sym q))) (λ _ q. refl) j b z) i a y q;
          exact = let z : waiters_in after (count + 1) ≡ waiting + waits = counts bit (count_same st after count (λ k l. old k 5 (omega arith) l) ∙ sym w.exact) in sym z;
        }

  -- a slot that waited is filled
  module _ (j o : ℕ) (l : j < count) (y : Waiting st j) (fits : j < room 6 st) where
    gone : Waiting (filled st j o) j → ⊥
    gone e = let z : ◌≡◌ {A = ℕ} 0 1 = sym (filled_same st j o 3 (omega arith) fits) ∙ e in omega arith

    other : (k i : ℕ) → i < 6 → k ≢ j → field 6 (filled st j o) k i ≡ field 6 st k i
    other k i h n = filled_else st j o k i h (λ e. absurd (n e))

    still : (P : ℕ → Type 0) → ((k : ℕ) → k ≢ j → k < count → Waiting st k → P k) → (k : ℕ) → k < count → Waiting (filled st j o) k → P k
    still P a k h e = same_or k j (λ z. absurd (gone (rw z at e))) (λ z. a k z h (sym (other k 5 (omega arith) z) ∙ e))

    pub waits_filled : Waits (filled st j o) count pending (waiting - 1)
    waits_filled =
        record {
          kind = still _ (λ k n h e. other k 2 (omega arith) n ∙ w.kind k h e);
          low = still _ (λ k n h e. rw (other k 3 (omega arith) n) (w.low k h e));
          one = λ i k a b p q e.
              still (λ i. field 6 (filled st j o) i 3 ≡ field 6 (filled st j o) k 3 → i ≡ k)
              (λ i n a p. still (λ k. field 6 (filled st j o) i 3 ≡ field 6 (filled st j o) k 3 → i ≡ k)
              (λ k n' b q e. w.one i k a b p q (sym (other i 3 (omega arith) n) ∙ e ∙ other k 3 (omega arith) n')) k b q) i a p e;
          exact = let z = count_less st (filled st j o) j count l y gone (λ k n. other k 5 (omega arith) n) in omega (arith, w.exact);
        }

-- at the start nothing waits
pub waits_start : (st : List ℕ) → Waits st 0 0 0
waits_start st = record { kind = λ k l y. absurd (omega arith); low = λ k l y. absurd (omega arith); one = λ i j a b y z e. absurd (omega arith); exact = sym (count_start st) }
