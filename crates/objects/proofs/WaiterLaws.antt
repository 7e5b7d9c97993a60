-- Which slot waits under each number after a slot record is added and after one is filled, and the
-- index with it. Assumes nothing.
use mathlib.Core.Path.{◌≡◌, refl, sym, subst, ◌∙◌}
use mathlib.Core.Bool.{Bool, true, false}
use mathlib.Core.List.{List}
use mathlib.Core.Logic.{◌≢◌}
use Prim.Native.Nat.{ℕ, zero, suc, ◌+◌, ◌-◌, ◌<◌, ◌≤◌}
use native.Mathlib.Numerals.{add-one}
use native.Mathlib.Omega.{arith}
use borrow.Author.Tests.{eqb-true, eqb-false, eq-eqb, ne_eqb}
use lib.Dec.{eqb}
use lib.ListN.{set, length-set}
use lib.Seq.{get_or-set_same, get_or-set_other}
use Rattle.std.proofs.Math.Bool.{and-false}
use Rattle.std.specs.Bool.{then_some}
use Rattle.std.proofs.lemmas.Bool.{and_parts}
use Rattle.tables.specs.declared.values.Fields.{Fields}
use Rattle.tables.specs.Records.{room, field, slot_row, written, filled}
use Rattle.tables.proofs.RecordLaws.{written_same, written_else, filled_same, filled_else}
use Rattle.definition.specs.Slots.{waits_for, waiter}
use Rattle.laws.specs.Waiting.{Waits, waiter_one}
use Rattle.objects.specs.Index.{counted, Entry, Indexed}

pub by_case : (P : Type 0) (t : Bool) → (t ≡ true → P) → (t ≡ false → P) → P
by_case P true y n = y refl
by_case P false y n = n refl

-- two numbers are the same or not
pub same_or : (P : Type 0) (a b : ℕ) → (a ≡ b → P) → (a ≢ b → P) → P
same_or P a b y n = by_case P (eqb a b) (λ e. y (eqb-true a b e)) (λ e. n (eqb-false a b e))

clash : {P : Type 0} (t : Bool) → t ≡ true → t ≡ false → P
clash t y n = let z : ◌≡◌ {A = ℕ} 0 1 = cc in absurd (omega arith)

-- ---- one slot

module _ (st : List ℕ) (n i : ℕ) where
  waits_off : field 6 st i 5 ≢ 1 → waits_for st n i ≡ false
  waits_off h = rw (ne_eqb (field 6 st i 5) 1 h)

  waits_other : field 6 st i 3 ≢ n → waits_for st n i ≡ false
  waits_other h = rw (ne_eqb (field 6 st i 3) n h) (and-false (eqb (field 6 st i 5) 1))

  waits_on : field 6 st i 5 ≡ 1 → field 6 st i 3 ≡ n → waits_for st n i ≡ true
  waits_on e f = rw (eq-eqb (field 6 st i 5) 1 e, eq-eqb (field 6 st i 3) n f)

  waits_said : waits_for st n i ≡ true → (field 6 st i 5 ≡ 1) × (field 6 st i 3 ≡ n)
  waits_said e =
      (eqb-true (field 6 st i 5) 1 (and_parts (eqb (field 6 st i 5) 1) (eqb (field 6 st i 3) n) e).0, eqb-true (field 6 st i 3) n (and_parts (eqb (field 6 st i 5) 1) (eqb (field 6 st i 3) n) e).1)

  waits_same : (st' : List ℕ) → field 6 st' i 5 ≡ field 6 st i 5 → field 6 st' i 3 ≡ field 6 st i 3 → waits_for st' n i ≡ waits_for st n i
  waits_same st' e f = rw (e, f)

-- ---- the first c slots

module _ (st : List ℕ) (n c : ℕ) where
  waiter_no : waits_for st n c ≡ false → waiter st n (suc c) ≡ waiter st n c
  unfolding waiter
  waiter_no e = rw e

  waiter_yes : waits_for st n c ≡ true → waiter st n (suc c) ≡ suc c
  unfolding waiter
  waiter_yes e = rw e

  waiter_zero : waiter st n 0 ≡ 0
  unfolding waiter
  waiter_zero = refl

-- two tables that agree
module _ (st st' : List ℕ) where
  waiter_agree : (n c : ℕ) → ((i : ℕ) → i < c → waits_for st' n i ≡ waits_for st n i) → waiter st' n c ≡ waiter st n c
  unfolding waiter
  waiter_agree n zero h = refl
  waiter_agree n (suc c) h = rw (h c (omega arith), waiter_agree n c (λ i l. h i (omega arith)))

module _ (st : List ℕ) (n : ℕ) where
  waiter_none : (c : ℕ) → ((i : ℕ) → i < c → waits_for st n i ≡ false) → waiter st n c ≡ 0
  unfolding waiter
  waiter_none zero h = refl
  waiter_none (suc c) h = rw (h c (omega arith)) (waiter_none c (λ i l. h i (omega arith)))

  pub waiter_low : (c : ℕ) → waiter st n c ≤ c
  waiter_low zero = omega (arith, waiter_zero st n 0)
  waiter_low (suc c) =
      by_case _ (waits_for st n c) (λ t. omega (arith, waiter_yes st n c t)) (λ f. omega (arith, waiter_no st n c f, waiter_low c))

  -- the waiter is one of the slots, and waits
  pub waiter_found : (c j : ℕ) → waiter st n c ≡ suc j → (j < c) × (waits_for st n j ≡ true)
  waiter_found zero j e = absurd (let z = waiter_zero st n 0 in omega (arith, z))
  waiter_found (suc c) j e =
      by_case _ (waits_for st n c)
      (λ t. let z : suc j ≡ suc c = sym e ∙ waiter_yes st n c t in let y : c ≡ j = omega arith in (omega arith, subst (λ (k : ℕ). waits_for st n k ≡ true) y t))
      (λ f. let r = waiter_found c j (sym (waiter_no st n c f) ∙ e) in (omega (arith, r.0), r.1))

  waiter_some : (c i : ℕ) → i < c → waits_for st n i ≡ true → 0 < waiter st n c
  waiter_some zero i h e = absurd (omega arith)
  waiter_some (suc c) i h e =
      by_case _ (waits_for st n c)
      (λ t. omega (arith, waiter_yes st n c t))
      (λ f. same_or _ i c
      (λ y. clash (waits_for st n c) (subst (λ (k : ℕ). waits_for st n k ≡ true) y e) f)
      (λ ne. let r = waiter_some c i (omega (arith, h)) e in omega (arith, r, waiter_no st n c f)))

-- ---- the index

pub indexed_start : (st sc : List ℕ) → Indexed st 0 sc
indexed_start st sc n h w = absurd (omega (arith, waiter_zero st n 0))

-- an entry k whose slot j waits is the waiter; where it does not, no slot waits
module _ (st : List ℕ) (c n : ℕ) {k j : ℕ} (x : Entry st c n k) (e : (1 ≤ k) × (j ≡ k - 1)) where
  confirmed_yes : j < c → waits_for st n j ≡ true → suc j ≡ waiter st n c
  confirmed_yes l t = let z : suc j ≡ k = omega arith in z ∙ x (waiter_some st n c j l t)

  confirmed_no : (j < c → waits_for st n j ≡ false) → 0 ≡ waiter st n c
  confirmed_no f =
      same_or _ (waiter st n c) 0 sym
      (λ ne. let y : k ≡ waiter st n c = x (omega arith) in
      let r = waiter_found st n c j (omega arith) in
      clash (waits_for st n j) r.1 (f r.0))

  -- what the test of the slot that it names gives
  pub confirmed_test : j < c → {b : Bool} → b ≡ waits_for st n j → counted (then_some b j) ≡ waiter st n c
  confirmed_test l {b = true} t = confirmed_yes l (sym t)
  confirmed_test l {b = false} t = confirmed_no (λ _. sym t)

-- ---- a slot record is added

module _ (st : List ℕ) (c o i : ℕ) (f : Fields) (w : ℕ) where
  abbrev row : List ℕ
  row = slot_row o i f w

  abbrev after : List ℕ
  after = written st c row

  row_else : (m k : ℕ) → k < 6 → m ≢ c → field 6 after m k ≡ field 6 st m k
  row_else m k h ne = written_else st row c m k h ne

  row_same : (n j : ℕ) → j < c → waits_for after n j ≡ waits_for st n j
  row_same n j h = waits_same st n j after (row_else j 5 (omega arith) (λ e. omega arith)) (row_else j 3 (omega arith) (λ e. omega arith))

  row_waiter : (n : ℕ) → waiter after n c ≡ waiter st n c
  row_waiter n = waiter_agree st after n c (λ j h. row_same n j h)

  module _ (fits : c < room 6 st) where
    row_waits : field 6 after c 5 ≡ w
    row_waits = written_same st row c 5 (omega arith) fits

    row_number : field 6 after c 3 ≡ f.a
    row_number = written_same st row c 3 (omega arith) fits

    -- one that does not wait
    module _ (off : w ≡ 0) where
      plain_off : field 6 after c 5 ≢ 1
      plain_off e = let z = sym row_waits ∙ e in omega (arith, z)

      plain-waiter : (n : ℕ) → waiter after n (suc c) ≡ waiter st n c
      plain-waiter n = waiter_no after n c (waits_off after n c plain_off) ∙ row_waiter n

      added-plain : (n : ℕ) → waiter after n (c + 1) ≡ waiter st n c
      added-plain n = rw (add-one c) (plain-waiter n)

      pub indexed_plain : (sc : List ℕ) → Indexed st c sc → Indexed after (c + 1) sc
      indexed_plain sc x n h = rw (added-plain n) (x n h)

    -- one that waits
    module _ (on : w ≡ 1) where
      added_yes : waiter after f.a (suc c) ≡ suc c
      added_yes = waiter_yes after f.a c (waits_on after f.a c (row_waits ∙ on) row_number)

      added_own : waiter after f.a (c + 1) ≡ c + 1
      added_own = rw (add-one c) added_yes

      added_others : (n : ℕ) → n ≢ f.a → waiter after n (c + 1) ≡ waiter st n c
      added_others n ne = rw (add-one c) (waiter_no after n c (waits_other after n c (λ e. ne (sym e ∙ row_number))) ∙ row_waiter n)

      pub indexed_waits : (sc : List ℕ) → Indexed st c sc → Indexed after (c + 1) (set sc f.a (c + 1))
      indexed_waits sc x n h =
          same_or _ n f.a
          (λ y w. rw y (get_or-set_same sc f.a (c + 1) 0 (omega (arith, length-set sc f.a (c + 1))) ∙ sym added_own))
          (λ ne. rw (added_others n ne, get_or-set_other sc f.a n (c + 1) 0 ne) (x n (omega (arith, length-set sc f.a (c + 1)))))

-- ---- a slot is filled

module _ (st : List ℕ) (j o : ℕ) where
  fill_same : (n i : ℕ) → i ≢ j → waits_for (filled st j o) n i ≡ waits_for st n i
  fill_same n i ne = waits_same st n i (filled st j o) (filled_else st j o i 5 (omega arith) (λ e. absurd (ne e))) (filled_else st j o i 3 (omega arith) (λ e. absurd (ne e)))

  module _ (fits : j < room 6 st) where
    fill_at : field 6 (filled st j o) j 5 ≢ 1
    fill_at e = let z = sym (filled_same st j o 3 (omega arith) fits) ∙ e in omega (arith, z)

    fill_off : (n : ℕ) → waits_for (filled st j o) n j ≡ false
    fill_off n = waits_off (filled st j o) n j fill_at

module _ (st : List ℕ) (c : ℕ) (fits : c ≤ room 6 st) (n j o : ℕ) (e : waiter st n c ≡ suc j) where
  below : j < room 6 st
  below = omega (arith, (waiter_found st n c j e).0)

  said : (field 6 st j 5 ≡ 1) × (field 6 st j 3 ≡ n)
  said = waits_said st n j (waiter_found st n c j e).1

  pub filled_other : (m : ℕ) → m ≢ n → waiter (filled st j o) m c ≡ waiter st m c
  filled_other m h =
      waiter_agree st (filled st j o) m c (λ i l. same_or _ i j
      (λ y. rw y (fill_off st j o below m ∙ sym (waits_other st m j (λ z. h (sym z ∙ said.1)))))
      (λ ne. fill_same st j o m i ne))

  module _ {pending waiting : ℕ} (w : Waits st c pending waiting) where
    filled_gone : waiter (filled st j o) n c ≡ 0
    filled_gone =
        waiter_none (filled st j o) n c (λ i l. same_or _ i j
        (λ y. rw y (fill_off st j o below n))
        (λ ne. by_case _ (waits_for st n i)
        (λ t. absurd (let z : suc i ≡ suc j = waiter_one w n i l t ∙ e in ne (omega arith)))
        (λ t. fill_same st j o n i ne ∙ t)))

    -- the entry of the number stays, and is no longer the number of a slot that waits
    pub indexed_filled : (sc : List ℕ) → Indexed st c sc → Indexed (filled st j o) c sc
    indexed_filled sc x m h =
        same_or _ m n
        (λ y w. absurd (let z : waiter (filled st j o) m c ≡ 0 = rw y filled_gone in omega arith))
        (λ ne. rw (filled_other m ne) (x m h))
