-- At most one slot waits under a number, and the next number is above all that wait. Assumes
-- nothing.
use Rattle.std.specs.Prelude.{if◌then◌else◌, ◌≡◌, refl, ◌≢◌, Bool, true, false, List, eqb}
use Rattle.std.proofs.Common.{sym, ◌∙◌, eq-or-lt_of_le, add-one, eq-eqb, eqb-true}
use Rattle.std.proofs.Math.Path.{subst}
use Rattle.std.proofs.Math.Logic.{⊎_elim}
use Prim.Native.Nat.{ℕ, zero, suc, ◌+◌, ◌-◌, ◌<◌, ◌≤◌}
use native.Mathlib.Omega.{arith}
use Rattle.std.proofs.lemmas.Bool.{eqb-false, and_parts}
use Rattle.tables.specs.declared.values.Fields.{Fields}
use Rattle.tables.specs.Records.{room, field, slot_row, written, filled}
use Rattle.tables.proofs.RecordLaws.{written_same, written_else, filled_same, filled_else}
use Rattle.definition.specs.Memory.{Table, table, added}
use Rattle.definition.specs.Slots.{waits_for, waiter, renumbered}
use Rattle.assurance.specs.PlainSheet.{clash}
use Rattle.assurance.proofs.Listed.{below}

-- slot record k waits
abbrev pub WaitsAt : List ℕ → ℕ → Type 0
WaitsAt rows k = field 6 rows k 5 ≡ 1

-- how many of the first n slot records wait
unfoldable pub waits_in : List ℕ → ℕ → ℕ
waits_in rows zero = 0
waits_in rows (suc n) = if eqb (field 6 rows n 5) 1 then waits_in rows n + 1 else waits_in rows n

pub record Waits (t : Table) (pending waiting : ℕ) : Type 0 where
  pub numbered : (k : ℕ) → k < t.count → WaitsAt t.rows k → field 6 t.rows k 3 < pending
  pub distinct : (j k : ℕ) → j < t.count → k < t.count → WaitsAt t.rows j → WaitsAt t.rows k → field 6 t.rows j 3 ≡ field 6 t.rows k 3 → j ≡ k
  pub counted : waiting ≡ waits_in t.rows t.count

-- a number that is given out and under which none waits
pub record Fresh (t : Table) (pending n : ℕ) : Type 0 where
  pub given : n < pending
  pub unused : (k : ℕ) → k < t.count → WaitsAt t.rows k → field 6 t.rows k 3 ≢ n

waits_same : (r s : List ℕ) (n : ℕ) → ((k : ℕ) → k < n → field 6 s k 5 ≡ field 6 r k 5) → waits_in s n ≡ waits_in r n
unfolding waits_in
waits_same r s zero h = refl
waits_same r s (suc n) h = rw (h n (omega arith), waits_same r s n (λ k l. h k (omega arith)))

-- where none is counted none waits
pick-zero : (t : Bool) (n : ℕ) → (if t then n + 1 else n) ≡ 0 → (t ≡ false) × (n ≡ 0)
pick-zero true n e = absurd (omega arith)
pick-zero false n e = (refl, e)

none_waits : (rows : List ℕ) (n k : ℕ) → waits_in rows n ≡ 0 → k < n → WaitsAt rows k → ⊥
unfolding waits_in
none_waits rows zero k e l w = omega arith
none_waits rows (suc n) k e l w =
    let z = pick-zero (eqb (field 6 rows n 5) 1) (waits_in rows n) e in
    below (λ k. WaitsAt rows k → ⊥) n (λ k l. none_waits rows n k z.1 l) (eqb-false (field 6 rows n 5) 1 z.0) k (omega arith) w

-- the next number may return to 0 when none waits
pub renumber : (t : Table) (pending waiting : ℕ) → Waits t pending waiting → Waits t (renumbered pending waiting) waiting
renumber t pending waiting h = record { numbered = (λ k l w. at k l w (eqb waiting 0) refl); distinct = h.distinct; counted = h.counted }
  where
    at : (k : ℕ) → k < t.count → WaitsAt t.rows k → (b : Bool) → eqb waiting 0 ≡ b → field 6 t.rows k 3 < (if b then 0 else pending)
    at k l w true e = absurd (none_waits t.rows t.count k (sym h.counted ∙ eqb-true waiting 0 e) l w)
    at k l w false e = h.numbered k l w

-- a slot is added: it does not wait, or waits under a fresh number
module _ (t : Table) (pending waiting o index : ℕ) (v : Fields) (waits : ℕ) (l : t.count < room 6 t.rows) (low : waits ≤ 1) (fresh : waits ≡ 1 → Fresh t pending v.a) (h : Waits t pending waiting) where
  abbrev new : List ℕ
  new = written t.rows t.count (slot_row o index v waits)

  old_field : (k j : ℕ) → k < t.count → j < 6 → field 6 new k j ≡ field 6 t.rows k j
  old_field k j g b = written_else t.rows (slot_row o index v waits) t.count k j b (omega arith)

  new_number : field 6 new t.count 3 ≡ v.a
  new_number = written_same t.rows (slot_row o index v waits) t.count 3 (omega arith) l

  new_waits : field 6 new t.count 5 ≡ waits
  new_waits = written_same t.rows (slot_row o index v waits) t.count 5 (omega arith) l

  numbered_new : (k : ℕ) → k < t.count + 1 → WaitsAt new k → field 6 new k 3 < pending
  numbered_new =
      below (λ k. WaitsAt new k → field 6 new k 3 < pending) t.count
      (λ k g w. rw (old_field k 3 g (omega arith)) (h.numbered k g (sym (old_field k 5 g (omega arith)) ∙ w)))
      (λ w. rw new_number (fresh (sym new_waits ∙ w)).given)

  unused_new : (k : ℕ) → k < t.count → WaitsAt new k → WaitsAt new t.count → field 6 new k 3 ≢ field 6 new t.count 3
  unused_new k g w n e = (fresh (sym new_waits ∙ n)).unused k g (sym (old_field k 5 g (omega arith)) ∙ w) (sym (old_field k 3 g (omega arith)) ∙ e ∙ new_number)

  distinct_new : (j k : ℕ) → j < t.count + 1 → k < t.count + 1 → WaitsAt new j → WaitsAt new k → field 6 new j 3 ≡ field 6 new k 3 → j ≡ k
  distinct_new j k lj =
      below (λ k. WaitsAt new j → WaitsAt new k → field 6 new j 3 ≡ field 6 new k 3 → j ≡ k) t.count
      (λ k g. below (λ j. WaitsAt new j → WaitsAt new k → field 6 new j 3 ≡ field 6 new k 3 → j ≡ k) t.count
      (λ j f wj wk e. h.distinct j k f g (sym (old_field j 5 f (omega arith)) ∙ wj) (sym (old_field k 5 g (omega arith)) ∙ wk) (sym (old_field j 3 f (omega arith)) ∙ e ∙ old_field k 3 g (omega arith)))
      (λ wj wk e. absurd (unused_new k g wk wj (sym e))) j lj)
      (below (λ j. WaitsAt new j → WaitsAt new t.count → field 6 new j 3 ≡ field 6 new t.count 3 → j ≡ t.count) t.count
      (λ j f wj wk e. absurd (unused_new j f wj wk e)) (λ wj wk e. refl) j lj)
      k

  pick_waits : (w n : ℕ) → w ≤ 1 → n + w ≡ (if eqb w 1 then n + 1 else n)
  pick_waits zero n b = omega arith
  pick_waits (suc zero) n b = refl
  pick_waits (suc (suc w)) n b = absurd (omega arith)

  pub slot_waits : Waits (added t (slot_row o index v waits)) pending (waiting + waits)
  unfolding waits_in
  slot_waits =
      record {
        numbered = numbered_new;
        distinct = distinct_new;
        counted = rw (add-one t.count, new_waits, waits_same t.rows (written t.rows t.count (slot_row o index v waits)) t.count (λ k g. old_field k 5 g (omega arith)), ← h.counted) (pick_waits waits waiting low);
      }

-- a slot that waits is filled
module _ (rows : List ℕ) (k o : ℕ) (l : k < room 6 rows) (w : WaitsAt rows k) where
  filled_off : field 6 (filled rows k o) k 5 ≡ 0
  filled_off = filled_same rows k o 3 (omega arith) l

  pub filled_other : (j i : ℕ) → j ≢ k → i < 6 → field 6 (filled rows k o) j i ≡ field 6 rows j i
  filled_other j i n b = filled_else rows k o j i b (λ e. absurd (n e))

  -- what waits then is another, and waited before
  pub still : (j : ℕ) → WaitsAt (filled rows k o) j → j ≢ k
  still j h e = let z : ◌≡◌ {A = ℕ} 0 1 = sym (subst (λ (i : ℕ). field 6 (filled rows k o) i 5 ≡ 0) (sym e) filled_off) ∙ h in omega arith

  pub waited : (j : ℕ) → WaitsAt (filled rows k o) j → WaitsAt rows j
  waited j h = sym (filled_other j 5 (still j h) (omega arith)) ∙ h

  pick_less : (t : Bool) (a b : ℕ) → a + 1 ≡ b → (if t then a + 1 else a) + 1 ≡ (if t then b + 1 else b)
  pick_less true a b e = omega arith
  pick_less false a b e = e

  waits_fill : (n : ℕ) → k < n → waits_in (filled rows k o) n + 1 ≡ waits_in rows n
  unfolding waits_in
  waits_fill zero g = absurd (omega arith)
  waits_fill (suc n) g =
      ⊎_elim
      (λ e. let same : waits_in (filled rows k o) n ≡ waits_in rows n = waits_same rows (filled rows k o) n (λ j f. filled_other j 5 (λ q. omega arith) (omega arith)) in
      let off : field 6 (filled rows k o) n 5 ≡ 0 = subst (λ (i : ℕ). field 6 (filled rows k o) i 5 ≡ 0) e filled_off in
      let on : field 6 rows n 5 ≡ 1 = subst (WaitsAt rows) e w in
      rw (off, on, same))
      (λ f. rw (filled_other n 5 (λ q. omega arith) (omega arith)) (pick_less (eqb (field 6 rows n 5) 1) (waits_in (filled rows k o) n) (waits_in rows n) (waits_fill n f)))
      (eq-or-lt_of_le (let z : k ≤ n = omega arith in z))

pub fill_waits : (t : Table) (pending waiting k o : ℕ) → k < t.count → t.count ≤ room 6 t.rows → WaitsAt t.rows k → Waits t pending waiting → Waits (table (filled t.rows k o) t.count) pending (waiting - 1)
fill_waits t pending waiting k o l fit w h =
    let r : k < room 6 t.rows = omega arith in
    let s : (j : ℕ) → WaitsAt (filled t.rows k o) j → j ≢ k = still t.rows k o r w in
    let b : (j : ℕ) → WaitsAt (filled t.rows k o) j → WaitsAt t.rows j = waited t.rows k o r w in
    let n : (j : ℕ) → WaitsAt (filled t.rows k o) j → field 6 (filled t.rows k o) j 3 ≡ field 6 t.rows j 3 = (λ j q. filled_other t.rows k o r w j 3 (s j q) (omega arith)) in
    record {
      numbered = (λ j g q. rw (n j q) (h.numbered j g (b j q)));
      distinct = (λ i j f g p q e. h.distinct i j f g (b i p) (b j q) (sym (n i p) ∙ e ∙ n j q));
      counted = omega (arith, h.counted, waits_fill t.rows k o r w t.count l);
    }

-- what the search for a number finds waits under it
pub found : (rows : List ℕ) (number k : ℕ) → waits_for rows number k ≡ true → (WaitsAt rows k) × (field 6 rows k 3 ≡ number)
found rows number k e = (eqb-true (field 6 rows k 5) 1 (and_parts _ _ e).0, eqb-true (field 6 rows k 3) number (and_parts (eqb (field 6 rows k 5) 1) _ e).1)

-- and where it finds none, none waits under it
pub unknown : (rows : List ℕ) (number n k : ℕ) → waiter rows number n ≡ 0 → k < n → WaitsAt rows k → field 6 rows k 3 ≢ number
unfolding waiter
unknown rows number zero k e l w q = omega arith
unknown rows number (suc n) k e l w q =
    let z = pick-none (waits_for rows number n) n (waiter rows number n) e in
    below (λ k. WaitsAt rows k → field 6 rows k 3 ≡ number → ⊥) n (λ k l. unknown rows number n k z.1 l)
    (λ w q. clash (waits_for rows number n) (rw (eq-eqb (field 6 rows n 5) 1 w, eq-eqb (field 6 rows n 3) number q)) z.0) k (omega arith) w q
  where
    pick-none : (t : Bool) (a b : ℕ) → (if t then suc a else b) ≡ 0 → (t ≡ false) × (b ≡ 0)
    pick-none true a b z = absurd (omega arith)
    pick-none false a b z = (refl, z)
