-- Each slot record is that of one item, with its object and its index, and each object's slot count
-- is the number of its slot records. Assumes nothing.
use Rattle.std.specs.Prelude.{if◌then◌else◌, ◌≡◌, refl, Bool, true, false, List, ◌∷◌, ℕ, zero, suc, ◌+◌, ◌*◌, ◌/◌, ◌<◌, ◌≤◌, eqb, set}
use Rattle.std.proofs.Common.{sym, ◌∙◌, ap, add-one, arith, eq-eqb, ne_eqb, eqb-true}
use Rattle.std.proofs.Math.Nat.{zero-div}
use Rattle.std.proofs.lemmas.Bool.{eqb-false}
use Rattle.tables.specs.declared.values.Fields.{Fields}
use Rattle.tables.specs.Records.{room, field, object_row, slot_row, written, filled}
use Rattle.tables.proofs.RecordLaws.{written_same, written_else, filled_else, set_same, set_else}
use Rattle.definition.specs.Memory.{Input, word, Kept, in_map, in_slot, in_value, dropped, Event, opened, passed, item, value, resolve, begins, synchronize, Table, table, Mem, added}
use Rattle.definition.specs.Slots.{counted}
use Rattle.definition.specs.Call.{Rooms, Call, input_of, told_of}
use Rattle.assurance.specs.On.{All, all_map, all_told}
use Rattle.assurance.proofs.EventRules.{Placing, EventRules, tables_have}
use Rattle.assurance.proofs.Listed.{below}
use Rattle.assurance.specs.Words.{Accepted, Told, items_in}
use Rattle.assurance.specs.Records.{SlotAt, slots_of}

abbrev Sits : ℕ → Table → Event → Type 0
Sits ts t (item o s w k) = SlotAt t k o (s / ts)
Sits ts t (opened q w) = Unit {0}
Sits ts t (passed a n) = Unit {0}
Sits ts t (value v k) = Unit {0}
Sits ts t (resolve n o) = Unit {0}
Sits ts t (begins q) = Unit {0}
Sits ts t (synchronize q) = Unit {0}

-- of the slots' table and the events; and of both tables
record Seated (ts : ℕ) (t : Table) (es : List Event) : Type 0 where
  each : All (Sits ts t) es
  one : (k : ℕ) → k < t.count → items_in es k ≡ 1
  none : (k : ℕ) → t.count ≤ k → items_in es k ≡ 0

record Owned (ot st : Table) : Type 0 where
  owned : (o : ℕ) → o < ot.count → field 4 ot.rows o 3 ≡ slots_of st.rows o st.count
  free : (o : ℕ) → ot.count ≤ o → slots_of st.rows o st.count ≡ 0

-- ---- slot records by object

slots_same : (r s : List ℕ) (o n : ℕ) → ((k : ℕ) → k < n → field 6 s k 0 ≡ field 6 r k 0) → slots_of s o n ≡ slots_of r o n
unfolding slots_of
slots_same r s o zero h = refl
slots_same r s o (suc n) h = rw (h n (omega arith), slots_same r s o n (λ k l. h k (omega arith)))

slots_more : (rows : List ℕ) (n i index : ℕ) (v : Fields) (waits o : ℕ) → n < room 6 rows → slots_of (written rows n (slot_row i index v waits)) o (n + 1) ≡ (if eqb o i then slots_of rows o n + 1 else slots_of rows o n)
unfolding slots_of
slots_more rows n i index v waits o l =
    let row : List ℕ = slot_row i index v waits in
    rw (add-one n, written_same rows row n 0 (omega arith) l, slots_same rows (written rows n row) o n (λ k g. written_else rows row n k 0 (omega arith) (omega arith)))

slot_owned : (ot st : Table) (i index : ℕ) (v : Fields) (waits : ℕ) → Placing i ot st → Owned ot st → Owned (counted i ot) (added st (slot_row i index v waits))
slot_owned ot st i index v waits p h =
    record {
      owned = (λ o l. at o l (eqb o i) refl ∙ sym (slots_more st.rows st.count i index v waits o p.roomy));
      free = (λ o l. slots_more st.rows st.count i index v waits o p.roomy ∙ (rw (ne_eqb o i (λ e. omega (arith, p.listed))) (h.free o l)));
    }
  where
    at : (o : ℕ) → o < ot.count → (t : Bool) → eqb o i ≡ t → field 4 (counted i ot).rows o 3 ≡ (if eqb o i then slots_of st.rows o st.count + 1 else slots_of st.rows o st.count)
    at o l true e =
        let q : o ≡ i = eqb-true o i e in
        rw (e, q) (set_same 4 i 3 ot.rows (field 4 ot.rows i 3 + 1) (omega arith) (omega (arith, p.listed, p.objects_fit)) ∙ ap (λ (n : ℕ). n + 1) (h.owned i p.listed))
    at o l false e =
        rw e (set_else 4 i 3 ot.rows (field 4 ot.rows i 3 + 1) (omega arith) o 3 (omega arith) (λ q. absurd (eqb-false o i e q)) ∙ h.owned o l)

open_owned : (ot st : Table) (bytes tag : ℕ) → ot.count < room 4 ot.rows → Owned ot st → Owned (added ot (object_row bytes tag)) st
open_owned ot st bytes tag l h =
    let row : List ℕ = object_row bytes tag in
    record {
      owned =
          below (λ o. field 4 (written ot.rows ot.count row) o 3 ≡ slots_of st.rows o st.count) ot.count
          (λ o g. written_else ot.rows row ot.count o 3 (omega arith) (omega arith) ∙ h.owned o g)
          (written_same ot.rows row ot.count 3 (omega arith) l ∙ sym (h.free ot.count (omega arith)));
      free = (λ o g. h.free o (omega arith));
    }

flag_owned : (ot st : Table) (o : ℕ) → Owned ot st → Owned (table (set ot.rows (o * 4 + 2) 1) ot.count) st
flag_owned ot st o h = record { owned = (λ i l. set_else 4 o 2 ot.rows 1 (omega arith) i 3 (omega arith) (λ e. omega arith) ∙ h.owned i l); free = h.free }

-- a slot that is filled stays its object's
fill_owned : (ot st : Table) (k o : ℕ) → Owned ot st → Owned ot (table (filled st.rows k o) st.count)
fill_owned ot st k o h =
    let same : (i : ℕ) → slots_of (filled st.rows k o) i st.count ≡ slots_of st.rows i st.count = λ i. slots_same st.rows (filled st.rows k o) i st.count (λ j l. filled_else st.rows k o j 0 (omega arith) (λ e. omega arith)) in
    record { owned = (λ i l. h.owned i l ∙ sym (same i)); free = (λ i l. same i ∙ h.free i l) }

-- ---- items

-- records of a table that stay
sits_stay : (ts : ℕ) (t u : Table) → t.count ≤ u.count → ((k j : ℕ) → k < t.count → j < 2 → field 6 u.rows k j ≡ field 6 t.rows k j) → (e : Event) → Sits ts t e → Sits ts u e
sits_stay ts t u l f (item o s w k) h = record { listed = omega (arith, h.listed); object = f k 0 h.listed (omega arith) ∙ h.object; place = f k 1 h.listed (omega arith) ∙ h.place }
sits_stay ts t u l f (opened q w) h = tt
sits_stay ts t u l f (passed a n) h = tt
sits_stay ts t u l f (value v k) h = tt
sits_stay ts t u l f (resolve n o) h = tt
sits_stay ts t u l f (begins q) h = tt
sits_stay ts t u l f (synchronize q) h = tt

item_seated : (ts : ℕ) (t : Table) (es : List Event) (o index s w : ℕ) (v : Fields) (waits : ℕ) (keep : Kept) → index ≡ s / ts → t.count < room 6 t.rows → Seated ts t es → Seated ts (added t (slot_row o index v waits)) (item o s w t.count ∷ value v keep ∷ es)
unfolding All items_in
item_seated ts t es o index s w v waits keep e l h =
    let row : List ℕ = slot_row o index v waits in
    let u : Table = added t row in
    record {
      each = (
        record { listed = omega arith; object = written_same t.rows row t.count 0 (omega arith) l; place = written_same t.rows row t.count 1 (omega arith) l ∙ e },
        (tt, all_map (Sits ts t) (Sits ts u) (sits_stay ts t u (omega arith) (λ k j g b. written_else t.rows row t.count k j (omega arith) (omega arith))) es h.each),
      );
      one =
          below (λ k. (if eqb k t.count then items_in es k + 1 else items_in es k) ≡ 1) t.count
          (λ k g. rw (ne_eqb k t.count (λ e. omega arith)) (h.one k g))
          (rw (eq-eqb t.count t.count refl) (ap (λ (n : ℕ). n + 1) (h.none t.count (omega arith))));
      none = (λ k g. rw (ne_eqb k t.count (λ e. omega arith)) (h.none k (omega arith)));
    }

-- an event that is no item
other : (ts : ℕ) (t : Table) (es : List Event) (e : Event) → Sits ts t e → items_in (e ∷ es) ≡ items_in es → Seated ts t es → Seated ts t (e ∷ es)
unfolding All
other ts t es e s f h = record { each = (s, h.each); one = rw f h.one; none = rw f h.none }

fill_seated : (ts : ℕ) (t : Table) (es : List Event) (n o k : ℕ) → Seated ts t es → Seated ts (table (filled t.rows k o) t.count) (resolve n o ∷ es)
unfolding All items_in
fill_seated ts t es n o k h =
    let u : Table = table (filled t.rows k o) t.count in
    record {
      each = (tt, all_map (Sits ts t) (Sits ts u) (sits_stay ts t u (omega arith) (λ i j g b. filled_else t.rows k o i j (omega arith) (λ e. b))) es h.each);
      one = h.one;
      none = h.none;
    }

rules : (x : Input) → EventRules x (λ S ot st vt es. (Seated (word x) st es) × (Owned ot st))
unfolding items_in
rules x =
    record {
      on_passed = (λ S ot st vt es a n h. (other (word x) st es (passed a n) tt refl h.0, h.1));
      on_begins = (λ S ot st vt es q h. (other (word x) st es (begins q) tt refl h.0, h.1));
      on_synchronize = (λ S ot st vt es q h. (other (word x) st es (synchronize q) tt refl h.0, h.1));
      on_dropped = (λ S ot st vt es v h. (other (word x) st es (value v dropped) tt refl h.0, h.1));
      on_value = (λ S ot st vt es v l h. (other (word x) st es (value v (in_value vt.count)) tt refl h.0, h.1));
      on_open = (λ S ot st vt es q w p i l h. (other (word x) st es (opened q w) tt refl h.0, open_owned ot st (w * word x) q l h.1));
      on_flag = (λ S ot st vt es o l h. (h.0, flag_owned ot st o h.1));
      on_map = (λ S ot st vt es o size v p h. (item_seated (word x) st es o 0 0 (word x) v 0 (in_map st.count) (sym (zero-div (word x))) p.roomy h.0, slot_owned ot st o 0 v 0 p h.1));
      on_item = (λ S ot st vt es o size done w v k p e q l h. (item_seated (word x) st es o (done / word x) done w v k (in_slot st.count) refl p.roomy h.0, slot_owned ot st o (done / word x) v k p h.1));
      on_unknown = (λ S ot st vt es n o h. (other (word x) st es (resolve n o) tt refl h.0, h.1));
      on_fill = (λ S ot st vt es n o k w h. (fill_seated (word x) st es n o k h.0, fill_owned ot st k o h.1));
      on_close = (λ S ot st vt es o size l p h. h);
    }

pub record Placed (word : ℕ) (ot st : Table) (es : List Event) : Type 0 where
  pub seat : (o s w k : ℕ) → Told es (item o s w k) → SlotAt st k o (s / word)
  pub one_item : (k : ℕ) → k < st.count → items_in es k ≡ 1
  pub slot_counts : (o : ℕ) → o < ot.count → field 4 ot.rows o 3 ≡ slots_of st.rows o st.count

-- THE THEOREM
pub slots_placed : (c : Call) (rooms : Rooms) (m : Mem) → Accepted c rooms m → Placed (word (input_of c)) m.objects m.slots (told_of m.log)
unfolding All items_in slots_of
slots_placed c rooms m a =
    let h = tables_have c rooms m a (λ S ot st vt es. (Seated (word (input_of c)) st es) × (Owned ot st)) (rules (input_of c)) (record { each = tt; one = (λ k l. absurd (omega arith)); none = (λ k l. refl) }, record { owned = (λ o l. absurd (omega arith)); free = (λ o l. refl) }) in
    record {
      seat = (λ o s w k t. all_told (Sits (word (input_of c)) m.slots) (told_of m.log) (item o s w k) h.0.each t);
      one_item = h.0.one;
      slot_counts = h.1.owned;
    }
