-- Each value that was read stands where it is kept, and refers to an object or a value that is
-- listed; a pending slot stands as it was left or filled. What each change of the tables leaves of
-- that. Assumes nothing.
use Rattle.std.specs.Prelude.{◌≡◌, ◌≢◌, List, [], ◌∷◌, ℕ, ◌+◌, ◌<◌, ◌≤◌, get_or}
use Rattle.std.proofs.Math.Path.{sym, subst}
use Rattle.std.proofs.Common.{◌∙◌, ap, arith}
use Rattle.std.proofs.Math.Logic.{⊎_elim}
use Rattle.tables.specs.declared.values.Fields.{Fields}
use Rattle.tables.specs.Values.{triple}
use Rattle.tables.specs.Records.{room, field, slot_row, value_row, filled}
use Rattle.tables.proofs.RecordLaws.{written_same, written_else, filled_same}
use Rattle.definition.specs.Memory.{Kept, in_map, in_slot, in_value, dropped, Event, opened, passed, item, value, resolve, begins, synchronize, Table, table, added}
use Rattle.definition.specs.Slots.{waiter}
use Rattle.assurance.specs.On.{All, all_map}
use Rattle.assurance.proofs.Waiting.{WaitsAt, Waits, filled_other, unknown}
use Rattle.assurance.specs.Words.{LeftPending, FilledBy}
use Rattle.assurance.specs.Records.{SlotHas, ValueHas}

-- a value's object is below the count of objects, and its value record below the count of values; a
-- pending value is its number alone
pub record Refers (objects values : ℕ) (v : Fields) : Type 0 where
  pub object : v.kind ≡ 1 → v.a < objects
  pub repeat : v.kind ≡ 7 → v.b < values
  pub weak : v.kind ≡ 12 → v.a < values
  pub pending : v.kind ≡ 13 → v.b ≡ 0

-- it stands where it is kept; of a pending slot `left` and `filled` below speak
abbrev pub Stands : Table → Table → Fields → Kept → Type 0
Stands st vt v (in_map k) = SlotHas st k v 0
Stands st vt v (in_slot k) = v.kind ≢ 13 → SlotHas st k v 0
Stands st vt v (in_value k) = ValueHas vt k v
Stands st vt v dropped = Unit {0}

abbrev pub Right : ℕ → Table → Table → Event → Type 0
Right objects st vt (value v t) = (Refers objects vt.count v) × (Stands st vt v t)
Right objects st vt (opened q w) = Unit {0}
Right objects st vt (passed a n) = Unit {0}
Right objects st vt (item o s w k) = Unit {0}
Right objects st vt (resolve n o) = Unit {0}
Right objects st vt (begins q) = Unit {0}
Right objects st vt (synchronize q) = Unit {0}

pub record Standing (objects : ℕ) (st vt : Table) (es : List Event) : Type 0 where
  pub right : All (Right objects st vt) es
  pub left : (k n : ℕ) → LeftPending es k n → SlotHas st k (triple 13 n 0) 1
  pub resolved : (k n o : ℕ) → FilledBy es k n o → (SlotHas st k (triple 1 o 0) 0) × (o < objects)

-- ---- records that stay

slot_stays : (t u : Table) (k : ℕ) (v : Fields) (waits : ℕ) → t.count ≤ u.count → ((j : ℕ) → j < 6 → field 6 u.rows k j ≡ field 6 t.rows k j) → SlotHas t k v waits → SlotHas u k v waits
slot_stays t u k v waits l f h = record { listed = omega (arith, h.listed); kind = f 2 (omega arith) ∙ h.kind; a = f 3 (omega arith) ∙ h.a; b = f 4 (omega arith) ∙ h.b; waits_is = f 5 (omega arith) ∙ h.waits_is }

value_stays : (t u : Table) (k : ℕ) (v : Fields) → t.count ≤ u.count → ((j : ℕ) → j < 3 → field 3 u.rows k j ≡ field 3 t.rows k j) → ValueHas t k v → ValueHas u k v
value_stays t u k v l f h = record { listed = omega (arith, h.listed); kind = f 0 (omega arith) ∙ h.kind; a = f 1 (omega arith) ∙ h.a; b = f 2 (omega arith) ∙ h.b }

refers_up : (o o' n n' : ℕ) (v : Fields) → o ≤ o' → n ≤ n' → Refers o n v → Refers o' n' v
refers_up o o' n n' v lo ln h = record { object = (λ e. let z = h.object e in omega arith); repeat = (λ e. let z = h.repeat e in omega arith); weak = (λ e. let z = h.weak e in omega arith); pending = h.pending }

-- more objects and values, slots that do not wait stay: what was right still is
right_map : (objects objects' : ℕ) (st st' vt vt' : Table) → objects ≤ objects' → vt.count ≤ vt'.count → ((k : ℕ) (v : Fields) → SlotHas st k v 0 → SlotHas st' k v 0) → ((k : ℕ) (v : Fields) → ValueHas vt k v → ValueHas vt' k v) → (e : Event) → Right objects st vt e → Right objects' st' vt' e
right_map o o' st st' vt vt' lo lv fs fv (value v (in_map k)) h = (refers_up o o' vt.count vt'.count v lo lv h.0, fs k v h.1)
right_map o o' st st' vt vt' lo lv fs fv (value v (in_slot k)) h = (refers_up o o' vt.count vt'.count v lo lv h.0, (λ n. fs k v (h.1 n)))
right_map o o' st st' vt vt' lo lv fs fv (value v (in_value k)) h = (refers_up o o' vt.count vt'.count v lo lv h.0, fv k v h.1)
right_map o o' st st' vt vt' lo lv fs fv (value v dropped) h = (refers_up o o' vt.count vt'.count v lo lv h.0, tt)
right_map o o' st st' vt vt' lo lv fs fv (opened q w) h = tt
right_map o o' st st' vt vt' lo lv fs fv (passed a n) h = tt
right_map o o' st st' vt vt' lo lv fs fv (item x s w k) h = tt
right_map o o' st st' vt vt' lo lv fs fv (resolve n x) h = tt
right_map o o' st st' vt vt' lo lv fs fv (begins q) h = tt
right_map o o' st st' vt vt' lo lv fs fv (synchronize q) h = tt

-- ---- the changes

-- an event that is no value and no resolve, or a dropped value
pub told_standing : (objects : ℕ) (st vt : Table) (es : List Event) (e : Event) → Right objects st vt e → LeftPending (e ∷ es) ≡ LeftPending es → FilledBy (e ∷ es) ≡ FilledBy es → Standing objects st vt es → Standing objects st vt (e ∷ es)
unfolding All
told_standing objects st vt es e r l f h = record { right = (r, h.right); left = rw l h.left; resolved = rw f h.resolved }

pub open_standing : (objects : ℕ) (st vt : Table) (es : List Event) (q w : ℕ) → Standing objects st vt es → Standing (objects + 1) st vt (opened q w ∷ es)
unfolding All LeftPending FilledBy
open_standing objects st vt es q w h =
    record {
      right = (tt, all_map (Right objects st vt) (Right (objects + 1) st vt) (right_map objects (objects + 1) st st vt vt (omega arith) (omega arith) (λ k v i. i) (λ k v i. i)) es h.right);
      left = h.left;
      resolved = (λ k n o f. let z = h.resolved k n o f in (z.0, omega (arith, z.1)));
    }

pub value_standing : (objects : ℕ) (st vt : Table) (es : List Event) (v : Fields) → vt.count < room 3 vt.rows → Refers objects vt.count v → Standing objects st vt es → Standing objects st (added vt (value_row v)) (value v (in_value vt.count) ∷ es)
unfolding All LeftPending FilledBy
value_standing objects st vt es v l r h =
    let u : Table = added vt (value_row v) in
    record {
      right = (
        (refers_up objects objects vt.count (vt.count + 1) v (omega arith) (omega arith) r, record { listed = omega arith; kind = written_same vt.rows (value_row v) vt.count 0 (omega arith) l; a = written_same vt.rows (value_row v) vt.count 1 (omega arith) l; b = written_same vt.rows (value_row v) vt.count 2 (omega arith) l }),
        all_map (Right objects st vt) (Right objects st u) (right_map objects objects st st vt u (omega arith) (omega arith) (λ k v i. i) (λ k f i. value_stays vt u k f (omega arith) (λ j b. written_else vt.rows (value_row v) vt.count k j b (λ e. omega (arith, i.listed))) i)) es h.right,
      );
      left = h.left;
      resolved = h.resolved;
    }

-- a slot record is added
module _ (objects : ℕ) (st vt : Table) (es : List Event) (o index start w : ℕ) (v : Fields) (waits : ℕ) (l : st.count < room 6 st.rows) (h : Standing objects st vt es) where
  abbrev more : Table
  more = added st (slot_row o index v waits)

  added_slot : SlotHas more st.count v waits
  added_slot =
      record {
        listed = omega arith;
        kind = written_same st.rows (slot_row o index v waits) st.count 2 (omega arith) l;
        a = written_same st.rows (slot_row o index v waits) st.count 3 (omega arith) l;
        b = written_same st.rows (slot_row o index v waits) st.count 4 (omega arith) l;
        waits_is = written_same st.rows (slot_row o index v waits) st.count 5 (omega arith) l;
      }

  old_slot : (k : ℕ) (f : Fields) (n : ℕ) → SlotHas st k f n → SlotHas more k f n
  old_slot k f n i = slot_stays st more k f n (omega arith) (λ j b. written_else st.rows (slot_row o index v waits) st.count k j b (λ e. omega (arith, i.listed))) i

  slot_standing : (keep : Kept) → Refers objects vt.count v → Stands more vt v keep → ((k n : ℕ) → LeftPending (value v keep ∷ es) k n → SlotHas more k (triple 13 n 0) 1) → Standing objects more vt (item o start w st.count ∷ value v keep ∷ es)
  unfolding All LeftPending FilledBy
  slot_standing keep r s left =
      record {
        right = (tt, ((r, s), all_map (Right objects st vt) (Right objects more vt) (right_map objects objects st more vt vt (omega arith) (omega arith) (λ k f i. old_slot k f 0 i) (λ k f i. i)) es h.right));
        left = left;
        resolved = (λ k n p f. let z = h.resolved k n p f in (old_slot k (triple 1 p 0) 0 z.0, z.1));
      }

  -- as an object's map, which does not wait
  pub map_standing : waits ≡ 0 → Refers objects vt.count v → Standing objects more vt (item o start w st.count ∷ value v (in_map st.count) ∷ es)
  unfolding LeftPending
  map_standing e r = slot_standing (in_map st.count) r (subst (SlotHas more st.count v) e added_slot) (λ k n i. old_slot k (triple 13 n 0) 1 (h.left k n i))

  -- as another slot, which waits if it is pending
  pub item_standing : (v.kind ≢ 13 → waits ≡ 0) → (v.kind ≡ 13 → waits ≡ 1) → Refers objects vt.count v → Standing objects more vt (item o start w st.count ∷ value v (in_slot st.count) ∷ es)
  unfolding LeftPending
  item_standing off on r =
      slot_standing (in_slot st.count) r (λ n. subst (SlotHas more st.count v) (off n) added_slot)
      (λ k n. ⊎_elim
      (λ (i : (v ≡ triple 13 n 0) × (st.count ≡ k)). subst (λ (j : ℕ). SlotHas more j (triple 13 n 0) 1) i.1 (subst (λ (f : Fields). SlotHas more st.count f 1) i.0 (subst (SlotHas more st.count v) (on (ap (λ (f : Fields). f.kind) i.0)) added_slot)))
      (λ i. old_slot k (triple 13 n 0) 1 (h.left k n i)))

-- a resolve of a number under which none waits
pub unknown_standing : (objects : ℕ) (st vt : Table) (es : List Event) (n o : ℕ) → waiter st.rows n st.count ≡ 0 → Standing objects st vt es → Standing objects st vt (resolve n o ∷ es)
unfolding All LeftPending FilledBy
unknown_standing objects st vt es n o e h =
    record {
      right = (tt, h.right);
      left = (λ k j i. h.left k j i.1);
      resolved = (λ k j p. ⊎_elim (λ (i : (n ≡ j) × (o ≡ p) × (LeftPending es k j)). let s = h.left k j i.2 in absurd (unknown st.rows n st.count k e s.listed s.waits_is (s.a ∙ sym i.0))) (h.resolved k j p));
    }

-- a resolve of a number under which slot i waits
module _ (objects pending waiting : ℕ) (st vt : Table) (es : List Event) (n o i : ℕ) (low : o < objects) (l : i < st.count) (fit : st.count ≤ room 6 st.rows) (w : WaitsAt st.rows i) (number : field 6 st.rows i 3 ≡ n) (g : Waits st pending waiting) (h : Standing objects st vt es) where
  abbrev after : Table
  after = table (filled st.rows i o) st.count

  other_slot : (k : ℕ) (v : Fields) (waits : ℕ) → k ≢ i → SlotHas st k v waits → SlotHas after k v waits
  other_slot k v waits a s = slot_stays st after k v waits (omega arith) (λ j b. filled_other st.rows i o (omega arith) w k j a b) s

  -- a slot that does not wait is another
  still_slot : (k : ℕ) (v : Fields) → SlotHas st k v 0 → SlotHas after k v 0
  still_slot k v s = other_slot k v 0 (λ e. let z : ◌≡◌ {A = ℕ} 0 1 = sym s.waits_is ∙ (subst (WaitsAt st.rows) (sym e) w) in omega arith) s

  filled_slot : SlotHas after i (triple 1 o 0) 0
  filled_slot =
      let f : (j : ℕ) → j < 4 → field 6 (filled st.rows i o) i (2 + j) ≡ get_or (1 ∷ o ∷ 0 ∷ 0 ∷ []) j 0 = λ j b. filled_same st.rows i o j b (omega arith) in
      record { listed = l; kind = f 0 (omega arith); a = f 1 (omega arith); b = f 2 (omega arith); waits_is = f 3 (omega arith) }

  pub fill_standing : Standing objects after vt (resolve n o ∷ es)
  unfolding All LeftPending FilledBy
  fill_standing =
      record {
        right = (tt, all_map (Right objects st vt) (Right objects after vt) (right_map objects objects st after vt vt (omega arith) (omega arith) still_slot (λ k v s. s)) es h.right);
        left = (λ k j p. let s = h.left k j p.1 in other_slot k (triple 13 j 0) 1 (λ e. p.0 (sym number ∙ (subst (λ (q : ℕ). field 6 st.rows q 3 ≡ j) e s.a))) s);
        resolved =
            (λ k j p. ⊎_elim
            (λ (q : (n ≡ j) × (o ≡ p) × (LeftPending es k j)). let s = h.left k j q.2 in
            let same : i ≡ k = g.distinct i k l s.listed w s.waits_is (number ∙ q.0 ∙ sym s.a) in
            (subst (λ (x : ℕ). SlotHas after x (triple 1 p 0) 0) same (subst (λ (x : ℕ). SlotHas after i (triple 1 x 0) 0) q.1 filled_slot), subst (λ (x : ℕ). x < objects) q.1 low))
            (λ f. let z = h.resolved k j p f in (still_slot k (triple 1 p 0) z.0, z.1)));
      }
