-- Slots and items of an object: what is there after a record was added, and the places of pending
-- numbers with it. Assumes nothing.
use Rattle.std.specs.Prelude.{if◌then◌else◌}
use mathlib.Core.Path.{◌≡◌, refl, sym, ap}
use mathlib.Core.Bool.{Bool, true, false}
use mathlib.Core.List.{List}
use Prim.Native.Nat.{ℕ, ◌+◌, ◌<◌}
use native.Mathlib.Omega.{arith}
use borrow.Author.Tests.{ltb-true}
use lib.ListN.{set}
use Rattle.tables.specs.declared.values.SlotValue.{SlotValue}
use Rattle.tables.specs.declared.values.SlotValue.TheVariants.{Ref, Repeat, RepeatPrev, Skip, StreamBytes, Raw, ClearedWeak, WeakRef, PendingRef}
use Rattle.tables.specs.declared.values.Fields.{Fields}
use Rattle.tables.specs.Values.{fields_of}
use Rattle.tables.specs.Records.{room, slot_row, written}
use Rattle.definition.specs.Memory.{Kept, Table, Mem, got, refuse, append, has_room, appended}
use Rattle.definition.specs.Slots.{add_value, counted, add_slot, waits_of, repeat_previous}
use Rattle.readers.specs.declared.state.State.{State}
use Rattle.readers.specs.declared.walker.Walker.{Walker}
use Rattle.readers.specs.Lent.{lent_of, Fixed}
use Rattle.readers.specs.Views.{mem}
use Rattle.objects.specs.Index.{Indexed}
use Rattle.objects.specs.declared.item.Level.{Level}
use Rattle.objects.specs.Item.{slot_of, ItemFits}
use Rattle.objects.proofs.WaiterLaws.{indexed_plain, indexed_waits}

-- ---- a slot record

-- what is there after a slot record was added
pub record Added (o index : ℕ) (v : Fields) (waits : ℕ) (m : Mem) (k : ℕ) (m' : Mem) : Type 0 where
  pub roomy : m.slots.count < room 6 m.slots.rows
  pub rows_are : m'.slots.rows ≡ written m.slots.rows m.slots.count (slot_row o index v waits)
  pub count_is : m'.slots.count ≡ m.slots.count + 1
  pub waiting_is : m'.waiting ≡ m.waiting + waits
  pub objects_are : m'.objects ≡ counted o m.objects
  pub number_is : k ≡ m.slots.count

-- a record that was append_added
module _ (t : Mem → Table) (f : Mem → Mem) (m : Mem) {k : ℕ} {m' : Mem} where
  roomed : (b : Bool) → got k m' ≡ (if b then appended t f else refuse 3) m → (b ≡ true) × (k ≡ (t m).count) × (m' ≡ f m)
  roomed true e = (refl, (cc), (cc))
  roomed false e = absurd (let z : ◌≡◌ {A = ℕ} 0 1 = cc in omega arith)

  append_added : (fields : ℕ) → got k m' ≡ append fields t f m → (has_room fields (t m) ≡ true) × (k ≡ (t m).count) × (m' ≡ f m)
  append_added fields e = roomed (has_room fields (t m)) e

pub slot_added : (o index : ℕ) (v : Fields) (waits : ℕ) (kept : ℕ → Kept) (m : Mem) {k : ℕ} {m' : Mem} → got k m' ≡ add_slot o index v waits kept m → Added o index v waits m k m'
unfolding add_slot
slot_added o index v waits kept m e =
    let d = append_added (λ m. m.slots) _ m 6 e in
    record {
      roomy = ltb-true m.slots.count (room 6 m.slots.rows) d.0;
      rows_are = ap (λ (m : Mem). m.slots.rows) d.2;
      count_is = ap (λ (m : Mem). m.slots.count) d.2;
      waiting_is = ap (λ (m : Mem). m.waiting) d.2;
      objects_are = ap (λ (m : Mem). m.objects) d.2;
      number_is = d.1;
    }

-- what stays where a value record was added
record Beside (m m' : Mem) : Type 0 where
  objects_same : m'.objects ≡ m.objects
  slots_same : m'.slots ≡ m.slots
  waiting_same : m'.waiting ≡ m.waiting
  skip_same : m'.skip ≡ m.skip

value_added : (v : Fields) (m : Mem) {k : ℕ} {m' : Mem} → got k m' ≡ add_value v m → Beside m m'
unfolding add_value
value_added v m e =
    let d = append_added (λ m. m.values) _ m 3 e in
    record { objects_same = ap (λ (m : Mem). m.objects) d.2; slots_same = ap (λ (m : Mem). m.slots) d.2; waiting_same = ap (λ (m : Mem). m.waiting) d.2; skip_same = ap (λ (m : Mem). m.skip) d.2 }

-- ---- items

-- a value that is no pending reference does not wait
tag_waits : (v : SlotValue) → ((n : ℕ) → v ≡ PendingRef n → ⊥) → 0 ≡ waits_of v
tag_waits (Ref r) h = refl
tag_waits (Repeat n k) h = refl
tag_waits (RepeatPrev n) h = refl
tag_waits (Skip n) h = refl
tag_waits (StreamBytes n) h = refl
tag_waits (Raw r) h = refl
tag_waits ClearedWeak h = refl
tag_waits (WeakRef k) h = refl
tag_waits (PendingRef n) h = absurd (h n refl)

-- after a slot record was added: its number has room, and the places of pending numbers are right
module _ (o index : ℕ) (v : SlotValue) (m : Mem) {k : ℕ} {m' : Mem} (e : got k m' ≡ slot_of o index (fields_of v) (waits_of v) m) where
  kept : Added o index (fields_of v) (waits_of v) m k m'
  kept = slot_added o index (fields_of v) (waits_of v) _ m e

  pub kept_room : k < room 6 m.slots.rows
  kept_room = let d = kept in rw d.number_is d.roomy

  module _ (sc : List ℕ) (x : Indexed m.slots.rows m.slots.count sc) where
    pub kept_plain : ((n : ℕ) → v ≡ PendingRef n → ⊥) → Indexed m'.slots.rows m'.slots.count sc
    kept_plain h = let d = kept in rw (d.rows_are, d.count_is) (indexed_plain m.slots.rows m.slots.count o index (fields_of v) (waits_of v) d.roomy (sym (tag_waits v h)) sc x)

    pub kept_waits : {n : ℕ} {sc' : List ℕ} → v ≡ PendingRef n → sc' ≡ set sc n (k + 1) → Indexed m'.slots.rows m'.slots.count sc'
    kept_waits {n} {sc'} p g =
        let d = kept in
        let on : waits_of v ≡ 1 = ap waits_of p in
        let a : (fields_of v).a ≡ n = ap (λ (v : SlotValue). (fields_of v).a) p in
        let note : sc' ≡ set sc (fields_of v).a (m.slots.count + 1) = rw (a, ← d.number_is) g in
        rw (d.rows_are, d.count_is, note) (indexed_waits m.slots.rows m.slots.count o index (fields_of v) (waits_of v) d.roomy on sc x)

-- what an item asks whose value repeats the previous slot's
module _ (w w' : Walker) (s t : State) {k : ℕ} (e : got k (mem t (lent_of w')) ≡ repeat_previous (mem s (lent_of w))) where
  beside : Beside (mem s (lent_of w)) (mem t (lent_of w'))
  beside = value_added _ (mem s (lent_of w)) e

  pub previous_fits : Fixed w w' → {l : Level} {v : SlotValue} {n : ℕ} → v ≡ RepeatPrev n → ItemFits w s l v → ItemFits w' t l (Repeat n k)
  previous_fits f p g =
      let objects : w'.objects.now ≡ w.objects.now = ap (λ (t : Table). t.rows) beside.objects_same in
      record {
        listed = rw objects g.listed;
        slots = rw objects g.slots;
        waiting = rw beside.waiting_same g.waiting;
        word_low = rw f.sheet g.word_low;
        end = rw (f.sheet, beside.skip_same) (rw p at g.end);
      }

  pub previous_indexed : (sc : List ℕ) → Indexed w.slots.now s.slots sc → Indexed w'.slots.now t.slots sc
  previous_indexed sc x =
      let a : w'.slots.now ≡ w.slots.now = ap (λ (t : Table). t.rows) beside.slots_same in
      let b : t.slots ≡ s.slots = ap (λ (t : Table). t.count) beside.slots_same in
      rw (a, b) x
