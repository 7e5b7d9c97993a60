-- The slots of an item of a deferred entry: their value, their number, and adding them. Assumes
-- nothing.
use mathlib.Core.Path.{◌≡◌, refl, ap, ◌∙◌}
use Prim.Native.Nat.{ℕ, suc, ◌+◌, ◌-◌, ◌*◌, ◌<◌, ◌≤◌}
use native.Mathlib.Omega.{arith}
use lib.ListN.{length, set}
use Rattle.tables.specs.declared.values.Fields.{Fields}
use Rattle.tables.specs.Records.{room, field, slot_row}
use Rattle.tables.proofs.RecordLaws.{written_length}
use Rattle.definition.specs.Memory.{Table, got, no, in_slot}
use Rattle.definition.specs.Closing.{add_slots}
use Rattle.laws.specs.Leaves.{set_at_most}
use Rattle.readers.specs.declared.state.State.{State}
use Rattle.readers.specs.declared.walker.Walker.{Walker}
use Rattle.readers.specs.Views.{mem}
use Rattle.readers.specs.Lent.{lent_of, Kept}
use Rattle.readers.proofs.ViewLaws.{then_got, then_no}
use Rattle.objects.specs.Index.{Indexed}
use Rattle.objects.specs.Item.{slot_of}
use Rattle.objects.proofs.ItemLaws.{Added, slot_added}
use Rattle.objects.proofs.WaiterLaws.{indexed_plain}
use Rattle.objects.proofs.AnswerLaws.{fixed_on}

-- ---- adding them

-- after i of n slots, what is left of them gives what all of them give
pub record Adding (o : ℕ) (f : Fields) (index n : ℕ) (w₀ : Walker) (s₀ : State) (w : Walker) (s : State) (i : ℕ) : Type 0 where
  pub same : add_slots o f (index + i) (n - i) (mem s (lent_of w)) ≡ add_slots o f index n (mem s₀ (lent_of w₀))
  pub counts : field 4 w.objects.now o 3 ≤ s.slots
  pub fits : s.slots ≤ room 6 w.slots.now
  pub waits : s.waiting ≡ s₀.waiting
  pub place : index + i ≤ s.slots + 1
  pub size : length w.slots.now ≡ length w₀.slots.now
  pub kept : Kept w₀ w
  pub right : Indexed w₀.slots.now s₀.slots w₀.pending.now → Indexed w.slots.now s.slots w.pending.now

module _ {o : ℕ} {f : Fields} {index n : ℕ} {w₀ : Walker} {s₀ : State} {w : Walker} {s : State} {i : ℕ} (a : Adding o f index n w₀ s₀ w s i) where
  pub adding_end : n ≤ i → got tt (mem s (lent_of w)) ≡ add_slots o f index n (mem s₀ (lent_of w₀))
  unfolding add_slots
  adding_end h = let z : n - i ≡ 0 = omega arith in rw z at a.same

  one_more : i < n → n - i ≡ suc (n - (i + 1))
  one_more h = omega arith

  module _ (h : i < n) (w' : Walker) where
    pub adding_full : {k p : ℕ} {s' : State} → no k p (mem s' (lent_of w')) ≡ slot_of o (index + i) f 0 (mem s (lent_of w)) → no k p (mem s' (lent_of w')) ≡ add_slots o f index n (mem s₀ (lent_of w₀))
    unfolding add_slots
    adding_full q = then_no (λ _. add_slots o f (index + i + 1) (n - (i + 1))) q ∙ rw (one_more h) at a.same

    module _ {k : ℕ} {s' : State} (q : got k (mem s' (lent_of w')) ≡ slot_of o (index + i) f 0 (mem s (lent_of w))) where
      added : Added o (index + i) f 0 (mem s (lent_of w)) k (mem s' (lent_of w'))
      added = slot_added o (index + i) f 0 in_slot (mem s (lent_of w)) q

      turned : add_slots o f (index + (i + 1)) (n - (i + 1)) (mem s' (lent_of w')) ≡ add_slots o f index n (mem s₀ (lent_of w₀))
      unfolding add_slots
      turned =
          let z : index + (i + 1) ≡ index + i + 1 = omega arith in
          rw z (then_got (λ _. add_slots o f (index + i + 1) (n - (i + 1))) q refl ∙ rw (one_more h) at a.same)

      pub adding_turn : Kept w w' → Adding o f index n w₀ s₀ w' s' (i + 1)
      adding_turn k =
          let d = added in
          let b : length w'.slots.now ≡ length w.slots.now = ap length d.rows_are ∙ written_length w.slots.now (slot_row o (index + i) f 0) s.slots in
          let roomy : s.slots < room 6 w.slots.now = d.roomy in
          let count : s'.slots ≡ s.slots + 1 = d.count_is in
          let waits : s'.waiting ≡ s.waiting + 0 = d.waiting_is in
          let rows : w'.objects.now ≡ set w.objects.now (o * 4 + 3) (field 4 w.objects.now o 3 + 1) = ap (λ (t : Table). t.rows) d.objects_are in
          record {
            same = turned;
            counts = rw (rows, count) (set_at_most w.objects.now (o * 4 + 3) (o * 4 + 3) (field 4 w.objects.now o 3 + 1) (s.slots + 1) (omega (arith, a.counts)) (omega (arith, a.counts)));
            fits = rw (count, b) (omega (arith, roomy));
            waits = omega (arith, waits, a.waits);
            place = omega (arith, count, a.place);
            size = b ∙ a.size;
            kept = (fixed_on a.kept.0 k.0, (k.1.0 ∙ a.kept.1.0, k.1.1 ∙ a.kept.1.1));
            right = λ y. rw (d.rows_are, count, k.1.0) (indexed_plain w.slots.now s.slots o (index + i) f 0 d.roomy refl _ (a.right y));
          }
