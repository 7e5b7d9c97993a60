-- A deferred entry at each way out of the code. Assumes nothing.
use mathlib.Core.Path.{◌≡◌, refl, sym, ap, subst, ◌∙◌}
use mathlib.Core.Bool.{Bool, true, false}
use mathlib.Core.Logic.{⊎_elim}
use Prim.Native.Nat.{ℕ, zero, suc, ◌+◌, ◌-◌, ◌^◌, ◌<◌, ◌≤◌, max}
use native.Mathlib.Omega.{arith}
use borrow.Author.Tests.{le-leb, lt-leb}
use lib.Dec.{ltb, eqb}
use lib.ListN.{length}
use Rattle.std.specs.Prelude.{if◌then◌else◌, Option, Some, None as Nothing, Ok, Err, ok_or}
use Rattle.sheet.specs.Sheet.{is_legacy}
use Rattle.tables.specs.declared.values.SlotValue.{SlotValue}
use Rattle.tables.specs.declared.values.SlotValue.TheVariants.{Ref as IsRef}
use Rattle.tables.specs.declared.values.Ref.TheVariants.{Object}
use Rattle.tables.specs.declared.values.Fields.{Fields}
use Rattle.tables.specs.Values.{fields_of, width_of}
use Rattle.tables.specs.Records.{room, field}
use Rattle.definition.specs.Memory.{Input, word, Table, Mem, Out, got, no, Reader, and_then, ◌>>=◌, ◌>>◌, moved, cut, byte, int, in_slot, next_byte, give, refuse}
use Rattle.definition.specs.Slots.{add_slot}
use Rattle.definition.specs.Reference.{legacy_reference, ref_at}
use Rattle.definition.specs.Closing.{add_slots, entry_fields, is_skip, entry_slots, entry_count, entry_item, entry_items, entry_body, entry_of, entry}
use Rattle.laws.specs.Sound.{Onward, Referred}
use Rattle.laws.specs.Steps.{gives, refuses, either, by, then₁, then₂, onward_trans}
use Rattle.laws.specs.Keeps.{Any, Passed, sheet_gives, word_low, byte_keeps, int_keeps}
use Rattle.laws.specs.References.{legacy_reference_keeps}
use Rattle.laws.specs.ClosingKeeps.{Slots, entry_item-ends}
use Rattle.laws.proofs.Fuel.{entry_items_fuel}
use Rattle.readers.specs.declared.state.State.{State}
use Rattle.readers.specs.declared.state.Refused.{Refused}
use Rattle.readers.specs.declared.walker.Walker.{Walker}
use Rattle.readers.specs.Views.{mem, Counts}
use Rattle.readers.specs.Lent.{input_of, lent_of, Fixed}
use Rattle.readers.specs.Lent as Lent
use Rattle.readers.proofs.ViewLaws.{then_got, then_no, nothing}
use Rattle.address_index.specs.Links.{Linked}
use Rattle.objects.specs.Index.{Indexed}
use Rattle.walker.specs.Ready.{Ready, After}
use Rattle.walker.proofs.ReadyLaws.{Went, Free, None, ref_went}
use Rattle.walker.proofs.SameLaws.{Leaves, same_choose, then_leaves, next_leaves, same_got}
use Rattle.walker.proofs.GroundLaws.{Ground, ground_of, slot_ground}
use Rattle.walker.proofs.ReferenceLaws.{records_of, Idle, byte_still, int_still, legacy_still}
use Rattle.deferred.specs.Entry.{Named, named_by, entry_object}
use Rattle.objects.proofs.AnswerLaws.{fixed_refl, fixed_on, same_input}
use Rattle.deferred.proofs.ReadyLaws.{Law, law_went, ready_after, idle_ready}

-- ---- the object that an entry names

-- a byte leaves the addresses as they are
pub byte_same : (x : Input) (m : Mem) {m1 : Mem} {b : ℕ} → got b m1 ≡ byte x m → m1.addresses ≡ m.addresses
unfolding byte
byte_same x m {m1} {b} e = go (ltb m.at (length x.payload)) e
  where
    go : (t : Bool) → got b m1 ≡ (if t then next_byte x else cut x) m → m1.addresses ≡ m.addresses
    go true e = let z : m1 ≡ moved (m.at + 1) m = cc in ap (λ (m : Mem). m.addresses) z
    go false e = absurd (let z : ◌≡◌ {A = ℕ} 0 1 = cc in omega arith)

pub byte_addresses : (x : Input) (s : State) {b : ℕ} {t : State} → got b (mem t nothing) ≡ byte x (mem s nothing) → t.addresses ≡ s.addresses
byte_addresses x s e = ap (λ (t : Table). t.count) (byte_same x (mem s nothing) e)

-- and the count of long integers
byte_moved : (x : Input) (m : Mem) {m1 : Mem} {b : ℕ} → got b m1 ≡ byte x m → m1 ≡ moved (m.at + 1) m
unfolding byte
byte_moved x m {m1} {b} e = go (ltb m.at (length x.payload)) e
  where
    go : (t : Bool) → got b m1 ≡ (if t then next_byte x else cut x) m → m1 ≡ moved (m.at + 1) m
    go true e = cc
    go false e = absurd (let z : ◌≡◌ {A = ℕ} 0 1 = cc in omega arith)

pub byte_counts : (x : Input) (s : State) {b : ℕ} {t : State} → got b (mem t nothing) ≡ byte x (mem s nothing) → Counts s → Counts t
byte_counts x s {t = t} e h =
    let q = byte_moved x (mem s nothing) e in
    omega (arith, h, ap (λ (m : Mem). m.at) q, ap (λ (m : Mem). m.long_integers) q)

-- the object that a value is, or the fault where it is none
pub an_object : (v : SlotValue) (r : Option ℕ) (u : Refused) {o : ℕ} → Named v r → Ok o ≡ ok_or r u → v ≡ IsRef (Object o)
an_object v (Some k) u {o} h e = let z : o ≡ k = cc in rw z h
an_object v Nothing u h e = absurd (let z : ◌≡◌ {A = ℕ} 0 1 = cc in omega arith)

pub no_object : (v : SlotValue) (r : Option ℕ) (u : Refused) {e : Refused} → Named v r → Err e ≡ ok_or r u → (eqb (fields_of v).kind 1 ≡ false) × (e ≡ u)
no_object v (Some k) u h q = absurd (let z : ◌≡◌ {A = ℕ} 0 1 = cc in omega arith)
no_object v Nothing u {e} h q = let z : e ≡ u = cc in (h, z)

module _ (x : Input) (space : ℕ) (m : Mem) where
  pub object_cut : {n q : ℕ} {m1 : Mem} → no n q m1 ≡ byte x m → no n q m1 ≡ entry_object x space m
  object_cut e = rw (← e)

  module _ {b : ℕ} {m1 : Mem} (e : got b m1 ≡ byte x m) where
    pub object_no : {n q : ℕ} {m2 : Mem} → no n q m2 ≡ legacy_reference x space m1 → no n q m2 ≡ entry_object x space m
    object_no h = rw (← e, ← h)

    module _ {v : SlotValue} {m2 : Mem} (h : got v m2 ≡ legacy_reference x space m1) where
      pub object_named : {o : ℕ} → v ≡ IsRef (Object o) → got o m2 ≡ entry_object x space m
      object_named k = rw (← e, ← h, k)

      pub object-other : eqb (fields_of v).kind 1 ≡ false → no 0 m2.at m2 ≡ entry_object x space m
      object-other k = rw (← e, ← h, k)

  object_still : Idle m (entry_object x space m)
  object_still =
      then_leaves records_of (byte x >> legacy_reference x space) (λ v. named_by (fields_of v)) (next_leaves records_of (byte x) (legacy_reference x space) (byte_still x) (legacy_still x space))
      (λ v m. same_choose records_of (eqb (fields_of v).kind 1) _ _ m (λ _. refl) refl) m

  -- the entry is that, a size, and the items
  entry_parts : and_then (entry_object x space m) (λ o. int x >>= entry_body x o) ≡ entry x space m
  unfolding entry
  entry_parts = by_byte (byte x m)
    where
      by_kind : (t : Bool) (o : ℕ) (m2 : Mem) → and_then ((if t then give o else refuse 0) m2) (λ o. int x >>= entry_body x o) ≡ (if t then int x >>= entry_body x o else refuse 0) m2
      by_kind true o m2 = refl
      by_kind false o m2 = refl

      by_reference : (o : Out SlotValue) → and_then (and_then o (λ v. named_by (fields_of v))) (λ o. int x >>= entry_body x o) ≡ and_then o (λ v. entry_of x (fields_of v))
      by_reference (got v m2) = by_kind (eqb (fields_of v).kind 1) (fields_of v).a m2
      by_reference (no n q m2) = refl

      by_byte : (o : Out ℕ) → and_then (and_then (and_then o (λ _. legacy_reference x space)) (λ v. named_by (fields_of v))) (λ o. int x >>= entry_body x o) ≡ and_then (and_then o (λ _. legacy_reference x space)) (λ v. entry_of x (fields_of v))
      by_byte (got b m1) = by_reference (legacy_reference x space m1)
      by_byte (no n q m1) = refl

  pub entry_no : {n q : ℕ} {m1 : Mem} → no n q m1 ≡ entry_object x space m → no n q m1 ≡ entry x space m
  entry_no e = then_no (λ o. int x >>= entry_body x o) e ∙ entry_parts

  module _ {o : ℕ} {m1 : Mem} (e : got o m1 ≡ entry_object x space m) where
    pub entry-cut : {n q : ℕ} {m2 : Mem} → no n q m2 ≡ int x m1 → no n q m2 ≡ entry x space m
    entry-cut h = then_got (λ o. int x >>= entry_body x o) e (then_no (entry_body x o) h) ∙ entry_parts

    pub entry_done : {size : ℕ} {m2 : Mem} {out : Out (Unit {0})} → got size m2 ≡ int x m1 → out ≡ entry_body x o size m2 → out ≡ entry x space m
    entry_done h b = then_got (λ o. int x >>= entry_body x o) e (then_got (entry_body x o) h b) ∙ entry_parts

module _ {w : Walker} {s : State} (g : Ready w s) where
  object_law : (space : ℕ) → Law (input_of w) Any (mem s (lent_of w)) (entry_object (input_of w) space (mem s (lent_of w)))
  object_law space I W R c =
      then₂ c (by c (byte_keeps g.proper R)) _ _
      (λ _ m1 w1 k1 p. then₁ w1 (by w1 (legacy_reference_keeps g.proper R space)) _
      (λ v m2 w2 k2 q. either (eqb (fields_of v).kind 1) _ _ (λ _. gives w2 tt) (λ _. refuses w2)))

  pub object_ready : (space : ℕ) {o : ℕ} {w' : Walker} {t : State} → Lent.Kept w w' → got o (mem t (lent_of w')) ≡ entry_object (input_of w) space (mem s (lent_of w)) → Ready w' t
  object_ready space k e = idle_ready g Any (object_law space) (object_still (input_of w) space (mem s (lent_of w))) k e

  pub int_ready : {n : ℕ} {t : State} → got n (mem t (lent_of w)) ≡ int (input_of w) (mem s (lent_of w)) → Ready w t
  int_ready e = idle_ready g (Passed (2 ^ 30)) (λ I W R c. by c (int_keeps g.proper R)) (int_still (input_of w) (mem s (lent_of w))) (fixed_refl w, (refl, refl)) e

  -- the bytes of a word
  pub word_fits : (b : ℕ) → b ≡ word (input_of w) → (0 < b) × (b ≤ 8)
  word_fits b e = (⊎_elim (λ z. omega (arith, e)) (λ z. omega (arith, e)) (sheet_gives g.proper).word, omega (arith, e, word_low g.proper))

-- ---- the items of an entry

abbrev items_left : Input → ℕ → ℕ → ℕ → ℕ → Reader (Unit {0})
items_left x o size index done m = entry_items x o size (length x.payload - m.at + 1) index done m

-- how much an item adds to the count
pub narrow_count : (x : Input) (v : SlotValue) → word x ≤ 8 → width_of (word x) v ≤ 2 ^ 34 → entry_count x v ≤ 2 ^ 34
narrow_count x v b narrow = go (is_skip v)
  where
    go : (t : Bool) → (if t then width_of (word x) v else max (width_of (word x) v) (word x)) ≤ 2 ^ 34
    go true = narrow
    go false = omega (arith, narrow, b)

module _ (x : Input) (o size index done : ℕ) (m : Mem) where
  one_more : length x.payload - m.at + 1 ≡ suc (length x.payload - m.at)
  one_more = omega arith

  left_end : size ≤ done → got tt m ≡ items_left x o size index done m
  unfolding entry_items
  left_end l = rw (one_more, le-leb size done l)

  module _ (l : done < size) where
    left_no : {n q : ℕ} {m1 : Mem} → no n q m1 ≡ ref_at x 64 m → no n q m1 ≡ items_left x o size index done m
    unfolding entry_items
    left_no e = rw (one_more, lt-leb size done l, ← e)

    module _ {v : SlotValue} {m1 : Mem} (e : got v m1 ≡ ref_at x 64 m) where
      left_full : {n q : ℕ} {m2 : Mem} → no n q m2 ≡ entry_item x o index v m1 → no n q m2 ≡ items_left x o size index done m
      unfolding entry_items
      left_full h = rw (one_more, lt-leb size done l, ← e) (then_no (λ _. entry_items x o size (length x.payload - m.at) (index + entry_slots x v) (done + entry_count x v)) h)

      left_next : {u : Unit {0}} {m2 : Mem} → got u m2 ≡ entry_item x o index v m1 → entry_items x o size (length x.payload - m.at) (index + entry_slots x v) (done + entry_count x v) m2 ≡ items_left x o size index done m
      unfolding entry_items
      left_next h = rw (one_more, lt-leb size done l, ← e) (then_got (λ _. entry_items x o size (length x.payload - m.at) (index + entry_slots x v) (done + entry_count x v)) h refl)

slots_ground : (x : Input) (o : ℕ) (f : Fields) (index n : ℕ) → Leaves ground_of (add_slots o f index n)
unfolding add_slots
slots_ground x o f index zero m = refl
slots_ground x o f index (suc n) m = next_leaves ground_of (add_slot o index f 0 in_slot) (add_slots o f (index + 1) n) (slot_ground x o index f 0 in_slot) (slots_ground x o f (index + 1) n) m

-- what holds at the head of the loop over the items
pub record Loop (o size : ℕ) (w₀ : Walker) (s₀ : State) (index done : ℕ) (w : Walker) (s : State) : Type 0 where
  pub ready : Ready w s
  pub same : items_left (input_of w) o size index done (mem s (lent_of w)) ≡ entry_body (input_of w₀) o size (mem s₀ (lent_of w₀))
  pub onward : Onward (mem s₀ (lent_of w₀)) (mem s (lent_of w))
  pub place : index ≤ s.slots + 1
  pub fixed : Fixed w₀ w
  pub legacy : is_legacy w.sheet.now ≡ true

module _ {o size : ℕ} {w₀ : Walker} {s₀ : State} {index done : ℕ} {w : Walker} {s : State} (a : Loop o size w₀ s₀ index done w s) where
  pub loop_end : size ≤ done → got tt (mem s (lent_of w)) ≡ entry_body (input_of w₀) o size (mem s₀ (lent_of w₀))
  loop_end l = left_end (input_of w) o size index done (mem s (lent_of w)) l ∙ a.same

  -- the bytes of a word are the same
  pub loop_word : {b : ℕ} → b ≡ word (input_of w₀) → word (input_of w) ≡ b
  loop_word e = rw a.fixed.sheet (sym e)

  module _ (l : done < size) where
    pub loop_no : {n q : ℕ} {m1 : Mem} → no n q m1 ≡ ref_at (input_of w) 64 (mem s (lent_of w)) → no n q m1 ≡ entry_body (input_of w₀) o size (mem s₀ (lent_of w₀))
    loop_no e = left_no (input_of w) o size index done (mem s (lent_of w)) l e ∙ a.same

    module _ {v : SlotValue} (w1 : Walker) {s1 : State} (e : got v (mem s1 (lent_of w1)) ≡ ref_at (input_of w) 64 (mem s (lent_of w))) where
      read : Went (input_of w) (mem s (lent_of w)) (Referred (input_of w) (mem s (lent_of w))) Free v (mem s1 (lent_of w1))
      read = ref_went a.ready 64 e

      -- what `add_slots` asks
      pub slots_ask : length w.slots.now < 2 ^ 64 → (field 4 w1.objects.now o 3 ≤ s1.slots) × (s1.slots ≤ room 6 w1.slots.now) × (s1.waiting < 2 ^ 63) × (index ≤ s1.slots + 1)
      slots_ask b =
          let z = read in
          (z.kept.counted.count_low o, omega (arith, z.kept.sound.slots_fit), omega (arith, z.kept.sound.waiting_low, z.kept.sound.slots_fit, z.kept.onward.slots_size), omega (arith, a.place, z.kept.onward.slots_up))

      pub count_low : entry_count (input_of w) v ≤ 2 ^ 34
      count_low = narrow_count (input_of w) v (word_low a.ready.proper) read.more.narrow

      module _ {f : Fields} {n : ℕ} (ef : f ≡ entry_fields (mem s1 (lent_of w1)).values v) (en : n ≡ entry_slots (input_of w) v) where
        item_is : {out : Out (Unit {0})} → out ≡ add_slots o f index n (mem s1 (lent_of w1)) → out ≡ entry_item (input_of w) o index v (mem s1 (lent_of w1))
        item_is h = rw (← ef, ← en) h

        pub loop_full : {k q : ℕ} {m2 : Mem} → no k q m2 ≡ add_slots o f index n (mem s1 (lent_of w1)) → no k q m2 ≡ entry_body (input_of w₀) o size (mem s₀ (lent_of w₀))
        loop_full h = left_full (input_of w) o size index done (mem s (lent_of w)) l e (item_is h) ∙ a.same

        module _ (w2 : Walker) {s2 : State} (h : got tt (mem s2 (lent_of w2)) ≡ add_slots o f index n (mem s1 (lent_of w1))) where
          item_went : Went (input_of w) (mem s1 (lent_of w1)) (λ _ m2. Slots (entry_slots (input_of w) v) (mem s1 (lent_of w1)) m2) None (tt {0}) (mem s2 (lent_of w2))
          item_went =
              let z = read in
              law_went a.ready.proper z.kept.sound z.kept.counted z.numbered z.ascending (λ m1 _ m2. Slots (entry_slots (input_of w) v) m1 m2) (λ I W R g. entry_item-ends a.ready.proper R a.legacy o index v g) (item_is h)

          loop_reads : (s.at < s2.at) × (s2.at ≤ length w.payload.now)
          loop_reads = (omega (arith, read.more.reads, item_went.more.at_same), item_went.kept.sound.within)

          pub loop_smaller : length w₀.payload.now - s2.at < length w₀.payload.now - s.at
          loop_smaller = let z : length w.payload.now ≡ length w₀.payload.now = rw a.fixed.payload in omega (arith, z, loop_reads)

          pub index_fits : length w₀.slots.now < 2 ^ 64 → index + n < 2 ^ 64
          index_fits b =
              let z = read in
              let k = item_went in
              let more : s2.slots ≡ s1.slots + n = rw en k.more.more in
              omega (arith, a.place, z.kept.onward.slots_up, more, k.kept.sound.slots_fit, k.kept.onward.slots_size, z.kept.onward.slots_size, a.onward.slots_size)

          pub loop_turn : After w (Ok (v, s1)) w1 → Lent.Kept w1 w2 → Indexed w2.slots.now s2.slots w2.pending.now → {more : ℕ} → more ≡ entry_count (input_of w) v → Loop o size w₀ s₀ (index + n) (done + more) w2 s2
          loop_turn i c j {more} ec =
              let z = read in
              let k = item_went in
              let f = fixed_on i.fixed c.0 in
              let slots : s2.slots ≡ s1.slots + n = rw en k.more.more in
              let same_ground : ground_of (mem s2 (lent_of w2)) ≡ ground_of (mem s1 (lent_of w1)) = same_got ground_of {m = mem s1 (lent_of w1)} h (slots_ground (input_of w) o _ index n (mem s1 (lent_of w1))) in
              let linked = subst (λ (g : Ground). Linked g.addresses.rows g.addresses.count w2.index.now) (sym same_ground) (rw c.1.1 i.linked) in
              let on = onward_trans z.kept.onward k.kept.onward in
              let fuel : items_left (input_of w) o size (index + entry_slots (input_of w) v) (done + entry_count (input_of w) v) (mem s2 (lent_of w2)) ≡ entry_items (input_of w) o size (length w.payload.now - s.at) (index + entry_slots (input_of w) v) (done + entry_count (input_of w) v) (mem s2 (lent_of w2)) = entry_items_fuel a.ready.proper o size _ _ _ _ (mem s2 (lent_of w2)) a.legacy k.kept.sound k.kept.counted (omega arith) (omega (arith, loop_reads)) in
              let same : items_left (input_of w) o size (index + n) (done + more) (mem s2 (lent_of w2)) ≡ entry_body (input_of w₀) o size (mem s₀ (lent_of w₀)) = rw (en, ec) (fuel ∙ left_next (input_of w) o size index done (mem s (lent_of w)) l e (item_is h) ∙ a.same) in
              record {
                ready = ready_after a.ready f (record { sound = k.kept.sound; counted = k.kept.counted; onward = on }) k.numbered k.ascending j linked;
                same = subst (λ x. items_left x o size (index + n) (done + more) (mem s2 (lent_of w2)) ≡ entry_body (input_of w₀) o size (mem s₀ (lent_of w₀))) (sym (same_input f)) same;
                onward = onward_trans a.onward on;
                place = omega (arith, a.place, z.kept.onward.slots_up, slots);
                fixed = fixed_on a.fixed f;
                legacy = rw f.sheet a.legacy;
              }
