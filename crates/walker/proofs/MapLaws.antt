-- The readers of an object's map and of its items at each way out, as the code holds what they
-- read. Assumes nothing.
use mathlib.Core.Path.{◌≡◌, refl, sym, ap, subst, ◌∙◌}
use Prim.Native.Nat.{ℕ, suc, ◌+◌, ◌-◌, ◌%◌, ◌^◌, ◌<◌, ◌≤◌}
use native.Mathlib.Omega.{arith}
use lib.ListN.{length}
use Rattle.std.specs.Prelude.{Ok}
use Rattle.sheet.specs.Sheet.{word_bytes}
use Rattle.heads.specs.Heads.{Heads}
use Rattle.address_index.specs.Links.{Linked}
use Rattle.tables.specs.declared.values.SlotValue.{SlotValue}
use Rattle.tables.specs.Values.{width_of}
use Rattle.tables.specs.Records.{room, field}
use Rattle.definition.specs.Memory.{Input, word, Table, table, Mem, Out, got, no, Reader, and_then, give}
use Rattle.definition.specs.Slots.{place_item}
use Rattle.definition.specs.Object.{read_map, keep_map, resolves}
use Rattle.definition.specs.Reference.{reference, ref_at}
use Rattle.readers.specs.declared.state.State.{State}
use Rattle.readers.specs.declared.walker.Walker.{Walker}
use Rattle.readers.specs.Views.{Answer, mem, seen}
use Rattle.readers.specs.Lent.{input_of, lent_of, Fixed, Kept, PendingKept, IndexKept}
use Rattle.objects.specs.declared.head.NewObject.{NewObject}
use Rattle.objects.specs.declared.item.Level.{Level}
use Rattle.objects.specs.Head.{opening}
use Rattle.opened_leaves.specs.Opening.{opened}
use Rattle.objects.specs.Index.{Indexed, IndexedAfter}
use Rattle.objects.specs.Item.{ItemFits}
use Rattle.objects.specs.Map.{after_map, map_kept}
use Rattle.walker.specs.Ready.{Ready, After, InItem, mapped, headed}
use Rattle.objects.proofs.AnswerLaws.{fixed_on}
use Rattle.readers.proofs.ViewLaws.{then_got, then_no}
use Rattle.objects.proofs.MapSteps.{map_no, map_got}
use Rattle.laws.specs.Keeps.{word_low}
use Rattle.laws.specs.Sound.{Referred}
use Rattle.walker.proofs.SameLaws.{same_got}
use Rattle.walker.proofs.ScratchLaws.{Index, InOrder, OutIndex, scratch_of, order_of, same_scratch, at_input, ready_on, after_of}
use Rattle.walker.proofs.GroundLaws.{Ground, ground_of, answer_index, keep_map_ground, resolves_ground, place_item_ground}
use Rattle.walker.proofs.ReadyLaws.{Went, Free, order_after, map_went, keep_map_went, ref_went, value_ready}
use Rattle.walker.proofs.ObjectLaws.{after_still, map_indexed, opened_ready, map_ready}
use Rattle.walker.proofs.OpeningLaws.{opened_by}

-- after the object's record
pub record_ready : {w : Walker} {s : State} → Ready w s → (space tag : ℕ) → {words : ℕ} {t : State} {w₁ : Walker} → Kept w w₁ → got words (mem t (lent_of w₁)) ≡ opening (input_of w) space tag (mem s (lent_of w)) → (Ready w₁ t) × (s.objects < t.objects)
record_ready {w} {s} g space tag {words} {t} {w₁} k e =
    let z = opened_ready (order_of g) space tag e in
    (ready_on k.0 (rw (same_scratch w w₁ k.1) z.0), z.1)

-- ---- the map of an object

module _ {w : Walker} {s : State} (g : Ready w s) (d a : ℕ) (l : Level) (b : (d ≤ 64) × (a < 256) × (l.size < 2 ^ 33) × (l.object < s.objects) × (l.size % word_bytes w.sheet.now ≡ 0)) where
  abbrev x : Input
  x = input_of w

  abbrev m : Mem
  m = mem s (lent_of w)

  abbrev read : Out SlotValue
  read = read_map x (ref_at x (64 - d)) a l.size l.object m

  abbrev whole : Out (Unit {0})
  whole = mapped x (ref_at x (64 - d)) a l.size l.object m

  pub mapped_no : {k q : ℕ} {m₁ : Mem} → no k q m₁ ≡ ref_at x (64 - d) m → no k q m₁ ≡ whole
  mapped_no e = then_no _ (then_no (keep_map x l.object) (sym (map_no x (ref_at x (64 - d)) a l.size l.object m (sym e))))

  module _ {v : SlotValue} {t : State} {w₁ : Walker} (i : After w (Ok (v, t)) w₁) (e : got v (mem t (lent_of w₁)) ≡ ref_at x (64 - d) m) where
    abbrev follows : Input → Out (Unit {0})
    follows x = after_map x s.alignment a l.size l.object (mem t (lent_of w₁))

    followed_by : {out : Out SlotValue} → out ≡ and_then (follows x) (λ _. give v) → out ≡ read
    followed_by f = f ∙ sym (map_got x (ref_at x (64 - d)) a l.size l.object m v (sym e))

    pub followed_no : {k q : ℕ} {m₂ : Mem} → no k q m₂ ≡ follows (input_of w₁) → no k q m₂ ≡ whole
    followed_no f = then_no _ (then_no (keep_map x l.object) (followed_by (then_no (λ _. give v) (at_input i.fixed follows f))))

    module _ {u : State} {w₂ : Walker} (f : got tt (mem u (lent_of w₂)) ≡ follows (input_of w₁)) (r₂ : PendingKept w₁ w₂) where
      abbrev m₂ : Mem
      m₂ = mem u (lent_of w₂)

      is_read : got v m₂ ≡ read
      is_read = followed_by (then_got (λ _. give v) (at_input i.fixed follows f) refl)

      read_went : Went x m (Referred x m) Free v m₂
      read_went = map_went (order_of g) l.object b.3 (64 - d) a l.size b.1 b.4 is_read

      pub map_asks : length w.slots.now < 2 ^ 61 → (l.object < room 4 w₂.objects.now) × (field 4 w₂.objects.now l.object 3 < 2 ^ 62) × (u.waiting < 2 ^ 63)
      map_asks few =
          let z = read_went in let o = z.kept.sound in let c = z.kept.onward in let k = z.kept.counted.count_low l.object in
          (omega (arith, b, o.objects_fit, c.objects_up), omega (arith, o.slots_fit, c.slots_size, k), omega (arith, o.slots_fit, o.waiting_low, c.slots_size))

      fixed₂ : Fixed w w₂
      fixed₂ = fixed_on i.fixed r₂.0

      -- slot 0
      kept_by : {out : Out (Unit {0})} → out ≡ map_kept (input_of w₂) l.object v m₂ → out ≡ keep_map x l.object v m₂
      kept_by k = at_input fixed₂ (λ x. keep_map x l.object v m₂) k

      pub kept_no : {k q : ℕ} {m₃ : Mem} → no k q m₃ ≡ map_kept (input_of w₂) l.object v m₂ → no k q m₃ ≡ whole
      kept_no k = then_no _ (then_got (keep_map x l.object) is_read (kept_by k))

      module _ (linked : Linked w₂.addresses.now u.addresses w₂.index.now) {y : State} {w₃ : Walker} (k : got tt (mem y (lent_of w₃)) ≡ map_kept (input_of w₂) l.object v m₂) (r₃ : Kept w₂ w₃) where
        fixed₃ : Fixed w w₃
        fixed₃ = fixed_on fixed₂ r₃.0

        pub resolves_ready : Ready w₃ y
        resolves_ready =
            let z = read_went in
            let i₂ : Indexed w₂.slots.now u.slots w₂.pending.now = subst (λ (t : Table). Indexed t.rows t.count w₂.pending.now) (sym (after_still (input_of w₁) s.alignment a l.size l.object (mem t (lent_of w₁)) f)) (rw r₂.1 i.indexed) in
            let g₂ : InOrder x w.heads.now m₂ (scratch_of w₂) = order_after (order_of g) z.kept z.numbered z.ascending (record { pending = i₂; linked = linked }) in
            let c = kept_by k in
            let q = keep_map_went g.proper z l.object (omega (arith, b, z.kept.onward.objects_up)) c in
            let j : Index (table w₃.slots.now y.slots) (table w₃.addresses.now y.addresses) (scratch_of w₂) = record { pending = map_indexed x l.object v m₂ w₂.pending.now i₂ c; linked = subst (λ (g : Ground). Linked g.addresses.rows g.addresses.count w₂.index.now) (sym (same_got ground_of {m = m₂} c (keep_map_ground x l.object v m₂))) linked } in
            ready_on fixed₃ (rw (same_scratch w₂ w₃ r₃.1) (order_after g₂ q.kept q.numbered q.ascending j))

        pub map_ended : {w₄ : Walker} (r : Answer (Unit {0})) → seen r (lent_of w₄) ≡ resolves (input_of w₃) l.object (length w₃.payload.now - y.at) (mem y (lent_of w₃)) → IndexedAfter r w₄.slots.now w₄.pending.now → Kept w₃ w₄ → (seen r (lent_of w₄) ≡ whole) × After w r w₄
        map_ended {w₄} r q x₄ r₄ = (
          then_got _ (then_got (keep_map x l.object) is_read (kept_by k)) (at_input fixed₃ (λ x. resolves x l.object (length x.payload - y.at) (mem y (lent_of w₃))) q),
          after_of r (fixed_on fixed₃ r₄.0) (answer_index (mem y (lent_of w₃)) (scratch_of w₃) (scratch_of w₄) r₄.1.1 resolves_ready.linked r (lent_of w₄) q (resolves_ground (input_of w₃) l.object (length w₃.payload.now - y.at) (mem y (lent_of w₃))) x₄),
        )

-- ---- an item that is no leaf

module _ {w : Walker} {s : State} (g : Ready w s) (d : ℕ) (l : Level) (b : (d ≤ 64) × InItem l s) {v : SlotValue} {t : State} {w₁ : Walker} (i : After w (Ok (v, t)) w₁) (e : got v (mem t (lent_of w₁)) ≡ ref_at (input_of w) (65 - (d + 1)) (mem s (lent_of w))) where
  pub put_asks : length w.slots.now < 2 ^ 64 → ItemFits w₁ t l v × (0 < t.slots) × (t.slots ≤ room 6 w₁.slots.now)
  put_asks few =
      let g₁ = value_ready g (65 - (d + 1)) i e in
      let z = ref_went g (65 - (d + 1)) e in
      let u = z.kept.onward in
      let o = g₁.sound in
      let wide : width_of (word_bytes w₁.sheet.now) v ≤ 2 ^ 34 = rw i.fixed.sheet z.more.narrow in
      (record { listed = omega (arith, o.objects_fit, u.objects_up, b); slots = omega (arith, o.slots_fit, u.slots_size, g₁.counted.count_low l.object); waiting = omega (arith, o.slots_fit, o.waiting_low, u.slots_size); word_low = word_low g₁.proper; end = omega (arith, wide, b, o.skip_low, o.within, g₁.proper.short) }, omega (arith, u.slots_up, b), omega (arith, o.slots_fit))

pub item_put : {w w₁ w₂ : Walker} {v : SlotValue} {t : State} → After w (Ok (v, t)) w₁ → (l : Level) (r : Answer ℕ) → seen r (lent_of w₂) ≡ place_item (input_of w₁) l.object l.done v (mem t (lent_of w₁)) → IndexedAfter r w₂.slots.now w₂.pending.now → IndexKept w₁ w₂ → After w r w₂
item_put {w} {w₁} {w₂} {v} {t} i l r q x k =
    after_of r (fixed_on i.fixed k.0) (answer_index (mem t (lent_of w₁)) (scratch_of w₁) (scratch_of w₂) k.1 i.linked r (lent_of w₂) q (place_item_ground (input_of w₁) l.object l.done v (mem t (lent_of w₁))) x)

-- ---- an object that was opened with its map, before its resolves

module _ {w : Walker} {s : State} (g : Ready w s) (d : ℕ) (new : NewObject) (low : new.space < 256) {n : ℕ} {t : State} {w₁ : Walker} (e : (d < 64) × (n < 2 ^ 33) × (s.objects < t.objects) × (Heads w.sheet.now w.heads.now → (inner : Reader SlotValue) → got n (mem t (lent_of w₁)) ≡ opened (input_of w) (reference (input_of w) inner) new.space new.tag s.objects (mem s (lent_of w)))) (r : PendingKept w w₁) where
  opened_is : got n (mem t (lent_of w₁)) ≡ opened (input_of w) (ref_at (input_of w) (64 - d)) new.space new.tag s.objects (mem s (lent_of w))
  unfolding ref_at
  opened_is = let z : 64 - d ≡ suc (63 - d) = omega (arith, e.0) in rw z (e.3 g.decoded (ref_at (input_of w) (63 - d)))

  abbrev ends : Out (Unit {0})
  ends = resolves (input_of w₁) s.objects (length w₁.payload.now - t.at) (mem t (lent_of w₁))

  abbrev head : Out Level
  head = headed (input_of w) (ref_at (input_of w) (64 - d)) new.space new.tag (mem s (lent_of w))

  leaf_by : {o : Out (Unit {0})} → o ≡ ends → and_then o (λ _. give (record { object = s.objects; size = n; done = word (input_of w); tag = new.tag })) ≡ head
  leaf_by {o} f =
      opened_by (input_of w) (ref_at (input_of w) (64 - d)) new.space new.tag (mem s (lent_of w)) opened_is (ap (λ (o : Out (Unit {0})). and_then o (λ _. give (record { object = s.objects; size = n; done = word (input_of w); tag = new.tag }))) (at_input r.0 (λ x. resolves x s.objects (length x.payload - t.at) (mem t (lent_of w₁))) f))

  pub leaf_no : {k q : ℕ} {m : Mem} → no k q m ≡ ends → no k q m ≡ head
  leaf_no f = leaf_by f

  pub leaf_on : {m : Mem} → got tt m ≡ ends → {v : ℕ} → v ≡ word (input_of w) → got (record { object = s.objects; size = n; done = v; tag = new.tag }) m ≡ head
  leaf_on f z = rw z (leaf_by f)

  module _ (i : Indexed w₁.slots.now t.slots w₁.pending.now) (k : Linked w₁.addresses.now t.addresses w₁.index.now) where
    pub leaf_opened : Ready w₁ t
    leaf_opened = ready_on r.0 (map_ready (order_of g) (64 - d) new.space new.tag low opened_is (record { pending = i; linked = k }))

    -- and after them
    pub leaf_ended : {A : Type 0} {v : A} {u : State} {w₂ : Walker} → got tt (mem u (lent_of w₂)) ≡ ends → Indexed w₂.slots.now u.slots w₂.pending.now → Kept w₁ w₂ → After w (Ok (v, u)) w₂
    leaf_ended {u = u} {w₂} f x₂ k₂ =
        let z : OutIndex (seen (Ok (tt {0}, u)) (lent_of w₂)) (scratch_of w₂) = answer_index (mem t (lent_of w₁)) (scratch_of w₁) (scratch_of w₂) k₂.1.1 k (Ok (tt {0}, u)) (lent_of w₂) f (resolves_ground (input_of w₁) s.objects (length w₁.payload.now - t.at) (mem t (lent_of w₁))) x₂ in
        record { fixed = fixed_on r.0 k₂.0; indexed = x₂; linked = z.linked }
