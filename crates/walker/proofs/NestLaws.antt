-- Objects within objects, as the loop of `parse_items` reads them: what is left to read at each
-- level, and what holds at the head of the loop. Assumes nothing.
use mathlib.Core.Path.{◌≡◌, refl, sym, ap, subst, ◌∙◌}
use mathlib.Core.Bool.{true, false}
use mathlib.Core.List.{List, [], ◌∷◌, ◌++◌}
use Prim.Native.Nat.{ℕ, suc, ◌+◌, ◌-◌, ◌/◌, ◌^◌, ◌<◌, ◌≤◌}
use native.Mathlib.Omega.{arith}
use borrow.Author.Tests.{eq-eqb, ne_eqb}
use lib.ListN.{length}
use Rattle.std.specs.Prelude.{Ok, Some}
use Rattle.std.specs.List.{All}
use Rattle.std.proofs.lemmas.List.{length_push, nil_from_length}
use Rattle.std.proofs.lemmas.List.Elements.{All-nil, All-push, All-pop}
use Rattle.stream.specs.Bytes.{peek_at}
use Rattle.sheet.specs.Sheet.{word_bytes}
use Rattle.sheet.specs.Tests.{is_deferred}
use Rattle.tables.specs.declared.values.Ref.TheVariants.{Object}
use Rattle.tables.specs.declared.values.SlotValue.{SlotValue}
use Rattle.tables.specs.declared.values.SlotValue.TheVariants.{Ref}
use Rattle.tables.specs.Values.{fields_of, width_of}
use Rattle.address_index.specs.Links.{Linked}
use Rattle.definition.specs.Memory.{Input, word, in_slot, item, tell, change, with_skip, give, Mem, Out, got, no, Reader, and_then}
use Rattle.definition.specs.Slots.{add_slot, keep_item, place_item}
use Rattle.definition.specs.Object.{closed, object}
use Rattle.definition.specs.Reference.{ref_at}
use Rattle.laws.specs.Keeps.{word_low}
use Rattle.laws.specs.Sound.{Onward}
use Rattle.leaves.specs.Leaf.{slot_in}
use Rattle.readers.specs.declared.state.State.{State}
use Rattle.readers.specs.declared.walker.Walker.{Walker}
use Rattle.readers.specs.Views.{mem, moved_to}
use Rattle.readers.specs.Lent.{input_of, lent_of, Fixed, Kept}
use Rattle.readers.proofs.ViewLaws.{then_no}
use Rattle.objects.specs.declared.head.NewObject.{NewObject}
use Rattle.objects.specs.declared.item.Level.{Level}
use Rattle.objects.proofs.AnswerLaws.{fixed_refl, fixed_on, same_input}
use Rattle.levels.specs.Level.{Begins}
use Rattle.walker.specs.Ready.{Ready, After, headed, items_of, Opened}
use Rattle.walker.proofs.SameLaws.{same_got}
use Rattle.walker.proofs.ScratchLaws.{Scratch, Index, InOrder, scratch_of, order_of, ready_on, same_scratch, got_index, at_input}
use Rattle.walker.proofs.GroundLaws.{Ground, ground_of, place_item_ground}
use Rattle.walker.proofs.ReadyLaws.{one_less, order_after, moved_ready}
use Rattle.walker.proofs.ItemsLaws.{through, item_in, filled, filled_no, items_full, items_one, item_went, item_deferred, item_slot, deferred_inside, place_went}
use Rattle.walker.proofs.ObjectLaws.{slots_of, plain_slot, Held, headed_ready, headed_object}
use Rattle.walker.proofs.ReferenceLaws.{ref_object, space_low}

-- ---- what is left to read

-- of the objects ls, the outermost of which stands at depth d, where a reference in the innermost
-- gave this
unfoldable pub resumed : Input → ℕ → List Level → Out SlotValue → Out SlotValue
resumed x d [] u = u
resumed x d (l ∷ ls) u = filled x (ref_at x (64 - d)) l (and_then (resumed x (suc d) ls u) (place_item x l.object l.done))

module _ (x : Input) where
  resumed_no : (d : ℕ) (ls : List Level) {u : Out SlotValue} {n q : ℕ} {m : Mem} → no n q m ≡ u → no n q m ≡ resumed x d ls u
  unfolding resumed
  resumed_no d [] e = e
  resumed_no d (l ∷ ls) e = filled_no x (ref_at x (64 - d)) l (then_no (place_item x l.object l.done) (resumed_no (suc d) ls e))

  -- the innermost goes on first
  resumed_inner : (d : ℕ) (ls : List Level) (l : Level) (u : Out SlotValue) {e : ℕ} → e ≡ d + length ls → resumed x d (ls ++ l ∷ []) u ≡ resumed x d ls (filled x (ref_at x (64 - e)) l (and_then u (place_item x l.object l.done)))
  unfolding resumed
  resumed_inner d [] l u {e} z =
      let y : d ≡ e = omega (arith, z) in
      ap (λ (e : ℕ). filled x (ref_at x (64 - e)) l (and_then u (place_item x l.object l.done))) y
  resumed_inner d (l₁ ∷ ls) l u z =
      ap (λ (u : Out SlotValue). filled x (ref_at x (64 - d)) l₁ (and_then u (place_item x l₁.object l₁.done))) (resumed_inner (suc d) ls l u (omega (arith, z)))

-- ---- an object around the one that is read: not all of its bytes have been read

abbrev Around : Mem → Level → Type 0
Around m l = Held m l.object l.size × (l.done < l.size)

held_on : {m m' : Mem} {o size : ℕ} → Onward m m' → Held m o size → Held m' o size
held_on u k = record { below = omega (arith, k.below, u.objects_up); some = omega (arith, k.some, u.slots_up); small = k.small }

around_on : {m m' : Mem} (ls : List Level) → Onward m m' → All (Around m) ls → All (Around m') ls
around_on ls u k i l b = let z = k i l b in (held_on u z.0, z.1)

-- the same level with more of it read
abbrev done_is : ℕ → Level → Level
done_is n l = record { object = l.object; size = l.size; done = n; tag = l.tag }

-- ---- the slot of an object that is full, which does not wait

object_index : (x : Input) (o done child : ℕ) (m : Mem) (sc : Scratch) → Index m.slots m.addresses sc → {n : ℕ} {m1 : Mem} → got n m1 ≡ place_item x o done (Ref (Object child)) m → Index m1.slots m1.addresses sc
unfolding place_item keep_item
object_index x o done child m sc i {n} {m1} f =
    let v : SlotValue = Ref (Object child) in
    let start : ℕ = done + m.skip in
    let added : Out ℕ = add_slot o (start / word x) (fields_of v) 0 in_slot m in
    let told = through (and_then (and_then added (λ k. tell (item o start (width_of (word x) v) k))) (λ _. change (with_skip 0))) (λ _. give (start + width_of (word x) v)) f in
    let kept = through (and_then added (λ k. tell (item o start (width_of (word x) v) k))) (λ _. change (with_skip 0)) told.first in
    let slot = through added (λ k. tell (item o start (width_of (word x) v) k)) kept.first in
    let z : m1.slots ≡ slot.between.slots = ap slots_of told.second ∙ ap slots_of kept.second ∙ ap slots_of slot.second in
    record { pending = rw z (plain_slot o (start / word x) (fields_of v) in_slot m slot.first sc.pending i.pending); linked = subst (λ (g : Ground). Linked g.addresses.rows g.addresses.count sc.index) (sym (same_got ground_of {m = m} f (place_item_ground x o done v m))) i.linked }

-- ---- what holds where the loop begins a turn, and where it reads a new object's head

module _ (w₀ : Walker) (s₀ : State) (d : ℕ) (first : Level) where
  abbrev pub Whole : Out SlotValue
  Whole = items_of (input_of w₀) (ref_at (input_of w₀) (64 - d)) first (mem s₀ (lent_of w₀))

  -- the reader of what is in an object with the objects ls around it
  abbrev inner : Input → List Level → Reader SlotValue
  inner x ls = ref_at x (64 - (d + length ls))

  -- the objects ls, the outermost first, around what gives this then: what is left to read gives
  -- what the whole gives
  pub record Inside (ls : List Level) (u : Input → Out SlotValue) (w : Walker) (t : State) : Type 0 where
    pub fixed : Fixed w₀ w
    pub ready : Ready w t
    pub few : length w.slots.now < 2 ^ 64
    pub same : resumed (input_of w) d ls (u (input_of w)) ≡ Whole
    pub deep : d + length ls ≤ 64
    pub outer : All (Around (mem t (lent_of w))) ls

  -- around the object that is read
  pub record Nest (ls : List Level) (l : Level) (w : Walker) (t : State) : Type 0 where
    pub inside : Inside ls (λ x. filled x (inner x ls) l (got l.done (mem t (lent_of w)))) w t
    pub held : Held (mem t (lent_of w)) l.object l.size
    pub most : l.done ≤ l.size + 2 ^ 55

  -- around one whose head is read next
  pub record Opens (ls : List Level) (child : NewObject) (w : Walker) (t : State) : Type 0 where
    pub inside : Inside ls (λ x. object x (inner x ls) child.space child.tag (mem t (lent_of w))) w t
    pub low : child.space < 256

-- after a call
inside_on : {w₀ : Walker} {s₀ : State} {d : ℕ} {first : Level} {ls : List Level} {u : Input → Out SlotValue} {w : Walker} {t : State} → Inside w₀ s₀ d first ls u w t → (ls₁ : List Level) → d + length ls₁ ≤ 64 → All (Around (mem t (lent_of w))) ls₁ → {w₁ : Walker} {y : State} → Fixed w w₁ → InOrder (input_of w) w.heads.now (mem y (lent_of w₁)) (scratch_of w₁) → Onward (mem t (lent_of w)) (mem y (lent_of w₁)) → (u₁ : Input → Out SlotValue) → resumed (input_of w) d ls₁ (u₁ (input_of w)) ≡ Whole w₀ s₀ d first → Inside w₀ s₀ d first ls₁ u₁ w₁ y
inside_on {w₀} {s₀} {d} {first} n ls₁ deep outer f g up u₁ e =
    record { fixed = fixed_on n.fixed f; ready = ready_on f g; few = omega (arith, n.few, up.slots_size); same = subst (λ (x : Input). resumed x d ls₁ (u₁ x) ≡ Whole w₀ s₀ d first) (sym (same_input f)) e; deep = deep; outer = around_on ls₁ up outer }

-- the outermost object
pub nest_first : {w : Walker} {s : State} (d : ℕ) (l : Level) → Ready w s → length w.slots.now < 2 ^ 64 → d ≤ 64 → Opened l s → Nest w s d l [] l w s
unfolding resumed
nest_first {w} {s} d l g few deep o =
    let z : d + 0 ≡ d = omega arith in
    record { inside = record { fixed = fixed_refl w; ready = g; few = few; same = rw z; deep = omega (arith, deep); outer = All-nil (Around (mem s (lent_of w))) }; held = record { below = o.0; some = o.1; small = o.2 }; most = omega (arith, o.3) }

-- ---- a head

module _ {w₀ : Walker} {s₀ : State} {d : ℕ} {first : Level} {ls : List Level} {child : NewObject} {w : Walker} {t : State} (o : Opens w₀ s₀ d first ls child w t) {e : ℕ} (z : e ≡ d + length ls) where
  abbrev read : Out Level
  read = headed (input_of w) (ref_at (input_of w) (64 - e)) child.space child.tag (mem t (lent_of w))

  begun : resumed (input_of w) d ls (and_then read (λ l m. filled (input_of w) (inner w₀ s₀ d first (input_of w) ls) l (got l.done m))) ≡ Whole w₀ s₀ d first
  begun = rw z (ap (resumed (input_of w) d ls) (headed_object (input_of w) (inner w₀ s₀ d first (input_of w) ls) child.space child.tag (mem t (lent_of w))) ∙ o.inside.same)

  pub opens_no : {n q : ℕ} {m : Mem} → no n q m ≡ read → no n q m ≡ Whole w₀ s₀ d first
  opens_no f = resumed_no (input_of w) d ls (then_no _ f) ∙ begun

  pub opens_on : {ls₁ : List Level} → ls₁ ≡ ls → {l : Level} {y : State} {w₁ : Walker} → got l (mem y (lent_of w₁)) ≡ read → l.size < 2 ^ 33 → After w (Ok (l, y)) w₁ → Nest w₀ s₀ d first ls₁ l w₁ y × (t.at ≤ y.at)
  opens_on es {l} {y} {w₁} f small a =
      let g = order_of o.inside.ready in
      let r = headed_ready g (64 - e) child.space child.tag o.low f small (got_index a) in
      let s : resumed (input_of w) d ls (filled (input_of w) (inner w₀ s₀ d first (input_of w) ls) l (got l.done (mem y (lent_of w₁)))) ≡ Whole w₀ s₀ d first = rw (← f) at begun in
      rw es (record { inside = inside_on o.inside ls o.inside.deep o.inside.outer a.fixed r.0 r.3 _ s; held = r.1; most = omega (arith, r.2, word_low g.proper) }, r.3.at_up)

-- ---- the outermost object, by its head and its items

module _ (d : ℕ) (new : NewObject) {w : Walker} {s : State} (g : Ready w s) (asks : (d ≤ 64) × (new.space < 256)) where
  abbrev head : Out Level
  head = headed (input_of w) (ref_at (input_of w) (64 - d)) new.space new.tag (mem s (lent_of w))

  abbrev given : Out SlotValue
  given = object (input_of w) (ref_at (input_of w) (64 - d)) new.space new.tag (mem s (lent_of w))

  by_items : and_then head (items_of (input_of w) (ref_at (input_of w) (64 - d))) ≡ given
  by_items = headed_object (input_of w) (ref_at (input_of w) (64 - d)) new.space new.tag (mem s (lent_of w))

  pub object_headless : {n q : ℕ} {m : Mem} → no n q m ≡ head → no n q m ≡ given
  object_headless f = then_no _ f ∙ by_items

  module _ {l : Level} {y : State} {w₁ : Walker} (f : got l (mem y (lent_of w₁)) ≡ head) (small : l.size < 2 ^ 33) (a : After w (Ok (l, y)) w₁) where
    by_rest : items_of (input_of w) (ref_at (input_of w) (64 - d)) l (mem y (lent_of w₁)) ≡ given
    by_rest = rw (← f) at by_items

    pub object_whole : l.done ≡ l.size → got (Ref (Object l.object)) (mem y (lent_of w₁)) ≡ given
    object_whole e =
        let z : got (Ref (Object l.object)) (mem y (lent_of w₁)) ≡ items_of (input_of w) (ref_at (input_of w) (64 - d)) l (mem y (lent_of w₁)) = rw (items_full (input_of w) (ref_at (input_of w) (64 - d)) l.object l.size l.done (mem y (lent_of w₁)) (omega (arith, e)), eq-eqb l.done l.size e) in
        z ∙ by_rest

    pub object_opened : Ready w₁ y × Opened l y
    object_opened =
        let o = order_of g in
        let r = headed_ready o (64 - d) new.space new.tag asks.1 f small (got_index a) in
        (ready_on a.fixed r.0, (r.1.below, r.1.some, small, omega (arith, r.2, word_low o.proper)))

    pub object_items : {o : Out SlotValue} → o ≡ items_of (input_of w₁) (ref_at (input_of w₁) (64 - d)) l (mem y (lent_of w₁)) → o ≡ given
    object_items h = at_input a.fixed (λ x. items_of x (ref_at x (64 - d)) l (mem y (lent_of w₁))) h ∙ by_rest

-- ---- a turn

module _ {w₀ : Walker} {s₀ : State} {d : ℕ} {first : Level} {ls : List Level} {l : Level} {w : Walker} {t : State} (n : Nest w₀ s₀ d first ls l w t) where
  abbrev x : Input
  x = input_of w

  abbrev m : Mem
  m = mem t (lent_of w)

  abbrev depth : ℕ
  depth = d + length ls

  abbrev whole : Out SlotValue
  whole = Whole w₀ s₀ d first

  -- all of its bytes have been read
  pub nest_over : l.size ≤ l.done → (l.done ≡ l.size → ⊥) → no 12 l.tag m ≡ whole
  nest_over low e =
      let z : no 12 l.tag m ≡ filled x (ref_at x (64 - depth)) l (got l.done m) = rw (items_full x (ref_at x (64 - depth)) l.object l.size l.done m low, ne_eqb l.done l.size e) in
      resumed_no x d ls z ∙ n.inside.same

  full : l.done ≡ l.size → resumed x d ls (got (Ref (Object l.object)) m) ≡ whole
  full e =
      let z : got (Ref (Object l.object)) m ≡ filled x (ref_at x (64 - depth)) l (got l.done m) = rw (items_full x (ref_at x (64 - depth)) l.object l.size l.done m (omega (arith, e)), eq-eqb l.done l.size e) in
      ap (resumed x d ls) z ∙ n.inside.same

  pub nest_whole : l.done ≡ l.size → (0 < length ls → ⊥) → got (Ref (Object l.object)) m ≡ whole
  unfolding resumed
  nest_whole e z = let f = full e in rw (nil_from_length ls (omega (arith, z))) at f

  -- ---- the next item

  module _ (low : l.done < l.size) {e : ℕ} (z : e ≡ depth) where
    abbrev next : Out ℕ
    next = item_in x (ref_at x (64 - e)) l.object l.size l.done m

    items : resumed x d ls (filled x (ref_at x (64 - depth)) l next) ≡ whole
    items =
        rw z (ap (λ (u : Out ℕ). resumed x d ls (and_then u (closed l.object l.tag l.size))) (items_one (order_of n.inside.ready) depth l.object l.size l.done n.held.below low) ∙ n.inside.same)

    nest_no : {k q : ℕ} {m1 : Mem} → no k q m1 ≡ next → no k q m1 ≡ whole
    nest_no f = resumed_no x d ls (filled_no x (ref_at x (64 - depth)) l f) ∙ items

    nest_item : {k : ℕ} {y : State} {w₁ : Walker} → got k (mem y (lent_of w₁)) ≡ next → After w (Ok (k, y)) w₁ → Nest w₀ s₀ d first ls (done_is k l) w₁ y × (t.at < y.at)
    nest_item {k} {y} {w₁} f a =
        let g = order_of n.inside.ready in
        let r = item_went g e l.object l.size l.done n.held.below low f in
        let u = r.kept.onward in
        let s : resumed x d ls (filled x (ref_at x (64 - depth)) l (got k (mem y (lent_of w₁)))) ≡ whole = rw (← f) at items in
        (record { inside = inside_on n.inside ls n.inside.deep n.inside.outer a.fixed (order_after g r.kept r.numbered r.ascending (got_index a)) u _ s; held = held_on u n.held; most = r.more.less }, r.more.reads)

    module _ (other : is_deferred w.sheet.now (peek_at w.payload.now t.at) ≡ false) where
      slot_next : {out : Out ℕ} → out ≡ slot_in x (ref_at x (64 - e)) l.object l.done m → out ≡ next
      slot_next f = item_slot x (ref_at x (64 - e)) l.object l.size l.done m other f

      pub nest_slot_no : {k q : ℕ} {m1 : Mem} → no k q m1 ≡ slot_in x (ref_at x (64 - e)) l.object l.done m → no k q m1 ≡ whole
      nest_slot_no f = nest_no (slot_next f)

      pub nest_slot : {k : ℕ} {y : State} {w₁ : Walker} → got k (mem y (lent_of w₁)) ≡ slot_in x (ref_at x (64 - e)) l.object l.done m → After w (Ok (k, y)) w₁ → Nest w₀ s₀ d first ls (done_is k l) w₁ y × (t.at < y.at)
      nest_slot f a = nest_item (slot_next f) a

      -- an object begins there
      pub nest_begins : {k : ℕ} {child : NewObject} → Begins w t.at e k child → Opens w₀ s₀ d first (ls ++ l ∷ []) child w (moved_to (t.at + 1) t)
      nest_begins {k} {child} b =
          let y : d + length (ls ++ l ∷ []) ≡ depth + 1 = omega (arith, length_push ls l) in
          let q : object x (ref_at x (64 - (depth + 1))) child.space child.tag (mem (moved_to (t.at + 1) t) (lent_of w)) ≡ ref_at x (64 - depth) m = rw (← one_less depth) (ref_object n.inside.ready b.head (depth + 1) (omega (arith, b.deep, z))) in
          let i : and_then (object x (ref_at x (64 - (depth + 1))) child.space child.tag (mem (moved_to (t.at + 1) t) (lent_of w))) (place_item x l.object l.done) ≡ next = rw z (item_slot x (ref_at x (64 - depth)) l.object l.size l.done m other (ap (λ (u : Out SlotValue). and_then u (place_item x l.object l.done)) q)) in
          record { inside = inside_on n.inside (ls ++ l ∷ []) (omega (arith, y, b.deep, z)) (All-push (Around m) ls l n.inside.outer (n.held, low)) (fixed_refl w) (order_of (moved_ready n.inside.ready b.head.inside)) (omega arith) _ (rw y (resumed_inner x d ls l _ refl ∙ ap (λ (u : Out ℕ). resumed x d ls (filled x (ref_at x (64 - depth)) l u)) i ∙ items)); low = space_low n.inside.ready b.head }

  pub nest_deferred : l.done < l.size → is_deferred w.sheet.now (peek_at w.payload.now t.at) ≡ true → Nest w₀ s₀ d first ls (done_is l.size l) w (moved_to (t.at + 1) t) × (t.at < t.at + 1)
  nest_deferred low b =
      let g = n.inside.ready in
      nest_item low refl (item_deferred x (ref_at x (64 - depth)) l.object l.size l.done m b (deferred_inside (order_of g) b)) (record { fixed = fixed_refl w; indexed = g.indexed; linked = g.linked })

  -- ---- an object that is full, in the innermost of those around it

  module _ (e : l.done ≡ l.size) (ls₁ : List Level) (around : Level) (z : ls ≡ ls₁ ++ around ∷ []) where
    parts : All (Around m) ls₁ × Around m around
    parts = All-pop (Around m) ls ls₁ (Some around) z n.inside.outer

    pub put_fits : around.done + t.skip + word_bytes w.sheet.now < 2 ^ 64
    put_fits =
        let g = n.inside.ready in
        omega (arith, parts.1.0.small, parts.1.1, word_low g.proper, g.sound.skip_low, g.sound.within, g.proper.short)

    left : resumed x d ls₁ (filled x (ref_at x (64 - (d + length ls₁))) around (place_item x around.object around.done (Ref (Object l.object)) m)) ≡ whole
    left = let f = full e in sym (resumed_inner x d ls₁ around (got (Ref (Object l.object)) m) refl) ∙ rw z at f

    pub nest_roomless : {k q : ℕ} {m1 : Mem} → no k q m1 ≡ place_item x around.object around.done (Ref (Object l.object)) m → no k q m1 ≡ whole
    nest_roomless f = resumed_no x d ls₁ (filled_no x (ref_at x (64 - (d + length ls₁))) around f) ∙ left

    pub nest_ends : {k : ℕ} {y : State} {w₁ : Walker} → got k (mem y (lent_of w₁)) ≡ place_item x around.object around.done (Ref (Object l.object)) m → Kept w w₁ → Nest w₀ s₀ d first ls₁ (done_is k around) w₁ y × (t.at ≤ y.at)
    nest_ends {k} {y} {w₁} f a =
        let g = order_of n.inside.ready in
        let q = parts in
        let r = place_went g.sound g.counted g.numbered g.ascending g.proper around.object around.done q.1.0.below (Ref (Object l.object)) (omega (arith, word_low g.proper)) tt f in
        let u = r.kept.onward in
        let i = object_index x around.object around.done l.object m (scratch_of w) g.index f in
        let s : resumed x d ls₁ (filled x (ref_at x (64 - (d + length ls₁))) around (got k (mem y (lent_of w₁)))) ≡ whole = rw (← f) at left in
        (record { inside = inside_on n.inside ls₁ (omega (arith, n.inside.deep, ap length z, length_push ls₁ around)) q.0 a.0 (order_after g r.kept r.numbered r.ascending (rw (same_scratch w w₁ a.1) i)) u _ s; held = held_on u q.1.0; most = omega (arith, r.more.bound, q.1.1, g.sound.skip_low, g.sound.within, g.proper.short) }, u.at_up)
