-- The items of an object in the steps that the code takes: one item, what it keeps, and the rest
-- after it. Assumes nothing.
use Rattle.std.specs.Prelude.{if◌then◌else◌}
use mathlib.Core.Path.{◌≡◌, refl, sym, subst, ◌∙◌}
use mathlib.Core.Bool.{Bool, true, false}
use mathlib.Core.List.{List}
use Prim.Native.Nat.{ℕ, suc, ◌+◌, ◌-◌, ◌^◌, ◌<◌, ◌≤◌}
use native.Mathlib.Omega.{arith}
use borrow.Author.Tests.{lt-ltb, le-leb, lt-leb}
use lib.Dec.{eqb}
use lib.ListN.{length}
use Rattle.stream.specs.Bytes.{peek_at}
use Rattle.sheet.specs.Names.{k_deferred}
use Rattle.sheet.specs.Sheet.{number}
use Rattle.sheet.specs.Tests.{is_deferred}
use Rattle.tables.specs.declared.values.SlotValue.{SlotValue}
use Rattle.tables.specs.Values.{width_of}
use Rattle.definition.specs.Memory.{Input, word, Mem, Out, got, no, Reader, and_then, ◌>>◌, give, moved, byte}
use Rattle.definition.specs.Slots.{place_item}
use Rattle.definition.specs.Object.{peek, items, closed}
use Rattle.definition.specs.Reference.{ref_at}
use Rattle.laws.specs.Sound.{Proper, Sound, Counted, Referred}
use Rattle.laws.specs.Leaves.{tag_inside}
use Rattle.laws.specs.Steps.{kept_trans}
use Rattle.laws.specs.Keeps.{sheet_gives, Placed}
use Rattle.laws.proofs.Theorems.{ref_keeps, place_item_keeps}
use Rattle.laws.specs.Numbered.{Numbered, FreshValue, place_item-numbered}
use Rattle.laws.specs.Addresses.{Ascending}
use Rattle.laws.proofs.Fuel.{items_fuel}
use Rattle.heads.specs.declared.heads.Head.{Head}
use Rattle.readers.proofs.ViewLaws.{then_no}
use Rattle.objects.specs.declared.item.Level.{Level}
use Rattle.leaves.specs.Leaf.{slot_in}
use Rattle.walker.proofs.ScratchLaws.{Scratch, InOrder}
use Rattle.walker.proofs.GroundLaws.{ground_ascends, place_item_ground}
use Rattle.walker.proofs.ReadyLaws.{Went, went, Free, None, moved_kept, order_ref}

-- a reading that two readers make one after the other
pub record Through {A B : Type 0} (o : Out A) (f : A → Reader B) (out : Out B) : Type 0 where
  pub value : A
  pub between : Mem
  pub first : got value between ≡ o
  pub second : out ≡ f value between

pub through : {A B : Type 0} (o : Out A) (f : A → Reader B) {v : B} {m' : Mem} → got v m' ≡ and_then o f → Through o f (got v m')
through (got a m) f e = record { value = a; between = m; first = refl; second = e }
through (no n q m) f e = absurd (let z : ◌≡◌ {A = ℕ} 0 1 = cc in omega arith)

-- the code's test of the byte at the cursor
pub tag_is : (k : ℕ) (v p : List ℕ) (at : ℕ) {b : ℕ} {t : Bool} → b ≡ peek_at p at → t ≡ eqb (number v k) b → eqb (number v k) (peek_at p at) ≡ t
tag_is k v p at eb et = rw (← eb) (sym et)

-- ---- an item

-- what a value that was placed keeps
module _ {x : Input} {m : Mem} (s : Sound x m) (c : Counted m) (u : Numbered m) (a : Ascending x m.addresses m.alloc) (p : Proper x) where
  pub place_went : (o done : ℕ) → o < m.objects.count → (v : SlotValue) → width_of (word x) v ≤ 2 ^ 34 → FreshValue m v → {d1 : ℕ} {m1 : Mem} → got d1 m1 ≡ place_item x o done v m → Went x m (Placed done m) None d1 m1
  place_went o done b v narrow fresh f =
      went (place_item_keeps p m s c o b done v narrow) (place_item-numbered p m s c u o (done + 1) done b v fresh narrow (omega arith)) (ground_ascends x m a (place_item x o done v m) (place_item_ground x o done v m)) f

-- what an item keeps, of an object of n bytes
pub record Added (n : ℕ) (m : Mem) (d : ℕ) (m' : Mem) : Type 0 where
  pub reads : m.at < m'.at
  pub less : d ≤ n + 2 ^ 55

abbrev WentOut : Input → Mem → (ℕ → Mem → Type 0) → Out ℕ → Type 0
WentOut x m P (got d m') = Went x m P None d m'
WentOut x m P (no n q m') = Unit {0}

-- ---- one item, and the rest

-- an item: a reference, or kDeferred, which ends the object early
abbrev pub item_in : Input → Reader SlotValue → ℕ → ℕ → ℕ → Reader ℕ
item_in x r o size done m = (if is_deferred x.sheet (peek x m) then byte x >> give size else slot_in x r o done) m

-- the definition's items, of which so many bytes are left in the payload
abbrev items_from : Input → Reader SlotValue → ℕ → ℕ → ℕ → Reader ℕ
items_from x r o n done m = items x r o n (length x.payload - m.at + 1) done m

-- an object, of which so many bytes have been read: its other items, which fill it
abbrev pub filled : Input → Reader SlotValue → Level → Out ℕ → Out SlotValue
filled x r l u = and_then (and_then u (items_from x r l.object l.size)) (closed l.object l.tag l.size)

pub filled_no : (x : Input) (r : Reader SlotValue) (l : Level) {u : Out ℕ} {n q : ℕ} {m : Mem} → no n q m ≡ u → no n q m ≡ filled x r l u
filled_no x r l e = then_no (closed l.object l.tag l.size) (then_no (items_from x r l.object l.size) e)

module _ (x : Input) (r : Reader SlotValue) (o n done : ℕ) (m : Mem) where
  one_more : length x.payload - m.at + 1 ≡ suc (length x.payload - m.at)
  one_more = omega arith

  pub items_full : n ≤ done → items_from x r o n done m ≡ got done m
  unfolding items
  items_full l = rw (one_more, le-leb n done l)

  pub item_deferred : is_deferred x.sheet (peek x m) ≡ true → m.at < length x.payload → got n (moved (m.at + 1) m) ≡ item_in x r o n done m
  unfolding byte
  item_deferred e b = rw (e, lt-ltb m.at (length x.payload) b)

  pub item_slot : is_deferred x.sheet (peek x m) ≡ false → {out : Out ℕ} → out ≡ slot_in x r o done m → out ≡ item_in x r o n done m
  item_slot e f = rw e f

  module _ (l : done < n) where
    items_deferred : is_deferred x.sheet (peek x m) ≡ true → m.at < length x.payload → items_from x r o n done m ≡ got n (moved (m.at + 1) m)
    unfolding items byte
    items_deferred e b = rw (one_more, lt-leb n done l, e, lt-ltb m.at (length x.payload) b)

    items_slot : is_deferred x.sheet (peek x m) ≡ false → and_then (slot_in x r o done m) (items x r o n (length x.payload - m.at)) ≡ items_from x r o n done m
    unfolding items
    items_slot e = rw (one_more, lt-leb n done l, e)

pub deferred_inside : {x : Input} {h : List Head} {sc : Scratch} {m : Mem} → InOrder x h m sc → is_deferred x.sheet (peek x m) ≡ true → m.at < length x.payload
deferred_inside {x} {m = m} g e = tag_inside x.sheet (sheet_gives g.proper) k_deferred (omega arith) x.payload m.at e

module _ {x : Input} {h : List Head} {sc : Scratch} {m : Mem} (g : InOrder x h m sc) (d o n done : ℕ) (b : o < m.objects.count) (low : done < n) where
  abbrev r : Reader SlotValue
  r = ref_at x (64 - d)

  slot_went : {d1 : ℕ} {m1 : Mem} → got d1 m1 ≡ slot_in x r o done m → Went x m (Added n m) None d1 m1
  slot_went {d1} {m1} f =
      let t = through (r m) (place_item x o done) f in
      let z : Went x m (Referred x m) Free t.value t.between = order_ref g (64 - d) t.first in
      let y : Went x t.between (Placed done t.between) None d1 m1 = place_went z.kept.sound z.kept.counted z.numbered z.ascending g.proper o done (omega (arith, z.kept.onward.objects_up)) t.value z.more.narrow z.fresh t.second in
      record { kept = kept_trans z.kept y.kept; more = record { reads = omega (arith, z.more.reads, y.more.at_same); less = omega (arith, y.more.bound, z.kept.sound.skip_low, z.kept.sound.within, g.proper.short) }; numbered = y.numbered; ascending = y.ascending; fresh = tt }

  -- after an item the rest of the bytes is enough for the rest of the items
  enough : (u : Out ℕ) → u ≡ slot_in x r o done m → and_then u (items_from x r o n) ≡ and_then u (items x r o n (length x.payload - m.at))
  enough (got d1 m1) e =
      let z = slot_went e in
      items_fuel g.proper r (ref_keeps g.proper (64 - d)) o n _ _ d1 m1 z.kept.sound z.kept.counted (omega (arith, b, z.kept.onward.objects_up)) (omega arith) (omega (arith, z.more.reads, z.kept.sound.within))
  enough (no k q m1) e = refl

  by_tag : (t : Bool) → is_deferred x.sheet (peek x m) ≡ t → and_then (item_in x r o n done m) (items_from x r o n) ≡ items_from x r o n done m
  by_tag true e =
      let i = deferred_inside g e in
      rw (← item_deferred x r o n done m e i, items_full x r o n n (moved (m.at + 1) m) (omega arith), items_deferred x r o n done m low e i)
  by_tag false e = rw (← item_slot x r o n done m e refl) (enough (slot_in x r o done m) refl ∙ items_slot x r o n done m low e)

  -- the items are one and the rest
  pub items_one : and_then (item_in x r o n done m) (items_from x r o n) ≡ items_from x r o n done m
  items_one = by_tag (is_deferred x.sheet (peek x m)) refl

  went_by_tag : (t : Bool) → is_deferred x.sheet (peek x m) ≡ t → {d1 : ℕ} {m1 : Mem} → got d1 m1 ≡ item_in x r o n done m → Went x m (Added n m) None d1 m1
  went_by_tag true e {d1} {m1} f =
      let i = deferred_inside g e in
      let q : got d1 m1 ≡ got n (moved (m.at + 1) m) = f ∙ sym (item_deferred x r o n done m e i) in
      let w : Went x m (Added n m) None n (moved (m.at + 1) m) = record { kept = moved_kept g i; more = record { reads = omega arith; less = omega arith }; numbered = g.numbered; ascending = g.ascending; fresh = tt } in
      subst (λ (u : Out ℕ). WentOut x m (Added n m) u) (sym q) w
  went_by_tag false e f = slot_went (f ∙ sym (item_slot x r o n done m e refl))

  pub item_went : {d1 : ℕ} {m1 : Mem} → got d1 m1 ≡ item_in x r o n done m → Went x m (Added n m) None d1 m1
  item_went = went_by_tag (is_deferred x.sheet (peek x m)) refl
