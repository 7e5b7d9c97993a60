-- What holds at the start of a reader, after one of them went: the pure part by the laws of the
-- definition, the index by the code's answers. Assumes nothing.
use mathlib.Core.Path.{◌≡◌, sym, subst}
use mathlib.Core.List.{List}
use Prim.Native.Nat.{ℕ, ◌+◌, ◌-◌, ◌%◌, ◌<◌}
use native.Mathlib.Omega.{arith}
use lib.ListN.{length}
use Rattle.tables.specs.declared.values.SlotValue.{SlotValue}
use Rattle.definition.specs.Memory.{Input, word, Mem, Out, got, moved}
use Rattle.definition.specs.Object.{read_map, keep_map, object}
use Rattle.definition.specs.Reference.{ref_at}
use Rattle.laws.specs.Sound.{Proper, Kept, Holds, Referred}
use Rattle.laws.specs.Keeps.{More}
use Rattle.laws.proofs.Theorems.{ref_keeps, object_keeps, map_keeps, keep_map_keeps}
use Rattle.laws.specs.Numbered.{Numbered, FreshValue, Ordered, ref_numbered, object-numbered, map_numbered, keep_map-numbered}
use Rattle.laws.specs.Addresses.{Ascending, StaysAscending, ref_ascending, object_ascending, map_ascending}
use Rattle.heads.specs.declared.heads.Head.{Head}
use Rattle.std.specs.Prelude.{Ok}
use Rattle.readers.specs.declared.state.State.{State}
use Rattle.readers.specs.declared.walker.Walker.{Walker}
use Rattle.readers.specs.Views.{mem, moved_to}
use Rattle.readers.specs.Lent.{input_of, lent_of}
use Rattle.walker.specs.Ready.{Ready, After}
use Rattle.walker.proofs.ScratchLaws.{Scratch, Index, InOrder, order_of, ready_of, ready_on, got_index}
use Rattle.walker.proofs.GroundLaws.{ground_ascends, keep_map_ground}

-- one level less is left, as the code counts it and as the definition does
pub one_less : (d : ℕ) → 65 - (d + 1) ≡ 64 - d
one_less d = omega arith

-- what a reader that gave a value keeps
pub record Went {A : Type 0} (x : Input) (m : Mem) (P Q : A → Mem → Type 0) (v : A) (m' : Mem) : Type 0 where
  pub kept : Kept x m m'
  pub more : P v m'
  pub numbered : Numbered m'
  pub ascending : Ascending x m'.addresses m'.alloc
  pub fresh : Q v m'

module _ {A : Type 0} {x : Input} {m : Mem} {P Q : A → Mem → Type 0} {o : Out A} (k : Holds x m P o) (n : Ordered Q o) (a : StaysAscending x o) where
  pub went : {v : A} {m' : Mem} → got v m' ≡ o → Went x m P Q v m'
  went e =
      let h = subst (Holds x m P) (sym e) k in
      let b = subst (Ordered Q) (sym e) n in
      record { kept = h.0; more = h.1; numbered = b.0; ascending = subst (StaysAscending x) (sym e) a; fresh = b.1 }

abbrev pub Free : SlotValue → Mem → Type 0
Free v m = FreshValue m v

abbrev pub None : {A : Type 0} → A → Mem → Type 0
None v m = Unit {0}

module _ {x : Input} {h : List Head} {sc : Scratch} {m : Mem} (g : InOrder x h m sc) where
  -- ---- after what a reader kept

  pub order_after : {m' : Mem} {sc' : Scratch} → Kept x m m' → Numbered m' → Ascending x m'.addresses m'.alloc → Index m'.slots m'.addresses sc' → InOrder x h m' sc'
  order_after k n a i =
      record { proper = g.proper; decoded = g.decoded; sound = k.sound; counted = k.counted; numbered = n; ascending = a; index = i }

  -- the head byte was read
  pub moved_kept : m.at < length x.payload → Kept x m (moved (m.at + 1) m)
  moved_kept l =
      record
      { sound = omega (arith, g.sound); counted = record { chunk_low = λ s. omega (arith, g.counted.chunk_low s); count_low = g.counted.count_low }; onward = omega arith }

  pub order_moved : m.at < length x.payload → InOrder x h (moved (m.at + 1) m) sc
  order_moved l = order_after (moved_kept l) g.numbered g.ascending (record { pending = g.index.pending; linked = g.index.linked })

  -- ---- what each reader keeps

  pub order_ref : (k : ℕ) {v : SlotValue} {m' : Mem} → got v m' ≡ ref_at x k m → Went x m (Referred x m) Free v m'
  order_ref k e = went (ref_keeps g.proper k m g.sound g.counted) (ref_numbered g.proper m g.sound g.counted g.numbered k) (ref_ascending g.proper m g.sound g.counted g.ascending k) e

  order_object : (k space tag : ℕ) → space < 256 → {v : SlotValue} {m' : Mem} → got v m' ≡ object x (ref_at x k) space tag m → Went x m (Referred x m) Free v m'
  order_object k space tag l e =
      went (object_keeps g.proper (ref_at x k) (ref_keeps g.proper k) space tag l m g.sound g.counted) (object-numbered g.proper m g.sound g.counted g.numbered k space tag l) (object_ascending g.proper m g.sound g.counted g.ascending k space tag l) e

  -- of an object o that has a record
  module _ (o : ℕ) (b : o < m.objects.count) where
    pub map_went : (k space bytes : ℕ) → space < 256 → bytes % word x ≡ 0 → {v : SlotValue} {m' : Mem} → got v m' ≡ read_map x (ref_at x k) space bytes o m → Went x m (Referred x m) Free v m'
    map_went k space bytes l w e =
        went (map_keeps g.proper m g.sound g.counted o b (ref_at x k) (ref_keeps g.proper k) space bytes l) (map_numbered g.proper m g.sound g.counted g.numbered o 0 0 b k space bytes l) (map_ascending g.proper m g.sound g.counted g.ascending o bytes k space b w l) e

-- the map's slot, after the reader of the map
pub keep_map_went : {x : Input} {m₀ m : Mem} {P : SlotValue → Mem → Type 0} {v : SlotValue} → Proper x → Went x m₀ P Free v m → (o : ℕ) → o < m.objects.count → {u : Unit {0}} {m' : Mem} → got u m' ≡ keep_map x o v m → Went x m (λ _ m'. More (λ m. m.slots) m m') None u m'
keep_map_went {x} {m = m} {v = v} p w o b e =
    let s = w.kept.sound in
    let c = w.kept.counted in
    went (keep_map_keeps p m s c o b v) (keep_map-numbered p m s c w.numbered o 0 0 b v w.fresh) (ground_ascends x m w.ascending (keep_map x o v m) (keep_map_ground x o v m)) e

-- ---- the same of what a walker and a state have

module _ {w : Walker} {s : State} (g : Ready w s) where
  pub ref_went : (k : ℕ) {v : SlotValue} {m' : Mem} → got v m' ≡ ref_at (input_of w) k (mem s (lent_of w)) → Went (input_of w) (mem s (lent_of w)) (Referred (input_of w) (mem s (lent_of w))) Free v m'
  ref_went k e = order_ref (order_of g) k e

  pub object_went : (k space tag : ℕ) → space < 256 → {v : SlotValue} {m' : Mem} → got v m' ≡ object (input_of w) (ref_at (input_of w) k) space tag (mem s (lent_of w)) → Went (input_of w) (mem s (lent_of w)) (Referred (input_of w) (mem s (lent_of w))) Free v m'
  object_went k space tag l e = order_object (order_of g) k space tag l e

  -- the head byte was read
  pub moved_ready : s.at < length w.payload.now → Ready w (moved_to (s.at + 1) s)
  moved_ready l = ready_of (order_moved (order_of g) l)

-- after a reference that gave a value
pub value_ready : {w : Walker} {s : State} → Ready w s → (k : ℕ) → {v : SlotValue} {t : State} {w₁ : Walker} → After w (Ok (v, t)) w₁ → got v (mem t (lent_of w₁)) ≡ ref_at (input_of w) k (mem s (lent_of w)) → Ready w₁ t
value_ready g k i e =
    let z = ref_went g k e in ready_on i.fixed (order_after (order_of g) z.kept z.numbered z.ascending (got_index i))
