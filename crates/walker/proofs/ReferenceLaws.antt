-- A reference at each of its ways out: what its head byte gives, what holds where an inner
-- reference starts, and that heads that open no object change no slot. Assumes nothing.
use mathlib.Core.Path.{◌≡◌, refl, sym, ap, subst, ◌∙◌}
use mathlib.Core.Bool.{Bool}
use Prim.Native.Nat.{ℕ, suc, ◌+◌, ◌-◌, ◌^◌, ◌<◌, ◌≤◌}
use native.Mathlib.Omega.{arith}
use borrow.Author.Tests.{lt-ltb, le-ltb}
use lib.Dec.{ltb}
use lib.ListN.{length, get_or}
use Rattle.std.specs.Prelude.{Option, Some, None, Ok, Err, IfSome, IsNone}
use Rattle.std.specs.Option.{ok_or}
use Rattle.stream.specs.Bytes.{raw_at}
use Rattle.stream.specs.declared.putint.Int.{Int}
use Rattle.stream.specs.PutInt.{int_at}
use Rattle.heads.specs.declared.kinds.Kind.{Kind}
use Rattle.heads.specs.declared.kinds.Kind.TheVariants.{NoMeaning, NewObject as NewObjectKind, Backref, LegacyBackref, LegacyBackrefWithSkip, NextChunk, Alignment, Hot, HotWithSkip, RootArray, RootConstant, RootConstantWithSkip, ReadOnly, Attached, Builtin, External, Api, Internal, Deoptimizer, StreamBytes, EmbedderFields, OffHeapTarget, Cache, RegisterPending, ClearedWeak, WeakPrefix, PointerPrefix, DispatchEntry, FixedRaw, VariableRaw, Skip, FixedRepeat, FixedRepeatRoot, RepeatPrevious, VariableRepeat, VariableRepeatPrevious, VariableRepeatRoot, MetaMap}
use Rattle.heads.specs.Heads.{head_of}
use Rattle.tables.specs.declared.values.Ref.{Ref}
use Rattle.tables.specs.declared.values.Ref.TheVariants.{Root}
use Rattle.tables.specs.declared.values.SlotValue.{SlotValue}
use Rattle.tables.specs.declared.values.SlotValue.TheVariants.{Ref as IsRef}
use Rattle.tables.specs.declared.values.Fields.{Fields}
use Rattle.tables.specs.Values.{fields_of}
use Rattle.backref.specs.HotRing.{hot_at}
use Rattle.backref.specs.Legacy.{is_single, single}
use Rattle.definition.specs.Memory.{Input, Table, Mem, Out, got, no, Reader, and_then, ◌>>=◌, ◌>>◌, change, moved, aligned, after_int, byte, int, has_room}
use Rattle.definition.specs.Slots.{add_value}
use Rattle.definition.specs.Object.{change_chunk, object}
use Rattle.definition.specs.Reference.{skip_amount, backref_to, of_hot, hot_place, of_single, place_reference, after_first, legacy_reference, pending_reference, after_raw, raw_data, weak_of, repeat_of, repeat_root, by_head, reference, ref_at}
use Rattle.laws.specs.Sound.{Holds, Referred}
use Rattle.laws.proofs.Theorems.{ref_keeps}
use Rattle.laws.specs.Numbered.{Ordered, ref_numbered}
use Rattle.laws.specs.Addresses.{StaysAscending, ref_ascending}
use Rattle.readers.specs.declared.state.State.{State}
use Rattle.readers.specs.declared.state.Refused.{Refused}
use Rattle.readers.specs.declared.walker.Walker.{Walker}
use Rattle.readers.specs.declared.prefix.Held.{Held}
use Rattle.readers.specs.declared.prefix.Held.TheVariants.{Plain, Weak, Repeated}
use Rattle.readers.specs.declared.prefix.Prefix.{Prefix}
use Rattle.readers.specs.declared.prefix.Prefix.TheVariants.{Inner, Root as RootHeld, Other}
use Rattle.refusals.specs.Numbers.{number_of}
use Rattle.readers.specs.Views.{Lent, Answer, mem, seen, moved_to, cut_at, Counts}
use Rattle.readers.specs.Lent.{input_of, lent_of, Kept, Addressed, HeadAt}
use Rattle.objects.specs.declared.head.NewObject.{NewObject}
use Rattle.objects.specs.Head.{NewAt}
use Rattle.readers.specs.Simple.{Simple}
use Rattle.readers.specs.Prefix.{held, Holdless, Begins}
use Rattle.readers.proofs.ViewLaws.{then_got, then_no}
use Rattle.heads.proofs.Rules.{Argued, head_argued}
use Rattle.heads.specs.declared.heads.Head.{Head as CodeHead}
use Rattle.walker.specs.Ready.{Ready, After}
use Rattle.objects.proofs.AnswerLaws.{fixed_on, same_input}
use Rattle.walker.proofs.ScratchLaws.{Scratch, scratch_of, Index, OutIndex, InOrder, order_of, addressed, same_scratch, at_input, ready_on, after_of, got_index}
use Rattle.walker.proofs.SameLaws.{Same, Leaves, same_choose, then_leaves, next_leaves, same_no}
use Rattle.walker.proofs.ReadyLaws.{Free, order_after, order_moved}

-- ---- readers that leave the slots and the address records as they are

pub record Records : Type 0 where
  pub slots : Table
  pub addresses : Table

abbrev pub records_of : Mem → Records
records_of m = record { slots = m.slots; addresses = m.addresses }

abbrev pub Idle : {A : Type 0} → Mem → Out A → Type 0
Idle m o = Same records_of m o

abbrev Still : {A : Type 0} → Reader A → Type 0
Still r = Leaves records_of r

-- ---- steps

module _ (x : Input) where
  pub byte_still : Still (byte x)
  unfolding byte
  byte_still m = same_choose records_of (ltb m.at (length x.payload)) _ _ m (λ _. refl) refl

  int_of : (i : Option Int) → Still (after_int x i)
  int_of (Some i) m = refl
  int_of None m = refl

  pub int_still : Still (int x)
  unfolding int
  int_still m = int_of (int_at x.payload m.at) m

  amount_still : Still (skip_amount x)
  amount_still = then_leaves records_of (int x) _ int_still (λ n m. refl)

  single_still : (o : Option Ref) → Still (of_single o)
  single_still (Some r) m = refl
  single_still None m = refl

  first_still : (space first : ℕ) → Still (after_first x space first)
  first_still space first m =
      same_choose records_of (is_single x.sheet space) _ _ m
      (λ _. single_still (single x.sheet m.addresses.rows m.addresses.count m.alignment space first) m)
      (then_leaves records_of (int x) (λ second. place_reference x space (record { chunk = first; offset = second })) int_still (λ second m. refl) m)

  pub legacy_still : (space : ℕ) → Still (legacy_reference x space)
  unfolding legacy_reference
  legacy_still space = then_leaves records_of (int x) (after_first x space) int_still (first_still space)

  raw_of : (n : ℕ) (advances : Bool) (r : Option ℕ) → Still (after_raw n advances r)
  raw_of n advances (Some end) m = refl
  raw_of n advances None m = refl

  raw_still : (n : ℕ) (advances : Bool) → Still (raw_data x n advances)
  unfolding raw_data
  raw_still n advances m = raw_of n advances (raw_at x.payload m.at n) m

backref_to_still : (i : ℕ) → Still (backref_to i)
unfolding backref_to
backref_to_still i m = same_choose records_of (ltb i m.objects.count) _ _ m (λ _. refl) refl

hot_of : (h : Option Ref) → Still (of_hot h)
hot_of (Some r) m = refl
hot_of None m = refl

hot_still : (i : ℕ) → Still (hot_place i)
hot_still i m = hot_of (hot_at m.hot i) m

pending_still : Still pending_reference
unfolding pending_reference
pending_still m = refl

value_still : (f : Fields) → Still (add_value f)
unfolding add_value
value_still f m = same_choose records_of (has_room 3 m.values) _ _ m (λ _. refl) refl

weak_still : (v : SlotValue) → Still (weak_of v)
weak_still v m = then_leaves records_of (add_value (fields_of v)) _ (value_still (fields_of v)) (λ k m. refl) m

repeat_still : (n : ℕ) (v : SlotValue) → Still (repeat_of n v)
repeat_still n v m = then_leaves records_of (add_value (fields_of v)) _ (value_still (fields_of v)) (λ k m. refl) m

held_still : (h : Held) (v : SlotValue) → Still (held h v)
held_still Plain v m = refl
held_still Weak v m = weak_still v m
held_still (Repeated n) v m = repeat_still n v m

root_still : (x : Input) (n : ℕ) → Still (repeat_root x n)
root_still x n = then_leaves records_of (byte x) _ (byte_still x) (λ i. repeat_still n (IsRef (Root i)))

-- no levels left
none_still : (x : Input) → Still (ref_at x 0)
unfolding ref_at
none_still x m = refl

-- ---- by the head

-- a head that opens no object
module _ (x : Input) (r : Reader SlotValue) (s : Still r) (tag : ℕ) where
  by_head_still : (kind : Kind) (a : ℕ) → (kind ≡ NewObjectKind → ⊥) → Still (by_head x r tag kind a)
  unfolding by_head
  by_head_still NewObjectKind a n m = absurd (n refl)
  by_head_still Backref a n m = then_leaves records_of (int x) _ (int_still x) backref_to_still m
  by_head_still LegacyBackref a n m = legacy_still x a m
  by_head_still LegacyBackrefWithSkip a n m = next_leaves records_of (skip_amount x) _ (amount_still x) (legacy_still x a) m
  by_head_still NextChunk a n m = next_leaves records_of (byte x >>= (λ space. change (change_chunk x space))) r (then_leaves records_of (byte x) (λ space. change (change_chunk x space)) (byte_still x) (λ space m. refl)) s m
  by_head_still Alignment a n m = next_leaves records_of (change (aligned a)) r (λ m. refl) s m
  by_head_still Hot a n m = hot_still a m
  by_head_still HotWithSkip a n m = next_leaves records_of (skip_amount x) _ (amount_still x) (hot_still a) m
  by_head_still RootArray a n m = then_leaves records_of (int x) _ (int_still x) (λ i m. refl) m
  by_head_still RootConstant a n m = refl
  by_head_still RootConstantWithSkip a n m = next_leaves records_of (skip_amount x) _ (amount_still x) (λ m. refl) m
  by_head_still ReadOnly a n m = then_leaves records_of (int x) _ (int_still x) (λ c. then_leaves records_of (int x) _ (int_still x) (λ o m. refl)) m
  by_head_still Attached a n m = then_leaves records_of (int x) _ (int_still x) (λ i m. refl) m
  by_head_still Builtin a n m = then_leaves records_of (int x) _ (int_still x) (λ i m. refl) m
  by_head_still External a n m = then_leaves records_of (int x) _ (int_still x) (λ i m. refl) m
  by_head_still Api a n m = next_leaves records_of (skip_amount x) _ (amount_still x) (then_leaves records_of (int x) _ (int_still x) (λ i m. refl)) m
  by_head_still Internal a n m = next_leaves records_of (int x >> int x) _ (next_leaves records_of (int x) (int x) (int_still x) (int_still x)) (λ m. refl) m
  by_head_still Deoptimizer a n m = next_leaves records_of (int x) _ (int_still x) (λ m. refl) m
  by_head_still StreamBytes a n m = then_leaves records_of (int x) _ (int_still x) (λ n m. refl) m
  by_head_still EmbedderFields a n m = then_leaves records_of (int x >> int x) _ (next_leaves records_of (int x) (int x) (int_still x) (int_still x)) (λ n m. refl) m
  by_head_still OffHeapTarget a n m = next_leaves records_of (skip_amount x >> int x) _ (next_leaves records_of (skip_amount x) (int x) (amount_still x) (int_still x)) (λ m. refl) m
  by_head_still Cache a n m = then_leaves records_of (int x) _ (int_still x) (λ i m. refl) m
  by_head_still RegisterPending a n m = pending_still m
  by_head_still ClearedWeak a n m = refl
  by_head_still WeakPrefix a n m = then_leaves records_of r _ s weak_still m
  by_head_still PointerPrefix a n m = s m
  by_head_still DispatchEntry a n m = next_leaves records_of (int x) _ (int_still x) (λ m. refl) m
  by_head_still FixedRaw a n m = raw_still x _ _ m
  by_head_still VariableRaw a n m = then_leaves records_of (int x) _ (int_still x) (λ n. raw_still x _ _) m
  by_head_still Skip a n m = then_leaves records_of (int x) _ (int_still x) (λ n m. refl) m
  by_head_still FixedRepeat a n m = then_leaves records_of r _ s (repeat_still a) m
  by_head_still FixedRepeatRoot a n m = root_still x a m
  by_head_still RepeatPrevious a n m = refl
  by_head_still VariableRepeat a n m = then_leaves records_of (int x) _ (int_still x) (λ n. then_leaves records_of r _ s (repeat_still (n + 18))) m
  by_head_still VariableRepeatPrevious a n m = then_leaves records_of (int x) _ (int_still x) (λ n m. refl) m
  by_head_still VariableRepeatRoot a n m = then_leaves records_of (int x) _ (int_still x) (λ n. root_still x (n + 18)) m
  by_head_still MetaMap a n m = refl
  by_head_still NoMeaning a n m = refl

-- so is scratch, after a step that left them
module _ (m : Mem) (sc : Scratch) (i : Index m.slots m.addresses sc) where
  idle_of : (m' : Mem) → records_of m' ≡ records_of m → Index m'.slots m'.addresses sc
  idle_of m' e = subst (λ (r : Records). Index r.slots r.addresses sc) (sym e) i

  idle_out : {A : Type 0} (o : Out A) → Idle m o → OutIndex o sc
  idle_out (got v m') e = idle_of m' e
  idle_out (no n q m') e = tt

  idle_index : {A : Type 0} {r o : Out A} → r ≡ o → Idle m o → OutIndex r sc
  idle_index {r = r} {o} e u = subst (λ (o : Out _). OutIndex o sc) (sym e) (idle_out o u)

-- ---- a reference at depth d

module _ (x : Input) (d : ℕ) (m : Mem) where
  pub ref_deep : 64 < d → no 6 m.at m ≡ ref_at x (65 - d) m
  unfolding ref_at
  ref_deep h = let e : 65 - d ≡ 0 = omega arith in rw e

  module _ (h : d ≤ 64) where
    ref_on : reference x (ref_at x (64 - d)) m ≡ ref_at x (65 - d) m
    unfolding ref_at
    ref_on = let e : 65 - d ≡ suc (64 - d) = omega arith in rw e

    ref_end : length x.payload ≤ m.at → no 4 (length x.payload) (moved (length x.payload) m) ≡ ref_at x (65 - d) m
    unfolding reference byte
    ref_end g = rw (← ref_on, le-ltb m.at (length x.payload) g)

    ref_byte : m.at < length x.payload → (b : ℕ) → b ≡ get_or x.payload m.at 0 → by_head x (ref_at x (64 - d)) m.at (head_of x.sheet b).kind (head_of x.sheet b).argument (moved (m.at + 1) m) ≡ ref_at x (65 - d) m
    unfolding reference byte
    ref_byte l b e = rw (← ref_on, lt-ltb m.at (length x.payload) l, e)

head-object : (x : Input) (r : Reader SlotValue) (tag : ℕ) (kind : Kind) (a : ℕ) (m : Mem) → kind ≡ NewObjectKind → object x r a tag m ≡ by_head x r tag kind a m
unfolding by_head
head-object x r tag kind a m e = rw e

-- the head byte's kind and argument
module _ {w : Walker} {s : State} (g : Ready w s) {head : CodeHead} (r : HeadAt w s.at head) where
  ref_head : (d : ℕ) → d ≤ 64 → by_head (input_of w) (ref_at (input_of w) (64 - d)) s.at head.kind head.argument (mem (moved_to (s.at + 1) s) (lent_of w)) ≡ ref_at (input_of w) (65 - d) (mem s (lent_of w))
  ref_head d low =
      let b : ℕ = get_or w.payload.now s.at 0 in
      rw (r.is, g.decoded.each b r.low) (ref_byte (input_of w) d (mem s (lent_of w)) low r.inside b refl)

  module _ (other : head.kind ≡ NewObjectKind → ⊥) where
    is_simple : Holdless head.kind → Simple head.kind head.argument
    is_simple k =
        let b : ℕ = get_or w.payload.now s.at 0 in
        let argued : Argued head = rw (r.is, g.decoded.each b r.low) (head_argued w.sheet.now b r.low) in
        record { no_object = other; holdless = k; place = argued.place; skip_place = argued.skip_place; small = omega (arith, argued.bound) }

    abbrev m : Mem
    m = mem (moved_to (s.at + 1) s) (lent_of w)

    -- what the head gives leaves the slots as they were, where its inner reference does
    head-idle : Idle m (by_head (input_of w) (ref_at (input_of w) 0) s.at head.kind head.argument m)
    head-idle = by_head_still (input_of w) (ref_at (input_of w) 0) (none_still (input_of w)) s.at _ _ other m

    head_indexed : {o : Out SlotValue} → o ≡ by_head (input_of w) (ref_at (input_of w) 0) s.at head.kind head.argument m → OutIndex o (scratch_of w)
    head_indexed q = idle_index m (scratch_of w) (order_moved (order_of g) r.inside).index q head-idle

    -- an inner reference may start where a prefix has been read: with no levels left it is refused
    -- there
    inner_ready : (k : Held) (m' : Mem) → ((inner : Reader SlotValue) → (inner >>= held k) m' ≡ by_head (input_of w) inner s.at head.kind head.argument m) → InOrder (input_of w) w.heads.now m' (scratch_of w)
    unfolding ref_at
    inner_ready k m' q =
        let x : Input = input_of w in
        let m₀ : Mem = mem s (lent_of w) in
        let z : no 6 m'.at m' ≡ by_head x (ref_at x 0) s.at head.kind head.argument m = q (ref_at x 0) in
        let y : no 6 m'.at m' ≡ ref_at x 1 m₀ = z ∙ ref_head 64 (omega arith) in
        order_after (order_of g) (subst (Holds x m₀ (Referred x m₀)) (sym y) (ref_keeps g.proper 1 m₀ g.sound g.counted))
        (subst (Ordered Free) (sym y) (ref_numbered g.proper m₀ g.sound g.counted g.numbered 1))
        (subst (StaysAscending x) (sym y) (ref_ascending g.proper m₀ g.sound g.counted g.ascending 1))
        (idle_of m (scratch_of w) (order_moved (order_of g) r.inside).index m' (same_no records_of {m = m} {m' = m'} z head-idle))

-- ---- a new object

pub new_at : {w : Walker} {at : ℕ} {head : CodeHead} {new : NewObject} → HeadAt w at head → (head.kind ≡ NewObjectKind) × (new ≡ record { tag = at; space = head.argument }) → NewAt w at new
new_at r k = record { inside = r.inside; low = r.low; kind = rw r.is at k.0; is = rw (k.1, r.is) }

module _ {w : Walker} {s : State} (g : Ready w s) {new : NewObject} (n : NewAt w s.at new) where
  pub ref_object : (d : ℕ) → d ≤ 64 → object (input_of w) (ref_at (input_of w) (64 - d)) new.space new.tag (mem (moved_to (s.at + 1) s) (lent_of w)) ≡ ref_at (input_of w) (65 - d) (mem s (lent_of w))
  ref_object d low =
      let x : Input = input_of w in
      rw n.is (head-object x (ref_at x (64 - d)) s.at _ _ (mem (moved_to (s.at + 1) s) (lent_of w)) n.kind ∙ ref_head g (record { inside = n.inside; low = n.low; is = refl }) d low)

  pub space_low : new.space < 256
  space_low =
      let b : ℕ = get_or w.payload.now s.at 0 in
      rw (n.is, g.decoded.each b n.low) ((head_argued w.sheet.now b n.low).space (rw (g.decoded.each b n.low) at n.kind))

-- ---- after the head byte

-- the payload has ended
pub ref_cut : (w : Walker) (s : State) {d : ℕ} → d ≤ 64 → (o : Option CodeHead) (q : Refused) {e : Refused} → (IsNone o → length w.payload.now ≤ s.at) → Err e ≡ ok_or o q → q ≡ cut_at (length w.payload.now) s → no (number_of e.refusal) e.place (mem e.state (lent_of w)) ≡ ref_at (input_of w) (65 - d) (mem s (lent_of w))
ref_cut w s {d} h None q {e} f z y =
    let k : e ≡ cut_at (length w.payload.now) s = cc in
    rw k (ref_end (input_of w) d (mem s (lent_of w)) h (f refl))
ref_cut w s h (Some b) q f z y = absurd (let z : ◌≡◌ {A = ℕ} 0 1 = cc in omega arith)

-- a head that opens no object, and what its prefix asks
pub record Headed (w : Walker) (s : State) (head : CodeHead) (p : Answer Prefix) (w₁ : Walker) : Type 0 where
  pub ready : Ready w s
  pub read : HeadAt w s.at head
  pub other : head.kind ≡ NewObjectKind → ⊥
  pub begins : (tag : ℕ) → Begins (input_of w) tag head.kind head.argument (moved_to (s.at + 1) s) (lent_of w) p (lent_of w₁)
  pub kept : Kept w w₁

pub head_read : {w : Walker} {s : State} {o : Option CodeHead} {head : CodeHead} {w₁ : Walker} (p : Answer Prefix) → Ready w s → IfSome o (HeadAt w s.at) → o ≡ Some head → (head.kind ≡ NewObjectKind → ⊥)
    → record { begins : (tag : ℕ) → Begins (input_of w) tag head.kind head.argument (moved_to (s.at + 1) s) (lent_of w) p (lent_of w₁); kept : Kept w w₁ }
    → Headed w s head p w₁
head_read p g r i f q = record { ready = g; read = rw i at r; other = f; begins = q.begins; kept = q.kept }

module _ {w : Walker} {s : State} {head : CodeHead} {p : Answer Prefix} {w₁ : Walker} (c : Headed w s head p w₁) where
  abbrev x : Input
  x = input_of w

  abbrev kind : Kind
  kind = head.kind

  abbrev a : ℕ
  a = head.argument

  -- what is lent after the prefix
  abbrev l₁ : Lent
  l₁ = lent_of w₁

  abbrev Begun : Answer Prefix → Type 0
  Begun p = Begins x s.at kind a (moved_to (s.at + 1) s) (lent_of w) p l₁

  is : (q : Answer Prefix) → p ≡ q → Begun q
  is q z = subst Begun z (c.begins s.at)

  -- a head that is no prefix
  pub other_simple : {t : State} → p ≡ Ok (Other, t) → Simple kind a
  other_simple {t} q = is_simple c.ready c.read c.other (is (Ok (Other, t)) q).0

  -- what that reader asks, in the state after the head
  pub other_asks : {t : State} → p ≡ Ok (Other, t) → (Addressed w₁ t.addresses) × (t.skip < 2 ^ 63) × (t.pending < 2 ^ 63)
  other_asks {t} q =
      let z = is (Ok (Other, t)) q in
      let o : InOrder x w.heads.now (mem t l₁) (scratch_of w₁) = rw z.1 (subst (λ (l : Lent). InOrder x w.heads.now (mem (moved_to (s.at + 1) s) l) (scratch_of w₁)) (sym z.2) (rw (same_scratch w w₁ c.kept.1) (order_moved (order_of c.ready) c.read.inside))) in
      (addressed (ready_on {w = w} {w' = w₁} {s' = t} c.kept.0 o), rw z.1 (omega (arith, c.ready.sound, c.ready.proper)), rw z.1 (omega (arith, c.ready.sound, c.ready.proper)))

  pub other_counts : {t : State} → p ≡ Ok (Other, t) → Counts t
  other_counts {t} q = let z = is (Ok (Other, t)) q in rw z.1 (omega (arith, c.ready.sound))

  -- a prefix before an inner reference
  pub inner_starts : {h : Held} {t : State} → p ≡ Ok (Inner h, t) → Ready w₁ t
  inner_starts {h} {t} q =
      ready_on c.kept.0 (rw (same_scratch w w₁ c.kept.1) (inner_ready c.ready c.read c.other h (mem t l₁) (is (Ok (Inner h, t)) q)))

  module _ (d : ℕ) (deep : d ≤ 64) where
    pub ref_refused : {y : Refused} → p ≡ Err y → no (number_of y.refusal) y.place (mem y.state l₁) ≡ ref_at x (65 - d) (mem s (lent_of w))
    ref_refused {y} q = is (Err y) q (ref_at x (64 - d)) ∙ ref_head c.ready c.read d deep

    -- what is said of an answer that changed no scratch
    answered : {w₂ : Walker} (r : Answer SlotValue) → Kept w₁ w₂ → seen r (lent_of w₂) ≡ by_head x (ref_at x (64 - d)) s.at kind a (mem (moved_to (s.at + 1) s) (lent_of w)) → seen r (lent_of w₂) ≡ by_head x (ref_at x 0) s.at kind a (mem (moved_to (s.at + 1) s) (lent_of w))
        → (seen r (lent_of w₂) ≡ ref_at x (65 - d) (mem s (lent_of w))) × After w r w₂
    answered {w₂} r k₂ f f₀ =
        let i : OutIndex (seen r (lent_of w₂)) (scratch_of w) = head_indexed c.ready c.read c.other f₀ in
        (f ∙ ref_head c.ready c.read d deep, after_of r (fixed_on c.kept.0 k₂.0) (rw (same_scratch w₁ w₂ k₂.1, same_scratch w w₁ c.kept.1) i))

    pub ref_simple : {t : State} → p ≡ Ok (Other, t) → {w₂ : Walker} (r : Answer SlotValue) → Kept w₁ w₂ → ((inner : Reader SlotValue) → seen r (lent_of w₂) ≡ by_head (input_of w₁) inner s.at kind a (mem t l₁)) → (seen r (lent_of w₂) ≡ ref_at x (65 - d) (mem s (lent_of w))) × After w r w₂
    ref_simple {t} q {w₂} r k₂ f =
        let z = is (Ok (Other, t)) q in
        let f₁ : (inner : Reader SlotValue) → seen r (lent_of w₂) ≡ by_head x inner s.at kind a (mem (moved_to (s.at + 1) s) (lent_of w)) = λ inner. f inner ∙ ap (λ (x : Input). by_head x inner s.at kind a (mem t l₁)) (same_input c.kept.0) ∙ ap (λ (t : State). by_head x inner s.at kind a (mem t l₁)) z.1 ∙ ap (λ (l : Lent). by_head x inner s.at kind a (mem (moved_to (s.at + 1) s) l)) z.2 in
        answered r k₂ (f₁ (ref_at x (64 - d))) (f₁ (ref_at x 0))

    pub ref_root : {h : Held} {i : ℕ} {t : State} → p ≡ Ok (RootHeld h i, t) → {w₂ : Walker} (r : Answer SlotValue) → Kept w₁ w₂ → seen r (lent_of w₂) ≡ held h (IsRef (Root i)) (mem t l₁) → (seen r (lent_of w₂) ≡ ref_at x (65 - d) (mem s (lent_of w))) × After w r w₂
    ref_root {h} {i} {t} q r k₂ f =
        let v = is (Ok (RootHeld h i, t)) q in
        answered r k₂ (f ∙ v (ref_at x (64 - d))) (f ∙ v (ref_at x 0))

    module _ {h : Held} {t : State} (q : p ≡ Ok (Inner h, t)) where
      ref_inner : {out : Out SlotValue} → out ≡ and_then (ref_at x (64 - d) (mem t l₁)) (held h) → out ≡ ref_at x (65 - d) (mem s (lent_of w))
      ref_inner f = f ∙ is (Ok (Inner h, t)) q (ref_at x (64 - d)) ∙ ref_head c.ready c.read d deep

      pub ref_inner_no : {n i : ℕ} {m' : Mem} → no n i m' ≡ ref_at (input_of w₁) (64 - d) (mem t l₁) → no n i m' ≡ ref_at x (65 - d) (mem s (lent_of w))
      ref_inner_no f = ref_inner (then_no (held h) (at_input c.kept.0 (λ x. ref_at x (64 - d) (mem t l₁)) f))

      -- what is held is that of the inner reference, or a value record
      pub ref_inner_got : {w₂ : Walker} {v : SlotValue} {t₂ : State} → After w₁ (Ok (v, t₂)) w₂ → got v (mem t₂ (lent_of w₂)) ≡ ref_at (input_of w₁) (64 - d) (mem t l₁) → {w₃ : Walker} (r : Answer SlotValue) → Kept w₂ w₃ → seen r (lent_of w₃) ≡ held h v (mem t₂ (lent_of w₂))
          → (seen r (lent_of w₃) ≡ ref_at x (65 - d) (mem s (lent_of w))) × After w r w₃
      ref_inner_got {w₂} {v} {t₂} after f {w₃} r k₃ f₃ =
          let i = got_index after in
          let i₃ : OutIndex (seen r (lent_of w₃)) (scratch_of w₂) = idle_index (mem t₂ (lent_of w₂)) (scratch_of w₂) i f₃ (held_still h v (mem t₂ (lent_of w₂))) in
          (ref_inner (then_got (held h) (at_input c.kept.0 (λ x. ref_at x (64 - d) (mem t l₁)) f) f₃), after_of r (fixed_on c.kept.0 (fixed_on after.fixed k₃.0)) (rw (same_scratch w₂ w₃ k₃.1) i₃))

-- an answer whose variant is known
pub read_as : {A : Type 0} {r : Answer A} {a b : A} {t : State} → r ≡ Ok (a, t) → a ≡ b → r ≡ Ok (b, t)
read_as {t = t} e f = e ∙ ap (λ a. Ok (a, t)) f
