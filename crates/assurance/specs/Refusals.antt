-- A call that is refused gets a number from 1 to 16 (docs/FORMAT.md, "Refusals"). Assumes nothing.
use Rattle.std.specs.Prelude.{if◌then◌else◌, ◌≡◌, refl, Bool, true, false, not, ◌&&◌, ◌||◌, ltb, leb, List, length, get_or, set, Option, Some, None}
use Prim.Native.Nat.{ℕ, zero, suc, ◌+◌, ◌-◌, ◌*◌, ◌/◌, ◌<◌, ◌≤◌}
use native.Mathlib.Omega.{arith}
use borrow.Author.Tests.{eqb-true, eqb-false}
use Rattle.std.proofs.Math.Dec.{eqb}
use Rattle.stream.specs.Bytes.{peek_at, raw_at}
use Rattle.stream.specs.declared.putint.Int.{Int}
use Rattle.stream.specs.PutInt.{int_at}
use Rattle.sheet.specs.Sheet.{usable, is_legacy, is_six_x, is_map_first, lo_space}
use Rattle.heads.specs.declared.kinds.Kind.{Kind}
use Rattle.heads.specs.declared.kinds.Kind.TheVariants.{NoMeaning, NewObject, Backref, LegacyBackref, LegacyBackrefWithSkip, NextChunk, Alignment, Hot, HotWithSkip, RootArray, RootConstant, RootConstantWithSkip, ReadOnly, Attached, Builtin, External, Api, Internal, Deoptimizer, StreamBytes, EmbedderFields, OffHeapTarget, Cache, RegisterPending, ClearedWeak, WeakPrefix, PointerPrefix, DispatchEntry, FixedRaw, VariableRaw, Skip, FixedRepeat, FixedRepeatRoot, RepeatPrevious, VariableRepeat, VariableRepeatPrevious, VariableRepeatRoot, MetaMap}
use Rattle.heads.specs.Heads.{head_of}
use Rattle.sheet.specs.declared.tests.Closing.{Closing}
use Rattle.sheet.specs.declared.tests.Closing.TheVariants.{Synchronize, Alignment, Deferred, Reference}
use Rattle.sheet.specs.Tests.{opens, alignment_of, is_next_chunk, is_resolve, is_deferred, is_nop, closing_of}
use Rattle.tables.specs.declared.values.Ref.{Ref}
use Rattle.tables.specs.declared.values.Ref.TheVariants.{Root}
use Rattle.tables.specs.declared.values.SlotValue.{SlotValue}
use Rattle.tables.specs.declared.values.SlotValue.TheVariants.{Ref as IsRef, Repeat, RepeatPrev, Skip, StreamBytes, Raw, ClearedWeak, WeakRef, PendingRef}
use Rattle.tables.specs.declared.values.Fields.{Fields}
use Rattle.tables.specs.Values.{fields_of, width_of}
use Rattle.tables.specs.Records.{room, address_row, written}
use Rattle.alloc.specs.declared.legacy_alloc.LegacyAlloc.{LegacyAlloc}
use Rattle.alloc.specs.declared.legacy_alloc.Request.{Request}
use Rattle.alloc.specs.Fill.{fill_to_align}
use Rattle.alloc.specs.Allocation.{Outcome, outcome, advance_of, placed, allocate_of}
use Rattle.backref.specs.HotRing.{hot_at}
use Rattle.backref.specs.Legacy.{is_single, single}
use Rattle.definition.specs.Memory.{Input, word, Kept, in_map, in_slot, item, begins, Mem, Out, got, no, Reader, and_then, ◌>>=◌, ◌>>◌, give, change, refuse_at, moved, with_skip, aligned, noted, tell, after_int, byte, int, has_room}
use Rattle.definition.specs.Slots.{add_value, add_slot, resolved, waits_of, keep_item, previous, place_item}
use Rattle.definition.specs.Object.{peek, add_object, large_byte, change_chunk, allocate, alignment_byte, chunk_changes, map_first, read_map, flags, flag_object, keep_map, resolves, items, body, object}
use Rattle.definition.specs.Reference.{skip_amount, backref_to, of_hot, hot_place, of_single, place_reference, after_first, legacy_reference, pending_reference, after_raw, raw_data, repeat_of, repeat_root, by_head, reference, ref_at}
use Rattle.definition.specs.Closing.{entry, drop_reference, ends_legacy, after_entry, by_entry, entries, padding, closing}
use Rattle.definition.specs.Call.{Call, input_of, top_space, walk, too_long, called}
use Rattle.laws.specs.Leaves.{deferred_legacy}

-- of what a reader gives: a refusal's number is one of them
abbrev pub Known : {A : Type 0} → Out A → Type 0
Known (got a m) = Unit {0}
Known (no n q m) = (0 < n) × (n ≤ 16)

abbrev R : {A : Type 0} → Reader A → Type 0
R r = (m : Mem) → Known (r m)

-- ---- combinators

then_known : {A B : Type 0} (o : Out A) (f : A → Reader B) → Known o → ((a : A) → R (f a)) → Known (and_then o f)
then_known (got a m) f h k = k a m
then_known (no n q m) f h k = h

seq : {A B : Type 0} (r : Reader A) (f : A → Reader B) → R r → ((a : A) → R (f a)) → R (r >>= f)
seq r f h k m = then_known (r m) f (h m) k

next : {A B : Type 0} (r : Reader A) (s : Reader B) → R r → R s → R (r >> s)
next r s h k m = then_known (r m) (λ _. s) (h m) (λ _. k)

pick : {A : Type 0} (t : Bool) (f g : Reader A) (m : Mem) → (t ≡ true → Known (f m)) → (t ≡ false → Known (g m)) → Known ((if t then f else g) m)
pick true f g m h k = h refl
pick false f g m h k = k refl

-- ---- leaves

module _ (x : Input) where
  byte_known : R (byte x)
  unfolding byte
  byte_known m = pick (ltb m.at (length x.payload)) _ _ m (λ _. tt) (λ _. omega arith)

  int_of : (i : Option Int) → R (after_int x i)
  int_of (Some i) m = tt
  int_of None m = omega arith

  int_known : R (int x)
  unfolding int
  int_known m = int_of (int_at x.payload m.at) m

  skip_known : R (skip_amount x)
  skip_known = seq (int x) _ int_known (λ n m. tt)

  single_known : (o : Option Ref) → R (of_single o)
  single_known (Some r) m = tt
  single_known None m = omega arith

  first_known : (space first : ℕ) → R (after_first x space first)
  first_known space first m =
      pick (is_single x.sheet space) _ _ m
      (λ _. single_known (single x.sheet m.addresses.rows m.addresses.count m.alignment space first) m)
      (λ _. seq (int x) (λ second. place_reference x space (record { chunk = first; offset = second })) int_known (λ second m. tt) m)

  legacy_known : (space : ℕ) → R (legacy_reference x space)
  unfolding legacy_reference
  legacy_known space = seq (int x) (after_first x space) int_known (first_known space)

  raw_of : (n : ℕ) (advances : Bool) (r : Option ℕ) → R (after_raw n advances r)
  raw_of n advances (Some end) m = tt
  raw_of n advances None m = omega arith

  raw_known : (n : ℕ) (advances : Bool) → R (raw_data x n advances)
  unfolding raw_data
  raw_known n advances m = raw_of n advances (raw_at x.payload m.at n) m

backref_to_known : (i : ℕ) → R (backref_to i)
unfolding backref_to
backref_to_known i m = pick (ltb i m.objects.count) _ _ m (λ _. tt) (λ _. omega arith)

hot_of : (h : Option Ref) → R (of_hot h)
hot_of (Some r) m = tt
hot_of None m = omega arith

hot_known : (i : ℕ) → R (hot_place i)
hot_known i m = hot_of (hot_at m.hot i) m

pending_known : R pending_reference
unfolding pending_reference
pending_known m = tt

value_known : (f : Fields) → R (add_value f)
unfolding add_value
value_known f m = pick (has_room 3 m.values) _ _ m (λ _. tt) (λ _. omega arith)

slot_known : (o index : ℕ) (f : Fields) (waits : ℕ) (k : ℕ → Kept) → R (add_slot o index f waits k)
unfolding add_slot
slot_known o index f waits k m = pick (has_room 6 m.slots) _ _ m (λ _. tt) (λ _. omega arith)

-- ---- an object

-- an allocation's refusals are 3 and 16
number_low : (t : List ℕ) (n spaces : ℕ) (want : Request) (c : LegacyAlloc) → (allocate_of t n spaces want c).number ≤ 16
unfolding allocate_of
number_low t n spaces want c =
    let used : ℕ = get_or c.used want.space 0 in
    let full : Bool = ltb 4294967295 (used + fill_to_align used want.alignment want.word) || ltb 4294967295 (used + advance_of want.size want.alignment want.word) in
    let g : Outcome = outcome 0 0 (record { cur = c.cur; used = set c.used want.space (used + advance_of want.size want.alignment want.word) }) (written t n (address_row want.space (get_or c.cur want.space 0) (used + fill_to_align used want.alignment want.word) want.object 1)) in
    let d : Outcome = placed t n want c used in
    let e : Outcome = outcome 0 want.alignment c (written t n (address_row want.space 0 0 want.object 0)) in
    let f : Outcome = outcome 16 want.alignment c t in
    picked (leb (room 5 t) n) (outcome 3 want.alignment c t) (if ltb 4294967295 want.size then f else if leb spaces want.space then e else d) (omega arith)
    (picked (ltb 4294967295 want.size) f (if leb spaces want.space then e else d) (omega arith)
    (picked (leb spaces want.space) e d (omega arith) (picked full f g (omega arith) (omega arith))))
  where
    picked : (b : Bool) (o p : Outcome) → o.number ≤ 16 → p.number ≤ 16 → (if b then o else p).number ≤ 16
    picked true o p h k = h
    picked false o p h k = k

module _ (x : Input) where
  object_added : (tag words : ℕ) → R (add_object x tag words)
  unfolding add_object
  object_added tag words m = pick (has_room 4 m.objects) _ _ m (λ _. tt) (λ _. omega arith)

  large_known : (space : ℕ) → R (large_byte x space)
  large_known space m = pick (is_six_x x.sheet && eqb space (lo_space x.sheet)) _ _ m (λ _. next (byte x) _ (byte_known x) (λ m. tt) m) (λ _. tt)

  allocate_known : (space bytes o : ℕ) → R (allocate x space bytes o)
  unfolding allocate
  allocate_known space bytes o m =
      let r : Outcome = allocate_of m.addresses.rows m.addresses.count x.spaces (record { space = space; size = bytes; object = o; alignment = m.alignment; word = word x }) m.alloc in
      pick (eqb r.number 0) _ _ m (λ _. tt) (λ e. (let z = eqb-false r.number 0 e in omega (arith, z), number_low m.addresses.rows m.addresses.count x.spaces (record { space = space; size = bytes; object = o; alignment = m.alignment; word = word x }) m.alloc))

  chunks_known : (space n : ℕ) → R (chunk_changes x space n)
  unfolding chunk_changes
  chunks_known space zero m = tt
  chunks_known space (suc n) m =
      pick (is_next_chunk x.sheet (peek x m) && eqb (peek_at x.payload (m.at + 1)) space) (change (λ m. change_chunk x space (moved (m.at + 2) m)) >> chunk_changes x space n) (give tt) m
      (λ _. chunks_known space n (change_chunk x space (moved (m.at + 2) m))) (λ _. tt)

  resolves_known : (o n : ℕ) → R (resolves x o n)
  unfolding resolves
  resolves_known o zero m = tt
  resolves_known o (suc n) m =
      pick (is_resolve x.sheet (peek x m)) (byte x >> int x >>= (λ number. change (resolved number o)) >> resolves x o n) (give tt) m
      (λ _. next (byte x >> int x >>= (λ number. change (resolved number o))) (resolves x o n) (seq (byte x >> int x) _ (next (byte x) (int x) (byte_known x) (int_known x)) (λ number m. tt)) (resolves_known o n) m)
      (λ _. tt)

  -- r reads references, one level deeper
  module _ (r : Reader SlotValue) (h : R r) where
    map_known : (space bytes o : ℕ) → R (read_map x r space bytes o)
    unfolding map_first
    map_known space bytes o m =
        let back : Reader (Unit {0}) = change (aligned m.alignment) in
        let chunks : Reader (Unit {0}) = λ m. chunk_changes x space (length x.payload - m.at) m in
        pick (is_map_first x.sheet) _ _ m
        (λ _. seq r (λ v. back >> alignment_byte x >> chunks >> allocate x space bytes o >> give v) h
        (λ v. next (back >> alignment_byte x >> chunks >> allocate x space bytes o) (give v)
        (next (back >> alignment_byte x >> chunks) (allocate x space bytes o) (next (back >> alignment_byte x) chunks (next back (alignment_byte x) (λ m. tt) align_known) (λ m. chunks_known space (length x.payload - m.at) m)) (allocate_known space bytes o)) (λ m. tt)) m)
        (λ _. pick (is_legacy x.sheet) _ _ m (λ _. seq r _ h (λ v. next (allocate x space bytes o) _ (allocate_known space bytes o) (λ m. tt)) m) (λ _. h m))
      where
        align_known : R (alignment_byte x)
        align_known m = pick (eqb (alignment_of x.sheet (peek x m)) 0) _ _ m (λ _. tt) (λ _. tt)

    keep_map_known : (o : ℕ) (v : SlotValue) → R (keep_map x o v)
    unfolding keep_map flag_object
    keep_map_known o v =
        seq (flag_object x o v >> add_slot o 0 (fields_of v) 0 in_map) _
        (next (flag_object x o v) _ (λ m. pick (flags x v) _ _ m (λ _. tt) (λ _. tt)) (slot_known o 0 (fields_of v) 0 in_map)) (λ k m. tt)

    keep_known : (o done : ℕ) (v : SlotValue) → R (keep_item x o done v)
    unfolding keep_item
    keep_known o done v m =
        let add : Reader ℕ = add_slot o ((done + m.skip) / word x) (fields_of v) (waits_of v) in_slot in
        let told : ℕ → Reader (Unit {0}) = λ k. tell (item o (done + m.skip) (width_of (word x) v) k) in
        next (add >>= told >> change (with_skip 0)) (give (done + m.skip + width_of (word x) v))
        (next (add >>= told) (change (with_skip 0)) (seq add told (slot_known o ((done + m.skip) / word x) (fields_of v) (waits_of v) in_slot) (λ k m. tt)) (λ m. tt)) (λ m. tt) m

    place_known : (o done : ℕ) (v : SlotValue) → R (place_item x o done v)
    unfolding place_item
    place_known o done (Skip n) m = tt
    place_known o done (StreamBytes n) m = tt
    place_known o done (RepeatPrev n) m = then_known (add_value (previous m.slots) m) (λ k. keep_item x o done (Repeat n k)) (value_known (previous m.slots) m) (λ k. keep_known o done (Repeat n k))
    place_known o done (IsRef q) m = keep_known o done (IsRef q) m
    place_known o done (Repeat n k) m = keep_known o done (Repeat n k) m
    place_known o done (Raw q) m = keep_known o done (Raw q) m
    place_known o done ClearedWeak m = keep_known o done ClearedWeak m
    place_known o done (WeakRef k) m = keep_known o done (WeakRef k) m
    place_known o done (PendingRef n) m = keep_known o done (PendingRef n) m

    items_known : (o size n done : ℕ) → R (items x r o size n done)
    unfolding items
    items_known o size zero done m = tt
    items_known o size (suc n) done m =
        pick (leb size done) _ _ m (λ _. tt)
        (λ _. pick (is_deferred x.sheet (peek x m)) _ _ m (λ _. next (byte x) _ (byte_known x) (λ m. tt) m)
        (λ _. seq (r >>= place_item x o done) _ (seq r _ h (place_known o done)) (λ d. items_known o size n d) m))

    object_known : (space tag : ℕ) → R (object x r space tag)
    unfolding object body
    object_known space tag =
        seq (int x) _ (int_known x)
        (λ words. seq (large_byte x space >> add_object x tag words) _ (next (large_byte x space) _ (large_known space) (object_added tag words))
        (λ o. seq (read_map x r space (words * word x) o >>= keep_map x o >> (λ m. resolves x o (length x.payload - m.at) m) >> (λ m. items x r o (words * word x) (length x.payload - m.at + 1) (word x) m)) _
        (next (read_map x r space (words * word x) o >>= keep_map x o >> (λ m. resolves x o (length x.payload - m.at) m)) _
        (next (read_map x r space (words * word x) o >>= keep_map x o) _ (seq (read_map x r space (words * word x) o) _ (map_known space (words * word x) o) (keep_map_known o)) (λ m. resolves_known o _ m))
        (λ m. items_known o (words * word x) _ (word x) m))
        (λ done m. pick (eqb done (words * word x)) _ _ m (λ _. tt) (λ _. omega arith))))

    -- ---- a reference

    held_known : (n : ℕ) (v : SlotValue) → R (repeat_of n v)
    held_known n v = seq (add_value (fields_of v)) _ (value_known (fields_of v)) (λ k m. tt)

    root_known : (n : ℕ) → R (repeat_root x n)
    root_known n = seq (byte x) _ (byte_known x) (λ i. held_known n (IsRef (Root i)))

    by_head_known : (tag : ℕ) (kind : Kind) (a : ℕ) → R (by_head x r tag kind a)
    unfolding by_head
    by_head_known tag NewObject a m = object_known a tag m
    by_head_known tag Backref a m = seq (int x) _ (int_known x) backref_to_known m
    by_head_known tag LegacyBackref a m = legacy_known x a m
    by_head_known tag LegacyBackrefWithSkip a m = next (skip_amount x) _ (skip_known x) (legacy_known x a) m
    by_head_known tag NextChunk a m = next (byte x >>= (λ space. change (change_chunk x space))) r (seq (byte x) (λ space. change (change_chunk x space)) (byte_known x) (λ space m. tt)) h m
    by_head_known tag Alignment a m = next (change (aligned a)) r (λ m. tt) h m
    by_head_known tag Hot a m = hot_known a m
    by_head_known tag HotWithSkip a m = next (skip_amount x) _ (skip_known x) (hot_known a) m
    by_head_known tag RootArray a m = seq (int x) _ (int_known x) (λ i m. tt) m
    by_head_known tag RootConstant a m = tt
    by_head_known tag RootConstantWithSkip a m = next (skip_amount x) _ (skip_known x) (λ m. tt) m
    by_head_known tag ReadOnly a m = seq (int x) _ (int_known x) (λ c. seq (int x) _ (int_known x) (λ o m. tt)) m
    by_head_known tag Attached a m = seq (int x) _ (int_known x) (λ i m. tt) m
    by_head_known tag Builtin a m = seq (int x) _ (int_known x) (λ i m. tt) m
    by_head_known tag External a m = seq (int x) _ (int_known x) (λ i m. tt) m
    by_head_known tag Api a m = next (skip_amount x) _ (skip_known x) (seq (int x) _ (int_known x) (λ i m. tt)) m
    by_head_known tag Internal a m = next (int x >> int x) _ (next (int x) (int x) (int_known x) (int_known x)) (λ m. tt) m
    by_head_known tag Deoptimizer a m = next (int x) _ (int_known x) (λ m. tt) m
    by_head_known tag StreamBytes a m = seq (int x) _ (int_known x) (λ n m. tt) m
    by_head_known tag EmbedderFields a m = seq (int x >> int x) _ (next (int x) (int x) (int_known x) (int_known x)) (λ n m. tt) m
    by_head_known tag OffHeapTarget a m = next (skip_amount x >> int x) _ (next (skip_amount x) (int x) (skip_known x) (int_known x)) (λ m. tt) m
    by_head_known tag Cache a m = seq (int x) _ (int_known x) (λ i m. tt) m
    by_head_known tag RegisterPending a m = pending_known m
    by_head_known tag ClearedWeak a m = tt
    by_head_known tag WeakPrefix a m = seq r _ h (λ v. seq (add_value (fields_of v)) _ (value_known (fields_of v)) (λ k m. tt)) m
    by_head_known tag PointerPrefix a m = h m
    by_head_known tag DispatchEntry a m = next (int x) _ (int_known x) (λ m. tt) m
    by_head_known tag FixedRaw a m = raw_known x _ _ m
    by_head_known tag VariableRaw a m = seq (int x) _ (int_known x) (λ n. raw_known x _ _) m
    by_head_known tag Skip a m = seq (int x) _ (int_known x) (λ n m. tt) m
    by_head_known tag FixedRepeat a m = seq r _ h (held_known a) m
    by_head_known tag FixedRepeatRoot a m = root_known a m
    by_head_known tag RepeatPrevious a m = tt
    by_head_known tag VariableRepeat a m = seq (int x) _ (int_known x) (λ n. seq r _ h (held_known (n + 18))) m
    by_head_known tag VariableRepeatPrevious a m = seq (int x) _ (int_known x) (λ n m. tt) m
    by_head_known tag VariableRepeatRoot a m = seq (int x) _ (int_known x) (λ n. root_known (n + 18)) m
    by_head_known tag MetaMap a m = omega arith
    by_head_known tag NoMeaning a m = omega arith

    reference_known : R (reference x r)
    unfolding reference
    reference_known m = then_known (byte x m) _ (byte_known x m) (λ b. by_head_known m.at (head_of x.sheet b).kind (head_of x.sheet b).argument)

  ref_known : (k : ℕ) → R (ref_at x k)
  unfolding ref_at
  ref_known zero m = omega arith
  ref_known (suc k) m = reference_known (ref_at x k) (ref_known k) m

  -- ---- the closing section. A deferred entry may refuse without a number, but that only ends a legacy section

  drop_known : R (drop_reference x)
  drop_known = seq (ref_at x 65) _ (ref_known 65) (λ v m. tt)

  ends_else : (n : ℕ) → is_legacy x.sheet ≡ true → ends_legacy x n ≡ false → (0 < n) × (n ≤ 16)
  ends_else n y e = go (eqb n 3) (eqb n 16) refl refl (rw y at e)
    where
      go : (a b : Bool) → eqb n 3 ≡ a → eqb n 16 ≡ b → not (a || b) ≡ false → (0 < n) × (n ≤ 16)
      go true b p q e = let z = eqb-true n 3 p in omega (arith, z)
      go false true p q e = let z = eqb-true n 16 q in omega (arith, z)
      go false false p q e = absurd (let z : ◌≡◌ {A = ℕ} 0 1 = cc in omega arith)

  after_legacy : (k : Reader (Unit {0})) → R k → is_legacy x.sheet ≡ true → (o : Out (Unit {0})) → Known (after_entry x k o)
  after_legacy k h y (got v m) = h m
  after_legacy k h y (no n q m) = pick (ends_legacy x n) _ _ m (λ _. tt) (ends_else n y)

  after_known : (k : Reader (Unit {0})) → R k → (o : Out (Unit {0})) → Known o → Known (after_entry x k o)
  after_known k h (got v m) u = h m
  after_known k h (no n q m) u = pick (ends_legacy x n) _ _ m (λ _. tt) (λ _. u)

  one_known : (k : Reader (Unit {0})) → R k → (m : Mem) (e : Closing) → closing_of x.sheet (peek x m) ≡ e → Known (by_entry x k e m)
  one_known k h m Synchronize q = next (byte x) _ (byte_known x) (λ m. tt) _
  one_known k h m (Alignment a) q = next (byte x >> change (aligned a)) k (next (byte x) _ (byte_known x) (λ m. tt)) h m
  one_known k h m (Deferred space) q = after_legacy k h (deferred_legacy x.sheet (peek x m) space q) (entry x space m)
  one_known k h m Reference q = after_known k h (drop_reference x m) (drop_known m)

  entries_known : (n : ℕ) → R (entries x n)
  unfolding entries
  entries_known zero m = tt
  entries_known (suc n) m =
      pick (leb (length x.payload) m.at) _ _ m (λ _. pick (is_legacy x.sheet) _ _ m (λ _. tt) (λ _. omega arith))
      (λ _. one_known (entries x n) (entries_known n) (noted (begins m.at) m) (closing_of x.sheet (peek x m)) refl)

  padding_known : (n : ℕ) → R (padding x n)
  unfolding padding
  padding_known zero m = tt
  padding_known (suc n) m =
      pick (leb (length x.payload) m.at) _ _ m (λ _. tt)
      (λ _. pick (is_nop x.sheet (peek x m)) _ _ m (λ _. next (byte x) (padding x n) (byte_known x) (padding_known n) m)
      (λ _. pick (is_legacy x.sheet) _ _ m (λ _. tt) (λ _. omega arith)))

  walk_known : R (walk x)
  unfolding walk closing
  walk_known =
      next (byte x >>= (λ b. if opens x.sheet b then object x (ref_at x 64) (top_space x b) 0 else refuse_at 5 0)) _
      (seq (byte x) _ (byte_known x) (λ b m. pick (opens x.sheet b) _ _ m (λ _. object_known (ref_at x 64) (ref_known 64) (top_space x b) 0 m) (λ _. omega arith)))
      (next (λ m. entries x (length x.payload - m.at + 1) m) _ (λ m. entries_known _ m) (λ m. padding_known _ m))

-- THE THEOREM, for every call
pub refusal_known : (c : Call) (m : Mem) → Known (called c m)
unfolding called
refusal_known c m =
    pick (usable c.sheet) _ _ m
    (λ _. pick (too_long c) _ _ m (λ _. omega arith) (λ _. walk_known (input_of c) m))
    (λ _. omega arith)
