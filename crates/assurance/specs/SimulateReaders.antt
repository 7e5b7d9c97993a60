-- Two readings compared: items, objects and references. Assumes nothing.
use Rattle.std.specs.Prelude.{if◌then◌else◌, ◌≡◌, refl, Bool, true, false, not, ◌&&◌, ◌||◌, List, leb, length}
use Rattle.std.proofs.Common.{ap, arith}
use Prim.Native.Nat.{ℕ, zero, suc, ◌+◌, ◌-◌, ◌*◌, ◌/◌, ◌^◌}
use Rattle.std.proofs.Math.Dec.{eqb}
use Rattle.stream.specs.Bytes.{peek_at}
use Rattle.sheet.specs.Sheet.{is_legacy, is_six_x, is_map_first, lo_space, raw_advances}
use Rattle.sheet.specs.Tests.{is_resolve, is_deferred, is_next_chunk, alignment_of}
use Rattle.std.proofs.lemmas.Bool.{and_parts}
use Rattle.heads.specs.declared.kinds.Kind.{Kind}
use Rattle.heads.specs.declared.kinds.Kind.TheVariants.{NoMeaning, NewObject, Backref, LegacyBackref, LegacyBackrefWithSkip, NextChunk, Alignment, Hot, HotWithSkip, RootArray, RootConstant, RootConstantWithSkip, ReadOnly, Attached, Builtin, External, Api, Internal, Deoptimizer, StreamBytes, EmbedderFields, OffHeapTarget, Cache, RegisterPending, ClearedWeak, WeakPrefix, PointerPrefix, DispatchEntry, FixedRaw, VariableRaw, Skip, FixedRepeat, FixedRepeatRoot, RepeatPrevious, VariableRepeat, VariableRepeatPrevious, VariableRepeatRoot, MetaMap}
use Rattle.heads.specs.Heads.{head_of}
use Rattle.tables.specs.declared.values.Ref.{Ref as Reference}
use Rattle.tables.specs.declared.values.Ref.TheVariants.{Object, Root, RoRef, Attached}
use Rattle.tables.specs.declared.values.SlotValue.{SlotValue}
use Rattle.tables.specs.declared.values.SlotValue.TheVariants.{Ref, Repeat, RepeatPrev, Skip, StreamBytes, Raw, ClearedWeak, WeakRef, PendingRef}
use Rattle.tables.specs.Values.{fields_of, width_of}
use Rattle.definition.specs.Memory.{Input, word, in_map, in_slot, item, Mem, Reader, ◌>>=◌, ◌>>◌, give, change, moved, with_skip, aligned, byte, int}
use Rattle.definition.specs.Slots.{resolved, waits_of, keep_item, previous, repeat_previous as repeatPreviousSlot, place_item}
use Rattle.definition.specs.Object.{peek, large_byte, change_chunk, alignment_byte, chunk_changes, map_first, map_then_allocate, read_map, flags, flag_object, keep_map, resolves, items, body, object}
use Rattle.definition.specs.Closing.{ends_legacy}
use Rattle.definition.specs.Reference.{refers, outside, raw_bytes, weak_of, repeat_of, repeat_root, by_head, reference, ref_at}
use Rattle.assurance.specs.Simulate.{over, Pair, x', φ, Recorded, Fits, fit_moved, Follows, Alike, Any, gives, via, choose_at, then_at, then_law, seq_law, lower_at, lower, choose_law, give_law, refuse_law, refuse_at_law, change_law, tell_law, byte_law, int_law, peek_same}
use Rattle.assurance.specs.SimulateSteps.{add_value_law, add_object_law, add_slot_law, flagged_law, resolved_law, hot_law, refers_hot_law, backref_to_law, pending_law, skip_amount_law, raw_data_law}
use Rattle.assurance.specs.SimulateLegacy.{legacy_reference_law, allocate_law}

-- a turn of each loop, at the byte that it peeks at
resolves_in : (x : Input) (o n n₁ b : ℕ) (m : Mem) → n ≡ suc n₁ → peek x m ≡ b → resolves x o n m ≡ (if is_resolve x.sheet b then byte x >> int x >>= (λ number. change (resolved number o)) >> resolves x o n₁ else give tt) m
unfolding resolves
resolves_in x o n n₁ b m e f = rw (e, f)

items_in_lem : (x : Input) (r : Reader SlotValue) (o size n n₁ done b : ℕ) (m : Mem) → n ≡ suc n₁ → peek x m ≡ b → items x r o size n done m ≡ (if leb size done then give done else if is_deferred x.sheet b then byte x >> give size else (r >>= place_item x o done >>= items x r o size n₁)) m
unfolding items
items_in_lem x r o size n n₁ done b m e f = rw (e, f)

-- in a legacy closing section such a refusal only ends it
pub legacy-ends : (x : Input) (n : ℕ) → is_legacy x.sheet ≡ true → not (eqb n 3 || eqb n 16) ≡ true → ends_legacy x n ≡ true
legacy-ends x n e f = rw (e, f)

-- the trusted list is the same
flags-over : (x : Input) (p : List ℕ) (v : SlotValue) → flags (over x p) v ≡ flags x v
flags-over x p (Ref (Root i)) = refl
flags-over x p (Ref (Object o)) = refl
flags-over x p (Ref (RoRef c o)) = refl
flags-over x p (Ref (Attached i)) = refl
flags-over x p (Repeat n k) = refl
flags-over x p (RepeatPrev n) = refl
flags-over x p (Skip n) = refl
flags-over x p (StreamBytes n) = refl
flags-over x p (Raw r) = refl
flags-over x p ClearedWeak = refl
flags-over x p (WeakRef k) = refl
flags-over x p (PendingRef n) = refl

module _ (S : Pair) where
  -- ---- items

  skip_law : Alike S 0 Any (change (with_skip 0)) (change (with_skip 0))
  skip_law = change_law S _ _ (λ m fit. fit) (λ m. omega arith) (λ m fit. refl)

  keep_item_law : (o done : ℕ) (v : SlotValue) → Recorded S o → Alike S 0 Any (keep_item S.x o done v) (keep_item (x' S) o done v)
  unfolding keep_item
  keep_item_law o done v recorded =
      record {
        at_law = (λ m fit.
            let start : ℕ = done + m.skip in
            (seq_law S (seq_law S (then_law S (add_slot_law S o (start / word S.x) (fields_of v) (waits_of v) in_slot recorded) (λ k _. tell_law S (item o start (width_of (word S.x) v) k))) skip_law)
            (give_law S {P = Any} (start + width_of (word S.x) v) tt)).at_law m fit);
      }

  repeat_previous_law : Alike S 0 Any repeatPreviousSlot repeatPreviousSlot
  repeat_previous_law = record { at_law = (λ m fit. rw (S.previous_same m.slots fit.filed) ((add_value_law S (previous m.slots)).at_law m fit)) }

  place_item_law : (o done : ℕ) (v : SlotValue) → Recorded S o → Alike S 0 Any (place_item S.x o done v) (place_item (x' S) o done v)
  unfolding place_item
  place_item_law o done (Skip n) recorded = seq_law S skip_law (give_law S (done + n) tt)
  place_item_law o done (StreamBytes n) recorded = seq_law S skip_law (give_law S done tt)
  place_item_law o done (RepeatPrev n) recorded = then_law S repeat_previous_law (λ k _. keep_item_law o done (Repeat n k) recorded)
  place_item_law o done (Ref r) recorded = keep_item_law o done (Ref r) recorded
  place_item_law o done (Repeat n k) recorded = keep_item_law o done (Repeat n k) recorded
  place_item_law o done (Raw r) recorded = keep_item_law o done (Raw r) recorded
  place_item_law o done ClearedWeak recorded = keep_item_law o done ClearedWeak recorded
  place_item_law o done (WeakRef k) recorded = keep_item_law o done (WeakRef k) recorded
  place_item_law o done (PendingRef n) recorded = keep_item_law o done (PendingRef n) recorded

  -- ---- resolves

  resolves_law : (o n n' : ℕ) (m : Mem) → S.Fuel 0 m.at n n' → Fits S m → Follows S 0 Any m (resolves S.x o n m) (resolves (x' S) o n' (φ S m))
  unfolding resolves
  resolves_law o zero n' m fuel fit =
      gives S fit tt (omega arith) (λ v. rw (S.fuel_zero 0 m.at n' (S.shared_down _ _ (omega arith) v) fuel).0)
  resolves_law o (suc n) n' m fuel fit =
      via S
      (λ v. resolves_in (x' S) o n' (n' - 1) (peek S.x m) (φ S m) (S.fuel_more 0 m.at n n' v fuel) (peek_same S m v))
      (choose_at S (is_resolve S.x.sheet (peek S.x m)) _ _ _ _
      (λ _. lower_at S
      (then_at S _ _ ((then_law S (seq_law S (byte_law S) (int_law S)) (λ number _. resolved_law S number o)).at_law m fit)
      (λ a m₁ fit₁ _ up. resolves_law o n (n' - 1) m₁ (S.fuel_step 0 m.at m₁.at n n' (omega arith) fuel) fit₁)))
      (λ _. (give_law S {P = Any} tt tt).at_law m fit))

  -- ---- an object's head and map

  large_law : (space : ℕ) → Alike S 0 Any (large_byte S.x space) (large_byte (x' S) space)
  large_law space =
      choose_law S (is_six_x S.x.sheet && eqb space (lo_space S.x.sheet)) (seq_law S (lower S (byte_law S)) (give_law S tt tt)) (give_law S tt tt)

  flag_object_law : (o : ℕ) (v : SlotValue) → Recorded S o → Alike S 0 Any (flag_object S.x o v) (flag_object (x' S) o v)
  unfolding flag_object
  flag_object_law o v recorded = rw (flags-over S.x S.p' v) (choose_law S (flags S.x v) (flagged_law S o recorded) (give_law S tt tt))

  keep_map_law : (o : ℕ) (v : SlotValue) → Recorded S o → Alike S 0 Any (keep_map S.x o v) (keep_map (x' S) o v)
  unfolding keep_map
  keep_map_law o v recorded = then_law S (seq_law S (flag_object_law o v recorded) (add_slot_law S o 0 (fields_of v) 0 in_map recorded)) (λ k _. tell_law S (item o 0 (word S.x) k))

  -- legacy sheets with a map that comes first: there both payloads are the same
  module _ (legacy : is_legacy S.x.sheet ≡ true) where
    same : S.p' ≡ S.x.payload
    same = S.compared_same 4 (S.legacy_compared 4 (legacy-ends S.x 4 legacy refl))

    chunk_changes-law : (space n : ℕ) (m : Mem) → Fits S m → Follows S 0 Any m (chunk_changes S.x space n m) (chunk_changes (x' S) space n (φ S m))
    unfolding chunk_changes
    chunk_changes-law space zero m fit = (give_law S {P = Any} tt tt).at_law m fit
    chunk_changes-law space (suc n) m fit =
        via S (λ v. ap (λ p. (if is_next_chunk S.x.sheet (peek (over S.x p) m) && eqb (peek_at p (m.at + 1)) space then change (λ m. change_chunk (x' S) space (moved (m.at + 2) m)) >> chunk_changes (x' S) space n else give tt) (φ S m)) same)
        (choose_at S (is_next_chunk S.x.sheet (peek S.x m) && eqb (peek_at S.x.payload (m.at + 1)) space) _ _ (change (λ m. change_chunk (x' S) space (moved (m.at + 2) m)) >> chunk_changes (x' S) space n) (give tt)
        (λ _. then_at S _ (λ _. chunk_changes (x' S) space n) ((change_law S (λ m. change_chunk S.x space (moved (m.at + 2) m)) (λ m. change_chunk (x' S) space (moved (m.at + 2) m)) (λ m fit. fit_moved (S.in_legacy legacy (m.at + 2)) fit) (λ m. omega arith) (λ m fit. refl)).at_law m fit) (λ a m₁ fit₁ _ up. chunk_changes-law space n m₁ fit₁))
        (λ _. (give_law S {P = Any} tt tt).at_law m fit))

    alignment_byte-law : Alike S 0 Any (alignment_byte S.x) (alignment_byte (x' S))
    alignment_byte-law =
        record {
          at_law = (λ m fit. via S (λ v. rw same)
              (choose_at S (eqb (alignment_of S.x.sheet (peek S.x m)) 0) _ _ (give tt) (change (λ m. aligned (alignment_of S.x.sheet (peek S.x m)) (moved (m.at + 1) m)))
              (λ _. (give_law S {P = Any} tt tt).at_law m fit)
              (λ _. gives S (fit_moved (S.in_legacy legacy (m.at + 1)) fit) tt (omega arith) (λ v. refl))));
        }

    chunks_law : (space : ℕ) → Alike S 0 Any (λ m. chunk_changes S.x space (length S.x.payload - m.at) m) (λ m. chunk_changes (x' S) space (length S.p' - m.at) m)
    chunks_law space = record { at_law = (λ m fit. rw (ap (length {A = ℕ}) same) (chunk_changes-law space (length S.x.payload - m.at) m fit)) }

  -- ---- what holds of a reference holds of what is read by it

  module _ (r r' : Reader SlotValue) (law : Alike S 1 Any r r') where
    map_first-law : is_legacy S.x.sheet ≡ true → (space bytes o : ℕ) → Recorded S o → Alike S 0 Any (map_first S.x r space bytes o) (map_first (x' S) r' space bytes o)
    unfolding map_first
    map_first-law legacy space bytes o recorded =
        record {
          at_law = (λ m fit.
              (then_law S (lower S law) (λ v _. seq_law S (seq_law S (seq_law S (seq_law S
              (change_law S (aligned m.alignment) (aligned m.alignment) (λ m fit. fit) (λ m. omega arith) (λ m fit. refl))
              (alignment_byte-law legacy)) (chunks_law legacy space)) (allocate_law S space bytes o recorded)) (give_law S {P = Any} v tt))).at_law m fit);
        }

    read_map-law : (space bytes o : ℕ) → Recorded S o → Alike S 0 Any (read_map S.x r space bytes o) (read_map (x' S) r' space bytes o)
    read_map-law space bytes o recorded = go (is_map_first S.x.sheet) refl
      where
        go : (t : Bool) → is_map_first S.x.sheet ≡ t → Alike S 0 Any (if t then map_first S.x r space bytes o else if is_legacy S.x.sheet then map_then_allocate S.x r space bytes o else r) (if t then map_first (x' S) r' space bytes o else if is_legacy S.x.sheet then map_then_allocate (x' S) r' space bytes o else r')
        go true e = map_first-law (and_parts _ _ e).0 space bytes o recorded
        go false e = choose_law S (is_legacy S.x.sheet) (then_law S (lower S law) (λ v _. seq_law S (allocate_law S space bytes o recorded) (give_law S v tt))) (lower S law)

    items-law : (o size n n' done : ℕ) (m : Mem) → Recorded S o → S.Fuel 1 m.at n n' → Fits S m → Follows S 0 Any m (items S.x r o size n done m) (items (x' S) r' o size n' done (φ S m))
    unfolding items
    items-law o size zero n' done m recorded fuel fit = gives S fit tt (omega arith) (λ v. rw (S.fuel_zero 1 m.at n' (S.shared_down _ _ (omega arith) v) fuel).0)
    items-law o size (suc n) n' done m recorded fuel fit =
        via S
        (λ v. items_in_lem (x' S) r' o size n' (n' - 1) done (peek S.x m) (φ S m) (S.fuel_more 1 m.at n n' v fuel) (peek_same S m v))
        (choose_at S (leb size done) _ _ _ _ (λ _. (give_law S {P = Any} done tt).at_law m fit)
        (λ _. choose_at S (is_deferred S.x.sheet (peek S.x m)) _ _ (byte (x' S) >> give size) (r' >>= place_item (x' S) o done >>= items (x' S) r' o size (n' - 1))
        (λ _. (seq_law S (lower S (byte_law S)) (give_law S {P = Any} size tt)).at_law m fit)
        (λ _. lower_at S
        (then_at S _ _ ((then_law S law (λ v _. place_item_law o done v recorded)).at_law m fit)
        (λ done₁ m₁ fit₁ _ up. items-law o size n (n' - 1) done₁ m₁ recorded (S.fuel_step 1 m.at m₁.at n n' (omega arith) fuel) fit₁)))))

    body-law : (space tag words o : ℕ) → Recorded S o → Alike S 0 Any (body S.x r space tag words o) (body (x' S) r' space tag words o)
    unfolding body
    body-law space tag words o recorded =
        then_law S (seq_law S (seq_law S (then_law S (read_map-law space (words * word S.x) o recorded) (λ v _. keep_map_law o v recorded))
        (record { at_law = (λ m fit. resolves_law o _ _ m (S.fuel_start m.at) fit) }))
        (record { at_law = (λ m fit. items-law o (words * word S.x) _ _ (word S.x) m recorded (S.fuel_spare m.at) fit) }))
        (λ done _. choose_law S (eqb done (words * word S.x)) (give_law S (Ref (Object o)) tt) (refuse_at_law S 12 tag))

    pub object_law : (space tag : ℕ) → Alike S 0 Any (object S.x r space tag) (object (x' S) r' space tag)
    unfolding object
    object_law space tag =
        then_law S (int_law S) (λ words _. then_law S (seq_law S (large_law space) (add_object_law S tag words)) (λ o recorded. body-law space tag words o recorded))

    ref_law : (v : Reference) → Alike S 0 Any (refers v) (refers v)
    ref_law v = give_law S (Ref v) tt

    outside-law : (k : ℕ) → Alike S 0 Any (outside S.x k) (outside (x' S) k)
    outside-law k = then_law S (int_law S) (λ i _. ref_law (RoRef (2 ^ 32 - k) i))

    repeat_of-law : (n : ℕ) (v : SlotValue) → Alike S 0 Any (repeat_of n v) (repeat_of n v)
    repeat_of-law n v = then_law S (add_value_law S (fields_of v)) (λ k _. give_law S (Repeat n k) tt)

    repeat_root-law : (n : ℕ) → Alike S 0 Any (repeat_root S.x n) (repeat_root (x' S) n)
    repeat_root-law n = then_law S (lower S (byte_law S)) (λ i _. repeat_of-law n (Ref (Root i)))

    weak_of-law : (v : SlotValue) → Alike S 0 Any (weak_of v) (weak_of v)
    weak_of-law v = then_law S (add_value_law S (fields_of v)) (λ k _. give_law S (WeakRef k) tt)

    change_chunk-law : (space : ℕ) → Alike S 0 Any (change (change_chunk S.x space)) (change (change_chunk (x' S) space))
    change_chunk-law space = change_law S _ _ (λ m fit. fit) (λ m. omega arith) (λ m fit. refl)

    aligned-law : (a : ℕ) → Alike S 0 Any (change (aligned a)) (change (aligned a))
    aligned-law a = change_law S _ _ (λ m fit. fit) (λ m. omega arith) (λ m fit. refl)

    by_head-law : (tag : ℕ) (kind : Kind) (a : ℕ) → Alike S 0 Any (by_head S.x r tag kind a) (by_head (x' S) r' tag kind a)
    unfolding by_head
    by_head-law tag NewObject a = object_law a tag
    by_head-law tag Backref a = then_law S (int_law S) (λ i _. backref_to_law S i)
    by_head-law tag LegacyBackref a = lower S (legacy_reference_law S a)
    by_head-law tag LegacyBackrefWithSkip a = seq_law S (skip_amount_law S) (lower S (legacy_reference_law S a))
    by_head-law tag NextChunk a = seq_law S (then_law S (lower S (byte_law S)) (λ space _. change_chunk-law space)) (lower S law)
    by_head-law tag Alignment a = seq_law S (aligned-law a) (lower S law)
    by_head-law tag Hot a = hot_law S a
    by_head-law tag HotWithSkip a = seq_law S (skip_amount_law S) (hot_law S a)
    by_head-law tag RootArray a = then_law S (int_law S) (λ i _. refers_hot_law S (Root i))
    by_head-law tag RootConstant a = ref_law (Root a)
    by_head-law tag RootConstantWithSkip a = seq_law S (skip_amount_law S) (ref_law (Root a))
    by_head-law tag ReadOnly a = then_law S (int_law S) (λ c _. then_law S (int_law S) (λ o _. ref_law (RoRef c o)))
    by_head-law tag Attached a = then_law S (int_law S) (λ i _. ref_law (Attached i))
    by_head-law tag Builtin a = outside-law 2
    by_head-law tag External a = outside-law 3
    by_head-law tag Api a = seq_law S (skip_amount_law S) (outside-law 4)
    by_head-law tag Internal a = seq_law S (seq_law S (int_law S) (int_law S)) (give_law S (Skip 0) tt)
    by_head-law tag Deoptimizer a = seq_law S (int_law S) (give_law S (Skip 0) tt)
    by_head-law tag StreamBytes a = then_law S (int_law S) (λ n _. give_law S (StreamBytes n) tt)
    by_head-law tag EmbedderFields a = then_law S (seq_law S (int_law S) (int_law S)) (λ n _. give_law S (StreamBytes n) tt)
    by_head-law tag OffHeapTarget a = seq_law S (seq_law S (skip_amount_law S) (int_law S)) (ref_law (RoRef (2 ^ 32 - 5) 0))
    by_head-law tag Cache a = outside-law 1
    by_head-law tag RegisterPending a = pending_law S
    by_head-law tag ClearedWeak a = give_law S ClearedWeak tt
    by_head-law tag WeakPrefix a = then_law S (lower S law) (λ v _. weak_of-law v)
    by_head-law tag PointerPrefix a = lower S law
    by_head-law tag DispatchEntry a = seq_law S (int_law S) (give_law S ClearedWeak tt)
    by_head-law tag FixedRaw a = raw_data_law S (a * word S.x) true
    by_head-law tag VariableRaw a = then_law S (int_law S) (λ n _. raw_data_law S (raw_bytes S.x n) (raw_advances S.x.sheet))
    by_head-law tag Skip a = then_law S (int_law S) (λ n _. give_law S (Skip n) tt)
    by_head-law tag FixedRepeat a = then_law S (lower S law) (λ v _. repeat_of-law a v)
    by_head-law tag FixedRepeatRoot a = repeat_root-law a
    by_head-law tag RepeatPrevious a = give_law S (RepeatPrev a) tt
    by_head-law tag VariableRepeat a = then_law S (int_law S) (λ n _. then_law S (lower S law) (λ v _. repeat_of-law (n + 18) v))
    by_head-law tag VariableRepeatPrevious a = then_law S (int_law S) (λ n _. give_law S (RepeatPrev n) tt)
    by_head-law tag VariableRepeatRoot a = then_law S (int_law S) (λ n _. repeat_root-law (n + 18))
    by_head-law tag MetaMap a = refuse_at_law S 11 tag
    by_head-law tag NoMeaning a = refuse_at_law S 10 tag

    reference-law : Alike S 1 Any (reference S.x r) (reference (x' S) r')
    unfolding reference
    reference-law =
        record { at_law = (λ m fit. (then_law S (byte_law S) (λ b _. by_head-law m.at (head_of S.x.sheet b).kind (head_of S.x.sheet b).argument)).at_law m fit) }

  pub ref_at_law : (k : ℕ) → Alike S 1 Any (ref_at S.x k) (ref_at (x' S) k)
  unfolding ref_at
  ref_at_law zero = refuse_law S 6
  ref_at_law (suc k) = reference-law (ref_at S.x k) (ref_at (x' S) k) (ref_at_law k)
