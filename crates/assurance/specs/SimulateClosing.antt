-- Two readings compared: the closing section, and a whole walk. Assumes nothing.
use Rattle.std.specs.Prelude.{if◌then◌else◌, ◌≡◌, Bool, leb, eqb, get_or}
use Rattle.std.proofs.Math.Path.{refl}
use Rattle.std.proofs.Common.{ap, ◌∙◌, arith, leb-true, leb-false, eqb-true, lt-ltb, le-leb}
use Rattle.std.proofs.Math.Bool.{true, false}
use Prim.Native.Nat.{ℕ, zero, suc, ◌+◌, ◌-◌, ◌*◌, ◌<◌, ◌≤◌, max}
use Rattle.std.proofs.lemmas.Bool.{lt-leb, and_parts}
use Rattle.std.proofs.Math.ListN.{length}
use Rattle.sheet.specs.Sheet.{is_legacy}
use Rattle.sheet.specs.declared.tests.Closing.{Closing}
use Rattle.sheet.specs.declared.tests.Closing.TheVariants.{Synchronize, Alignment, Deferred, Reference}
use Rattle.sheet.specs.Tests.{opens, closing_of, is_nop}
use Rattle.tables.specs.declared.values.SlotValue.{SlotValue}
use Rattle.tables.specs.declared.values.SlotValue.TheVariants.{Ref, Repeat, RepeatPrev, Skip, StreamBytes, Raw, ClearedWeak, WeakRef, PendingRef}
use Rattle.tables.specs.declared.values.Fields.{Fields}
use Rattle.tables.specs.Values.{fields_of}
use Rattle.tables.specs.Records.{field}
use Rattle.definition.specs.Memory.{Input, in_slot, dropped, value, begins, synchronize, Table, Mem, Out, got, no, Reader, and_then, ◌>>=◌, ◌>>◌, give, refuse, refuse_at, moved, aligned, noted, tell, byte, int}
use Rattle.definition.specs.Object.{peek, object}
use Rattle.definition.specs.Reference.{ref_at}
use Rattle.definition.specs.Closing.{entry_fields, add_slots, entry_slots, entry_count, entry_item, entry_items, entry_body, entry_of, entry, drop_reference, ends_legacy, after_entry, by_entry, entries, padding, closing}
use Rattle.definition.specs.Call.{top_space, walk}
use Rattle.assurance.specs.Wider.{wide_get}
use Rattle.assurance.specs.Simulate.{over, wider, Pair, x', φ, Recorded, Fits, fit_moved, fit_noted, Follows, Alike, Any, gives, via, choose_at, then_at, then_law, seq_law, lower_at, choose_law, give_law, refuse_law, refuse_at_law, change_law, tell_law, byte_law, int_law, peek_same}
use Rattle.assurance.specs.SimulateSteps.{add_slot_law}
use Rattle.assurance.specs.SimulateLegacy.{legacy_reference_law}
use Rattle.assurance.specs.SimulateReaders.{legacy-ends, object_law, ref_at_law}

-- the first reading came to the end of the closing section, the cursor behind its kSynchronize: if
-- that kSynchronize stands at a shared cursor, so did the reading begin, and the second comes there
-- too
abbrev pub EndSeen : Pair → Mem → Out (Unit {0}) → Out (Unit {0}) → Type 0
EndSeen S m (got a m₂) o = (Fits S m₂) × (S.Shared (m₂.at - 1) → (S.Shared m.at) × (o ≡ got a (φ S m₂))) × (S.Stop m₂)
EndSeen S m (no n q m₂) o = (Fits S m₂) × (S.Compared n → o ≡ no n q (φ S m₂))

pub record Ends (S : Pair) (m : Mem) (o o' : Out (Unit {0})) : Type 0 where
  pub seen : EndSeen S m o o'

-- ---- legacy deferred entries

entry_fields-wide : (k : ℕ) (t : Table) (v : SlotValue) → entry_fields (wider k t) v ≡ entry_fields t v
entry_fields-wide k t (Repeat n i) = rw (wide_get k t.rows (i * 3 + 0), wide_get k t.rows (i * 3 + 1), wide_get k t.rows (i * 3 + 2))
entry_fields-wide k t (Ref r) = refl
entry_fields-wide k t (RepeatPrev n) = refl
entry_fields-wide k t (Skip n) = refl
entry_fields-wide k t (StreamBytes n) = refl
entry_fields-wide k t (Raw r) = refl
entry_fields-wide k t ClearedWeak = refl
entry_fields-wide k t (WeakRef i) = refl
entry_fields-wide k t (PendingRef n) = refl

entry_items_in : (x : Input) (o size n n₁ index done : ℕ) (m : Mem) → n ≡ suc n₁ → entry_items x o size n index done m ≡ (if leb size done then give tt else (ref_at x 64 >>= (λ v. entry_item x o index v >> entry_items x o size n₁ (index + entry_slots x v) (done + entry_count x v)))) m
unfolding entry_items
entry_items_in x o size n n₁ index done m e = rw e

pub byte_in : (x : Input) (m : Mem) → m.at < length x.payload → byte x m ≡ got (get_or x.payload m.at 0) (moved (m.at + 1) m)
unfolding byte
byte_in x m l = rw (lt-ltb m.at (length x.payload) l)

pub sync_in : (x : Input) (k : Reader (Unit {0})) (m : Mem) → m.at < length x.payload → by_entry x k Synchronize m ≡ got tt (moved (m.at + 1) (noted (synchronize m.at) m))
sync_in x k m l = rw (byte_in x (noted (synchronize m.at) m) l)

-- a turn of the section
entries_out : (x : Input) (n n₁ : ℕ) (m : Mem) → n ≡ suc n₁ → length x.payload ≤ m.at → entries x n m ≡ (if is_legacy x.sheet then give tt else refuse_at 13 (length x.payload)) m
unfolding entries
entries_out x n n₁ m e l = rw (e, le-leb (length x.payload) m.at l)

pub entries_in : (x : Input) (n n₁ b : ℕ) (m : Mem) → n ≡ suc n₁ → m.at < length x.payload → peek x m ≡ b → entries x n m ≡ by_entry x (entries x n₁) (closing_of x.sheet b) (noted (begins m.at) m)
unfolding entries
entries_in x n n₁ b m e l f = rw (e, lt-leb (length x.payload) m.at l, f)

-- ---- a walk

-- the top object
abbrev pub front : Input → Reader SlotValue
front x = byte x >>= (λ b. if opens x.sheet b then object x (ref_at x 64) (top_space x b) 0 else refuse_at 5 0)

-- and the closing section, without what follows it
abbrev pub ended : Input → Reader (Unit {0})
ended x = front x >> (λ m. entries x (length x.payload - m.at + 1) m)

pub walk-ended : (x : Input) (m : Mem) → walk x m ≡ and_then (ended x m) (λ _ m. padding x (length x.payload - m.at) m)
unfolding walk closing
walk-ended x m = go (front x m)
  where
    go : (o : Out SlotValue) → and_then o (λ _. closing x) ≡ and_then (and_then o (λ _ m. entries x (length x.payload - m.at + 1) m)) (λ _ m. padding x (length x.payload - m.at) m)
    go (got v m₁) = refl
    go (no n q m₁) = refl

-- the second reading gives what the first gives
abbrev pub Same : Pair → Out (Unit {0}) → Out (Unit {0}) → Type 0
Same S (got a m) o = o ≡ got a (φ S m)
Same S (no n q m) o = S.Compared n → o ≡ no n q (φ S m)

module _ (S : Pair) where
  add_slots_law : (o : ℕ) (v : Fields) (index n : ℕ) → Recorded S o → Alike S 0 Any (add_slots o v index n) (add_slots o v index n)
  unfolding add_slots
  add_slots_law o v index zero recorded = give_law S tt tt
  add_slots_law o v index (suc n) recorded = seq_law S (add_slot_law S o index v 0 in_slot recorded) (add_slots_law o v (index + 1) n recorded)

  entry_item_law : (o index : ℕ) (v : SlotValue) → Recorded S o → Alike S 0 Any (entry_item S.x o index v) (entry_item (x' S) o index v)
  entry_item_law o index v recorded =
      record { at_law = (λ m fit. rw (entry_fields-wide S.maps.values m.values v) ((add_slots_law o (entry_fields m.values v) index (entry_slots S.x v) recorded).at_law m fit)) }

  entry_items_law : (o size n n' index done : ℕ) (m : Mem) → Recorded S o → S.Fuel 1 m.at n n' → Fits S m → Follows S 0 Any m (entry_items S.x o size n index done m) (entry_items (x' S) o size n' index done (φ S m))
  unfolding entry_items
  entry_items_law o size zero n' index done m recorded fuel fit = gives S fit tt (omega arith) (λ v. rw (S.fuel_zero 1 m.at n' (S.shared_down _ _ (omega arith) v) fuel).0)
  entry_items_law o size (suc n) n' index done m recorded fuel fit =
      via S
      (λ v. entry_items_in (x' S) o size n' (n' - 1) index done (φ S m) (S.fuel_more 1 m.at n n' v fuel))
      (choose_at S (leb size done) _ _ _ _ (λ _. (give_law S {P = Any} tt tt).at_law m fit)
      (λ _. lower_at S
      (then_at S _ _ ((ref_at_law S 64).at_law m fit)
      (λ v m₁ fit₁ _ up. then_at S _ _ ((entry_item_law o index v recorded).at_law m₁ fit₁)
      (λ a m₂ fit₂ _ up₂. entry_items_law o size n (n' - 1) (index + entry_slots S.x v) (done + entry_count S.x v) m₂ recorded (S.fuel_step 1 m.at m₂.at n n' (omega arith) fuel) fit₂)))))

  entry_body_law : (o size : ℕ) → Recorded S o → Alike S 0 Any (entry_body S.x o size) (entry_body (x' S) o size)
  entry_body_law o size recorded =
      record { at_law = (λ m fit. rw (wide_get S.maps.objects m.objects.rows (o * 4 + 3)) (entry_items_law o size _ _ (max (field 4 m.objects.rows o 3) 1) 1 m recorded (S.fuel_spare m.at) fit)) }

  entry_of_law : (f : Fields) → (f.kind ≡ 1 → Recorded S f.a) → Alike S 0 Any (entry_of S.x f) (entry_of (x' S) f)
  entry_of_law f recorded = go (eqb f.kind 1) refl
    where
      go : (t : Bool) → eqb f.kind 1 ≡ t → Alike S 0 Any (if t then int S.x >>= entry_body S.x f.a else refuse 0) (if t then int (x' S) >>= entry_body (x' S) f.a else refuse 0)
      go true e = then_law S (int_law S) (λ size _. entry_body_law f.a size (recorded (eqb-true _ _ e)))
      go false e = refuse_law S 0

  entry_law : (space : ℕ) → Alike S 1 Any (entry S.x space) (entry (x' S) space)
  unfolding entry
  entry_law space = then_law S (seq_law S (byte_law S) (legacy_reference_law S space)) (λ v recorded. entry_of_law (fields_of v) recorded)

  drop_reference_law : Alike S 1 Any (drop_reference S.x) (drop_reference (x' S))
  drop_reference_law = then_law S (ref_at_law S 65) (λ v _. tell_law S (value (fields_of v) dropped))

  -- ---- the section

  via_ends : {m : Mem} {o o₁ o₂ : Out (Unit {0})} → (S.Shared m.at → o₂ ≡ o₁) → Ends S m o o₁ → Ends S m o o₂
  via_ends {m} {o} {o₁} {o₂} e w = go o w
    where
      go : (o : Out (Unit {0})) → Ends S m o o₁ → Ends S m o o₂
      go (got a m₂) w = record { seen = (w.seen.0, λ v. let z = w.seen.1 v in (z.0, e z.0 ∙ z.1), w.seen.2) }
      go (no n q m₂) w = record { seen = (w.seen.0, λ v. e (S.compared_shared n v m.at) ∙ w.seen.1 v) }

  join_ends : {m m₁ : Mem} {o o₁ o₂ : Out (Unit {0})} → m.at ≤ m₁.at → (S.Shared m₁.at → o₂ ≡ o₁) → Ends S m₁ o o₁ → Ends S m o o₂
  join_ends {m} {m₁} {o} {o₁} {o₂} l e w = go o w
    where
      go : (o : Out (Unit {0})) → Ends S m₁ o o₁ → Ends S m o o₂
      go (got a m₂) w = record { seen = (w.seen.0, λ v. let z = w.seen.1 v in (S.shared_down _ _ l z.0, e z.0 ∙ z.1), w.seen.2) }
      go (no n q m₂) w = record { seen = (w.seen.0, λ v. e (S.compared_shared n v m₁.at) ∙ w.seen.1 v) }

  module _ {A : Type 0} {d : ℕ} {P : A → Type 0} {m : Mem} where
    then_ends : {o o' : Out A} (f f' : A → Reader (Unit {0})) → Follows S d P m o o' → ((a : A) (m₁ : Mem) → Fits S m₁ → d + m.at ≤ m₁.at → Ends S m₁ (f a m₁) (f' a (φ S m₁))) → Ends S m (and_then o f) (and_then o' f')
    then_ends {o} {o'} f f' w g = go o w
      where
        go : (o : Out A) → Follows S d P m o o' → Ends S m (and_then o f) (and_then o' f')
        go (got a m₁) w = let u : d + m.at ≤ m₁.at = w.seen.up in join_ends {m₁ = m₁} (omega arith) (λ v. ap (λ o. and_then o f') (w.seen.same v)) (g a m₁ w.seen.fit u)
        go (no n q m₁) w = record { seen = (w.seen.0, λ v. ap (λ o. and_then o f') (w.seen.1 v)) }

  after_ends : {m : Mem} {o o' : Out (Unit {0})} (k k' : Reader (Unit {0})) → Follows S 1 Any m o o' → ((m₁ : Mem) → Fits S m₁ → m.at < m₁.at → Ends S m₁ (k m₁) (k' (φ S m₁))) → Ends S m (after_entry S.x k o) (after_entry (x' S) k' o')
  after_ends {m} {o} {o'} k k' w g = go o w
    where
      refused : (t : Bool) (n q : ℕ) (m₁ : Mem) → ends_legacy S.x n ≡ t → Fits S m₁ → (S.Compared n → o' ≡ no n q (φ S m₁)) → Ends S m ((if t then give tt else refuse_at n q) m₁) (after_entry (x' S) k' o')
      refused true n q m₁ e f w = record { seen = (f, λ v. let compared = S.legacy_compared n e in (S.compared_shared n compared m.at, rw (w compared, e)), S.stop_legacy (and_parts _ _ e).0 m₁) }
      refused false n q m₁ e f w = record { seen = (f, λ v. rw (w v, e)) }

      go : (o : Out (Unit {0})) → Follows S 1 Any m o o' → Ends S m (after_entry S.x k o) (after_entry (x' S) k' o')
      go (got a m₁) w = let u : 1 + m.at ≤ m₁.at = w.seen.up in join_ends {m₁ = m₁} (omega arith) (λ v. ap (after_entry (x' S) k') (w.seen.same v)) (g m₁ w.seen.fit (omega arith))
      go (no n q m₁) w = refused (ends_legacy S.x n) n q m₁ refl w.seen.0 w.seen.1

  by_entry_ends : (k k' : Reader (Unit {0})) (c : Closing) (m : Mem) → Fits S m → m.at < length S.x.payload → ((m₁ : Mem) → Fits S m₁ → m.at < m₁.at → Ends S m₁ (k m₁) (k' (φ S m₁))) → Ends S m (by_entry S.x k c m) (by_entry (x' S) k' c (φ S m))
  by_entry_ends k k' Synchronize m fit l g =
      rw (sync_in S.x k m l)
      (record {
        seen = (
          fit_noted (synchronize m.at) (fit_moved (S.in_payload (m.at + 1) (omega arith)) fit),
          λ v. let shared : S.Shared m.at = S.shared_down m.at (m.at + 1 - 1) (omega arith) v in (shared, sync_in (x' S) k' (φ S m) (S.on_byte m.at shared l).0 ∙ rw (S.on_note (synchronize m.at) m.log)),
          S.stop_here m fit.logged l,
        );
      })
  by_entry_ends k k' (Alignment a) m fit l g =
      then_ends _ _ ((seq_law S (byte_law S) (change_law S (aligned a) (aligned a) (λ m fit. fit) (λ m. omega arith) (λ m fit. refl))).at_law m fit) (λ _ m₁ fit₁ up. g m₁ fit₁ (omega arith))
  by_entry_ends k k' (Deferred space) m fit l g = after_ends k k' ((entry_law space).at_law m fit) g
  by_entry_ends k k' Reference m fit l g = after_ends k k' (drop_reference_law.at_law m fit) g

  entries_ends : (n n' : ℕ) (m : Mem) → S.Fuel 1 m.at n n' → Fits S m → Ends S m (entries S.x n m) (entries (x' S) n' (φ S m))
  unfolding entries
  entries_ends zero n' m fuel fit = record { seen = (fit, λ v. let z = S.fuel_zero 1 m.at n' v fuel in (z.1, rw z.0), S.stop_fuel m n' fit.inside fuel) }
  entries_ends (suc n) n' m fuel fit = turn (leb (length S.x.payload) m.at) refl (λ m₁ fit₁ l. entries_ends n (n' - 1) m₁ (S.fuel_step 1 m.at m₁.at n n' l fuel) fit₁)
    where
      out : (t : Bool) → is_legacy S.x.sheet ≡ t → length S.x.payload ≤ m.at → Ends S m ((if t then give tt else refuse_at 13 (length S.x.payload)) m) (entries (x' S) n' (φ S m))
      out true e l =
          let compared : S.Compared 4 = S.legacy_compared 4 (legacy-ends S.x 4 e refl) in
          let shared : S.Shared m.at = S.compared_shared 4 compared m.at in
          let same : S.p' ≡ S.x.payload = S.compared_same 4 compared in
          record { seen = (fit, λ v. (shared, entries_out (x' S) n' (n' - 1) (φ S m) (S.fuel_more 1 m.at n n' shared fuel) (rw same l) ∙ rw e), S.stop_legacy e m) }
      out false e l =
          record { seen = (fit, λ v. let same : S.p' ≡ S.x.payload = S.compared_same 13 v in entries_out (x' S) n' (n' - 1) (φ S m) (S.fuel_more 1 m.at n n' (S.compared_shared 13 v m.at) fuel) (rw same l) ∙ rw (e, same)) }

      turn : (t : Bool) → leb (length S.x.payload) m.at ≡ t → ((m₁ : Mem) → Fits S m₁ → m.at < m₁.at → Ends S m₁ (entries S.x n m₁) (entries (x' S) (n' - 1) (φ S m₁))) → Ends S m ((if t then (if is_legacy S.x.sheet then give tt else refuse_at 13 (length S.x.payload)) else (tell (begins m.at) >> by_entry S.x (entries S.x n) (closing_of S.x.sheet (peek S.x m)))) m) (entries (x' S) n' (φ S m))
      turn true e g = out (is_legacy S.x.sheet) refl (leb-true _ _ e)
      turn false e g =
          let l : m.at < length S.x.payload = leb-false _ _ e in
          join_ends {m₁ = noted (begins m.at) m} (omega arith) (λ v. entries_in (x' S) n' (n' - 1) (peek S.x m) (φ S m) (S.fuel_more 1 m.at n n' v fuel) (S.on_byte m.at v l).0 (peek_same S m v) ∙ rw (S.on_note (begins m.at) m.log))
          (by_entry_ends (entries S.x n) (entries (x' S) (n' - 1)) (closing_of S.x.sheet (peek S.x m)) (noted (begins m.at) m) (fit_noted (begins m.at) fit) l g)

  -- ---- a walk up to the end of its closing section

  front_law : Alike S 1 Any (front S.x) (front (x' S))
  front_law =
      then_law S (byte_law S)
      (λ b _. choose_law S (opens S.x.sheet b) (object_law S (ref_at S.x 64) (ref_at (x' S) 64) (ref_at_law S 64) (top_space S.x b) 0) (refuse_at_law S 5 0))

  pub ended_law : (m : Mem) → Fits S m → Ends S m (ended S.x m) (ended (x' S) (φ S m))
  ended_law m fit =
      then_ends (λ _ m. entries S.x (length S.x.payload - m.at + 1) m) (λ _ m. entries (x' S) (length S.p' - m.at + 1) m)
      (front_law.at_law m fit) (λ _ m₁ fit₁ up. entries_ends _ _ m₁ (S.fuel_spare m₁.at) fit₁)

  -- ---- a whole walk of the same payload

  module _ (shared : (a : ℕ) → S.Shared a) (same : S.p' ≡ S.x.payload) where
    padding-law : (n : ℕ) (m : Mem) → Fits S m → Follows S 0 Any m (padding S.x n m) (padding (x' S) n (φ S m))
    unfolding padding
    padding-law zero m fit = (give_law S {P = Any} tt tt).at_law m fit
    padding-law (suc n) m fit =
        via S (λ v. ap (λ p. (if leb (length p) m.at then give tt else if is_nop S.x.sheet (peek (over S.x p) m) then byte (x' S) >> padding (x' S) n else if is_legacy S.x.sheet then give tt else refuse 14) (φ S m)) same)
        (choose_at S (leb (length S.x.payload) m.at) _ _ (give tt) (if is_nop S.x.sheet (peek S.x m) then byte (x' S) >> padding (x' S) n else if is_legacy S.x.sheet then give tt else refuse 14)
        (λ _. (give_law S {P = Any} tt tt).at_law m fit)
        (λ _. choose_at S (is_nop S.x.sheet (peek S.x m)) _ _ (byte (x' S) >> padding (x' S) n) (if is_legacy S.x.sheet then give tt else refuse 14)
        (λ _. lower_at S (then_at S _ (λ _. padding (x' S) n) ((byte_law S).at_law m fit) (λ _ m₁ fit₁ _ up. padding-law n m₁ fit₁)))
        (λ _. (choose_law S (is_legacy S.x.sheet) (give_law S {P = Any} tt tt) (refuse_law S 14)).at_law m fit)))

    pub walk-law : (m : Mem) → Fits S m → Same S (walk S.x m) (walk (x' S) (φ S m))
    walk-law m fit = rw (walk-ended S.x m, walk-ended (x' S) (φ S m)) (go (ended S.x m) (ended_law m fit))
      where
        last : (o o' : Out (Unit {0})) (m : Mem) → Follows S 0 Any m o o' → Same S o o'
        last (got a m₂) o' m w = w.seen.same (shared m₂.at)
        last (no n q m₂) o' m w = w.seen.1

        go : (o : Out (Unit {0})) → Ends S m o (ended (x' S) (φ S m)) → Same S (and_then o (λ _ m. padding S.x (length S.x.payload - m.at) m)) (and_then (ended (x' S) (φ S m)) (λ _ m. padding (x' S) (length S.p' - m.at) m))
        go (got a m₁) w =
            rw ((w.seen.1 (shared (m₁.at - 1))).1, ap (length {A = ℕ}) same)
            (last _ _ m₁ (padding-law (length S.x.payload - m₁.at) m₁ w.seen.0))
        go (no n q m₁) w = λ v. rw (w.seen.1 v)
