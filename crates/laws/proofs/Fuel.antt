-- The number that bounds a reader's repetitions does not matter where it is large enough: each
-- repetition reads a byte at least. Assumes nothing.
use Rattle.std.specs.Prelude.{if◌then◌else◌, ◌≡◌, Bool, true, false, ◌&&◌, leb, eqb, length}
use Rattle.std.proofs.Math.Path.{refl, sym, subst}
use mathlib.Core.List.{[], ◌∷◌}
use Prim.Native.Nat.{ℕ, zero, suc, ◌+◌, ◌-◌, ◌<◌, ◌≤◌}
use Rattle.std.proofs.Common.{arith, leb-false, le-leb}
use Rattle.stream.specs.Bytes.{peek_at}
use Rattle.sheet.specs.Names.{k_resolve_pending_forward_ref, k_next_chunk}
use Rattle.sheet.specs.Sheet.{number, is_legacy}
use Rattle.sheet.specs.declared.tests.Closing.{Closing}
use Rattle.sheet.specs.declared.tests.Closing.TheVariants.{Synchronize, Alignment, Deferred, Reference}
use Rattle.sheet.specs.Tests.{is_resolve, is_deferred, is_next_chunk, is_nop, closing_of}
use Rattle.std.proofs.lemmas.Bool.{and_parts}
use Rattle.tables.specs.declared.values.SlotValue.{SlotValue}
use Rattle.definition.specs.Memory.{Input, begins, Mem, Out, got, no, Reader, and_then, ◌>>=◌, ◌>>◌, change, moved, aligned, noted, byte, int}
use Rattle.definition.specs.Slots.{resolved, place_item}
use Rattle.definition.specs.Object.{peek, change_chunk, chunk_changes, resolves, items}
use Rattle.definition.specs.Reference.{ref_at}
use Rattle.definition.specs.Closing.{entry_slots, entry_count, entry_item, entry_items, entry, drop_reference, after_entry, by_entry, entries, padding}
use Rattle.laws.specs.Sound.{Proper, Sound, Counted, Kept, Holds, Keeps, Referred}
use Rattle.laws.specs.Leaves.{tag_inside, deferred_legacy}
use Rattle.laws.specs.Rules.{frame}
use Rattle.laws.specs.Steps.{Good, Ends, Keeping, gives, here, by, last, then₁, then₂, law, kept_noted, good_aligned}
use Rattle.laws.specs.Keeps.{Reads, Passed, sheet_gives, resolved_kept, resolved_objects, byte_keeps as byte_law, int_keeps as int_law, place_item-ends}
use Rattle.laws.specs.ClosingKeeps.{Slots, entry_item-ends}
use Rattle.laws.specs.Rules.{Nothing}
use Rattle.laws.proofs.Theorems.{rules, holds, begin, keeping, byte_keeps, ref_keeps, entry_keeps, drop_reference_keeps}

-- ---- two readings alike

choose_same : {A : Type 0} {m : Mem} (t : Bool) (f f' h h' : Reader A) → (t ≡ true → f m ≡ f' m) → (t ≡ false → h m ≡ h' m) → (if t then f else h) m ≡ (if t then f' else h') m
choose_same true f f' h h' y n = y refl
choose_same false f f' h h' y n = n refl

then_same : {A B : Type 0} (o : Out A) (f f' : A → Reader B) → ((a : A) (m : Mem) → o ≡ got a m → f a m ≡ f' a m) → and_then o f ≡ and_then o f'
then_same (got a m) f f' h = h a m refl
then_same (no n q m) f f' h = refl

choose_no : {A : Type 0} {m : Mem} (t : Bool) (f h : Reader A) → (t ≡ true → ⊥) → (if t then f else h) m ≡ h m
choose_no true f h n = absurd (n refl)
choose_no false f h n = refl

choose_yes : {A : Type 0} {m : Mem} (t : Bool) (f h : Reader A) → t ≡ true → (if t then f else h) m ≡ f m
choose_yes t f h e = rw e

module _ {x : Input} (g : Proper x) where
  -- the bytes left
  abbrev pub left : Mem → ℕ
  left m = length x.payload - m.at

  -- where a tag stands there is a byte
  tagged : (k : ℕ) → k < 56 → (m : Mem) → eqb (number x.sheet k) (peek x m) ≡ true → m.at < length x.payload
  tagged k h m e = tag_inside x.sheet (sheet_gives g) k h x.payload m.at e

  -- ---- chunk changes

  abbrev more_chunks : ℕ → Mem → Bool
  more_chunks space m = is_next_chunk x.sheet (peek x m) && eqb (peek_at x.payload (m.at + 1)) space

  chunk_inside : (space : ℕ) (m : Mem) → more_chunks space m ≡ true → m.at < length x.payload
  chunk_inside space m e = tagged k_next_chunk (omega arith) m (and_parts (is_next_chunk x.sheet (peek x m)) _ e).0

  chunk_end : (space n : ℕ) (m : Mem) → left m ≤ 0 → chunk_changes x space n m ≡ got tt m
  unfolding chunk_changes
  chunk_end space zero m h = refl
  chunk_end space (suc n) m h = choose_no (more_chunks space m) _ _ (λ e. omega (arith, chunk_inside space m e))

  chunk_fuel : (space n n' : ℕ) (m : Mem) → left m ≤ n → left m ≤ n' → chunk_changes x space n m ≡ chunk_changes x space n' m
  unfolding chunk_changes
  chunk_fuel space zero n' m h h' = sym (chunk_end space n' m h)
  chunk_fuel space (suc n) zero m h h' = chunk_end space (suc n) m h'
  chunk_fuel space (suc n) (suc n') m h h' =
      choose_same (more_chunks space m) _ _ _ _
      (λ e. let l = chunk_inside space m e in chunk_fuel space n n' (change_chunk x space (moved (m.at + 2) m)) (omega arith) (omega arith)) (λ _. refl)

  -- ---- resolves

  one_resolve : (o : ℕ) → Keeping x Nothing Reads (byte x >> int x >>= (λ number. change (resolved number o)))
  one_resolve o =
      law (λ S m w. then₂ w (by w (byte_law g (rules x))) _ _
      (λ _ m1 w1 k1 p. then₁ w1 (by w1 (int_law g (rules x))) _
      (λ number m2 w2 k2 q. let k3 = resolved_kept w2.kept number o in
      gives (record { kept = k3; has = tt; listed = rw (resolved_objects number o m2) w2.listed }) (omega (arith, p.reads, q.reads, (resolved_kept (here w2).kept number o).onward)))))

  resolves_stop : (o n : ℕ) (m : Mem) → left m ≤ 0 → resolves x o n m ≡ got tt m
  unfolding resolves
  resolves_stop o zero m h = refl
  resolves_stop o (suc n) m h = choose_no (is_resolve x.sheet (peek x m)) _ _ (λ e. omega (arith, tagged k_resolve_pending_forward_ref (omega arith) m e))

  resolves_fuel : (o n n' : ℕ) (m : Mem) → Sound x m → Counted m → left m ≤ n → left m ≤ n' → resolves x o n m ≡ resolves x o n' m
  unfolding resolves
  resolves_fuel o zero n' m s c h h' = sym (resolves_stop o n' m h)
  resolves_fuel o (suc n) zero m s c h h' = resolves_stop o (suc n) m h'
  resolves_fuel o (suc n) (suc n') m s c h h' =
      choose_same (is_resolve x.sheet (peek x m)) _ _ _ _
      (λ _. then_same ((byte x >> int x >>= (λ number. change (resolved number o))) m) _ _
      (λ _ m2 e. let z : (Kept x m m2) × (m.at < m2.at) = subst (Holds x m (Reads m)) e (holds x ((one_resolve o).ends [] m (begin x s c tt))) in
      resolves_fuel o n n' m2 z.0.sound z.0.counted (omega arith) (omega arith)))
      (λ _. refl)

  -- ---- items of an object that has a record

  module _ (r : Reader SlotValue) (k : Keeps x (Referred x) r) (o size : ℕ) where
    one_item : (done : ℕ) (m : Mem) → Sound x m → Counted m → o < m.objects.count → done < size → Holds x m (Reads m) ((r >>= place_item x o done) m)
    one_item done m s c l d =
        let w : Good x Nothing (frame o size done ∷ []) m m = begin x s c (l, tt) in
        let e : Ends x Nothing m (λ d. frame o size d ∷ []) (Reads m) ((r >>= place_item x o done) m) = then₁ w (by w (keeping x r k)) _ (λ v m1 w1 k1 p. last w1 (place_item-ends g (rules x) (here w1) v tt p.narrow d) (λ d m2 w2 k2 q. omega (arith, p.reads, q.at_same))) in
        holds x e

    pub items_fuel : (n n' done : ℕ) (m : Mem) → Sound x m → Counted m → o < m.objects.count → left m + 1 ≤ n → left m + 1 ≤ n' → items x r o size n done m ≡ items x r o size n' done m
    unfolding items
    items_fuel zero n' done m s c l h h' = absurd (omega arith)
    items_fuel (suc n) zero done m s c l h h' = absurd (omega arith)
    items_fuel (suc n) (suc n') done m s c l h h' =
        choose_same (leb size done) _ _ _ _ (λ _. refl)
        (λ e. choose_same (is_deferred x.sheet (peek x m)) _ _ _ _ (λ _. refl)
        (λ _. then_same ((r >>= place_item x o done) m) _ _
        (λ d m2 q. let z : (Kept x m m2) × (m.at < m2.at) = subst (Holds x m (Reads m)) q (one_item done m s c l (leb-false _ _ e)) in
        items_fuel n n' d m2 z.0.sound z.0.counted (omega (arith, z.0.onward.objects_up)) (omega (arith, z.0.sound.within)) (omega (arith, z.0.sound.within)))))

  -- ---- legacy deferred entries

  pub entry_items_fuel : (o size n n' index done : ℕ) (m : Mem) → is_legacy x.sheet ≡ true → Sound x m → Counted m → left m + 1 ≤ n → left m + 1 ≤ n' → entry_items x o size n index done m ≡ entry_items x o size n' index done m
  unfolding entry_items
  entry_items_fuel o size zero n' index done m y s c h h' = absurd (omega arith)
  entry_items_fuel o size (suc n) zero index done m y s c h h' = absurd (omega arith)
  entry_items_fuel o size (suc n) (suc n') index done m y s c h h' =
      choose_same (leb size done) _ _ _ _ (λ _. refl)
      (λ _. then_same (ref_at x 64 m) _ _
      (λ v m1 e. let z : (Kept x m m1) × (Referred x m v m1) = subst (Holds x m (Referred x m)) e (ref_keeps g 64 m s c) in
      then_same (entry_item x o index v m1) _ _
      (λ _ m2 q. let u : (Kept x m1 m2) × (Slots (entry_slots x v) m1 m2) = subst (Holds x m1 (λ _ m'. Slots (entry_slots x v) m1 m')) q (holds x (entry_item-ends g (rules x) y o index v (begin x z.0.sound z.0.counted tt))) in
      entry_items_fuel o size n n' (index + entry_slots x v) (done + entry_count x v) m2 y u.0.sound u.0.counted (omega (arith, z.1.reads, u.1, u.0.sound.within)) (omega (arith, z.1.reads, u.1, u.0.sound.within)))))

  -- ---- the closing section and the padding

  entry_same : {m : Mem} (k k' : Reader (Unit {0})) (o : Out (Unit {0})) → Holds x m (Reads m) o → ((m1 : Mem) → Kept x m m1 → m.at < m1.at → k m1 ≡ k' m1) → after_entry x k o ≡ after_entry x k' o
  entry_same k k' (got v m1) h f = f m1 h.0 h.1
  entry_same k k' (no n q m1) h f = refl

  by_same : (k k' : Reader (Unit {0})) (m : Mem) → Sound x m → Counted m → (e : Closing) → closing_of x.sheet (peek x m) ≡ e → ((m1 : Mem) → Kept x m m1 → m.at < m1.at → k m1 ≡ k' m1) → by_entry x k e m ≡ by_entry x k' e m
  by_same k k' m s c Synchronize q f = refl
  by_same k k' m s c (Alignment a) q f =
      then_same ((byte x >> change (aligned a)) m) _ _
      (λ _ m1 e. let z : (Kept x m m1) × (m.at < m1.at) = subst (Holds x m (Reads m)) e (holds x (aligns a)) in f m1 z.0 z.1)
    where
      aligns : (a : ℕ) → Ends x Nothing m (λ _. []) (Reads m) ((byte x >> change (aligned a)) m)
      aligns a = let w : Good x Nothing [] m m = begin x s c tt in then₁ w (by w (byte_law g (rules x))) _ (λ _ m1 w1 k1 p. gives (good_aligned (rules x) w1 a) p.reads)
  by_same k k' m s c (Deferred space) q f = entry_same k k' (entry x space m) (entry_keeps g (deferred_legacy x.sheet (peek x m) space q) space m s c) f
  by_same k k' m s c Reference q f = entry_same k k' (drop_reference x m) (drop_reference_keeps g m s c) f

  pub entries_fuel : (n n' : ℕ) (m : Mem) → Sound x m → Counted m → left m + 1 ≤ n → left m + 1 ≤ n' → entries x n m ≡ entries x n' m
  unfolding entries
  entries_fuel zero n' m s c h h' = absurd (omega arith)
  entries_fuel (suc n) zero m s c h h' = absurd (omega arith)
  entries_fuel (suc n) (suc n') m s c h h' =
      choose_same (leb (length x.payload) m.at) _ _ _ _ (λ _. refl)
      (λ _. let w0 : Kept x m (noted (begins m.at) m) = kept_noted (begin x {S = []} s c tt).kept _ in
      by_same _ _ (noted (begins m.at) m) w0.sound w0.counted (closing_of x.sheet (peek x m)) refl
      (λ m1 w l. entries_fuel n n' m1 w.sound w.counted (omega (arith, w.sound.within)) (omega (arith, w.sound.within))))

  padding_stop : (n : ℕ) (m : Mem) → left m ≤ 0 → padding x n m ≡ got tt m
  unfolding padding
  padding_stop zero m h = refl
  padding_stop (suc n) m h = choose_yes (leb (length x.payload) m.at) _ _ (le-leb (length x.payload) m.at (omega arith))

  padding_fuel : (n n' : ℕ) (m : Mem) → Sound x m → Counted m → left m ≤ n → left m ≤ n' → padding x n m ≡ padding x n' m
  unfolding padding
  padding_fuel zero n' m s c h h' = sym (padding_stop n' m h)
  padding_fuel (suc n) zero m s c h h' = padding_stop (suc n) m h'
  padding_fuel (suc n) (suc n') m s c h h' =
      choose_same (leb (length x.payload) m.at) _ _ _ _ (λ _. refl)
      (λ _. choose_same (is_nop x.sheet (peek x m)) _ _ _ _
      (λ _. then_same (byte x m) _ _
      (λ b m1 e. let z : (Kept x m m1) × (Passed 256 m b m1) = subst (Holds x m (Passed 256 m)) e (byte_keeps g m s c) in
      padding_fuel n n' m1 z.0.sound z.0.counted (omega (arith, z.1.reads)) (omega (arith, z.1.reads))))
      (λ _. refl))
