-- A reference keeps what it has in order (Sound.antt) and an invariant with its rules (Rules.antt),
-- reads a byte at least, and no item is wider than 2 ^ 34 bytes. Assumes nothing.
use Rattle.std.specs.Prelude.{if◌then◌else◌, ◌≡◌, Bool, ltb, length, Option, Some, None}
use Rattle.std.proofs.Math.Path.{refl}
use Rattle.std.proofs.Math.Bool.{true, false}
use Rattle.std.proofs.Common.{⊎_elim, ltb-true}
use mathlib.Core.List.{List}
use Prim.Native.Nat.{ℕ, zero, suc, ◌+◌, ◌-◌, ◌*◌, ◌^◌, ◌<◌, ◌≤◌}
use native.Mathlib.Omega.{arith}
use Rattle.stream.specs.Bytes.{raw_at}
use Rattle.sheet.specs.Sheet.{raw_advances}
use Rattle.heads.specs.declared.kinds.Kind.{Kind}
use Rattle.heads.specs.declared.kinds.Kind.TheVariants.{NoMeaning, NewObject, Backref, LegacyBackref, LegacyBackrefWithSkip, NextChunk, Alignment, Hot, HotWithSkip, RootArray, RootConstant, RootConstantWithSkip, ReadOnly, Attached, Builtin, External, Api, Internal, Deoptimizer, StreamBytes, EmbedderFields, OffHeapTarget, Cache, RegisterPending, ClearedWeak, WeakPrefix, PointerPrefix, DispatchEntry, FixedRaw, VariableRaw, Skip, FixedRepeat, FixedRepeatRoot, RepeatPrevious, VariableRepeat, VariableRepeatPrevious, VariableRepeatRoot, MetaMap}
use Rattle.heads.specs.Heads.{head_of}
use Rattle.tables.specs.declared.values.Ref.{Ref}
use Rattle.tables.specs.declared.values.Ref.TheVariants.{Object, Root, RoRef, Attached}
use Rattle.tables.specs.declared.values.SlotValue.{SlotValue}
use Rattle.tables.specs.declared.values.SlotValue.TheVariants.{Ref as IsRef, RepeatPrev, Skip, StreamBytes, ClearedWeak}
use Rattle.tables.specs.Values.{width_of}
use Rattle.backref.specs.HotRing.{entered, hot_at}
use Rattle.alloc.specs.declared.resolve.Place.{Place}
use Rattle.backref.specs.Legacy.{is_single, single}
use Rattle.definition.specs.Memory.{Input, word, Mem, Reader, ◌>>=◌, ◌>>◌, give, change, with_hot, int, aligned}
use Rattle.definition.specs.Reference.{skip_amount, refers, refers_hot, backref_to, of_hot, hot_place, of_single, place_reference, legacy_reference, outside, pending_reference, after_raw, raw_data, raw_bytes, weak_of, repeat_of, repeat_root, by_head, reference, ref_at}
use Rattle.laws.specs.Sound.{Proper}
use Rattle.heads.proofs.Rules.{Argued, head_argued}
use Rattle.laws.specs.Leaves.{RawEnds, raw_ends}
use Rattle.laws.specs.Rules.{Frame, HeadOf, with_amount, gives_skip, gives_bytes, gives_previous, GivenRef, Given, Rules}
use Rattle.laws.specs.Steps.{Good, Ends, Keeping, gives, refuses, either, here, by, last, then₁, then₂, law, weaken, kept_noted, kept_moved, kept_pending, kept_skip, good_entered, good_aligned}
use Rattle.laws.specs.Keeps.{Reads, Refers, word_low, sheet_gives, byte_keeps, int_keeps, value_ends, chunk_byte_keeps, object-keeping}

module _ {x : Input} (g : Proper x) where
  pub repeat_narrow : (n : ℕ) → n ≤ 2 ^ 30 + 17 → n * word x ≤ 2 ^ 34
  repeat_narrow n h = ⊎_elim (λ e. rw e (omega arith)) (λ e. rw e (omega arith)) (sheet_gives g).word

module _ {x : Input} {I : List Frame → Mem → Type 0} {W : Mem → SlotValue → Type 0} (g : Proper x) (R : Rules x I W) where
  -- a value was given that is not too wide, and W holds of it
  abbrev pub Gives : Mem → SlotValue → Mem → Type 0
  Gives m v m' = (width_of (word x) v ≤ 2 ^ 34) × (W m' v)

  pub amount_keeps : HeadOf x with_amount → Keeping x I Reads (skip_amount x)
  amount_keeps d =
      law (λ S m w. then₁ w (by w (int_keeps g R)) _
      (λ n m1 w1 k1 p. gives (record { kept = kept_skip w1.kept (m1.skip + n) (omega (arith, p, w.kept.sound.skip_low)); has = R.on_amount S m1 n w1.kept.sound w1.has d p.small; listed = w1.listed }) p.reads))

  -- ---- what comes after an integer, after two, and after a with-skip amount

  int_first : (f : ℕ → Reader SlotValue) → ((n : ℕ) → n < 2 ^ 30 → Keeping x I Gives (f n)) → Keeping x I Gives (int x >>= f)
  int_first f h = law (λ S m w. then₁ w (by w (int_keeps g R)) _ (λ n m1 w1 k1 p. last w1 (by w1 (h n p.small)) (λ v m2 w2 k2 q. q)))

  ints_first : (f : ℕ → Reader SlotValue) → ((n : ℕ) → n < 2 ^ 30 → Keeping x I Gives (f n)) → Keeping x I Gives (int x >> int x >>= f)
  ints_first f h =
      law (λ S m w. then₂ w (by w (int_keeps g R)) _ _
      (λ _ m1 w1 k1 _. then₁ w1 (by w1 (int_keeps g R)) _ (λ n m2 w2 k2 p. last w2 (by w2 (h n p.small)) (λ v m3 w3 k3 q. q))))

  amount_first : HeadOf x with_amount → (r : Reader SlotValue) → Keeping x I Gives r → Keeping x I Gives (skip_amount x >> r)
  amount_first d r h = law (λ S m w. then₁ w (by w (amount_keeps d)) _ (λ _ m1 w1 k1 _. last w1 (by w1 h) (λ v m2 w2 k2 q. q)))

  giving : (v : SlotValue) → width_of (word x) v ≤ 2 ^ 34 → Given x v → Keeping x I Gives (give v)
  giving v h d = law (λ S m w. gives w (h, R.on_given S m v w.has d))

  pub refers_keeps : (r : Ref) → GivenRef r → Keeping x I Gives (refers r)
  refers_keeps r d = giving (IsRef r) (omega (arith, word_low g)) d

  -- ---- references without others in them

  -- a reference that enters the ring
  hot_ends : {S : List Frame} {m₀ m : Mem} → Good x I S m₀ m → (r : Ref) → W m (IsRef r) → {Q : SlotValue → Mem → Type 0} → Q (IsRef r) (with_hot (entered m.hot r) m) → Ends x I m₀ (λ _. S) Q (refers_hot r m)
  hot_ends w r h q = gives (good_entered R w r h) q

  entered_has : {m : Mem} (r : Ref) → W m (IsRef r) → W (with_hot (entered m.hot r) m) (IsRef r)
  entered_has {m} r h = R.aside m _ (IsRef r) refl h

  pub refers_hot_keeps : (r : Ref) → GivenRef r → Keeping x I Gives (refers_hot r)
  refers_hot_keeps r d =
      law (λ S m w. let h = R.on_given S m (IsRef r) w.has d in hot_ends w r h (omega (arith, word_low g), entered_has r h))

  pub backref_to_keeps : (i : ℕ) → Keeping x I Gives (backref_to i)
  unfolding backref_to
  backref_to_keeps i =
      law (λ S m w. either (ltb i m.objects.count) _ _
      (λ e. let h = R.on_backref S m i w.has (ltb-true _ _ e) in hot_ends w (Object i) h (omega (arith, word_low g), entered_has (Object i) h))
      (λ _. refuses w))

  pub hot_place_keeps : (i : ℕ) → Keeping x I Gives (hot_place i)
  hot_place_keeps i = law (λ S m w. place w (hot_at m.hot i) refl)
    where
      place : {S : List Frame} {m : Mem} → Good x I S m m → (h : Option Ref) → hot_at m.hot i ≡ h → Ends x I m (λ _. S) (Gives m) (of_hot h m)
      place {S} {m} w (Some r) e = gives w (omega (arith, word_low g), R.on_hot S m i r w.kept.sound w.has e)
      place w None e = refuses w

  pub legacy_reference_keeps : (space : ℕ) → Keeping x I (Refers x W) (legacy_reference x space)
  unfolding legacy_reference
  legacy_reference_keeps space =
      law (λ S m w. then₁ w (by w (int_keeps g R)) _
      (λ first m1 w1 k1 p. either (is_single x.sheet space) _ _
      (λ _. found w1 p.reads first _ refl)
      (λ _. then₁ w1 (by w1 (int_keeps g R)) _
      (λ second m2 w2 k2 q. at_place w2 (omega (arith, p.reads, q.reads)) (record { chunk = first; offset = second })))))
    where
      entering : {S : List Frame} {m₀ m : Mem} → Good x I S m₀ m → m₀.at < m.at → (r : Ref) → W m (IsRef r) → Ends x I m₀ (λ _. S) (Refers x W m₀) (refers_hot r m)
      entering w l r h = hot_ends w r h (record { reads = l; narrow = omega (arith, word_low g); has = entered_has r h })

      found : {S : List Frame} {m₀ m : Mem} → Good x I S m₀ m → m₀.at < m.at → (value : ℕ) (o : Option Ref)
          → single x.sheet m.addresses.rows m.addresses.count m.alignment space value ≡ o → Ends x I m₀ (λ _. S) (Refers x W m₀) (of_single o m)
      found {S} {m = m} w l value (Some r) e = entering w l r (R.on_single S m space value r w.kept.sound w.has e)
      found w l value None e = refuses w

      at_place : {S : List Frame} {m₀ m : Mem} → Good x I S m₀ m → m₀.at < m.at → (place : Place) → Ends x I m₀ (λ _. S) (Refers x W m₀) (place_reference x space place m)
      at_place {S} {m = m} w l place = entering w l _ (R.on_place S m space place w.kept.sound w.has)

  outside_keeps : (n : ℕ) → Keeping x I Gives (outside x n)
  outside_keeps n = int_first _ (λ i h. refers_keeps (RoRef (2 ^ 32 - n) i) tt)

  pub raw_data_keeps : (n : ℕ) (advances : Bool) → Keeping x I Gives (raw_data x n advances)
  unfolding raw_data
  raw_data_keeps n advances = law (λ S m w. after w (raw_at x.payload m.at n) (raw_ends x.payload m.at n))
    where
      width_low : (t : Bool) → n ≤ 2 ^ 34 → (if t then n else 0) ≤ 2 ^ 34
      width_low true h = h
      width_low false h = omega arith

      after : {S : List Frame} {m : Mem} → Good x I S m m → (e : Option ℕ) → RawEnds x.payload m.at n e → Ends x I m (λ _. S) (Gives m) (after_raw n advances e m)
      after {S} {m} w (Some end) e =
          let l : m.at + n ≤ length x.payload = omega arith in
          let z = R.on_raw S m n advances w.kept.sound w.has l in
          rw e.0
          (gives (record { kept = kept_noted (kept_moved w.kept (m.at + n) (omega arith) l) _; has = z.0; listed = w.listed }) (width_low advances (omega (arith, g.short)), z.1))
      after w None e = refuses w

  -- ---- references with others in them

  weak_of_ends : {S : List Frame} {m : Mem} → Good x I S m m → (v : SlotValue) → W m v → Ends x I m (λ _. S) (Gives m) (weak_of v m)
  weak_of_ends w v h = then₁ w (value_ends g R w v h) _ (λ k m1 w1 k1 p. gives w1 (omega (arith, word_low g), p.1))

  repeat_of_ends : {S : List Frame} {m : Mem} → Good x I S m m → (n : ℕ) (v : SlotValue) → W m v → n ≤ 2 ^ 30 + 17 → Ends x I m (λ _. S) (Gives m) (repeat_of n v m)
  repeat_of_ends w n v h b = then₁ w (value_ends g R w v h) _ (λ k m1 w1 k1 p. gives w1 (repeat_narrow g n b, p.2 n))

  repeat_root_keeps : (n : ℕ) → n ≤ 2 ^ 30 + 17 → Keeping x I Gives (repeat_root x n)
  repeat_root_keeps n b =
      law (λ S m w. then₁ w (by w (byte_keeps g R)) _
      (λ i m1 w1 k1 p. last w1 (repeat_of_ends (here w1) n (IsRef (Root i)) (R.on_given S m1 (IsRef (Root i)) w1.has tt) b) (λ v m2 w2 k2 q. q)))

  module _ {r : Reader SlotValue} (k : Keeping x I (Refers x W) r) where
    inner : (f : SlotValue → Reader SlotValue) → ((S : List Frame) (m : Mem) (v : SlotValue) → Good x I S m m → W m v → Ends x I m (λ _. S) (Gives m) (f v m)) → Keeping x I Gives (r >>= f)
    inner f h = law (λ S m w. then₁ w (by w k) _ (λ v m1 w1 k1 p. last w1 (h S m1 v (here w1) p.has) (λ v m2 w2 k2 q. q)))

    again : Keeping x I Gives r
    again = weaken k (λ m v m' p. (p.narrow, p.has))

    repeating : (n : ℕ) → n ≤ 2 ^ 30 + 17 → Keeping x I Gives (r >>= repeat_of n)
    repeating n b = inner _ (λ S m v w h. repeat_of_ends w n v h b)

    -- a head that was read, with its kind and argument; a byte more was read than pending numbers
    -- were given out
    module _ {S : List Frame} {m₀ m : Mem} (w : Good x I S m₀ m) (l : m₀.at < m.at) (low : m.pending < m.at) (tag b : ℕ) (byte_low : b < 256) where
      abbrev a : ℕ
      a = (head_of x.sheet b).argument

      -- a reader by its law
      to : {s : Reader SlotValue} → Keeping x I Gives s → Ends x I m₀ (λ _. S) (Refers x W m₀) (s m)
      to h = last w (by w h) (λ v m1 w1 k1 p. record { reads = omega (arith, l, k1.onward); narrow = p.0; has = p.1 })

      pending-ends : Ends x I m₀ (λ _. S) (Refers x W m₀) (pending_reference m)
      unfolding pending_reference
      pending-ends =
          let z = R.on_pending S m w.kept.sound w.has low in
          gives (record { kept = kept_pending w.kept (m.pending + 1) m.waiting (omega arith) w.kept.sound.waiting_low; has = z.0; listed = w.listed }) (record { reads = l; narrow = omega (arith, word_low g); has = z.1 })

      -- the byte is a head of this kind
      headed : (K : Kind) → (head_of x.sheet b).kind ≡ K → (test : Kind → Bool) → test K ≡ true → HeadOf x test
      headed K e test h = (b, byte_low, rw e h)

      argued : Argued (head_of x.sheet b)
      argued = head_argued x.sheet b byte_low

      legacy : (space : ℕ) → Keeping x I Gives (legacy_reference x space)
      legacy space = weaken (legacy_reference_keeps space) (λ m v m' p. (p.narrow, p.has))

      aligned_keeps : Keeping x I Gives (change (aligned a) >> r)
      aligned_keeps = law (λ S m w. let w1 = good_aligned R w a in last w1 (by w1 again) (λ v m1 w1 k1 q. q))

      target_keeps : HeadOf x with_amount → Keeping x I Gives (skip_amount x >> int x >> refers (RoRef (2 ^ 32 - 5) 0))
      target_keeps d =
          law (λ S m w. then₂ w (by w (amount_keeps d)) _ _
          (λ _ m1 w1 k1 _. then₁ w1 (by w1 (int_keeps g R)) _ (λ _ m2 w2 k2 _. last w2 (by w2 (refers_keeps (RoRef (2 ^ 32 - 5) 0) tt)) (λ v m3 w3 k3 q. q))))

      by_kind : (K : Kind) → (head_of x.sheet b).kind ≡ K → Ends x I m₀ (λ _. S) (Refers x W m₀) (by_head x r tag K a m)
      unfolding by_head
      by_kind NewObject e = last w (by w (object-keeping g R k a tag (argued.space e))) (λ v m1 w1 k1 p. record { reads = omega (arith, l, k1.onward); narrow = p.narrow; has = p.has })
      by_kind Backref _ = to (int_first _ (λ n h. backref_to_keeps n))
      by_kind LegacyBackref _ = to (legacy a)
      by_kind LegacyBackrefWithSkip e = to (amount_first (headed LegacyBackrefWithSkip e with_amount refl) _ (legacy a))
      by_kind NextChunk _ = then₁ w (by w (chunk_byte_keeps g R)) _ (λ _ m1 w1 k1 p. last w1 (by w1 k) (λ v m2 w2 k2 q. record { reads = omega (arith, l, p, k2.onward); narrow = q.narrow; has = q.has }))
      by_kind Alignment _ = to aligned_keeps
      by_kind Hot _ = to (hot_place_keeps a)
      by_kind HotWithSkip e = to (amount_first (headed HotWithSkip e with_amount refl) _ (hot_place_keeps a))
      by_kind RootArray _ = to (int_first _ (λ i h. refers_hot_keeps (Root i) tt))
      by_kind RootConstant _ = to (refers_keeps (Root a) tt)
      by_kind RootConstantWithSkip e = to (amount_first (headed RootConstantWithSkip e with_amount refl) _ (refers_keeps (Root a) tt))
      by_kind ReadOnly _ = to (int_first _ (λ c h. int_first _ (λ o h. refers_keeps (RoRef c o) tt)))
      by_kind Attached _ = to (int_first _ (λ i h. refers_keeps (Attached i) tt))
      by_kind Builtin _ = to (outside_keeps 2)
      by_kind External _ = to (outside_keeps 3)
      by_kind Api e = to (amount_first (headed Api e with_amount refl) _ (outside_keeps 4))
      by_kind Internal e = to (ints_first _ (λ n h. giving (Skip 0) (omega arith) (headed Internal e gives_skip refl)))
      by_kind Deoptimizer e = to (int_first _ (λ n h. giving (Skip 0) (omega arith) (headed Deoptimizer e gives_skip refl)))
      by_kind StreamBytes e = to (int_first _ (λ n h. giving (StreamBytes n) (omega arith) (headed StreamBytes e gives_bytes refl)))
      by_kind EmbedderFields e = to (ints_first _ (λ n h. giving (StreamBytes n) (omega arith) (headed EmbedderFields e gives_bytes refl)))
      by_kind OffHeapTarget e = to (target_keeps (headed OffHeapTarget e with_amount refl))
      by_kind Cache _ = to (outside_keeps 1)
      by_kind RegisterPending _ = pending-ends
      by_kind ClearedWeak _ = to (giving ClearedWeak (omega (arith, word_low g)) tt)
      by_kind WeakPrefix _ = to (inner _ (λ S m v w h. weak_of_ends w v h))
      by_kind PointerPrefix _ = to again
      by_kind DispatchEntry _ = to (int_first _ (λ n h. giving ClearedWeak (omega (arith, word_low g)) tt))
      by_kind FixedRaw _ = to (raw_data_keeps (a * word x) true)
      by_kind VariableRaw _ = to (int_first _ (λ n h. raw_data_keeps (raw_bytes x n) (raw_advances x.sheet)))
      by_kind Skip e = to (int_first _ (λ n h. giving (Skip n) (omega arith) (headed Skip e gives_skip refl)))
      by_kind FixedRepeat _ = to (repeating a (omega (arith, argued)))
      by_kind FixedRepeatRoot _ = to (repeat_root_keeps a (omega (arith, argued)))
      by_kind RepeatPrevious e = to (giving (RepeatPrev a) (repeat_narrow g a (omega (arith, argued))) (headed RepeatPrevious e gives_previous refl))
      by_kind VariableRepeat _ = to (int_first _ (λ n h. repeating (n + 18) (omega arith)))
      by_kind VariableRepeatPrevious e = to (int_first _ (λ n h. giving (RepeatPrev n) (repeat_narrow g n (omega arith)) (headed VariableRepeatPrevious e gives_previous refl)))
      by_kind VariableRepeatRoot _ = to (int_first _ (λ n h. repeat_root_keeps (n + 18) (omega arith)))
      by_kind MetaMap _ = refuses w
      by_kind NoMeaning _ = refuses w

      pub by_head-ends : Ends x I m₀ (λ _. S) (Refers x W m₀) (by_head x r tag (head_of x.sheet b).kind a m)
      by_head-ends = by_kind (head_of x.sheet b).kind refl

    pub reference-keeping : Keeping x I (Refers x W) (reference x r)
    unfolding reference
    reference-keeping =
        law (λ S m w. then₁ w (by w (byte_keeps g R)) _
        (λ b m1 w1 k1 p. by_head-ends w1 p.reads (omega (arith, p, w.kept.sound.pending_low)) m.at b p.small))

  pub ref_keeping : (n : ℕ) → Keeping x I (Refers x W) (ref_at x n)
  unfolding ref_at
  ref_keeping zero = law (λ S m w. refuses w)
  ref_keeping (suc n) = reference-keeping (ref_keeping n)
