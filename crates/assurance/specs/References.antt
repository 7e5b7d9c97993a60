-- What the rules keep is kept by every reader, under a plain sheet: references. Assumes nothing.
use Rattle.std.specs.Prelude.{◌≡◌, Bool, List, ltb, Option, Some, None}
use Rattle.std.proofs.Math.Path.{refl}
use Rattle.std.proofs.Math.Bool.{true}
use Prim.Native.Nat.{ℕ, zero, suc, ◌+◌, ◌*◌, ◌-◌, ◌^◌, ◌<◌, ◌≤◌}
use Rattle.std.proofs.Common.{arith, ltb-true}
use Rattle.std.proofs.Math.ListN.{length}
use Rattle.stream.specs.Bytes.{raw_at}
use Rattle.stream.proofs.ByteLaws.{Bytes}
use Rattle.sheet.specs.Sheet.{raw_advances}
use Rattle.heads.specs.declared.kinds.Kind.{Kind}
use Rattle.heads.specs.declared.kinds.Kind.TheVariants.{NewObject, Backref, Hot as HotPlace, RootArray, RootConstant, ReadOnly, Attached, Cache, RegisterPending, ClearedWeak, WeakPrefix, PointerPrefix, DispatchEntry, FixedRaw, VariableRaw, FixedRepeat, FixedRepeatRoot, VariableRepeat, VariableRepeatRoot, MetaMap, NoMeaning}
use Rattle.heads.proofs.Rules.{Argued, head_argued}
use Rattle.heads.specs.Heads.{head, head_of}
use Rattle.sheet.specs.Tests.{opens}
use Rattle.tables.specs.declared.values.Ref.{Ref}
use Rattle.tables.specs.declared.values.Ref.TheVariants.{Object, Root}
use Rattle.tables.specs.declared.values.SlotValue.{SlotValue}
use Rattle.tables.specs.declared.values.SlotValue.TheVariants.{Ref as IsRef, Repeat, WeakRef}
use Rattle.tables.specs.Values.{fields_of}
use Rattle.backref.specs.HotRing.{hot_at}
use Rattle.definition.specs.Memory.{◌>>=◌, Input, word, Mem, Reader, byte, int, moved, has_room}
use Rattle.definition.specs.Slots.{add_value}
use Rattle.definition.specs.Reference.{refers_hot, backref_to, of_hot, hot_place, outside, pending_reference, after_raw, raw_data, raw_bytes, weak_of, repeat_of, repeat_root, by_head, reference, ref_at}
use Rattle.laws.specs.Leaves.{RawEnds, raw_ends}
use Rattle.assurance.specs.PlainSheet.{PlainSheet, words_pos}
use Rattle.assurance.specs.PlainHeads.{PlainHead, head_plain}
use Rattle.assurance.specs.Gives.{Gives, gives, refused, gives_then, gives-choose, byte_gives}
use Rattle.assurance.specs.Steps.{Frame, OpensAt, Hot, Rules, entering, numbering, passing, valuing, base_same}
use Rattle.assurance.specs.Objects.{Good, Has, good_move, byte_has, int_has, object_has}

module _ (x : Input) (bytes : Bytes x.payload) (plainly : PlainSheet x.sheet) (I : List Frame → Mem → Type 0) (W : Mem → SlotValue → Type 0) (rules : Rules x I W) where
  abbrev G : List Frame → Mem → Type 0
  G = Good x bytes plainly I W rules

  abbrev H : List Frame → SlotValue → Mem → Type 0
  H = Has x bytes plainly I W rules

  -- ---- references without others in them

  module _ (S : List Frame) where
    number_has : (m : Mem) → G S m → Gives (λ n. G S) (int x m)
    number_has = int_has x bytes plainly I W rules S

    enter_has : (r : Ref) → Hot r → (m : Mem) → G S m → W m (IsRef r) → Gives (H S) (refers_hot r m)
    enter_has r t m g w =
        let z = rules.on_enter S m r t g.1 w in
        gives (H S) _ _ ((base_same x S m g.0 (entering r m) g.0.within refl refl refl, z.0), z.1, tt)

    back_has : (i : ℕ) (m : Mem) → G S m → Gives (H S) (backref_to i m)
    unfolding backref_to
    back_has i m g =
        gives-choose (H S) (ltb i m.objects.count) _ _ m
        (λ t. enter_has (Object i) tt m g (rules.on_object S m i g.1 (ltb-true _ _ t))) (λ t. refused (H S) _ _ _)

    hot_has : (i : ℕ) (m : Mem) → i < 8 → G S m → Gives (H S) (hot_place i m)
    hot_has i m l g = at (hot_at m.hot i) refl
      where
        at : (h : Option Ref) → hot_at m.hot i ≡ h → Gives (H S) (of_hot h m)
        at (Some r) e = gives (H S) _ _ (g, rules.on_hot S m i r g.1 l e, tt)
        at None e = refused (H S) _ _ _

    outside_has : (k : ℕ) (m : Mem) → G S m → Gives (H S) (outside x k m)
    outside_has k m g = gives_then (λ n. G S) (H S) (int x m) _ (number_has m g) (λ i m h. gives (H S) _ _ (h, rules.on_read_only S m (2 ^ 32 - k) i h.1, tt))

    pending_has : (m : Mem) → G S m → Gives (H S) (pending_reference m)
    unfolding pending_reference
    pending_has m g = let z = rules.on_pending S m g.1 in gives (H S) _ _ ((base_same x S m g.0 (numbering m) g.0.within refl refl refl, z.0), z.1, tt)

    raw_has : (n : ℕ) (advances : Bool) (m : Mem) → 1 ≤ n → G S m → Gives (H S) (raw_data x n advances m)
    unfolding raw_data
    raw_has n advances m l g = at (raw_at x.payload m.at n) (raw_ends x.payload m.at n)
      where
        at : (r : Option ℕ) → RawEnds x.payload m.at n r → Gives (H S) (after_raw n advances r m)
        at (Some end) e =
            let h : m.at + n ≤ length x.payload = omega (arith, e.0, e.1) in
            let z = rules.on_raw S m n advances g.1 l h in
            rw e.0 (gives (H S) _ _ ((base_same x S m g.0 (passing n m) h refl refl refl, z.0), z.1, tt))
        at None e = refused (H S) _ _ _

    -- ---- values

    value_has : (v : SlotValue) (m : Mem) → G S m → W m v → Gives (λ k m. (G S m) × (W m (WeakRef k)) × ((n : ℕ) → W m (Repeat n k))) (add_value (fields_of v) m)
    unfolding add_value
    value_has v m g w =
        let Q : ℕ → Mem → Type 0 = λ k m. (G S m) × (W m (WeakRef k)) × ((n : ℕ) → W m (Repeat n k)) in
        gives-choose Q (has_room 3 m.values) _ _ m
        (λ t. let z = rules.on_value S m v g.1 w (ltb-true _ _ t) in gives Q _ _ ((base_same x S m g.0 (valuing (fields_of v) m) g.0.within refl refl refl, z.0), z.1, z.2))
        (λ t. refused Q _ _ _)

    weak_has : (v : SlotValue) (m : Mem) → G S m → W m v → Gives (H S) (weak_of v m)
    weak_has v m g w = gives_then (λ k m. (G S m) × (W m (WeakRef k)) × ((n : ℕ) → W m (Repeat n k))) (H S) (add_value (fields_of v) m) _ (value_has v m g w) (λ k m h. gives (H S) _ _ (h.0, h.1, tt))

    repeat_has : (n : ℕ) (v : SlotValue) (m : Mem) → G S m → W m v → Gives (H S) (repeat_of n v m)
    repeat_has n v m g w = gives_then (λ k m. (G S m) × (W m (WeakRef k)) × ((n : ℕ) → W m (Repeat n k))) (H S) (add_value (fields_of v) m) _ (value_has v m g w) (λ k m h. gives (H S) _ _ (h.0, h.2 n, tt))

    repeat_root_has : (n : ℕ) (m : Mem) → G S m → Gives (H S) (repeat_root x n m)
    repeat_root_has n m g = gives_then (λ b. G S) (H S) (byte x m) _ (byte_has x bytes plainly I W rules S m g) (λ i m h. repeat_has n (IsRef (Root i)) m h (rules.on_root S m i h.1))

  -- ---- by the head's kind

  module _ (r : Reader SlotValue) (has : (S : List Frame) (m : Mem) → G S m → Gives (H S) (r m)) (S : List Frame) where
    -- of what a head may say
    abbrev Reads : Reader SlotValue → Type 0
    Reads f = (m : Mem) → G S m → Gives (H S) (f m)

    with_number : (f : ℕ → Reader SlotValue) → ((n : ℕ) → Reads (f n)) → Reads (int x >>= f)
    with_number f k m g = gives_then (λ n. G S) (H S) (int x m) f (number_has S m g) (λ n m h. k n m h)

    with_reference : (f : SlotValue → Reader SlotValue) → ((v : SlotValue) (m : Mem) → G S m → W m v → Gives (H S) (f v m)) → Reads (r >>= f)
    with_reference f k m g = gives_then (H S) (H S) (r m) f (has S m g) (λ v m h. k v m h.0 h.1)

    -- by a head of a kind that a plain sheet has; a new object's head stands right before the cursor
    head_has : (b tag : ℕ) (kind : Kind) (a : ℕ) → PlainHead x.sheet b (head kind a) → Argued (head kind a) → (opens x.sheet b ≡ true → OpensAt x tag) → (m : Mem) → m.at ≡ tag + 1 → G S m → Gives (H S) (by_head x r tag kind a m)
    unfolding by_head
    head_has b tag NewObject a p q o m at g = object_has x bytes plainly I W rules r has S a tag m at (o (p.new_object_lem refl)) g
    head_has b tag Backref a p q o m at g = with_number _ (back_has S) m g
    head_has b tag HotPlace a p q o m at g = hot_has S a m (q.place refl) g
    head_has b tag RootArray a p q o m at g = with_number _ (λ i m h. enter_has S (Root i) tt m h (rules.on_root S m i h.1)) m g
    head_has b tag RootConstant a p q o m at g = gives (H S) _ _ (g, rules.on_root S m a g.1, tt)
    head_has b tag ReadOnly a p q o m at g = with_number _ (λ c. with_number _ (λ o m h. gives (H S) _ _ (h, rules.on_read_only S m c o h.1, tt))) m g
    head_has b tag Attached a p q o m at g = with_number _ (λ i m h. gives (H S) _ _ (h, rules.on_attached S m i h.1, tt)) m g
    head_has b tag Cache a p q o m at g = outside_has S 1 m g
    head_has b tag RegisterPending a p q o m at g = pending_has S m g
    head_has b tag ClearedWeak a p q o m at g = gives (H S) _ _ (g, rules.on_cleared S m g.1, tt)
    head_has b tag WeakPrefix a p q o m at g = with_reference _ (weak_has S) m g
    head_has b tag PointerPrefix a p q o m at g = has S m g
    head_has b tag DispatchEntry a p q o m at g = with_number _ (λ i m h. gives (H S) _ _ (h, rules.on_cleared S m h.1, tt)) m g
    head_has b tag FixedRaw a p q o m at g = raw_has S (a * word x) true m (words_pos x.sheet plainly a (q.raw refl)) g
    head_has b tag VariableRaw a p q o m at g = with_number _ (λ n m h. raw_has S (raw_bytes x n) (raw_advances x.sheet) m (omega arith) h) m g
    head_has b tag FixedRepeat a p q o m at g = with_reference _ (repeat_has S a) m g
    head_has b tag FixedRepeatRoot a p q o m at g = repeat_root_has S a m g
    head_has b tag VariableRepeat a p q o m at g = with_number _ (λ n. with_reference _ (repeat_has S (n + 18))) m g
    head_has b tag VariableRepeatRoot a p q o m at g = with_number _ (λ n. repeat_root_has S (n + 18)) m g
    head_has b tag MetaMap a p q o m at g = refused (H S) _ _ _
    head_has b tag NoMeaning a p q o m at g = refused (H S) _ _ _
    head_has b tag kind a p q o m at g = absurd cc

    pub reference_has : (m : Mem) → (m.at < length x.payload → G S (moved (m.at + 1) m)) → Gives (H S) (reference x r m)
    unfolding reference
    reference_has m g =
        let Q : ℕ → Mem → Type 0 = λ b m'. (G S m') × (m'.at ≡ m.at + 1) × (opens x.sheet b ≡ true → OpensAt x m.at) × (b < 256) in
        gives_then Q (H S) (byte x m) _ (byte_gives x Q m (λ l. (g l, refl, λ e. (l, e), bytes m.at)))
        (λ b m' h. head_has b m.at (head_of x.sheet b).kind (head_of x.sheet b).argument (head_plain x.sheet plainly b) (head_argued x.sheet b h.3) h.2 m' h.1 h.0)

  -- THE THEOREM
  pub ref_has : (k : ℕ) (S : List Frame) (m : Mem) → G S m → Gives (H S) (ref_at x k m)
  unfolding ref_at
  ref_has zero S m g = refused (H S) _ _ _
  ref_has (suc k) S m g = reference_has (ref_at x k) (ref_has k) S m (λ l. good_move x bytes plainly I W rules S m (m.at + 1) g (omega arith) (omega arith))
