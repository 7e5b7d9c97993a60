-- References that hold no other, at each way out. Assumes nothing.
use mathlib.Core.Path.{◌≡◌, ap, ◌∙◌}
use mathlib.Core.Bool.{Bool, true, false}
use Prim.Native.Nat.{ℕ, ◌-◌, ◌*◌, ◌^◌, ◌<◌, ◌≤◌}
use native.Mathlib.Nat.{mul-le-mul, le_of_lt}
use borrow.Author.Tests.{lt-ltb, le-ltb}
use Rattle.std.specs.Prelude.{Option, Some, None}
use Rattle.stream.specs.Bytes.{raw_at}
use Rattle.heads.specs.declared.kinds.Kind.{Kind}
use Rattle.heads.specs.declared.kinds.Kind.TheVariants.{LegacyBackrefWithSkip, HotWithSkip, RootConstantWithSkip, Api, OffHeapTarget}
use Rattle.std.proofs.Common.{rules}
use Rattle.tables.specs.declared.values.Ref.{Ref}
use Rattle.tables.specs.declared.values.Ref.TheVariants.{Object, RoRef}
use Rattle.tables.specs.declared.values.SlotValue.{SlotValue}
use Rattle.tables.specs.declared.values.SlotValue.TheVariants.{Ref as IsRef, Skip, StreamBytes, Raw as IsRaw}
use Rattle.backref.specs.HotRing.{hot_at}
use Rattle.backref.specs.Legacy.{is_single, placed, single}
use Rattle.definition.specs.Memory.{with_long, no, Input, passed, Mem, Out, got, ◌>>=◌, ◌>>◌, give, refuse, moved, noted, int}
use Rattle.definition.specs.Reference.{skip_amount, refers, refers_hot, backref_to, hot_place, legacy_reference, raw_data}
use Rattle.readers.specs.Simple.{read_ints, skipped_to, read_skipped}
use Rattle.readers.proofs.ViewLaws.{regrouped}
use Rattle.readers.proofs.IntLaws.{int_keeps}

-- ---- the hot ring and back-references

module _ (m : Mem) (i : ℕ) where
  pub backref_in : i < m.objects.count → refers_hot (Object i) m ≡ backref_to i m
  unfolding backref_to
  backref_in h = rw (lt-ltb i m.objects.count h)

  pub backref_past : m.objects.count ≤ i → refuse 8 m ≡ backref_to i m
  unfolding backref_to
  backref_past h = rw (le-ltb i m.objects.count h)

  pub hot_is_lem : {h : Option Ref} → h ≡ hot_at m.hot i → {r : Ref} → h ≡ Some r → got (IsRef r) m ≡ hot_place i m
  hot_is_lem e k = rw (← e, k)

-- of a legacy back-reference, once its first integer has been read, and once both have
module _ (x : Input) (space : ℕ) (m : Mem) where
  pub first_no : {n q : ℕ} {m₁ : Mem} → no n q m₁ ≡ int x m → no n q m₁ ≡ legacy_reference x space m
  unfolding legacy_reference
  first_no e = rw (← e)

  module _ {first : ℕ} {m₁ : Mem} (e : got first m₁ ≡ int x m) where
    kept : m₁ ≡ with_long m₁.long_integers (moved m₁.at m)
    kept = int_keeps x m m₁ first e

    addresses : m₁.addresses ≡ m.addresses
    addresses = ap (λ (j : Mem). j.addresses) kept

    alignment : m₁.alignment ≡ m.alignment
    alignment = ap (λ (j : Mem). j.alignment) kept

    module _ (t : is_single x.sheet space ≡ true) {o : Option Ref} (s : o ≡ single x.sheet m.addresses.rows m.addresses.count m.alignment space first) where
      pub single_no : o ≡ None → refuse 15 m₁ ≡ legacy_reference x space m
      unfolding legacy_reference
      single_no k = rw (← e, t, addresses, alignment, ← s, k)

      pub single_to : {r : Ref} → o ≡ Some r → refers_hot r m₁ ≡ legacy_reference x space m
      unfolding legacy_reference
      single_to k = rw (← e, t, addresses, alignment, ← s, k)

    module _ (t : is_single x.sheet space ≡ false) where
      pub second_no : {n q : ℕ} {m₂ : Mem} → no n q m₂ ≡ int x m₁ → no n q m₂ ≡ legacy_reference x space m
      unfolding legacy_reference
      second_no f = rw (← e, t, ← f)

      pub place_to : {second : ℕ} {m₂ : Mem} → got second m₂ ≡ int x m₁ → {r : Ref}
          → r ≡ placed x.sheet m.addresses.rows m.addresses.count m.alignment space (record { chunk = first; offset = second }) → refers_hot r m₂ ≡ legacy_reference x space m
      unfolding legacy_reference
      place_to {second} {m₂} f p =
          let q : m₂ ≡ with_long m₂.long_integers (moved m₂.at m₁) = int_keeps x m₁ m₂ second f in
          let a : m₂.addresses ≡ m.addresses = ap (λ (j : Mem). j.addresses) q ∙ addresses in
          let b : m₂.alignment ≡ m.alignment = ap (λ (j : Mem). j.alignment) q ∙ alignment in
          rw (← e, t, ← f, a, b, ← p)

-- ---- raw data

pub raw_to : (x : Input) (n : ℕ) (advances : Bool) (m : Mem) {r : Option ℕ} → r ≡ raw_at x.payload m.at n → {end : ℕ} → r ≡ Some end → got (IsRaw (record { off = m.at; len = n; advances = advances })) (noted (passed m.at n) (moved end m)) ≡ raw_data x n advances m
unfolding raw_data
raw_to x n advances m e k = rw (← e, k)

pub raw_same : (x : Input) (m : Mem) {n k : ℕ} {s t : Bool} {o : Out SlotValue} → n ≡ k → s ≡ t → o ≡ raw_data x n s m → o ≡ raw_data x k t m
raw_same x m e g h = rw (← e, ← g) h

pub product_small : {n w : ℕ} → n < 2 ^ 30 → w < 65536 → n * w ≤ 2 ^ 46
product_small h l = mul-le-mul (le_of_lt h) (le_of_lt l)

-- ---- what a head is that none of a match's arms has

module _ (x : Input) (a : ℕ) (m : Mem) where
  pub skipped_target : (k : Kind) → (k ≡ LegacyBackrefWithSkip → ⊥) → (k ≡ HotWithSkip → ⊥) → (k ≡ RootConstantWithSkip → ⊥) → (k ≡ Api → ⊥) → (int x >> refers (RoRef (2 ^ 32 - 5) 0)) m ≡ skipped_to x k a m
  skipped_target k e f g h = search rules

-- ---- heads whose readers the definition groups from the left

module _ (x : Input) (m : Mem) {o : Out SlotValue} where
  pub internal_grouped : o ≡ read_ints (λ a b. Skip 0) x m → o ≡ (int x >> int x >> give (Skip 0)) m
  internal_grouped h = regrouped (int x m) (λ _. int x) (λ _. give (Skip 0)) h

  pub embedder_grouped : o ≡ read_ints (λ a b. StreamBytes b) x m → o ≡ (int x >> int x >>= (λ n. give (StreamBytes n))) m
  embedder_grouped h = regrouped (int x m) (λ _. int x) (λ n. give (StreamBytes n)) h

  pub target_grouped : (a : ℕ) → o ≡ read_skipped x OffHeapTarget a m → o ≡ (skip_amount x >> int x >> refers (RoRef (2 ^ 32 - 5) 0)) m
  target_grouped a h = regrouped (skip_amount x m) (λ _. int x) (λ _. refers (RoRef (2 ^ 32 - 5) 0)) h
