-- What single heads read, and which heads are simple. Assumes nothing: these are definitions.
use Rattle.std.specs.Prelude.{◌≡◌, ℕ, ◌^◌, ◌-◌, ◌<◌}
use Rattle.heads.specs.declared.kinds.Kind.{Kind}
use Rattle.heads.specs.declared.kinds.Kind.TheVariants.{NewObject, LegacyBackrefWithSkip, Hot, HotWithSkip, RootConstantWithSkip, Api}
use Rattle.tables.specs.declared.values.Ref.TheVariants.{Root, RoRef}
use Rattle.tables.specs.declared.values.SlotValue.{SlotValue}
use Rattle.sheet.specs.Sheet.{raw_advances}
use Rattle.definition.specs.Memory.{Input, Reader, ◌>>=◌, ◌>>◌, give, int}
use Rattle.definition.specs.Reference.{skip_amount, refers, outside, refers_hot, backref_to, hot_place, legacy_reference, raw_data, raw_bytes}
use Rattle.readers.specs.Prefix.{Holdless}

-- a call may give the value f of what it is called with, and no other
abbrev pub Makes : (ℕ → SlotValue) → (ℕ → SlotValue → Type 0) → Type 0
Makes f R = (n : ℕ) (r : SlotValue) → n < 2 ^ 32 → R n r → r ≡ f n

abbrev pub MakesOfTwo : (ℕ → ℕ → SlotValue) → (ℕ → ℕ → SlotValue → Type 0) → Type 0
MakesOfTwo f R = (a b : ℕ) (r : SlotValue) → a < 2 ^ 32 → b < 2 ^ 32 → R a b r → r ≡ f a b

-- the readers of single heads
abbrev pub read_backref : Input → Reader SlotValue
read_backref x = int x >>= backref_to

abbrev pub read_root : Input → Reader SlotValue
read_root x = int x >>= (λ i. refers_hot (Root i))

abbrev pub read_int : (ℕ → SlotValue) → Input → Reader SlotValue
read_int f x = int x >>= (λ n. give (f n))

abbrev pub read_ints : (ℕ → ℕ → SlotValue) → Input → Reader SlotValue
read_ints f x = int x >>= (λ a. int x >>= (λ b. give (f a b)))

abbrev pub read_raw : Input → Reader SlotValue
read_raw x = int x >>= (λ n. raw_data x (raw_bytes x n) (raw_advances x.sheet))

-- after a with-skip amount; the last is kOffHeapTarget
abbrev pub skipped_to : Input → Kind → ℕ → Reader SlotValue
skipped_to x LegacyBackrefWithSkip a = legacy_reference x a
skipped_to x HotWithSkip a = hot_place a
skipped_to x RootConstantWithSkip a = refers (Root a)
skipped_to x Api a = outside x 4
skipped_to x kind a = int x >> refers (RoRef (2 ^ 32 - 5) 0)

abbrev pub read_skipped : Input → Kind → ℕ → Reader SlotValue
read_skipped x kind a = skip_amount x >> skipped_to x kind a

-- a head that holds no other reference, with an argument that it can have
pub record Simple (kind : Kind) (a : ℕ) : Type 0 where
  pub no_object : kind ≡ NewObject → ⊥
  pub holdless : Holdless kind
  pub place : kind ≡ Hot → a < 8
  pub skip_place : kind ≡ HotWithSkip → a < 8
  pub small : a < 65536
