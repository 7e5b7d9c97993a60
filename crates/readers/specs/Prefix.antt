-- What stands before another reference, as data: how the value that follows is held. Assumes
-- nothing: these are definitions.
use Rattle.std.specs.Prelude.{◌≡◌, ℕ, Ok, Err}
use Rattle.refusals.specs.Numbers.{number_of}
use Rattle.heads.specs.declared.kinds.Kind.{Kind}
use Rattle.heads.specs.declared.kinds.Kind.TheVariants.{NextChunk, Alignment, WeakPrefix, PointerPrefix, FixedRepeat, FixedRepeatRoot, VariableRepeat, VariableRepeatRoot}
use Rattle.tables.specs.declared.values.Ref.TheVariants.{Root}
use Rattle.tables.specs.declared.values.SlotValue.{SlotValue}
use Rattle.tables.specs.declared.values.SlotValue.TheVariants.{Ref as IsRef}
use Rattle.definition.specs.Memory.{Input, no, Reader, ◌>>=◌, give}
use Rattle.definition.specs.Reference.{weak_of, repeat_of, repeat_root, by_head}
use Rattle.readers.specs.declared.state.State.{State}
use Rattle.readers.specs.declared.prefix.Held.{Held}
use Rattle.readers.specs.declared.prefix.Held.TheVariants.{Plain, Weak, Repeated}
use Rattle.readers.specs.declared.prefix.Prefix.{Prefix}
use Rattle.readers.specs.declared.prefix.Prefix.TheVariants.{Inner, Root as RootHeld, Other}
use Rattle.readers.specs.Views.{Lent, Answer, mem}

-- how a value is held
abbrev pub held : Held → SlotValue → Reader SlotValue
held Plain v = give v
held Weak v = weak_of v
held (Repeated n) v = repeat_of n v

-- none of the heads that hold another reference or a repeated root
pub record Holdless (kind : Kind) : Type 0 where
  pub no_chunk : kind ≡ NextChunk → ⊥
  pub no_alignment : kind ≡ Alignment → ⊥
  pub no_weak : kind ≡ WeakPrefix → ⊥
  pub no_pointer : kind ≡ PointerPrefix → ⊥
  pub no_repeat : kind ≡ FixedRepeat → ⊥
  pub no_root : kind ≡ FixedRepeatRoot → ⊥
  pub no_count : kind ≡ VariableRepeat → ⊥
  pub no_counted : kind ≡ VariableRepeatRoot → ⊥

-- what a prefix asks, after the reading of which the state is t: that of the reference whose inner
-- reference r reads; or the head is no prefix
abbrev pub Asks : Input → ℕ → Kind → ℕ → State → Lent → Prefix → State → Lent → Type 0
Asks x tag kind a s l (Inner h) t l' = (r : Reader SlotValue) → (r >>= held h) (mem t l') ≡ by_head x r tag kind a (mem s l)
Asks x tag kind a s l (RootHeld h i) t l' = (r : Reader SlotValue) → held h (IsRef (Root i)) (mem t l') ≡ by_head x r tag kind a (mem s l)
Asks x tag kind a s l Other t l' = Holdless kind × (t ≡ s) × (l' ≡ l)

abbrev pub Begins : Input → ℕ → Kind → ℕ → State → Lent → Answer Prefix → Lent → Type 0
Begins x tag kind a s l (Ok r) l' = Asks x tag kind a s l r.0 r.1 l'
Begins x tag kind a s l (Err e) l' = (r : Reader SlotValue) → no (number_of e.refusal) e.place (mem e.state l') ≡ by_head x r tag kind a (mem s l)

-- a root that is repeated n times
abbrev pub AsksRoot : Input → ℕ → State → Lent → Prefix → State → Type 0
AsksRoot x n s l (Inner h) t = ⊥
AsksRoot x n s l (RootHeld h i) t = held h (IsRef (Root i)) (mem t l) ≡ repeat_root x n (mem s l)
AsksRoot x n s l Other t = ⊥

abbrev pub RepeatsRoot : Input → ℕ → State → Lent → Answer Prefix → Type 0
RepeatsRoot x n s l (Ok r) = AsksRoot x n s l r.0 r.1
RepeatsRoot x n s l (Err e) = no (number_of e.refusal) e.place (mem e.state l) ≡ repeat_root x n (mem s l)
