-- Prefixes and what they hold, at each way out of the code. Assumes nothing.
use mathlib.Core.Path.{◌≡◌, refl, ◌∙◌}
use Prim.Native.Nat.{ℕ, ◌+◌}
use Rattle.std.specs.Prelude.{Ok, Err}
use Rattle.heads.specs.declared.kinds.Kind.{Kind}
use Rattle.heads.specs.declared.kinds.Kind.TheVariants.{NextChunk, FixedRepeatRoot, VariableRepeat, VariableRepeatRoot}
use Rattle.tables.specs.declared.values.SlotValue.{SlotValue}
use Rattle.definition.specs.Memory.{Input, Mem, Out, got, no, Reader, and_then, ◌>>=◌, byte, int}
use Rattle.definition.specs.Object.{change_chunk}
use Rattle.definition.specs.Reference.{repeat_root, by_head}
use Rattle.readers.specs.declared.state.State.{State}
use Rattle.readers.specs.declared.prefix.Held.TheVariants.{Plain, Repeated}
use Rattle.readers.specs.declared.prefix.Prefix.{Prefix}
use Rattle.readers.specs.declared.prefix.Prefix.TheVariants.{Inner, Root as RootHeld, Other}
use Rattle.readers.specs.Views.{Lent, Answer, mem}
use Rattle.readers.specs.Prefix.{held, RepeatsRoot, Begins}

-- ---- heads

as_it_is : (o : Out SlotValue) → and_then o (held Plain) ≡ o
as_it_is (got v m) = refl
as_it_is (no n q m) = refl

module _ (x : Input) (r : Reader SlotValue) (tag a : ℕ) (m : Mem) {kind : Kind} where
  pub chunk_no : kind ≡ NextChunk → {n q : ℕ} {m' : Mem} → no n q m' ≡ byte x m → no n q m' ≡ by_head x r tag kind a m
  unfolding by_head
  chunk_no k e = rw (k, ← e)

  pub chunk_on : kind ≡ NextChunk → {space : ℕ} {m' : Mem} → got space m' ≡ byte x m → (r >>= held Plain) (change_chunk x space m') ≡ by_head x r tag kind a m
  unfolding by_head
  chunk_on k {space} {m'} e = rw (k, ← e) (as_it_is (r (change_chunk x space m')))

  pub root_is : kind ≡ FixedRepeatRoot → repeat_root x a m ≡ by_head x r tag kind a m
  unfolding by_head
  root_is k = rw k

  pub count_cut : kind ≡ VariableRepeat → {n q : ℕ} {m' : Mem} → no n q m' ≡ int x m → no n q m' ≡ by_head x r tag kind a m
  unfolding by_head
  count_cut k e = rw (k, ← e)

  pub count_on : kind ≡ VariableRepeat → {n : ℕ} {m' : Mem} → got n m' ≡ int x m → (r >>= held (Repeated (n + 18))) m' ≡ by_head x r tag kind a m
  unfolding by_head
  count_on k e = rw (k, ← e)

  pub root_cut : kind ≡ VariableRepeatRoot → {n q : ℕ} {m' : Mem} → no n q m' ≡ int x m → no n q m' ≡ by_head x r tag kind a m
  unfolding by_head
  root_cut k e = rw (k, ← e)

  pub root_counted : kind ≡ VariableRepeatRoot → {n : ℕ} {m' : Mem} → got n m' ≡ int x m → repeat_root x (n + 18) m' ≡ by_head x r tag kind a m
  unfolding by_head
  root_counted k e = rw (k, ← e)

-- a repeated root is what the head begins
pub root_begins : (x : Input) (tag : ℕ) (kind : Kind) (a n : ℕ) (s t : State) (l : Lent) (p : Answer Prefix) → ((r : Reader SlotValue) → repeat_root x n (mem t l) ≡ by_head x r tag kind a (mem s l)) → RepeatsRoot x n t l p → Begins x tag kind a s l p l
root_begins x tag kind a n s t l (Ok (Inner h, u)) same e = absurd e
root_begins x tag kind a n s t l (Ok (RootHeld h i, u)) same e = λ r. e ∙ same r
root_begins x tag kind a n s t l (Ok (Other, u)) same e = absurd e
root_begins x tag kind a n s t l (Err f) same e = λ r. e ∙ same r
