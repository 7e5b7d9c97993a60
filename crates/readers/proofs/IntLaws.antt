-- A byte, an integer and a with-skip amount at each way out. Assumes nothing.
use mathlib.Core.Path.{◌≡◌, refl, ap, sym, ◌∙◌}
use mathlib.Core.List.{List, []}
use Prim.Native.Nat.{ℕ, ◌+◌}
use native.Mathlib.Omega.{arith}
use Rattle.std.specs.Prelude.{Option, Some, None}
use Rattle.stream.specs.declared.putint.Int.{Int}
use Rattle.stream.specs.PutInt.{int_at}
use Rattle.stream.proofs.IntegerLaws.{IntWithin, int_within}
use Rattle.definition.specs.Memory.{Input, Mem, Out, got, no, moved, with_skip, with_long, past_int, after_int, and_then, change, int}
use Rattle.definition.specs.Reference.{skip_amount}
use Rattle.readers.specs.declared.state.State.{State}
use Rattle.readers.specs.Views.{Lent, input, mem}
use Rattle.readers.proofs.ViewLaws.{nothing}

-- an integer ends in the payload
pub int_ends : {r : Option Int} {i : Int} → r ≡ Some i → (p : List ℕ) (at : ℕ) → r ≡ int_at p at → IntWithin p at i.count
int_ends k p at e = int_within p at (rw e at k)

-- an integer moves the cursor, may be counted as long, and does no more
module _ (x : Input) (m k : Mem) (n : ℕ) where
  after_keeps : (i : Option Int) → got n k ≡ after_int x i m → k ≡ with_long k.long_integers (moved k.at m)
  after_keeps (Some i) e = let q : k ≡ past_int i m = cc in rw q
  after_keeps None e = absurd (let z : ◌≡◌ {A = ℕ} 0 1 = cc in omega arith)

  pub int_keeps : got n k ≡ int x m → k ≡ with_long k.long_integers (moved k.at m)
  unfolding int
  int_keeps e = after_keeps (int_at x.payload m.at) e

  pub skip_is : got n k ≡ int x m → got tt (with_skip (m.skip + n) k) ≡ skip_amount x m
  skip_is e = rw (← e) (ap (λ (i : ℕ). got tt (with_skip (i + n) k)) (sym (ap (λ (j : Mem). j.skip) (int_keeps e))))

-- a with-skip amount leaves the addresses
module _ (x : Input) (m k : Mem) where
  skip_after : (o : Out ℕ) → o ≡ int x m → got tt k ≡ and_then o (λ n. change (λ j. with_skip (j.skip + n) j)) → k.addresses ≡ m.addresses
  skip_after (got n j) e h = let q : k ≡ with_skip (j.skip + n) j = cc in ap (λ (i : Mem). i.addresses) q ∙ ap (λ (i : Mem). i.addresses) (int_keeps x m j n e)
  skip_after (no n q j) e h = absurd (let z : ◌≡◌ {A = ℕ} 0 1 = cc in omega arith)

pub skip_addresses : (s t : State) (p : List ℕ) → ((v tr : List ℕ) (sp : ℕ) (l : Lent) → got tt (mem t l) ≡ skip_amount (input v p sp tr) (mem s l)) → t.addresses ≡ s.addresses
skip_addresses s t p h =
    let x = input [] p 0 [] in
    ap (λ i. i.count) (skip_after x (mem s nothing) (mem t nothing) (int x (mem s nothing)) refl (h [] [] 0 nothing))
