-- What holds of what a reader gives, where it does not refuse; and the two leaves that move the
-- cursor. Assumes nothing.
use Rattle.std.specs.Prelude.{if◌then◌else◌, ◌≡◌, refl, Bool, true, false, ℕ, ◌+◌, ◌<◌, ◌≤◌, ltb, length, get_or, Option, Some, None}
use Rattle.std.proofs.Common.{arith, ltb-true}
use Rattle.stream.specs.declared.putint.Int.{Int}
use Rattle.stream.specs.PutInt.{int_at}
use Rattle.stream.proofs.ByteLaws.{Bytes}
use Rattle.definition.specs.Memory.{Input, Mem, Out, got, no, Reader, and_then, moved, byte, after_int, int, with_long}
use Rattle.laws.specs.Leaves.{IntEnds, int_ends}
use Rattle.assurance.specs.Words.{IntegerAt}

-- Q holds of what is given
unfoldable pub Gives : {A : Type 0} → (A → Mem → Type 0) → Out A → Type 0
Gives Q (got a m) = Q a m
Gives Q (no n q m) = Unit {0}

pub gives : {A : Type 0} (Q : A → Mem → Type 0) (a : A) (m : Mem) → Q a m → Gives Q (got a m)
unfolding Gives
gives Q a m h = h

pub given : {A : Type 0} (Q : A → Mem → Type 0) (a : A) (m : Mem) → Gives Q (got a m) → Q a m
unfolding Gives
given Q a m h = h

pub refused : {A : Type 0} (Q : A → Mem → Type 0) (n q : ℕ) (m : Mem) → Gives Q (no n q m)
unfolding Gives
refused Q n q m = tt

pub gives_then : {A B : Type 0} (P : A → Mem → Type 0) (Q : B → Mem → Type 0) (o : Out A) (f : A → Reader B) → Gives P o → ((a : A) (m : Mem) → P a m → Gives Q (f a m)) → Gives Q (and_then o f)
unfolding Gives
gives_then P Q (got a m) f h k = k a m h
gives_then P Q (no n q m) f h k = tt

pub gives-choose : {A : Type 0} (Q : A → Mem → Type 0) (t : Bool) (f g : Reader A) (m : Mem) → (t ≡ true → Gives Q (f m)) → (t ≡ false → Gives Q (g m)) → Gives Q ((if t then f else g) m)
gives-choose Q true f g m y n = y refl
gives-choose Q false f g m y n = n refl

pub gives_map : {A : Type 0} (P Q : A → Mem → Type 0) (o : Out A) → ((a : A) (m : Mem) → P a m → Q a m) → Gives P o → Gives Q o
unfolding Gives
gives_map P Q (got a m) f h = f a m h
gives_map P Q (no n q m) f h = tt

pub gives_both : {A : Type 0} (P Q : A → Mem → Type 0) (o : Out A) → Gives P o → Gives Q o → Gives (λ a m. (P a m) × (Q a m)) o
unfolding Gives
gives_both P Q (got a m) g h = (g, h)
gives_both P Q (no n q m) g h = tt

module _ (x : Input) where
  pub byte_gives : (Q : ℕ → Mem → Type 0) (m : Mem) → (m.at < length x.payload → Q (get_or x.payload m.at 0) (moved (m.at + 1) m)) → Gives Q (byte x m)
  unfolding byte
  byte_gives Q m h = gives-choose Q (ltb m.at (length x.payload)) _ _ m (λ t. gives Q _ _ (h (ltb-true _ _ t))) (λ t. refused Q _ _ _)

  after_int_lem : (Q : ℕ → Mem → Type 0) (m : Mem) (i : Option Int) → int_at x.payload m.at ≡ i → IntEnds x.payload m.at i → ((v at n : ℕ) → IntegerAt x.payload m.at v → m.at < at → at ≤ length x.payload → Q v (with_long n (moved at m))) → Gives Q (after_int x i m)
  after_int_lem Q m (Some i) e l h = gives Q _ _ (h i.value (m.at + i.count) _ (i, e, refl) (omega (arith, l.0)) l.2)
  after_int_lem Q m None e l h = refused Q _ _ _

  -- the integer that stands at the cursor
  pub int_reads : Bytes x.payload → (Q : ℕ → Mem → Type 0) (m : Mem) → ((v at n : ℕ) → IntegerAt x.payload m.at v → m.at < at → at ≤ length x.payload → Q v (with_long n (moved at m))) → Gives Q (int x m)
  unfolding int
  int_reads bytes Q m h = after_int_lem Q m (int_at x.payload m.at) refl (int_ends x.payload m.at bytes) h

  pub int_gives : Bytes x.payload → (Q : ℕ → Mem → Type 0) (m : Mem) → ((v at n : ℕ) → m.at < at → at ≤ length x.payload → Q v (with_long n (moved at m))) → Gives Q (int x m)
  int_gives bytes Q m h = int_reads bytes Q m (λ v at n i. h v at n)
