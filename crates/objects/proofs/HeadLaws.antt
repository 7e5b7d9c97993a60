-- An object's head, at each way out of the code. Assumes nothing.
use mathlib.Core.Path.{◌≡◌, sym, ◌∙◌}
use mathlib.Core.Bool.{Bool, true, false}
use mathlib.Core.List.{List}
use Prim.Native.Nat.{ℕ, ◌*◌, ◌^◌, ◌<◌}
use native.Mathlib.Nat.{mul-le-mul_left}
use native.Mathlib.Omega.{arith}
use borrow.Author.Tests.{eq-eqb, ne_eqb}
use Rattle.sheet.specs.Sheet.{is_six_x, lo_space, word_bytes, usable}
use Rattle.backref.proofs.BackrefLaws.{word_small}
use Rattle.definition.specs.Memory.{Input, Mem, Out, got, no, byte, int}
use Rattle.objects.specs.Head.{recording, opening}

-- ---- the record

-- an object's declared bytes
pub bytes_small : (v : List ℕ) → usable v ≡ true → {word words : ℕ} → word ≡ word_bytes v → words < 2 ^ 30 → words * word < 2 ^ 33
bytes_small v u {word} {words} e h = omega (arith, mul-le-mul_left words (word_small v u e))

-- ---- the size, and the byte of a large object

module _ (x : Input) (space tag : ℕ) (m : Mem) where
  pub open_cut : {n q : ℕ} {m' : Mem} → no n q m' ≡ int x m → no n q m' ≡ opening x space tag m
  open_cut e = rw (← e)

  module _ {words : ℕ} {m₁ : Mem} (w : got words m₁ ≡ int x m) {six : Bool} (s : six ≡ is_six_x x.sheet) where
    pub open_plain : {o : Out ℕ} → six ≡ false → o ≡ recording x tag words m₁ → o ≡ opening x space tag m
    open_plain f h = rw (← w, ← s, f) h

    module _ (t : six ≡ true) {large : ℕ} (a : large ≡ lo_space x.sheet) where
      pub open_small : {o : Out ℕ} → (space ≡ large → ⊥) → o ≡ recording x tag words m₁ → o ≡ opening x space tag m
      open_small f h = rw (← w, ← s, t, ne_eqb space (lo_space x.sheet) (λ e. f (e ∙ sym a))) h

      module _ (e : space ≡ large) where
        pub open_large_cut : {n q : ℕ} {m' : Mem} → no n q m' ≡ byte x m₁ → no n q m' ≡ opening x space tag m
        open_large_cut h = rw (← w, ← s, t, eq-eqb space (lo_space x.sheet) (e ∙ a), ← h)

        pub open_large : {o : Out ℕ} {v : ℕ} {m₂ : Mem} → got v m₂ ≡ byte x m₁ → o ≡ recording x tag words m₂ → o ≡ opening x space tag m
        open_large h k = rw (← w, ← s, t, eq-eqb space (lo_space x.sheet) (e ∙ a), ← h) k
