-- The padding at each way out of the code. Assumes nothing.
use mathlib.Core.Path.{◌≡◌, refl, ◌∙◌}
use mathlib.Core.Bool.{true, false}
use mathlib.Core.List.{List}
use Prim.Native.Nat.{ℕ, zero, suc, min, ◌+◌, ◌-◌, ◌<◌, ◌≤◌}
use native.Mathlib.Omega.{arith}
use borrow.Author.Tests.{lt-ltb, lt-leb}
use lib.ListN.{length}
use Rattle.std.specs.Prelude.{Option, Some, None}
use Rattle.std.specs.Option.{MatchOption, unwrap_or}
use Rattle.std.specs.List.{AllWithin, HoldsAt, slice_range, slice_index_or}
use Rattle.std.proofs.Common.{get_or-take, get_or-drop, length-take, length-drop}
use Rattle.stream.specs.Bytes.{peek_at}
use Rattle.sheet.specs.Sheet.{is_legacy}
use Rattle.sheet.specs.Tests.{is_nop}
use Rattle.definition.specs.Memory.{Input, Mem, got, no, Reader, moved, byte}
use Rattle.definition.specs.Object.{peek}
use Rattle.definition.specs.Closing.{padding}

-- padding up to the payload's end
abbrev pub padding_from : Input → Reader (Unit {0})
padding_from x m = padding x (length x.payload - m.at) m

module _ (x : Input) (m : Mem) where
  none_left : length x.payload ≤ m.at → length x.payload - m.at ≡ 0
  none_left h = omega arith

  one_left : m.at < length x.payload → length x.payload - m.at ≡ suc (length x.payload - (m.at + 1))
  one_left h = omega arith

  padding_end : length x.payload ≤ m.at → got tt m ≡ padding_from x m
  unfolding padding
  padding_end h = rw (none_left h)

  module _ (h : m.at < length x.payload) where
    padding_nop : is_nop x.sheet (peek x m) ≡ true → padding_from x (moved (m.at + 1) m) ≡ padding_from x m
    unfolding padding byte
    padding_nop e = rw (one_left h, lt-leb (length x.payload) m.at h, e, lt-ltb m.at (length x.payload) h)

    module _ (e : is_nop x.sheet (peek x m) ≡ false) where
      padding-ends : is_legacy x.sheet ≡ true → got tt m ≡ padding_from x m
      unfolding padding
      padding-ends y = rw (one_left h, lt-leb (length x.payload) m.at h, e, y)

      padding-other : is_legacy x.sheet ≡ false → no 14 m.at m ≡ padding_from x m
      unfolding padding
      padding-other y = rw (one_left h, lt-leb (length x.payload) m.at h, e, y)

-- n bytes of kNop from a place on
abbrev Nops : Input → ℕ → ℕ → Type 0
Nops x at n = (k : ℕ) → k < n → is_nop x.sheet (peek_at x.payload (at + k)) ≡ true

-- they are passed over
padding_nops : (x : Input) (n : ℕ) (m : Mem) → n ≤ length x.payload - m.at → Nops x m.at n → padding_from x (moved (m.at + n) m) ≡ padding_from x m
padding_nops x zero m l f = let e : m.at + 0 ≡ m.at = omega arith in rw e refl
padding_nops x (suc n) m l f =
    let e : m.at + suc n ≡ m.at + 1 + n = omega arith in
    let g : Nops x (m.at + 1) n = λ k h. let i : m.at + 1 + k ≡ m.at + suc k = omega arith in rw i (f (suc k) (omega (arith, h))) in
    let o : m.at + 0 ≡ m.at = omega arith in
    let b = f 0 (omega arith) in
    rw e (padding_nops x n (moved (m.at + 1) m) (omega (arith, l)) g ∙ padding_nop x m (omega (arith, l)) (rw o at b))

-- the payload from a place on
abbrev pub rest_of : List ℕ → ℕ → List ℕ
rest_of p at = slice_range p at (length p)

-- what `position` finds there: no other byte, or where the first one stands
abbrev pub FirstOther : List ℕ → List ℕ → Option ℕ → Type 0
FirstOther sheet rest r =
    MatchOption r (AllWithin (λ b. is_nop sheet b ≡ true) rest 0 (length rest))
    (λ n. (n < length rest) × HoldsAt (λ b. is_nop sheet b ≡ false) rest n × AllWithin (λ b. is_nop sheet b ≡ true) rest 0 n)

-- n bytes of kNop stand first in it, and then none or another
record Stops (sheet rest : List ℕ) (n : ℕ) : Type 0 where
  within : n ≤ length rest
  nops : AllWithin (λ b. is_nop sheet b ≡ true) rest 0 n
  other : n < length rest → HoldsAt (λ b. is_nop sheet b ≡ false) rest n

stops : (sheet rest : List ℕ) (r : Option ℕ) → FirstOther sheet rest r → Stops sheet rest (unwrap_or r (length rest))
stops sheet rest None f = record { within = omega arith; nops = f; other = λ h. absurd (omega (arith, h)) }
stops sheet rest (Some n) f = record { within = omega (arith, f.0); nops = f.2; other = λ h. f.1 }

module _ (x : Input) (m : Mem) (i n : ℕ) (e : i ≡ min m.at (length x.payload)) (r : Option ℕ) (found : FirstOther x.sheet (rest_of x.payload i) r) (u : n ≡ unwrap_or r (length (rest_of x.payload i))) where
  abbrev rest : List ℕ
  rest = rest_of x.payload i

  f : Stops x.sheet rest n
  f = rw u (stops x.sheet rest r found)

  size : length rest ≡ length x.payload - m.at
  size = grind (arith, length-take, length-drop)

  byte_of : (k : ℕ) → k < length rest → slice_index_or rest k 256 ≡ peek_at x.payload (m.at + k)
  unfolding peek_at
  byte_of k h =
      let l : i ≡ m.at = omega (arith, e, h, size) in
      let b : k < length x.payload - m.at = omega (arith, h, size) in
      rw l (grind (arith, b, get_or-take, get_or-drop))

  passed : padding_from x (moved (m.at + n) m) ≡ padding_from x m
  passed = padding_nops x n m (omega (arith, f.within, size)) (λ k g. let b = f.nops k 256 (omega arith) g in rw (byte_of k (omega (arith, g, f.within))) at b)

  pub padding_all : n ≡ length rest → got tt (moved (m.at + n) m) ≡ padding_from x m
  padding_all h = padding_end x (moved (m.at + n) m) (omega (arith, h, size)) ∙ passed

  module _ (d : n ≡ length rest → ⊥) where
    h : n < length rest
    h = omega (arith, f.within, d)

    other : is_nop x.sheet (peek x (moved (m.at + n) m)) ≡ false
    other = let b = f.other h 256 in rw (byte_of n h) at b

    pub padding_legacy : is_legacy x.sheet ≡ true → got tt (moved (m.at + n) m) ≡ padding_from x m
    padding_legacy y = padding-ends x (moved (m.at + n) m) (omega (arith, h, size)) other y ∙ passed

    pub padding_refused : is_legacy x.sheet ≡ false → no 14 (m.at + n) (moved (m.at + n) m) ≡ padding_from x m
    padding_refused y = padding-other x (moved (m.at + n) m) (omega (arith, h, size)) other y ∙ passed
