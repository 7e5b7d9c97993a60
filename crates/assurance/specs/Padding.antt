-- What follows the closing section: it is accepted exactly when it is only kNop, on a sheet that is
-- not legacy. Assumes nothing.
use Rattle.std.proofs.Math.Path.{◌≡◌, refl, sym}
use Rattle.std.proofs.Common.{ap, ◌∙◌, subst, ⊎_elim, eq-or-lt_of_le, arith}
use Rattle.std.specs.Prelude.{if◌then◌else◌, Bool, List, length}
use Rattle.std.proofs.Math.Bool.{true, false}
use Prim.Native.Nat.{ℕ, zero, suc, ◌+◌, ◌<◌, ◌≤◌}
use borrow.Author.Tests.{eqb-true, lt-leb, le-leb, eq-eqb}
use Rattle.std.proofs.Math.Dec.{eqb}
use Rattle.std.proofs.Math.ListN.{get_or}
use Rattle.stream.proofs.ByteLaws.{peek-byte}
use Rattle.sheet.specs.Names.{k_nop}
use Rattle.sheet.specs.Sheet.{number, is_legacy}
use Rattle.sheet.specs.Tests.{is_nop}
use Rattle.definition.specs.Memory.{Input, Mem, got, Reader, ◌>>◌, byte, moved, refuse}
use Rattle.definition.specs.Object.{peek}
use Rattle.definition.specs.Closing.{padding}
use Rattle.assurance.specs.SimulateClosing.{byte_in}

-- from place n on there is only kNop
abbrev pub Padded : List ℕ → List ℕ → ℕ → Type 0
Padded v p n = (i : ℕ) → n ≤ i → i < length p → get_or p i 0 ≡ number v k_nop

module _ (x : Input) where
  padding_end : (n : ℕ) (m : Mem) → length x.payload ≤ m.at → padding x n m ≡ got tt m
  unfolding padding
  padding_end zero m l = refl
  padding_end (suc n) m l = rw (le-leb (length x.payload) m.at l)

  nop_peek : (m : Mem) → m.at < length x.payload → is_nop x.sheet (peek x m) ≡ eqb (number x.sheet k_nop) (get_or x.payload m.at 0)
  nop_peek m l = ap (λ (b : ℕ). is_nop x.sheet b) (sym (peek-byte x.payload m.at l refl))

  padding_nop : (n : ℕ) (m : Mem) → m.at < length x.payload → get_or x.payload m.at 0 ≡ number x.sheet k_nop → padding x (suc n) m ≡ padding x n (moved (m.at + 1) m)
  unfolding padding
  padding_nop n m l e = rw (lt-leb (length x.payload) m.at l, nop_peek m l, e, eq-eqb (number x.sheet k_nop) (number x.sheet k_nop) refl, byte_in x m l)

  -- only kNop: the walk is accepted, the cursor at the payload's end
  pub padding_all : (n : ℕ) (m : Mem) → length x.payload ≡ m.at + n → Padded x.sheet x.payload m.at → padding x n m ≡ got tt (moved (length x.payload) m)
  padding_all zero m e h = let z : m.at ≡ length x.payload = omega arith in padding_end zero m (omega arith) ∙ ap (λ (a : ℕ). got tt (moved a m)) z
  padding_all (suc n) m e h =
      padding_nop n m (omega arith) (h m.at (omega arith) (omega arith))
      ∙ padding_all n (moved (m.at + 1) m) (omega arith) (λ i l b. h i (omega arith) b)

  -- something else: it is refused
  module _ (modern : is_legacy x.sheet ≡ false) where
    padding_else : (n : ℕ) (m m₂ : Mem) → m.at < length x.payload → padding x (suc n) m ≡ got tt m₂ → get_or x.payload m.at 0 ≡ number x.sheet k_nop
    unfolding padding
    padding_else n m m₂ l e = go (byte x >> padding x n) (eqb (number x.sheet k_nop) (get_or x.payload m.at 0)) refl (rw (lt-leb (length x.payload) m.at l, nop_peek m l, modern) at e)
      where
        go : (f : Reader (Unit {0})) (t : Bool) → eqb (number x.sheet k_nop) (get_or x.payload m.at 0) ≡ t → (if t then f else refuse 14) m ≡ got tt m₂ → get_or x.payload m.at 0 ≡ number x.sheet k_nop
        go f true t e = sym (eqb-true _ _ t)
        go f false t e = absurd (let z : ◌≡◌ {A = ℕ} 0 1 = cc in omega arith)

    pub padding_only : (n : ℕ) (m m₂ : Mem) → length x.payload ≡ m.at + n → padding x n m ≡ got tt m₂ → Padded x.sheet x.payload m.at
    padding_only zero m m₂ s e i l b = absurd (omega arith)
    padding_only (suc n) m m₂ s e i l b =
        let nop : get_or x.payload m.at 0 ≡ number x.sheet k_nop = padding_else n m m₂ (omega arith) e in
        ⊎_elim (λ z. subst (λ (i : ℕ). get_or x.payload i 0 ≡ number x.sheet k_nop) z nop)
        (λ z. padding_only n (moved (m.at + 1) m) m₂ (omega arith) (sym (padding_nop n m (omega arith) nop) ∙ e) i (omega arith) b)
        (eq-or-lt_of_le l)
