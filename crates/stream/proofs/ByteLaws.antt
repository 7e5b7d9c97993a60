-- Bytes that were peeked at, little-endian numbers and raw ranges. Assumes nothing.
use mathlib.Core.Path.{◌≡◌, refl, sym}
use mathlib.Core.List.{List, [], ◌∷◌}
use Prim.Native.Nat.{ℕ, zero, suc, ◌+◌, ◌*◌, ◌%◌, ◌^◌, ◌<◌, ◌≤◌}
use native.Mathlib.Omega.{arith}
use native.Mathlib.Numerals.{add-one}
use native.Mathlib.Nat.{add_comm, mul-suc, not-suc-le-zero, le_of_suc-le-suc}
use borrow.Author.Tests.{lt-ltb, le-ltb}
use lib.ListN.{length, get_or, get_or-eq_default}
use lib.Dec.{lit<}
use lib.Arith.{digits_lt}
use lib.Bits.{bit_or, or_shifted_r}
use lib.Pow.{pow-add, shl_exact}
use Rattle.std.specs.Prelude.{Some, None}
use Rattle.stream.specs.Bytes.{peek_at, little_endian, raw_at}

-- each byte is below 256
abbrev pub Bytes : List ℕ → Type 0
Bytes p = (i : ℕ) → get_or p i 0 < 256

-- a byte that was read is the one that was peeked at
pub peek-byte : (p : List ℕ) (at : ℕ) {b : ℕ} → at < length p → b ≡ get_or p at 0 → b ≡ peek_at p at
unfolding peek_at
peek-byte [] at h e = absurd (not-suc-le-zero h)
peek-byte (x ∷ xs) zero h e = e
peek-byte (x ∷ xs) (suc i) h e = peek-byte xs i (le_of_suc-le-suc h) e

pub peek_end : (p : List ℕ) (at : ℕ) → length p ≤ at → 256 ≡ peek_at p at
unfolding peek_at
peek_end p at h = sym (get_or-eq_default p 256 h)

-- n bytes are below 2 ^ (8 n)
pub le_below : (p : List ℕ) (at n : ℕ) → Bytes p → little_endian p at n < 2 ^ (8 * n)
unfolding little_endian
le_below p at zero b = lit< tt
le_below p at (suc n) b =
    let more : get_or p (at + n) 0 * 2 ^ (8 * n) + little_endian p at n < 2 ^ 8 * 2 ^ (8 * n) = digits_lt (b (at + n)) (le_below p at n b) in
    rw (mul-suc 8 n, add_comm (8 * n) 8, pow-add 2 8 (8 * n), add_comm (little_endian p at n) (get_or p (at + n) 0 * 2 ^ (8 * n))) more

pub le_zero : (p : List ℕ) (at : ℕ) → 0 ≡ little_endian p at 0
unfolding little_endian
le_zero p at = refl

-- the next byte, shifted and joined by or
pub le_next : (p : List ℕ) (at n b : ℕ) {raw : ℕ} → Bytes p → n < 8 → raw ≡ little_endian p at n → b ≡ get_or p (at + n) 0
    → bit_or raw ((b * 2 ^ (8 * n)) % 2 ^ 64) ≡ little_endian p at (n + 1)
unfolding little_endian
le_next p at n b bs h r e =
    rw (add-one, e, r, shl_exact {a = get_or p (at + n) 0} 8 (8 * n) 64 (bs (at + n)) (omega arith), or_shifted_r (get_or p (at + n) 0) (8 * n) (little_endian p at n) (le_below p at n bs))
    (add_comm (get_or p (at + n) 0 * 2 ^ (8 * n)) (little_endian p at n))

module _ (p : List ℕ) (at n : ℕ) where
  pub raw_past : length p < at + n → None ≡ raw_at p at n
  unfolding raw_at
  raw_past h = rw (lt-ltb (length p) (at + n) h)

  pub raw_to : at + n ≤ length p → Some (at + n) ≡ raw_at p at n
  unfolding raw_at
  raw_to h = rw (le-ltb (length p) (at + n) h)
