-- Laws that the proofs of `put` and `fill_slot` are given. Assumes nothing.
use mathlib.Core.Path.{◌≡◌, sym}
use mathlib.Core.Bool.{true}
use mathlib.Core.List.{List}
use Prim.Native.Nat.{ℕ, suc, ◌+◌, ◌*◌, ◌<◌}
use native.Mathlib.Numerals.{add-one}
use native.Mathlib.Omega.{arith}
use borrow.Author.Tests.{ltb-true}
use lib.ListN.{length, get_or, set}
use lib.Seq.{paste, paste-suc, sets-eq, take-length}
use Rattle.std.specs.Prelude.{ltb}
use Rattle.tables.specs.Records.{room, Put, written, filled}
use Rattle.tables.proofs.RecordLaws.{record_end}

-- a record that is put number by number
module _ (t row l : List ℕ) (n i : ℕ) (e : l ≡ paste t (n * length row) row i) where
  pub paste_next : i < length row → n < room (length row) t → set l (n * length row + i) (get_or row i 0) ≡ paste t (n * length row) row (i + 1)
  paste_next b h = rw (e, add-one i) (paste-suc t (n * length row) row i 0 (omega (arith, record_end (length row) n t (omega arith) h)) b)

  pub put_done : 0 < length row → i ≡ length row → ltb n (room (length row) t) ≡ true → Put t n row true l
  unfolding written
  put_done pos q h =
      record {
        roomy = sym h;
        table = rw (h, e, q, take-length) (sym (sets-eq row t (n * length row) (record_end (length row) n t pos (ltb-true n (room (length row) t) h))));
      }

pub fill_done : (t : List ℕ) (k o : ℕ) → set (set (set (set t (k * 6 + 2) 1) (k * 6 + 3) o) (k * 6 + 4) 0) (k * 6 + 5) 0 ≡ filled t k o
unfolding filled
fill_done t k o =
    let e3 : k * 6 + 3 ≡ suc (k * 6 + 2) = omega arith in
    let e4 : k * 6 + 4 ≡ suc (suc (k * 6 + 2)) = omega arith in
    let e5 : k * 6 + 5 ≡ suc (suc (suc (k * 6 + 2))) = omega arith in
    rw (e3, e4, e5)
