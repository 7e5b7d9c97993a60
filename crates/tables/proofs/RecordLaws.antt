-- What a write into a table leaves in the fields of its records, over their width. `stored_same`
-- and `stored_else` speak of any run of fields of one record; a whole record, a filled slot and a
-- single field are cases of it. Assumes nothing.
use mathlib.Core.Path.{◌≡◌, refl, ◌∙◌}
use mathlib.Core.Logic.{◌≢◌}
use mathlib.Core.List.{List, [], ◌∷◌}
use Prim.Native.Nat.{ℕ, zero, suc, ◌+◌, ◌*◌, ◌<◌, ◌≤◌}
use native.Mathlib.Nat.{add-zero, zero-add, suc-mul, le-div_iff_mul-le}
use native.Mathlib.Omega.{arith}
use lib.ListN.{length, get_or, set, length-set}
use lib.Seq.{sets, length-sets, get_or-set_same, get_or-set_other}
use Rattle.std.proofs.lemmas.Nat.{same_from_place}
use Rattle.tables.specs.Records.{room, field, written, filled}

-- a record below the room ends within the table
pub record_end : (w n : ℕ) (t : List ℕ) → 0 < w → n < room w t → n * w + w ≤ length t
record_end w n t pos h = let l : suc n * w ≤ length t = (le-div_iff_mul-le pos).0 h in omega (arith, suc-mul n w)

outside : (vs l : List ℕ) (i x : ℕ) → ((j : ℕ) → j < length vs → x ≢ i + j) → get_or (sets l i vs) x 0 ≡ get_or l x 0
outside [] l i x h = refl
outside (v ∷ vs) l i x h =
    outside vs (set l i v) (suc i) x (λ j b e. h (suc j) (omega arith) (omega arith)) ∙ get_or-set_other l i x v 0 (λ e. h 0 (omega arith) (omega arith))

inside : (vs l : List ℕ) (i j : ℕ) → j < length vs → i + length vs ≤ length l → get_or (sets l i vs) (i + j) 0 ≡ get_or vs j 0
inside [] l i j b h = absurd (omega arith)
inside (v ∷ vs) l i zero b h =
    rw (add-zero i) (outside vs (set l i v) (suc i) i (λ j b e. omega arith) ∙ get_or-set_same l i v 0 (omega arith))
inside (v ∷ vs) l i (suc j) b h =
    let e : i + suc j ≡ suc i + j = omega arith in
    rw e (inside vs (set l i v) (suc i) j (omega arith) (rw length-set (omega arith)))

-- a run of fields of record n, from its field f on
module _ (w n f : ℕ) (t vs : List ℕ) (fits : f + length vs ≤ w) where
  stored_same : (k : ℕ) → k < length vs → n < room w t → field w (sets t (n * w + f) vs) n (f + k) ≡ get_or vs k 0
  stored_same k b h =
      let l : n * w + w ≤ length t = record_end w n t (omega arith) h in
      let e : n * w + (f + k) ≡ n * w + f + k = omega arith in
      rw e (inside vs t (n * w + f) k b (omega arith))

  -- every other field stays
  stored_else : (m k : ℕ) → k < w → ((j : ℕ) → j < length vs → m ≡ n → k ≢ f + j) → field w (sets t (n * w + f) vs) m k ≡ field w t m k
  stored_else m k b apart =
      outside vs t (n * w + f) (m * w + k) (λ j l e. let s : (m ≡ n) × (k ≡ f + j) = same_from_place m k n (f + j) w b (omega arith) (omega arith) in apart j l s.0 s.1)

-- a whole record
module _ (t row : List ℕ) (n : ℕ) where
  pub written_length : length (written t n row) ≡ length t
  unfolding written
  written_length = length-sets t (n * length row) row

  pub written_same : (k : ℕ) → k < length row → n < room (length row) t → field (length row) (written t n row) n k ≡ get_or row k 0
  unfolding written
  written_same k b h =
      rw (zero-add, add-zero) at (stored_same (length row) n 0 t row (omega arith) k b h)

  pub written_else : (m k : ℕ) → k < length row → m ≢ n → field (length row) (written t n row) m k ≡ field (length row) t m k
  unfolding written
  written_else m k b apart =
      rw add-zero at (stored_else (length row) n 0 t row (omega arith) m k b (λ j l e. absurd (apart e)))

-- a slot that waited and is filled
module _ (t : List ℕ) (n o : ℕ) where
  pub filled_length : length (filled t n o) ≡ length t
  unfolding filled
  filled_length = length-sets t (n * 6 + 2) (1 ∷ o ∷ 0 ∷ 0 ∷ [])

  pub filled_same : (k : ℕ) → k < 4 → n < room 6 t → field 6 (filled t n o) n (2 + k) ≡ get_or (1 ∷ o ∷ 0 ∷ 0 ∷ []) k 0
  unfolding filled
  filled_same = stored_same 6 n 2 t (1 ∷ o ∷ 0 ∷ 0 ∷ []) (omega arith)

  pub filled_else : (m k : ℕ) → k < 6 → (m ≡ n → k < 2) → field 6 (filled t n o) m k ≡ field 6 t m k
  unfolding filled
  filled_else m k b apart =
      stored_else 6 n 2 t (1 ∷ o ∷ 0 ∷ 0 ∷ []) (omega arith) m k b (λ j l e q. omega (arith, apart e))

-- a single field
module _ (w n j : ℕ) (t : List ℕ) (x : ℕ) (below : j < w) where
  pub set_same : n < room w t → field w (set t (n * w + j) x) n j ≡ x
  set_same h = get_or-set_same t (n * w + j) x 0 (omega (arith, record_end w n t (omega arith) h))

  pub set_else : (m k : ℕ) → k < w → (m ≡ n → k ≢ j) → field w (set t (n * w + j) x) m k ≡ field w t m k
  set_else m k b apart =
      stored_else w n j t (x ∷ []) (omega arith) m k b (λ i l e q. apart e (omega arith))
