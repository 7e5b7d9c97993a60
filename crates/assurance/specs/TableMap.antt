-- What a second reading has where the first has a table: the same records, and as much room at
-- least. Assumes nothing.
use Rattle.std.specs.Prelude.{◌≡◌, refl, List, [], ◌∷◌, ℕ, ◌+◌, ◌*◌, ◌<◌, ◌≤◌, length, get_or}
use Rattle.std.proofs.Common.{arith, suc-mul, le-div_iff_mul-le, append-nil, length-append}
use Rattle.std.proofs.lemmas.List.Edits.{sets}
use Rattle.tables.specs.Records.{room, written, filled}
use Rattle.tables.proofs.RecordLaws.{record_end}
use Rattle.definition.specs.Memory.{Table, table}
use Rattle.assurance.specs.Wider.{wide, wide_get, wide_sets}

-- of a table whose records have so many fields: the numbers of the second one, where the first has
-- so many records and these numbers
pub record TableMap (fields : ℕ) : Type 0 where
  pub rows : ℕ → List ℕ → List ℕ
  pub as_long : (n : ℕ) (t : List ℕ) → length t ≤ length (rows n t)
  pub same : (n : ℕ) (t : List ℕ) (i : ℕ) → i < n * fields → get_or (rows n t) i 0 ≡ get_or t i 0
  -- numbers of the records change, and a record is added
  pub changed : (n : ℕ) (t : List ℕ) (i : ℕ) (vs : List ℕ) → i + length vs ≤ n * fields → n * fields ≤ length t → sets (rows n t) i vs ≡ rows n (sets t i vs)
  pub extended : (n : ℕ) (t row : List ℕ) → length row ≡ fields → n * fields + fields ≤ length t → sets (rows n t) (n * fields) row ≡ rows (n + 1) (sets t (n * fields) row)

abbrev pub mapped : {fields : ℕ} → TableMap fields → Table → Table
mapped f t = table (f.rows t.count t.rows) t.count

-- it is no longer either
abbrev pub SameLength : {fields : ℕ} → TableMap fields → Type 0
SameLength f = (n : ℕ) (t : List ℕ) → length (f.rows n t) ≡ length t

-- so many zeros after it
abbrev pub widened : {fields : ℕ} → ℕ → TableMap fields
widened k =
    record {
      rows = (λ n t. wide k t);
      as_long = (λ n t. rw length-append (omega arith));
      same = (λ n t i l. wide_get k t i);
      changed = (λ n t i vs l h. wide_sets k vs t i (omega arith));
      extended = (λ n t row e h. wide_sets k row t _ (omega arith));
    }

pub widened_none : (n : ℕ) (t : List ℕ) → length (wide 0 t) ≡ length t
widened_none n t = rw append-nil

-- record n, below the room
pub map_room : {fields : ℕ} (f : TableMap fields) (n : ℕ) (t : List ℕ) → 0 < fields → n < room fields t → n < room fields (f.rows n t)
map_room {fields} f n t pos l = (le-div_iff_mul-le pos).1 (omega (arith, suc-mul n fields, record_end fields n t pos l, f.as_long n t))

pub map_written : (row : List ℕ) (f : TableMap (length row)) (n : ℕ) (t : List ℕ) → 0 < length row → n < room (length row) t → written (f.rows n t) n row ≡ f.rows (n + 1) (written t n row)
unfolding written
map_written row f n t pos l = f.extended n t row refl (record_end (length row) n t pos l)

-- one of the records
pub map_filled : (f : TableMap 6) (n : ℕ) (t : List ℕ) (k o : ℕ) → k < n → n * 6 ≤ length t → filled (f.rows n t) k o ≡ f.rows n (filled t k o)
unfolding filled
map_filled f n t k o l h = f.changed n t (k * 6 + 2) (1 ∷ o ∷ 0 ∷ 0 ∷ []) (omega arith) h
