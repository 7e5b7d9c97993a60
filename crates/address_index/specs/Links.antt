-- What the index of legacy addresses keeps. Assumes nothing: these are definitions.
use Rattle.std.specs.Prelude.{if◌then◌else◌, ◌≡◌, List, ℕ, zero, suc, ◌*◌, ◌<◌, ◌≤◌, eqb, length, get_or}
use Rattle.tables.specs.Records.{field}
use Rattle.address_index.specs.Layout.{capacity, list_cell, bucket_cell, link_cell, bucket}

-- the space of address record i
abbrev pub space_of : List ℕ → ℕ → ℕ
space_of t i = get_or t (i * 5) 0

-- how many of the first n address records are of a space
unfoldable pub count_in : List ℕ → ℕ → ℕ → ℕ
count_in t space zero = 0
count_in t space (suc n) = if eqb (space_of t n) space then suc (count_in t space n) else count_in t space n

-- the bucket of address record i
abbrev pub bucket_of : List ℕ → ℕ → ℕ → ℕ → ℕ
bucket_of t r seed i = bucket r seed (space_of t i) (field 5 t i 1) (field 5 t i 2)

-- of the first n records the newest in bucket b, counted from 1; 0: there is none
unfoldable pub newest : (ℕ → ℕ) → ℕ → ℕ → ℕ
newest bucket_at b zero = 0
newest bucket_at b (suc n) = if eqb (bucket_at n) b then suc n else newest bucket_at b n

-- v names it, where there is one; else v may be anything, since scratch is not cleared
abbrev pub Names : (ℕ → ℕ) → ℕ → ℕ → ℕ → Type 0
Names bucket_at b n v = 0 < newest bucket_at b n → v ≡ newest bucket_at b n

-- the spaces 0 to 7 have counts and lists of their records
pub record Lists (t : List ℕ) (n r : ℕ) (index : List ℕ) : Type 0 where
  pub counts : (s : ℕ) → s < 8 → get_or index s 0 ≡ count_in t s n
  pub places : (i : ℕ) → i < n → space_of t i < 8 → get_or index (list_cell r (space_of t i) (count_in t (space_of t i) i)) 0 ≡ i

-- a bucket names its newest record, and a record's link the one before it in its bucket
pub record Chains (t : List ℕ) (n r seed : ℕ) (index : List ℕ) : Type 0 where
  pub buckets : (b : ℕ) → b < r * 3 → Names (bucket_of t r seed) b n (get_or index (bucket_cell r b) 0)
  pub links : (i : ℕ) → i < n → Names (bucket_of t r seed) (bucket_of t r seed i) i (get_or index (link_cell r i) 0)

-- what is kept of the first n records is right
pub record Links (t : List ℕ) (n : ℕ) (index : List ℕ) : Type 0 where
  pub lists : Lists t n (capacity (length index)) index
  pub chains : Chains t n (capacity (length index)) (get_or index 8 0) index

-- where the index has room for all of them
abbrev pub Linked : List ℕ → ℕ → List ℕ → Type 0
Linked t n index = n ≤ capacity (length index) → Links t n index
