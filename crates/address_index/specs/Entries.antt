-- What the index is to keep of a new record. Assumes nothing: these are definitions.
use Rattle.std.specs.Prelude.{◌≡◌, ◌≢◌, List, ℕ, ◌+◌, ◌*◌, ◌≤◌, ◌<◌, length, get_or, set}
use Rattle.address_index.specs.Layout.{capacity, list_cell, bucket_cell, link_cell}
use Rattle.address_index.specs.Links.{space_of, count_in, bucket_of}
use Rattle.address_index.specs.declared.links.Entry.{Entry}

-- it names a bucket, and where the space has a list a number that record n can have
pub record EntryFits (n : ℕ) (index : List ℕ) (e : Entry) : Type 0 where
  pub number_low : e.space < 8 → e.number ≤ n
  pub bucket_low : e.bucket < capacity (length index) * 3

-- it is that of record n
pub record IsEntry (t : List ℕ) (n : ℕ) (index : List ℕ) (e : Entry) : Type 0 where
  pub fits : EntryFits n index e
  pub space : e.space ≡ space_of t n
  pub number : e.space < 8 → e.number ≡ count_in t e.space n
  pub unlisted : 8 ≤ e.space → e.number ≡ 0
  pub bucket : e.bucket ≡ bucket_of t (capacity (length index)) (get_or index 8 0) n

-- record n enters a bucket, which then names it; its link names what the bucket did
abbrev pub in_bucket : List ℕ → ℕ → ℕ → List ℕ
in_bucket index n bucket =
    let r = capacity (length index) in
    set (set index (link_cell r n) (get_or index (bucket_cell r bucket) 0)) (bucket_cell r bucket) (n + 1)

-- record n enters the list of a space as number k, so that the space then has k + 1 records
abbrev pub in_list : List ℕ → ℕ → ℕ → ℕ → List ℕ
in_list index n space k = set (set index (list_cell (capacity (length index)) space k) n) space (k + 1)

-- place x is neither that of a bucket nor that of the link of record n
pub record OffBucket (r n bucket x : ℕ) : Type 0 where
  pub off_bucket : x ≢ bucket_cell r bucket
  pub off_link : x ≢ link_cell r n

-- it is neither that of the count of a space nor that of number k in its list
pub record OffList (r space k x : ℕ) : Type 0 where
  pub off_count : x ≢ space
  pub off_list : x ≢ list_cell r space k

-- it is none of those that record n with its entry takes: at most four numbers of the index
pub record OffEntry (n : ℕ) (index : List ℕ) (e : Entry) (x : ℕ) : Type 0 where
  pub off_bucket : OffBucket (capacity (length index)) n e.bucket x
  pub off_list : e.space < 8 → OffList (capacity (length index)) e.space e.number x

-- the numbers of the index at all other places stay
abbrev pub OthersStay : ℕ → Entry → List ℕ → List ℕ → Type 0
OthersStay n e index index' = (x : ℕ) → OffEntry n index e x → get_or index' x 0 ≡ get_or index x 0
