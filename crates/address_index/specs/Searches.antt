-- The search in the index of some records. Assumes nothing: these are definitions.
use Rattle.std.specs.Prelude.{◌≡◌, List, ℕ}
use Rattle.address_index.specs.declared.search.Search.{Search}

-- a search among the first n records of a table
pub record Searches (t : List ℕ) (n : ℕ) (s : Search) : Type 0 where
  pub same_table : s.table.now ≡ t
  pub same_count : s.count ≡ n
