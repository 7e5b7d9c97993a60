-- Records of a space by their numbers in it, and which of them lie after an address. Assumes
-- nothing: these are definitions.
use Rattle.std.specs.Prelude.{◌≡◌, true, false, List, ℕ, ◌<◌, ◌≤◌}
use Rattle.address_index.specs.Links.{space_of, count_in}
use Rattle.address_index.specs.Sorted.{is_after}

-- of the first n records, record i has number k in a space
pub record Numbered (t : List ℕ) (n space k i : ℕ) : Type 0 where
  pub within : i < n
  pub of_space : space_of t i ≡ space
  pub number : count_in t space i ≡ k

-- those numbered from k on lie after the address
abbrev pub AfterFrom : List ℕ → ℕ → ℕ → ℕ → ℕ → ℕ → Type 0
AfterFrom t n space chunk offset k = (i : ℕ) → i < n → space_of t i ≡ space → k ≤ count_in t space i → is_after t i chunk offset ≡ true

-- and those below k do not
abbrev pub NoneAfterBelow : List ℕ → ℕ → ℕ → ℕ → ℕ → ℕ → Type 0
NoneAfterBelow t n space chunk offset k = (i : ℕ) → i < n → space_of t i ≡ space → count_in t space i < k → is_after t i chunk offset ≡ false

-- k is how many of the space do not lie after it
pub record Parts (t : List ℕ) (n space chunk offset k : ℕ) : Type 0 where
  pub low : k ≤ count_in t space n
  pub below : NoneAfterBelow t n space chunk offset k
  pub from : AfterFrom t n space chunk offset k
