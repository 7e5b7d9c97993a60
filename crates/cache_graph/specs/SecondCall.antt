-- What holds of two calls, of what the entry point promises of them: a second payload that begins
-- as an accepted one does, through the kSynchronize that ends its closing section, all else lent
-- the same, is accepted exactly when only kNop follows, and then has the same graph. Assumes
-- nothing: these are definitions.
use Rattle.std.specs.Prelude.{◌≡◌, List, ℕ, ◌+◌, ◌≤◌, length, take}
use Rattle.definition.specs.Call.{Rooms, Call, Answer}
use Rattle.assurance.specs.Words.{events, EndsAt}
use Rattle.assurance.specs.Padding.{Padded}
use Rattle.assurance.specs.Prefix.{with_payload}
use Rattle.cache_graph.specs.declared.parse.Tables.{Tables}
use Rattle.cache_graph.specs.Promise.{Reads}

-- the same graph: the four record counts, the number of long integers and every number of every
-- table
pub record SameGraph (r r' : Answer) (ot st vt dt ot' st' vt' dt' : List ℕ) : Type 0 where
  pub accepted : r'.number ≡ 0
  pub objects : r'.objects ≡ r.objects
  pub slots : r'.slots ≡ r.slots
  pub values : r'.values ≡ r.values
  pub addresses : r'.addresses ≡ r.addresses
  pub long_integers : r'.long_integers ≡ r.long_integers
  pub same_objects : ot' ≡ ot
  pub same_slots : st' ≡ st
  pub same_values : vt' ≡ vt
  pub same_addresses : dt' ≡ dt

-- a payload within the limit that begins with that of the call c through place `final`
pub record BeginsWith (c : Call) (final : ℕ) (p' : List ℕ) : Type 0 where
  pub within_limit : length p' ≤ 16777216
  pub same_start : take (final + 1) p' ≡ take (final + 1) c.payload

-- of every second call, which answers r' and leaves the tables ot' to dt', after the call c that
-- answered r and left ot to dt
pub record SecondCalls (c : Call) (rooms : Rooms) (r : Answer) (ot st vt dt : List ℕ) : Type 0 where
  -- where the closing section of the first payload ends
  pub final : ℕ
  pub ends_closing : EndsAt final (events c rooms)
  pub accepted_only_if : (p' : List ℕ) → BeginsWith c final p' → (r' : Answer) (ot' st' vt' dt' : List ℕ) →
      Reads (with_payload p' c) rooms r' ot' st' vt' dt' → r'.number ≡ 0 → Padded c.sheet p' (final + 1)
  pub same_graph : (p' : List ℕ) → BeginsWith c final p' → (r' : Answer) (ot' st' vt' dt' : List ℕ) →
      Reads (with_payload p' c) rooms r' ot' st' vt' dt' → Padded c.sheet p' (final + 1) →
      SameGraph r r' ot st vt dt ot' st' vt' dt'

-- the same of the code's tables
abbrev pub SecondCallsIn : Call → Rooms → Answer → Tables → Type 0
SecondCallsIn c rooms r t =
    SecondCalls c rooms r t.objects.now t.slots.now t.values.now t.addresses.now
