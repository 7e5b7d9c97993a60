-- A second payload that begins as an accepted one does, through the kSynchronize that ends its
-- closing section. Assumes nothing: these are definitions.
use Rattle.std.specs.Prelude.{◌≡◌, List, ℕ, ◌+◌, length}
use Rattle.definition.specs.Memory.{Mem, got, moved}
use Rattle.definition.specs.Call.{Rooms, Call, graph}
use Rattle.assurance.specs.Padding.{Padded}

-- a call with another payload
abbrev pub with_payload : List ℕ → Call → Call
with_payload p' c = record { sheet = c.sheet; payload = p'; reservations = c.reservations; trusted = c.trusted }

-- ---- what holds of a second payload

-- of a second payload p' that begins with that of the call c through the kSynchronize at q: it is
-- accepted exactly when no byte but kNop follows, and then has the same graph, and the same events
pub record Second (c : Call) (rooms : Rooms) (m : Mem) (q : ℕ) (p' : List ℕ) : Type 0 where
  pub only_if : (m' : Mem) → graph (with_payload p' c) rooms ≡ got tt m' → Padded c.sheet p' (q + 1)
  pub if_so : Padded c.sheet p' (q + 1) → graph (with_payload p' c) rooms ≡ got tt (moved (length p') m)
