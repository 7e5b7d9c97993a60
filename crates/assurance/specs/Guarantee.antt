-- The guarantees whole: what is assured of an accepted payload, what holds of every second payload,
-- and that none of it is read off the tables. Assumes nothing: these are definitions.
use Rattle.std.specs.Prelude.{◌≡◌, List, ℕ, ◌+◌, ◌≤◌, length, take}
use Rattle.definition.specs.Memory.{Mem, got}
use Rattle.definition.specs.Call.{Rooms, Call, graph}
use Rattle.assurance.specs.Words.{events}
use Rattle.assurance.specs.Assured.{Assured}
use Rattle.assurance.specs.Prefix.{Second}

-- of a call c that is accepted with what m has
pub record Guaranteed (c : Call) (rooms : Rooms) (m : Mem) : Type 0 where
  pub graph_assured : Assured c rooms m.objects m.slots m.values m.addresses m.at
  -- a second payload within the length limit that begins with the accepted one through the
  -- kSynchronize that ends its closing section: accepted exactly when only kNop follows, and then
  -- with the same graph
  pub second : (p' : List ℕ) → length p' ≤ 16777216 → take (graph_assured.final + 1) p' ≡ take (graph_assured.final + 1) c.payload → Second c rooms m graph_assured.final p'
  -- what is read does not depend on the tables: another call with other rooms, if it is accepted,
  -- reads the same, and as many long integers
  pub events_of_payload : (rooms' : Rooms) (m' : Mem) → graph c rooms' ≡ got tt m' → events c rooms' ≡ events c rooms
  pub long_of_payload : (rooms' : Rooms) (m' : Mem) → graph c rooms' ≡ got tt m' → m'.long_integers ≡ m.long_integers
