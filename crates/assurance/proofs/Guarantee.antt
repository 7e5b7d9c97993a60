-- The guarantees whole: what is assured of an accepted payload, what holds of every second payload,
-- and that none of it is read off the tables. Assumes nothing.
use Rattle.std.specs.Prelude.{◌≡◌, ℕ, length, replicate}
use Rattle.definition.specs.Memory.{Table, Mem, no}
use Rattle.definition.specs.Call.{Rooms, Call, graph, table_of}
use Rattle.assurance.specs.Words.{Accepted}
use Rattle.assurance.proofs.Assured.{assured}
use Rattle.assurance.specs.Rooms.{any_rooms, events_same}
use Rattle.assurance.proofs.Prefix.{second_payload}
use Rattle.assurance.specs.Guarantee.{Guaranteed}

-- THE THEOREM: of every accepted payload under a plain sheet
pub guaranteed : (c : Call) (rooms : Rooms) (m : Mem) → Accepted c rooms m → Guaranteed c rooms m
guaranteed c rooms m a =
    let s = assured c rooms m a in
    record {
      graph_assured = s;
      second = λ p' short same. second_payload c rooms m a s.final s.final_ends_closing p' short same;
      events_of_payload = λ rooms' m' e. events_same c rooms rooms' m m' a.accepted e;
      long_of_payload = λ rooms' m' e. (any_rooms c rooms rooms' m m' a.accepted e).long_same;
    }

-- a refusal leaves every table zero
pub refused-zero : (c : Call) (rooms : Rooms) (n q : ℕ) (m : Mem) → graph c rooms ≡ no n q m → (t : Mem → Table) (length : ℕ) → table_of t length (graph c rooms) ≡ replicate length 0
refused-zero c rooms n q m e t length = rw e
