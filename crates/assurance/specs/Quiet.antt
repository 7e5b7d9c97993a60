-- What a call gives does not depend on whether its events are recorded, for every call and every
-- sheet. Assumes nothing.
use Rattle.std.specs.Prelude.{◌≡◌, refl, [], ℕ}
use Rattle.std.proofs.Math.Path.{ap}
use Rattle.std.proofs.Common.{◌∙◌, append-nil}
use Rattle.definition.specs.Memory.{Input, Log, off, told, Table, Mem, Out, got, no}
use Rattle.definition.specs.Call.{Rooms, Call, input_of, start, called, graph, answer_of, table_of}
use Rattle.assurance.specs.Simulate.{longer, other, same_rooms, same_lengths, previous_wide}
use Rattle.assurance.specs.SimulateClosing.{Same}
use Rattle.assurance.specs.SimulateCall.{Variant, calls, called_start}

-- the same, without events
abbrev pub quieted : Mem → Mem
quieted m =
    record
    { at = m.at; objects = m.objects; slots = m.slots; values = m.values; addresses = m.addresses; hot = m.hot; pending = m.pending; waiting = m.waiting; skip = m.skip; alignment = m.alignment; alloc = m.alloc; long_integers = m.long_integers; log = off }

abbrev pub quiet : {A : Type 0} → Out A → Out A
quiet (got a m) = got a (quieted m)
quiet (no n q m) = no n q (quieted m)

-- the second reading records no event
other-quiet : (m : Mem) → other (longer same_rooms) (λ _. off) m ≡ quieted m
other-quiet m = simp append-nil

start-quiet : (rooms : Rooms) (l : Log) → other (longer same_rooms) (λ _. off) (start rooms l) ≡ start rooms off
start-quiet rooms l = simp append-nil

unrecorded : (x : Input) → Variant x
unrecorded x =
    record { maps = longer same_rooms; h = (λ _. off); Compared = (λ _. Unit {0}); Filed = (λ _. Unit {0}); on_note = (λ e l. refl); on_filed = (λ t l. tt); previous_same = (λ t f. previous_wide 0 t); compared_full = (λ v. same_lengths); legacy_compared = (λ n e. tt) }

module _ (c : Call) (rooms : Rooms) where
  -- THE THEOREM
  pub called_quiet : (l : Log) → called c (start rooms off) ≡ quiet (called c (start rooms l))
  unfolding unrecorded
  called_quiet l = rw (← start-quiet rooms l) (go (called c (start rooms l)) (called_start c rooms (unrecorded (input_of c)) tt l))
    where
      go : (o : Out (Unit {0})) {o' : Out (Unit {0})} → Same (calls c rooms (unrecorded (input_of c))) o o' → o' ≡ quiet o
      go (got a m) e = e ∙ ap (got a) (other-quiet m)
      go (no n q m) e = e tt ∙ ap (no n q) (other-quiet m)

  pub graph_quiet : called c (start rooms off) ≡ quiet (graph c rooms)
  unfolding graph
  graph_quiet = called_quiet (told [])

  -- the outcome and each table
  pub answer_quiet : answer_of (called c (start rooms off)) ≡ answer_of (graph c rooms)
  answer_quiet = rw graph_quiet (go (graph c rooms))
    where
      go : (o : Out (Unit {0})) → answer_of (quiet o) ≡ answer_of o
      go (got a m) = refl
      go (no n q m) = refl

  pub table_quiet : (t : Mem → Table) (length : ℕ) → ((m : Mem) → t (quieted m) ≡ t m) → table_of t length (called c (start rooms off)) ≡ table_of t length (graph c rooms)
  table_quiet t length e = rw graph_quiet (go (graph c rooms))
    where
      go : (o : Out (Unit {0})) → table_of t length (quiet o) ≡ table_of t length o
      go (got a m) = ap (λ r. r.rows) (e m)
      go (no n q m) = refl
