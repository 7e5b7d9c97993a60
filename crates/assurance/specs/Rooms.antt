-- Larger tables get the same records, and the events of an accepted payload do not depend on the
-- tables' lengths; for every call and every sheet. Assumes nothing.
use Rattle.std.specs.Prelude.{◌≡◌, refl, Bool, true, false, ◌&&◌, List, [], ℕ, ◌-◌, ◌≤◌, max, get_or}
use Rattle.std.proofs.Common.{sym, ◌∙◌}
use Rattle.std.proofs.Math.Path.{ap, subst}
use native.Mathlib.Omega.{arith}
use Rattle.sheet.specs.Sheet.{is_legacy}
use Rattle.definition.specs.Memory.{Input, told, Table, Mem, Out, got, no}
use Rattle.definition.specs.Closing.{ends_legacy}
use Rattle.definition.specs.Call.{Rooms, Call, input_of, start, called, graph, events_of}
use Rattle.assurance.specs.Wider.{wide, wide_get}
use Rattle.assurance.specs.Simulate.{wider, longer, other, previous_wide}
use Rattle.assurance.specs.SimulateClosing.{Same}
use Rattle.assurance.specs.SimulateCall.{Variant, more, start-other, calls, called_start}

pub record Larger (rooms rooms' : Rooms) : Type 0 where
  pub objects_room : rooms.objects ≤ rooms'.objects
  pub slots_room : rooms.slots ≤ rooms'.slots
  pub values_room : rooms.values ≤ rooms'.values
  pub addresses_room : rooms.addresses ≤ rooms'.addresses

-- how much larger
abbrev pub excess : Rooms → Rooms → Rooms
excess rooms rooms' =
    record { objects = rooms'.objects - rooms.objects; slots = rooms'.slots - rooms.slots; values = rooms'.values - rooms.values; addresses = rooms'.addresses - rooms.addresses }

-- the same cursor, counts, state and events; each table with that many zeros after it
abbrev pub roomier : Rooms → Rooms → Mem → Mem
roomier rooms rooms' = other (longer (excess rooms rooms')) (λ l. l)

same_fields : (a b : Rooms) → a.objects ≡ b.objects → a.slots ≡ b.slots → a.values ≡ b.values → a.addresses ≡ b.addresses → a ≡ b
same_fields a b o s v d = λ i. record { objects = o i; slots = s i; values = v i; addresses = d i }

more-excess : (rooms rooms' : Rooms) → Larger rooms rooms' → more rooms (excess rooms rooms') ≡ rooms'
more-excess rooms rooms' l = same_fields _ _ (omega (arith, l.objects_room)) (omega (arith, l.slots_room)) (omega (arith, l.values_room)) (omega (arith, l.addresses_room))

-- in a legacy closing section refusal 3 still refuses
no_room : (x : Input) (n : ℕ) → ends_legacy x n ≡ true → n ≡ 3 → ⊥
no_room x n e f = go (is_legacy x.sheet) (rw f at e)
  where
    go : (t : Bool) → t && false ≡ true → ⊥
    go true z = let w : ◌≡◌ {A = ℕ} 0 1 = cc in omega arith
    go false z = let w : ◌≡◌ {A = ℕ} 0 1 = cc in omega arith

module _ (c : Call) (rooms rooms' : Rooms) (l : Larger rooms rooms') where
  -- all refusals but 3 are compared
  abbrev larger : Variant (input_of c)
  larger =
      record { maps = longer (excess rooms rooms'); h = (λ l. l); Compared = (λ n. n ≡ 3 → ⊥); Filed = (λ _. Unit {0}); on_note = (λ e l. refl); on_filed = (λ t l. tt); previous_same = (λ t f. previous_wide (rooms'.slots - rooms.slots) t); compared_full = (λ v. absurd (v refl)); legacy_compared = no_room (input_of c) }

  graph_same : Same (calls c rooms larger) (graph c rooms) (graph c rooms')
  unfolding graph
  graph_same =
      subst (λ (m : Mem). Same (calls c rooms larger) (called c (start rooms (told []))) (called c m)) (start-other rooms (excess rooms rooms') (λ l. l) (told []) ∙ ap (λ r. start r (told [])) (more-excess rooms rooms' l))
      (called_start c rooms larger tt (told []))

  -- THE THEOREM: an accepted payload is accepted with larger tables, and they hold the same, then
  -- zeros
  pub larger_accepted : (m : Mem) → graph c rooms ≡ got tt m → graph c rooms' ≡ got tt (roomier rooms rooms' m)
  larger_accepted m e = subst (λ (o : Out (Unit {0})). Same (calls c rooms larger) o (graph c rooms')) e graph_same

  -- and one refused for another reason than room is refused in the same way
  pub larger_refused : (n q : ℕ) (m : Mem) → graph c rooms ≡ no n q m → (n ≡ 3 → ⊥) → graph c rooms' ≡ no n q (roomier rooms rooms' m)
  larger_refused n q m e f = subst (λ (o : Out (Unit {0})). Same (calls c rooms larger) o (graph c rooms')) e graph_same f

-- ---- whatever the rooms

abbrev SameRows : Table → Table → Type 0
SameRows t t' = (i : ℕ) → get_or t'.rows i 0 ≡ get_or t.rows i 0

-- the same cursor, counts, events, and fields of every record
pub record SameRecords (m m' : Mem) : Type 0 where
  pub at_same : m'.at ≡ m.at
  pub objects_same : m'.objects.count ≡ m.objects.count
  pub slots_same : m'.slots.count ≡ m.slots.count
  pub values_same : m'.values.count ≡ m.values.count
  pub addresses_same : m'.addresses.count ≡ m.addresses.count
  pub long_same : m'.long_integers ≡ m.long_integers
  pub log_same : m'.log ≡ m.log
  pub object_rows : SameRows m.objects m'.objects
  pub slot_rows : SameRows m.slots m'.slots
  pub value_rows : SameRows m.values m'.values
  pub address_rows : SameRows m.addresses m'.addresses

wide_same : (k k' : ℕ) (t t' : List ℕ) → wide k t ≡ wide k' t' → (i : ℕ) → get_or t' i 0 ≡ get_or t i 0
wide_same k k' t t' e i = sym (wide_get k' t' i) ∙ ap (λ (l : List ℕ). get_or l i 0) (sym e) ∙ wide_get k t i

got_is : {m m' : Mem} → ◌≡◌ {A = Out (Unit {0})} (got tt m) (got tt m') → m ≡ m'
got_is e = cc

both : Rooms → Rooms → Rooms
both a b = record { objects = max a.objects b.objects; slots = max a.slots b.slots; values = max a.values b.values; addresses = max a.addresses b.addresses }

module _ (c : Call) (rooms rooms' : Rooms) (m m' : Mem) (e : graph c rooms ≡ got tt m) (e' : graph c rooms' ≡ got tt m') where
  meet : roomier rooms (both rooms rooms') m ≡ roomier rooms' (both rooms rooms') m'
  unfolding both
  meet =
      got_is (sym (larger_accepted c rooms (both rooms rooms') (record { objects_room = omega arith; slots_room = omega arith; values_room = omega arith; addresses_room = omega arith }) m e)
      ∙ larger_accepted c rooms' (both rooms rooms') (record { objects_room = omega arith; slots_room = omega arith; values_room = omega arith; addresses_room = omega arith }) m' e')

  rows_same : (f : Mem → Table) (k : Rooms → ℕ) → ((extra : Rooms) (m : Mem) → f (other (longer extra) (λ l. l) m) ≡ wider (k extra) (f m)) → SameRows (f m) (f m')
  rows_same f k w =
      wide_same (k (excess rooms (both rooms rooms'))) (k (excess rooms' (both rooms rooms'))) (f m).rows (f m').rows
      (ap (λ t. t.rows) (sym (w _ m)) ∙ ap (λ m. (f m).rows) meet ∙ ap (λ t. t.rows) (w _ m'))

  -- THE THEOREM, of two calls that are both accepted
  pub any_rooms : SameRecords m m'
  any_rooms =
      record {
        at_same = ap (λ m. m.at) (sym meet);
        objects_same = ap (λ m. m.objects.count) (sym meet);
        slots_same = ap (λ m. m.slots.count) (sym meet);
        values_same = ap (λ m. m.values.count) (sym meet);
        addresses_same = ap (λ m. m.addresses.count) (sym meet);
        long_same = ap (λ m. m.long_integers) (sym meet);
        log_same = ap (λ m. m.log) (sym meet);
        object_rows = rows_same (λ m. m.objects) (λ r. r.objects) (λ e m. refl);
        slot_rows = rows_same (λ m. m.slots) (λ r. r.slots) (λ e m. refl);
        value_rows = rows_same (λ m. m.values) (λ r. r.values) (λ e m. refl);
        address_rows = rows_same (λ m. m.addresses) (λ r. r.addresses) (λ e m. refl);
      }

  -- nor do the events depend on the tables' lengths
  pub events_same : events_of (graph c rooms') ≡ events_of (graph c rooms)
  events_same = rw (e, e', any_rooms.log_same)
