-- What the entry point promises. Assumes nothing: these are definitions.
use Rattle.std.specs.Prelude.{◌≡◌, List, ℕ, ◌*◌, ◌<◌, ◌≤◌, length, get_or, replicate, Result, Ok, Err}
use Rattle.refusals.specs.Numbers.{number_of}
use Rattle.heads.specs.declared.heads.Head.{Head}
use Rattle.heads.specs.Heads.{Heads}
use Rattle.definition.specs.Memory.{off, table, Mem, Out, got, no}
use Rattle.definition.specs.Call.{Rooms, Call, input_of, graph, table_of, answer_of}
pub use Rattle.definition.specs.Call.{Answer}
use Rattle.laws.specs.Sound.{Proper}
use Rattle.laws.specs.ClosingKeeps.{begun}
use Rattle.assurance.specs.Guarantee.{Guaranteed}
use Rattle.assurance.specs.Unused.{zeros_from}
use Rattle.readers.specs.declared.state.State.{State}
use Rattle.readers.specs.declared.state.Refused.{Refused as WalkRefused}
use Rattle.cache_graph.specs.declared.parse.Call.{Call as CodeCall}
use Rattle.cache_graph.specs.declared.parse.Tables.{Tables}
use Rattle.cache_graph.specs.declared.parse.Graph.{Graph}
use Rattle.cache_graph.specs.declared.parse.Refused.{Refused}

-- what is entered, and the lengths of the four tables lent
abbrev pub call_of : List ℕ → List ℕ → List ℕ → List ℕ → Call
call_of sheet payload reservations trusted =
    record { sheet = sheet; payload = payload; reservations = reservations; trusted = trusted }

abbrev pub rooms_of : List ℕ → List ℕ → List ℕ → List ℕ → Rooms
rooms_of objects slots values addresses =
    record { objects = length objects; slots = length slots; values = length values; addresses = length addresses }

-- the same of the code's structs
abbrev pub entered : CodeCall → Call
entered c = call_of c.sheet.now c.payload.now c.reservations.now c.trusted.now

abbrev pub rooms_in : Tables → Rooms
rooms_in t = rooms_of t.objects.now t.slots.now t.values.now t.addresses.now

-- the answer as the definition's numbers
abbrev pub graph_answer : Graph → Answer
graph_answer g =
    record { number = 0; objects = g.objects; slots = g.slots; values = g.values; addresses = g.addresses; end = g.end; place = 0; long_integers = g.long_integers }

abbrev pub refused_answer : Refused → Answer
refused_answer e =
    record { number = number_of e.refusal; objects = 0; slots = 0; values = 0; addresses = 0; end = 0; place = e.place; long_integers = 0 }

abbrev pub answer : Result Graph Refused → Answer
answer (Ok g) = graph_answer g
answer (Err e) = refused_answer e

-- the number of a refusal: docs/FORMAT.md, "Refusals"
abbrev pub RefusalNumber : ℕ → Type 0
RefusalNumber n = (1 ≤ n) × (n ≤ 16)

-- what the definition gives of a call
abbrev pub IsAccepted : Call → Rooms → Type 0
IsAccepted c rooms = (m : Mem) × (graph c rooms ≡ got tt m)

abbrev pub IsRefused : Call → Rooms → Type 0
IsRefused c rooms = (n : ℕ) × (q : ℕ) × (m : Mem) × (graph c rooms ≡ no n q m)

-- the definition decides the graph: the answer, and every number of every table, after a refusal
-- too, are what the definition gives
pub record Reads (c : Call) (rooms : Rooms) (r : Answer) (objects slots values addresses : List ℕ) : Type 0 where
  pub outcome : r ≡ answer_of (graph c rooms)
  pub objects_are : objects ≡ table_of (λ m. m.objects) rooms.objects (graph c rooms)
  pub slots_are : slots ≡ table_of (λ m. m.slots) rooms.slots (graph c rooms)
  pub values_are : values ≡ table_of (λ m. m.values) rooms.values (graph c rooms)
  pub addresses_are : addresses ≡ table_of (λ m. m.addresses) rooms.addresses (graph c rooms)

-- the guarantees: what is guaranteed of an accepted payload under a plain sheet, of the tables as
-- the call leaves them
pub record Assures (c : Call) (rooms : Rooms) (r : Answer) (objects slots values addresses : List ℕ) : Type 0 where
  pub held : Mem
  pub accepted : graph c rooms ≡ got tt held
  pub guaranteed : Guaranteed c rooms held
  pub objects_held : held.objects ≡ table objects r.objects
  pub slots_held : held.slots ≡ table slots r.slots
  pub values_held : held.values ≡ table values r.values
  pub addresses_held : held.addresses ≡ table addresses r.addresses
  pub end_held : held.at ≡ r.end
  pub long_held : held.long_integers ≡ r.long_integers

-- the call writes what was lent, and lends nothing else in its place
pub record SameTables (t t' : Tables) : Type 0 where
  pub objects : t'.objects.ghost_name ≡ t.objects.ghost_name
  pub slots : t'.slots.ghost_name ≡ t.slots.ghost_name
  pub values : t'.values.ghost_name ≡ t.values.ghost_name
  pub addresses : t'.addresses.ghost_name ≡ t.addresses.ghost_name
  pub scratch : t'.scratch.ghost_name ≡ t.scratch.ghost_name

-- ---- the walk inside the call

-- what it answers, as the call does
abbrev pub graph_of : State → Graph
graph_of s = record { objects = s.objects; slots = s.slots; values = s.values; addresses = s.addresses; end = s.at; long_integers = s.long_integers }

abbrev pub refused_of : WalkRefused → Refused
refused_of e = record { refusal = e.refusal; place = e.place }

-- every number of four tables is zero
pub record Cleared (rooms : Rooms) (objects slots values addresses : List ℕ) : Type 0 where
  pub objects_zero : objects ≡ replicate rooms.objects 0
  pub slots_zero : slots ≡ replicate rooms.slots 0
  pub values_zero : values ≡ replicate rooms.values 0
  pub addresses_zero : addresses ≡ replicate rooms.addresses 0

abbrev pub AllZero : Rooms → Tables → Type 0
AllZero rooms t = Cleared rooms t.objects.now t.slots.now t.values.now t.addresses.now

-- the tables are as long as this, and what the walk reads before it writes it is zero
pub record Prepared (rooms : Rooms) (t : Tables) : Type 0 where
  pub objects_zero : t.objects.now ≡ replicate rooms.objects 0
  pub values_zero : t.values.now ≡ replicate rooms.values 0
  pub slots_length : length t.slots.now ≡ rooms.slots
  pub addresses_length : length t.addresses.now ≡ rooms.addresses
  pub first_slot : (i : ℕ) → i < 6 → get_or t.slots.now i 0 ≡ 0

-- it starts with a payload that it takes, the sheet's heads, and tables that are prepared
pub record Started (c : Call) (heads : List Head) (t : Tables) : Type 0 where
  pub proper : Proper (input_of c)
  pub decoded : Heads c.sheet heads
  pub prepared : Prepared (rooms_in t) t

-- what the definition starts with then
abbrev pub begun_in : Tables → Mem
begun_in t = begun (rooms_in t) t.slots.now t.addresses.now off

-- the slots and addresses of a graph are within their tables
pub record Fitting (g : Graph) (slots addresses : List ℕ) : Type 0 where
  pub slots_fit : g.slots * 6 ≤ length slots
  pub addresses_fit : g.addresses * 5 ≤ length addresses

-- where it accepts: what the definition holds then is the graph and the tables
pub record Ended (o : Out (Unit {0})) (g : Graph) (objects slots values addresses : List ℕ) : Type 0 where
  pub held : Mem
  pub ended : o ≡ got tt held
  pub graph_is : graph_answer g ≡ answer_of (got tt held)
  pub fitting : Fitting g slots addresses
  pub objects_are : objects ≡ held.objects.rows
  pub slots_are : slots ≡ held.slots.rows
  pub values_are : values ≡ held.values.rows
  pub addresses_are : addresses ≡ held.addresses.rows

abbrev pub Walked : Out (Unit {0}) → Result Graph Refused → List ℕ → List ℕ → List ℕ → List ℕ → Type 0
Walked o (Ok g) objects slots values addresses = Ended o g objects slots values addresses
Walked o (Err e) objects slots values addresses = (m : Mem) × (o ≡ no (number_of e.refusal) e.place m)

-- what the walk has not written is zero afterwards
pub record Trimmed (g : Graph) (t t' : Tables) : Type 0 where
  pub objects_same : t'.objects.now ≡ t.objects.now
  pub slots_rest : t'.slots.now ≡ zeros_from (g.slots * 6) t.slots.now
  pub values_same : t'.values.now ≡ t.values.now
  pub addresses_rest : t'.addresses.now ≡ zeros_from (g.addresses * 5) t.addresses.now
