-- A whole call: its checks, the walk of the payload, and what it leaves in the tables. Assumes
-- nothing: these are definitions.
use Rattle.std.specs.Prelude.{if◌then◌else◌, Bool, ◌||◌, List, [], ℕ, ◌-◌, ltb, length, replicate}
use Rattle.sheet.specs.Names.{k_new_object}
use Rattle.sheet.specs.Sheet.{number, is_legacy, usable}
use Rattle.sheet.specs.Tests.{opens}
use Rattle.alloc.specs.Allocation.{spaces_of, zero_counters}
use Rattle.backref.specs.HotRing.{empty_ring}
use Rattle.definition.specs.Memory.{Input, Event, Log, off, told, Table, table, Mem, Out, got, no, Reader, ◌>>=◌, ◌>>◌, refuse_at, byte}
use Rattle.definition.specs.Object.{object}
use Rattle.definition.specs.Reference.{ref_at}
use Rattle.definition.specs.Closing.{closing}

-- how many numbers each of the four tables lent has; a table's room is that divided by its record's
-- fields
pub record Rooms : Type 0 where
  pub objects : ℕ
  pub slots : ℕ
  pub values : ℕ
  pub addresses : ℕ

-- what a call enters: sheet, payload, reservations, trusted list
pub record Call : Type 0 where
  pub sheet : List ℕ
  pub payload : List ℕ
  pub reservations : List ℕ
  pub trusted : List ℕ

-- what the walk has of it
abbrev pub input_of : Call → Input
input_of c =
    record { sheet = c.sheet; payload = c.payload; spaces = spaces_of c.reservations; trusted = c.trusted }

-- an empty table of so many numbers, and what a call starts with
abbrev pub empty : ℕ → Table
empty length = table (replicate length 0) 0

abbrev pub start : Rooms → Log → Mem
start rooms log =
    record
    { at = 0; objects = empty rooms.objects; slots = empty rooms.slots; values = empty rooms.values; addresses = empty rooms.addresses; hot = empty_ring; pending = 0; waiting = 0; skip = 0; alignment = 0; alloc = zero_counters; long_integers = 0; log = log }

-- the top object's space, in legacy
abbrev pub top_space : Input → ℕ → ℕ
top_space x b = if is_legacy x.sheet then b - number x.sheet k_new_object else 0

-- the first byte opens the top object, at depth 0 (else refusal 5; difference D19); then the
-- closing section
unfoldable pub walk : Input → Reader (Unit {0})
walk x =
    byte x
    >>= (λ b. if opens x.sheet b then object x (ref_at x 64) (top_space x b) 0 else refuse_at 5 0)
    >> closing x

-- refusals 1 and 2 come first
abbrev pub too_long : Call → Bool
too_long c = ltb 16777216 (length c.payload) || ltb 65536 (length c.reservations)

unfoldable pub called : Call → Reader (Unit {0})
called c = if usable c.sheet then (if too_long c then refuse_at 2 0 else walk (input_of c)) else refuse_at 1 0

-- the reading of a call's payload, with its events
unfoldable pub graph : Call → Rooms → Out (Unit {0})
graph c rooms = called c (start rooms (told []))

-- what is left in a table of so many numbers: the records and zeros; after a refusal all zeros
abbrev pub table_of : (Mem → Table) → ℕ → Out (Unit {0}) → List ℕ
table_of t length (got v m) = (t m).rows
table_of t length (no n q m) = replicate length 0

-- the outcome as numbers: the refusal or 0; then the four record counts, `end` and the number of
-- long integers, or the place
pub record Answer : Type 0 where
  pub number : ℕ
  pub objects : ℕ
  pub slots : ℕ
  pub values : ℕ
  pub addresses : ℕ
  pub end : ℕ
  pub place : ℕ
  pub long_integers : ℕ

abbrev pub answer_of : Out (Unit {0}) → Answer
answer_of (got v m) =
    record
    { number = 0; objects = m.objects.count; slots = m.slots.count; values = m.values.count; addresses = m.addresses.count; end = m.at; place = 0; long_integers = m.long_integers }
answer_of (no n q m) = record { number = n; objects = 0; slots = 0; values = 0; addresses = 0; end = 0; place = q; long_integers = 0 }

-- the events of a reading, the latest first; of a refused payload none
abbrev pub told_of : Log → List Event
told_of off = []
told_of (told es) = es

abbrev pub events_of : Out (Unit {0}) → List Event
events_of (got v m) = told_of m.log
events_of (no n q m) = []
