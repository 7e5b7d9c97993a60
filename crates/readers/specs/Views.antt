-- What the code holds, as the definition's `Mem`, and what it answers, as an `Out`. Nobody listens
-- to code. Assumes nothing: these are definitions.
use Rattle.std.specs.Prelude.{List, ℕ, ◌<◌, ◌≤◌, Result, Ok, Err}
use Rattle.refusals.specs.declared.refusal.Refusal.{Refusal}
use Rattle.refusals.specs.declared.refusal.Refusal.TheVariants.{PayloadEnds}
use Rattle.refusals.specs.Numbers.{number_of}
use Rattle.alloc.specs.declared.legacy_alloc.LegacyAlloc.{LegacyAlloc}
use Rattle.backref.specs.declared.hot_ring.HotRing.{HotRing}
use Rattle.definition.specs.Memory.{Input, off, table, Mem, Out, got, no}
use Rattle.readers.specs.declared.state.State.{State}
use Rattle.readers.specs.declared.state.Refused.{Refused}

abbrev pub input : List ℕ → List ℕ → ℕ → List ℕ → Input
input sheet payload spaces trusted = record { sheet = sheet; payload = payload; spaces = spaces; trusted = trusted }

-- what is lent beside the state: the four tables, the hot ring and the counters of each space
pub record Lent : Type 0 where
  pub objects : List ℕ
  pub slots : List ℕ
  pub values : List ℕ
  pub addresses : List ℕ
  pub hot : HotRing
  pub alloc : LegacyAlloc

abbrev pub mem : State → Lent → Mem
mem s l =
    record
    { at = s.at; objects = table l.objects s.objects; slots = table l.slots s.slots; values = table l.values s.values; addresses = table l.addresses s.addresses; hot = l.hot; pending = s.pending; waiting = s.waiting; skip = s.skip; alignment = s.alignment; alloc = l.alloc; long_integers = s.long_integers; log = off }

-- what a reader answers
abbrev pub Answer : Type 0 → Type 0
Answer A = Result (A × State) Refused

abbrev pub seen : {A : Type 0} → Answer A → Lent → Out A
seen (Ok r) l = got r.0 (mem r.1 l)
seen (Err e) l = no (number_of e.refusal) e.place (mem e.state l)

-- a refusal at a place, and one because the payload of so many bytes has ended
abbrev pub refused_at : Refusal → ℕ → State → Refused
refused_at r q s = record { refusal = r; place = q; state = s }

abbrev pub moved_to : ℕ → State → State
moved_to at s = record s { at = at }

-- so many integers in all were longer than their values need, each of which had a byte at least
abbrev pub Counts : State → Type 0
Counts s = s.long_integers ≤ s.at

abbrev pub CountsAfter : {A : Type 0} → Result (A × State) Refused → Type 0
CountsAfter (Ok r) = Counts r.1
CountsAfter (Err e) = Unit {0}

abbrev pub cut_at : ℕ → State → Refused
cut_at size s = refused_at PayloadEnds size (moved_to size s)

-- an integer's value has 30 bits, a byte's 8
abbrev pub Below : ℕ → Answer ℕ → Type 0
Below bound (Ok r) = r.0 < bound
Below bound (Err e) = Unit {0}

-- the same with other contents of one thing lent
abbrev pub objects_is : List ℕ → Lent → Lent
objects_is t l = record { objects = t; slots = l.slots; values = l.values; addresses = l.addresses; hot = l.hot; alloc = l.alloc }

abbrev pub slots_is : List ℕ → Lent → Lent
slots_is t l = record { objects = l.objects; slots = t; values = l.values; addresses = l.addresses; hot = l.hot; alloc = l.alloc }

abbrev pub values_is : List ℕ → Lent → Lent
values_is t l = record { objects = l.objects; slots = l.slots; values = t; addresses = l.addresses; hot = l.hot; alloc = l.alloc }

abbrev pub addresses_is : List ℕ → Lent → Lent
addresses_is t l = record { objects = l.objects; slots = l.slots; values = l.values; addresses = t; hot = l.hot; alloc = l.alloc }

abbrev pub hot_is : HotRing → Lent → Lent
hot_is t l = record { objects = l.objects; slots = l.slots; values = l.values; addresses = l.addresses; hot = t; alloc = l.alloc }

abbrev pub alloc_is : LegacyAlloc → Lent → Lent
alloc_is c l = record { objects = l.objects; slots = l.slots; values = l.values; addresses = l.addresses; hot = l.hot; alloc = c }
