-- A walker, as the definition's input and what is lent. Assumes nothing: these are definitions.
use Rattle.std.specs.Prelude.{◌≡◌, ◌<◌, ◌≤◌, ℕ, true, length, get_or}
use Rattle.sheet.specs.Sheet.{usable}
use Rattle.heads.specs.declared.heads.Head.{Head}
use Rattle.heads.specs.Heads.{head_at}
use Rattle.tables.specs.Records.{room}
use Rattle.address_index.specs.Links.{Linked}
use Rattle.address_index.specs.Sorted.{Sorted}
use Rattle.definition.specs.Memory.{Input}
use Rattle.readers.specs.declared.walker.Walker.{Walker}
use Rattle.readers.specs.Views.{Lent, input}

abbrev pub input_of : Walker → Input
input_of w = input w.sheet.now w.payload.now w.spaces w.trusted.now

abbrev pub lent_of : Walker → Lent
lent_of w =
    record { objects = w.objects.now; slots = w.slots.now; values = w.values.now; addresses = w.addresses.now; hot = w.hot; alloc = w.alloc }

-- neither part of scratch changes
abbrev pub SameScratch : Walker → Walker → Type 0
SameScratch w w' = (w'.pending.now ≡ w.pending.now) × (w'.index.now ≡ w.index.now)

-- the first n address records are there, and in the index in the order of their addresses
pub record Addressed (w : Walker) (n : ℕ) : Type 0 where
  pub usable : usable w.sheet.now ≡ true
  pub within : n ≤ room 5 w.addresses.now
  pub linked : Linked w.addresses.now n w.index.now
  pub sorted : Sorted w.addresses.now n

-- what no reader changes: what is only read, and which tables and scratch are lent
pub record Fixed (w w' : Walker) : Type 0 where
  pub sheet : w'.sheet ≡ w.sheet
  pub heads : w'.heads ≡ w.heads
  pub trusted : w'.trusted ≡ w.trusted
  pub payload : w'.payload ≡ w.payload
  pub spaces : w'.spaces ≡ w.spaces
  pub objects : w'.objects.ghost_name ≡ w.objects.ghost_name
  pub slots : w'.slots.ghost_name ≡ w.slots.ghost_name
  pub values : w'.values.ghost_name ≡ w.values.ghost_name
  pub addresses : w'.addresses.ghost_name ≡ w.addresses.ghost_name
  pub pending : w'.pending.ghost_name ≡ w.pending.ghost_name
  pub index : w'.index.ghost_name ≡ w.index.ghost_name

-- nor scratch
abbrev pub Kept : Walker → Walker → Type 0
Kept w w' = Fixed w w' × SameScratch w w'

-- nor the places of pending numbers; nor the index of legacy addresses
abbrev pub PendingKept : Walker → Walker → Type 0
PendingKept w w' = Fixed w w' × (w'.pending.now ≡ w.pending.now)

abbrev pub IndexKept : Walker → Walker → Type 0
IndexKept w w' = Fixed w w' × (w'.index.now ≡ w.index.now)

-- no table, neither ring nor counters, and no index of legacy addresses changes
abbrev pub Untouched : Walker → Walker → Type 0
Untouched w w' = (lent_of w' ≡ lent_of w) × (w'.index.now ≡ w.index.now)

-- a byte stands at a place, and this is what it means as a head
pub record HeadAt (w : Walker) (at : ℕ) (h : Head) : Type 0 where
  pub inside : at < length w.payload.now
  pub low : get_or w.payload.now at 0 < 256
  pub is : h ≡ head_at w.heads.now (get_or w.payload.now at 0)
