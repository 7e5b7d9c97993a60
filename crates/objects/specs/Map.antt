-- What follows an object's map, as the code reads it. Assumes nothing: these are definitions.
use Rattle.std.specs.Prelude.{if◌then◌else◌, ◌≡◌, Bool, ℕ, ◌-◌, length}
use Rattle.sheet.specs.Sheet.{is_legacy, is_map_first}
use Rattle.tables.specs.declared.values.SlotValue.{SlotValue}
use Rattle.definition.specs.Memory.{Input, Reader, ◌>>◌, give, change, aligned}
use Rattle.readers.specs.declared.walker.Walker.{Walker}
use Rattle.readers.specs.Views.{addresses_is, alloc_is}
use Rattle.readers.specs.Lent.{lent_of, Fixed}
use Rattle.definition.specs.Object.{alignment_byte, chunk_changes, allocate, flags, keep_map}

-- after the map of object o: what `read_map` does when the map has been read
abbrev pub after_map : Input → ℕ → ℕ → ℕ → ℕ → Reader (Unit {0})
after_map x before space bytes o =
    if is_map_first x.sheet then change (aligned before)
    >> alignment_byte x
    >> (λ m. chunk_changes x space (length x.payload - m.at) m)
    >> allocate x space bytes o
    else if is_legacy x.sheet then allocate x space bytes o else give tt

abbrev pub is_flagged : Input → SlotValue → Bool
is_flagged x v = flags x v

abbrev pub map_kept : Input → ℕ → SlotValue → Reader (Unit {0})
map_kept x o v = keep_map x o v

-- of all that is lent, an address record, the counters and the index alone may change
pub record AddressAlone (w w' : Walker) : Type 0 where
  pub fixed : Fixed w w'
  pub lent : lent_of w' ≡ addresses_is w'.addresses.now (alloc_is w'.alloc (lent_of w))
  pub pending : w'.pending.now ≡ w.pending.now
