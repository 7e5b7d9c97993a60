-- Slots and items, as the code adds them. Assumes nothing: these are definitions.
use Rattle.std.specs.Prelude.{ℕ, ◌+◌, ◌^◌, ◌<◌, ◌≤◌}
use Rattle.sheet.specs.Sheet.{word_bytes}
use Rattle.tables.specs.declared.values.Fields.{Fields}
use Rattle.tables.specs.declared.values.SlotValue.{SlotValue}
use Rattle.tables.specs.Values.{width_of}
use Rattle.tables.specs.Records.{room, Countable}
use Rattle.definition.specs.Memory.{in_slot, Reader}
use Rattle.definition.specs.Slots.{add_slot}
use Rattle.readers.specs.declared.state.State.{State}
use Rattle.readers.specs.declared.walker.Walker.{Walker}
use Rattle.objects.specs.declared.item.Level.{Level}

-- a slot record (where its value is kept is told to nobody here)
abbrev pub slot_of : ℕ → ℕ → Fields → ℕ → Reader ℕ
slot_of o index f waits = add_slot o index f waits in_slot

-- an item with this value can be added to its object: the object has its record, and none of the
-- sums overflows
pub record ItemFits (w : Walker) (s : State) (l : Level) (v : SlotValue) : Type 0 where
  pub listed : l.object < room 4 w.objects.now
  pub slots : Countable w.objects.now l.object
  pub waiting : s.waiting < 2 ^ 63
  pub word_low : word_bytes w.sheet.now ≤ 8
  pub end : l.done + s.skip + width_of (word_bytes w.sheet.now) v < 2 ^ 64
