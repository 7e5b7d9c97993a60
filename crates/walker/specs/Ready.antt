-- What holds at the start of each of the readers that call each other, and the parts of an object
-- that they read. Assumes nothing: these are definitions.
use Rattle.std.specs.Prelude.{ℕ, ◌+◌, ◌-◌, ◌*◌, ◌^◌, ◌<◌, ◌≤◌, length}
use Rattle.heads.specs.Heads.{Heads}
use Rattle.tables.specs.declared.values.SlotValue.{SlotValue}
use Rattle.address_index.specs.Links.{Linked}
use Rattle.definition.specs.Memory.{Input, word, table, Reader, ◌>>=◌, ◌>>◌, give}
use Rattle.definition.specs.Object.{read_map, keep_map, resolves, items, closed}
use Rattle.laws.specs.Sound.{Proper, Sound, Counted}
use Rattle.laws.specs.Numbered.{Numbered}
use Rattle.laws.specs.Addresses.{Ascending}
use Rattle.readers.specs.declared.state.State.{State}
use Rattle.readers.specs.declared.walker.Walker.{Walker}
use Rattle.readers.specs.Views.{Answer, mem}
use Rattle.readers.specs.Lent.{input_of, lent_of, Fixed}
use Rattle.objects.specs.declared.item.Level.{Level}
use Rattle.objects.specs.Head.{opening}
use Rattle.objects.specs.Index.{Indexed, IndexedAfter, LinkedAfter}

-- the input is one that the walk takes, the heads are the sheet's, what the reader has is in order,
-- and so is scratch
pub record Ready (w : Walker) (s : State) : Type 0 where
  pub proper : Proper (input_of w)
  pub decoded : Heads w.sheet.now w.heads.now
  pub sound : Sound (input_of w) (mem s (lent_of w))
  pub counted : Counted (mem s (lent_of w))
  pub numbered : Numbered (mem s (lent_of w))
  pub ascending : Ascending (input_of w) (table w.addresses.now s.addresses) w.alloc
  pub indexed : Indexed w.slots.now s.slots w.pending.now
  pub linked : Linked w.addresses.now s.addresses w.index.now

-- what a reader leaves: what is only read, and, where it went on, scratch in order
pub record After {A : Type 0} (w : Walker) (r : Answer A) (w' : Walker) : Type 0 where
  pub fixed : Fixed w w'
  pub indexed : IndexedAfter r w'.slots.now w'.pending.now
  pub linked : LinkedAfter r w'.addresses.now w'.index.now

-- the map of object o with what follows it, and its resolves
abbrev pub mapped : Input → Reader SlotValue → ℕ → ℕ → ℕ → Reader (Unit {0})
mapped x r space size o =
    read_map x r space size o >>= keep_map x o >> (λ m. resolves x o (length x.payload - m.at) m)

-- an object's head, its map with what follows it, and its resolves: the object that is read then,
-- of which the map's word has been read
abbrev pub headed : Input → Reader SlotValue → ℕ → ℕ → Reader Level
headed x r space tag m =
    (opening x space tag
    >>= (λ words. mapped x r space (words * word x) m.objects.count >> give (record { object = m.objects.count; size = words * word x; done = word x; tag = tag })))
    m

-- the items of an object whose head has been read: the object
abbrev pub items_of : Input → Reader SlotValue → Level → Reader SlotValue
items_of x r l m =
    (items x r l.object l.size (length x.payload - m.at + 1) l.done >>= closed l.object l.tag l.size) m

-- what holds of an object after its head: it has its record and a slot, and no more than its map
-- has been read
abbrev pub Opened : Level → State → Type 0
Opened l s = (l.object < s.objects) × (0 < s.slots) × (l.size < 2 ^ 33) × (l.done ≤ 8)

-- what holds of an object when an item of it is read: it has its record and a slot
abbrev pub InItem : Level → State → Type 0
InItem l s = (l.done < 2 ^ 60) × (l.object < s.objects) × (0 < s.slots)
