-- An object whose map is a leaf, opened without the readers of every reference. Assumes nothing:
-- these are definitions.
use Rattle.std.specs.Prelude.{if◌then◌else◌, ◌≡◌, true, false, List, ℕ, ◌+◌, ◌*◌, ◌^◌, ◌<◌, Option, Some, None}
use Rattle.stream.specs.declared.putint.Int.{Int}
use Rattle.stream.specs.PutInt.{int_at}
use Rattle.sheet.specs.Sheet.{is_six_x, is_map_first, is_legacy}
use Rattle.tables.specs.declared.values.SlotValue.{SlotValue}
use Rattle.tables.specs.Records.{room}
use Rattle.address_index.specs.Links.{Linked}
use Rattle.definition.specs.Memory.{Input, word, Reader, got, ◌>>=◌, ◌>>◌, give}
use Rattle.definition.specs.Object.{flags, allocate, read_map, keep_map}
use Rattle.definition.specs.Reference.{reference}
use Rattle.readers.specs.declared.state.State.{State}
use Rattle.readers.specs.declared.walker.Walker.{Walker}
use Rattle.readers.specs.Views.{input, mem}
use Rattle.readers.specs.Lent.{input_of, lent_of, Untouched}
use Rattle.leaves.specs.declared.leaf.Leaf.{Leaf}
use Rattle.leaves.specs.Leaf.{LeafAt, LeafByte}
use Rattle.objects.specs.declared.head.NewObject.{NewObject}
use Rattle.objects.specs.Head.{opening}
use Rattle.objects.specs.Map.{AddressAlone}

-- an object's head, its map with what follows it, but its resolves: its declared bytes
abbrev pub opened : Input → Reader SlotValue → ℕ → ℕ → ℕ → Reader ℕ
opened x r space tag o =
    opening x space tag
    >>= (λ words. read_map x r space (words * word x) o >>= keep_map x o >> give (words * word x))

-- the size stands at the cursor and the map after it, a leaf that sets no flag; no byte of a large
-- object stands between them, and nothing but an allocation follows the map, no resolve either
pub record MapAt (w : Walker) (s : State) (size : Int) (map : Leaf) : Type 0 where
  pub no_large_byte : is_six_x w.sheet.now ≡ false
  pub not_first : is_map_first w.sheet.now ≡ false
  pub sized : Some size ≡ int_at w.payload.now s.at
  pub small : size.value < 2 ^ 30
  pub leaf : LeafAt w (s.at + size.count) (s.objects + 1) (Some map)
  pub unflagged : (sh q : List ℕ) (sp : ℕ) → flags (input sh q sp w.trusted.now) map.value ≡ false

-- a size and a map stand there so
pub record OpenedAt (w : Walker) (s : State) : Type 0 where
  pub size : Int
  pub map : Leaf
  pub is : MapAt w s size map

-- the size stands at the cursor, and after it the head of what may be a leaf; nothing but the map
-- follows, and no root is flagged
pub record MapByte (w : Walker) (s : State) (count : ℕ) : Type 0 where
  pub no_large_byte : is_six_x w.sheet.now ≡ false
  pub not_first : is_map_first w.sheet.now ≡ false
  pub no_address : is_legacy w.sheet.now ≡ false
  pub words : ℕ
  pub sized : Some (record { value = words; count = count }) ≡ int_at w.payload.now s.at
  pub leaf : LeafByte w (s.at + count)
  pub unflagged : (v : SlotValue) (sh q : List ℕ) (sp : ℕ)
      → flags (input sh q sp w.trusted.now) v ≡ false

-- there is room for one more object and one more slot
abbrev pub RoomyTables : Walker → State → Type 0
RoomyTables w s = (s.objects < room 4 w.objects.now) × (s.slots < room 6 w.slots.now)

-- a new object after whose head the cursor stands, but its resolves
abbrev pub object_of : Walker → State → NewObject → Reader SlotValue → Reader ℕ
object_of w s new inner =
    opened (input_of w) (reference (input_of w) inner) new.space new.tag s.objects

-- in a legacy sheet an address record of object o, which is in the index then; in others nothing
-- changes, and where it is refused neither
pub record Given (w : Walker) (s : State) (space bytes o : ℕ) (t : State) (w' : Walker) : Type 0 where
  pub alone : AddressAlone w w'
  pub given : got tt (mem t (lent_of w')) ≡ (if is_legacy w.sheet.now then allocate (input_of w) space bytes o else give tt) (mem s (lent_of w))
  pub linked : Linked w'.addresses.now t.addresses w'.index.now

abbrev pub AddressGiven : Walker → State → ℕ → ℕ → ℕ → Option State → Walker → Type 0
AddressGiven w s space bytes o (Some t) w' = Given w s space bytes o t w'
AddressGiven w s space bytes o None w' =
    AddressAlone w w' × Untouched w w' × (is_legacy w.sheet.now ≡ true)
