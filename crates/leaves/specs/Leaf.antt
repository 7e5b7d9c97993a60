-- A reference that holds no other, read without the readers of every reference. Assumes nothing:
-- these are definitions.
use Rattle.std.specs.Prelude.{◌≡◌, Bool, true, false, List, ℕ, ◌+◌, ◌^◌, ◌<◌, ◌≤◌, length, get_or, Option, Some, None, IfSome}
use Rattle.sheet.specs.Sheet.{word_bytes}
use Rattle.heads.specs.Heads.{head_at, Heads}
use Rattle.heads.specs.declared.kinds.Kind.{Kind}
use Rattle.heads.specs.declared.kinds.Kind.TheVariants.{Backref, LegacyBackref, Hot, RootArray, RootConstant, ReadOnly, FixedRaw}
use Rattle.tables.specs.declared.values.SlotValue.{SlotValue}
use Rattle.tables.specs.declared.values.SlotValue.TheVariants.{Ref as IsRef}
use Rattle.tables.specs.Values.{width_of}
use Rattle.address_index.specs.Links.{Linked}
use Rattle.backref.specs.declared.hot_ring.HotRing.{HotRing}
use Rattle.backref.specs.HotRing.{entered}
use Rattle.definition.specs.Memory.{Input, word, Mem, Out, got, no, Reader, ◌>>=◌, here, byte}
use Rattle.definition.specs.Slots.{waits_of, keep_item, place_item}
use Rattle.definition.specs.Reference.{by_head, reference}
use Rattle.readers.specs.declared.state.State.{State}
use Rattle.readers.specs.declared.walker.Walker.{Walker}
use Rattle.readers.specs.Views.{Lent, input, mem, hot_is, moved_to}
use Rattle.readers.specs.Lent.{input_of, lent_of}
use Rattle.objects.specs.Index.{Indexed}
use Rattle.objects.specs.declared.item.Level.{Level}
use Rattle.leaves.specs.declared.leaf.Leaf.{Leaf}

-- the ring after a value that enters it, or does not; none but a reference does
abbrev pub ring_with : Bool → SlotValue → HotRing → HotRing
ring_with true (IsRef r) hot = entered hot r
ring_with enters v hot = hot

-- the ring after a leaf
abbrev pub ring : Leaf → HotRing → HotRing
ring r hot = ring_with r.enters r.value hot

-- the state after it
abbrev pub after : Leaf → State → State
after r s = record s { at = r.next; long_integers = s.long_integers + r.long_integers }

-- a head of this kind, after which the cursor stands, is this leaf: it gives the leaf's value,
-- whose width the leaf has, and which becomes a slot that does not wait. It has two integers at
-- most
pub record Stands (x : Input) (tag : ℕ) (kind : Kind) (a : ℕ) (s : State) (l : Lent) (r : Leaf) : Type 0 where
  pub is : (inner : Reader SlotValue) → got r.value (mem (after r s) (hot_is (ring r l.hot) l)) ≡ by_head x inner tag kind a (mem s l)
  pub width : r.width ≡ width_of (word x) r.value
  pub narrow : word x ≤ 8 → r.width < 2 ^ 20
  pub few : r.long_integers ≤ 2
  pub kept : (o done : ℕ) (m : Mem) → keep_item x o done r.value m ≡ place_item x o done r.value m
  pub waits : 0 ≡ waits_of r.value

-- where a leaf was found, it is right in every state with this cursor, ring and number of objects
abbrev pub Found : List ℕ → HotRing → ℕ → ℕ → ℕ → Kind → ℕ → Option Leaf → Type 0
Found p hot objects ts at kind a (Some r) =
    (v tr : List ℕ) (sp tag : ℕ) (s : State) (l : Lent) → word_bytes v ≡ ts → s.at ≡ at → s.objects ≡ objects → Stands (input v p sp tr) tag kind a s (hot_is hot l) r
Found p hot objects ts at kind a None = Unit {0}

-- a reader of the definition has refused
abbrev pub Refused : {A : Type 0} → Out A → Type 0
Refused (got a m) = ⊥
Refused (no n q m) = Unit {0}

-- where none was found, the definition refuses in every such state
abbrev pub Missing : List ℕ → HotRing → ℕ → ℕ → ℕ → Kind → ℕ → Type 0
Missing p hot objects ts at kind a =
    (v tr : List ℕ) (sp tag : ℕ) (s : State) (l : Lent) (inner : Reader SlotValue)
    → word_bytes v ≡ ts → s.at ≡ at → s.objects ≡ objects
    → Refused (by_head (input v p sp tr) inner tag kind a (mem s (hot_is hot l)))

-- heads of these kinds begin what may be a leaf
abbrev pub begins_leaf : Kind → Bool
begins_leaf Backref = true
begins_leaf Hot = true
begins_leaf RootArray = true
begins_leaf RootConstant = true
begins_leaf ReadOnly = true
begins_leaf FixedRaw = true
begins_leaf kind = false

-- the kind and the argument of the head byte at a place
abbrev pub kind_at : Walker → ℕ → Kind
kind_at w at = (head_at w.heads.now (get_or w.payload.now at 0)).kind

abbrev pub argument_at : Walker → ℕ → ℕ
argument_at w at = (head_at w.heads.now (get_or w.payload.now at 0)).argument

-- such a head stands at a place
abbrev pub LeafByte : Walker → ℕ → Type 0
LeafByte w at =
    ((at < length w.payload.now) × (get_or w.payload.now at 0 < 256))
    × (begins_leaf (kind_at w at) ≡ true)

-- the definition refuses what stands there
abbrev pub NoLeafAt : Walker → ℕ → ℕ → Type 0
NoLeafAt w at objects =
    Missing w.payload.now w.hot objects (word_bytes w.sheet.now) (at + 1) (kind_at w at)
    (argument_at w at)

-- the leaf that stands at a place, where the head byte there begins one
abbrev pub LeafAt : Walker → ℕ → ℕ → Option Leaf → Type 0
LeafAt w at objects r =
    IfSome r (λ _. (at < length w.payload.now) × (get_or w.payload.now at 0 < 256))
    × Found w.payload.now w.hot objects (word_bytes w.sheet.now) (at + 1) (kind_at w at) (argument_at w at) r

-- the same of a leaf in one state: a legacy back-reference needs the address records
abbrev pub FoundIn : Walker → State → ℕ → Kind → ℕ → Option Leaf → Type 0
FoundIn w s at kind a (Some r) = (tag : ℕ) → Stands (input_of w) tag kind a (moved_to at s) (lent_of w) r
FoundIn w s at kind a None = Unit {0}

abbrev pub MissingIn : Walker → State → ℕ → Kind → ℕ → Type 0
MissingIn w s at kind a =
    (tag : ℕ) (inner : Reader SlotValue)
    → Refused (by_head (input_of w) inner tag kind a (mem (moved_to at s) (lent_of w)))

-- heads of these kinds begin what may be a leaf that is an item
abbrev pub begins_item : Kind → Bool
begins_item LegacyBackref = true
begins_item kind = begins_leaf kind

-- such a head stands at a place
abbrev pub ItemByte : Walker → ℕ → Type 0
ItemByte w at =
    ((at < length w.payload.now) × (get_or w.payload.now at 0 < 256))
    × (begins_item (kind_at w at) ≡ true)

-- the bytes read of an object, with those of any leaf, stay below 2^64
abbrev pub RoomyItem : Walker → State → Level → Type 0
RoomyItem w s level = (level.done + s.skip + 2 ^ 20 ≤ 2 ^ 64) × (word_bytes w.sheet.now ≤ 8)

-- a reference as an item of object o, `done` bytes of which have been read
abbrev pub slot_in : Input → Reader SlotValue → ℕ → ℕ → Reader ℕ
slot_in x r o done = r >>= place_item x o done

-- a reference at the cursor as an item of the object that is read
abbrev pub item_of : Walker → Level → Reader SlotValue → Reader ℕ
item_of w level inner =
    slot_in (input_of w) (reference (input_of w) inner) level.object level.done

-- scratch that is in order stays so: the places of pending numbers, and the index of legacy
-- addresses; where nothing is read, nothing is changed
abbrev pub StaysInOrder : {A : Type 0} → Walker → State → Option (A × State) → Walker → Type 0
StaysInOrder w s (Some r) w' =
    (Indexed w.slots.now s.slots w.pending.now → Indexed w'.slots.now r.1.slots w'.pending.now)
    × (Linked w.addresses.now s.addresses w.index.now → Linked w'.addresses.now r.1.addresses w'.index.now)
StaysInOrder w s None w' = lent_of w' ≡ lent_of w

-- a reference as the definition reads it, but that its head byte means what the heads that are lent
-- say, whether they are the sheet's or not
unfoldable pub lent_reference : Walker → Reader SlotValue → Reader SlotValue
lent_reference w r =
    here
    >>= (λ tag. byte (input_of w)
    >>= (λ b. by_head (input_of w) r tag (head_at w.heads.now b).kind (head_at w.heads.now b).argument))

-- what was read is what this reader reads, whatever heads are lent and whatever the reader of inner
-- references is
abbrev pub ReadByHeads : {A : Type 0} → Walker → State → Walker → (Reader SlotValue → Reader A) → A × State → Type 0
ReadByHeads w s w' F r = (inner : Reader SlotValue) → got r.0 (mem r.1 (lent_of w')) ≡ F inner (mem s (lent_of w))

-- where the heads are the sheet's, what was read is what this reader of the definition reads,
-- whatever the reader of inner references is
abbrev pub ReadAs : {A : Type 0} → Walker → State → Walker → (Reader SlotValue → Reader A) → A × State → Type 0
ReadAs w s w' F r = Heads w.sheet.now w.heads.now → (inner : Reader SlotValue) → got r.0 (mem r.1 (lent_of w')) ≡ F inner (mem s (lent_of w))

-- where the heads are the sheet's, this reader of the definition refuses, whatever the reader of
-- inner references is
abbrev pub RefusedAs : {A : Type 0} → Walker → State → (Reader SlotValue → Reader A) → Type 0
RefusedAs w s F =
    Heads w.sheet.now w.heads.now → (inner : Reader SlotValue) → Refused (F inner (mem s (lent_of w)))
