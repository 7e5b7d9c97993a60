-- The words of the guarantees (docs/FORMAT.md, "The words of the guarantees"), over the events of a
-- reading. The events are the definition's, recorded as the payload is read. The latest stands
-- first: what follows an event in the list was recorded before it. Assumes nothing: these are
-- definitions.
use Rattle.std.specs.Prelude.{if◌then◌else◌, ◌≡◌, true, ◌⊎◌, ◌≢◌, ℕ, ◌+◌, ◌*◌, ◌<◌, ◌≤◌, eqb, get_or, Some}
use mathlib.Core.List.{List, [], ◌∷◌, Memᴰ}
use Rattle.stream.specs.declared.putint.Int.{Int}
use Rattle.stream.specs.PutInt.{int_at}
use Rattle.sheet.specs.Sheet.{plain}
use Rattle.tables.specs.declared.values.Fields.{Fields}
use Rattle.tables.specs.Values.{triple}
use Rattle.definition.specs.Memory.{in_map, in_slot, in_value, Event, opened, passed, item, value, resolve, synchronize, Mem, got}
use Rattle.definition.specs.Call.{Rooms, Call, graph, events_of}

-- a payload of bytes that is *accepted* under a plain sheet: the call gets no number; it ends with
-- m
pub record Accepted (c : Call) (rooms : Rooms) (m : Mem) : Type 0 where
  pub plain_sheet : plain c.sheet ≡ true
  pub bytes : (i : ℕ) → get_or c.payload i 0 < 256
  pub accepted : graph c rooms ≡ got tt m

-- the events of the reading of a payload, and that one is among them
abbrev pub events : Call → Rooms → List Event
events c rooms = events_of (graph c rooms)

abbrev pub Told : List Event → Event → Type 0
Told es e = Memᴰ e es

-- ---- *opens*: an object is opened at each byte read as a new-object head

-- how many objects were opened; object o is the one before which o were
unfoldable pub openings : List Event → ℕ
openings [] = 0
openings (opened q w ∷ es) = openings es + 1
openings (e ∷ es) = openings es

-- the place of object o's head
unfoldable pub place_of : List Event → ℕ → ℕ
place_of [] o = 0
place_of (opened q w ∷ es) o = if eqb o (openings es) then q else place_of es o
place_of (e ∷ es) o = place_of es o

-- *declared words*: object o's size integer; its declared bytes are that times the tagged size
unfoldable pub words_of : List Event → ℕ → ℕ
words_of [] o = 0
words_of (opened q w ∷ es) o = if eqb o (openings es) then w else words_of es o
words_of (e ∷ es) o = words_of es o

-- the integer that stands at a place of the payload is n
abbrev pub IntegerAt : List ℕ → ℕ → ℕ → Type 0
IntegerAt payload place n = (i : Int) × (int_at payload place ≡ Some i) × (i.value ≡ n)

-- ---- *raw range*: the payload bytes that a raw moves the cursor past, in a dropped value too

-- the last raw range ends at `limit` or before it and starts below it, and so each at the start of
-- the next
unfoldable pub RangesBelow : ℕ → List Event → Type 0
RangesBelow limit [] = Unit {0}
RangesBelow limit (passed a n ∷ es) = (a + n ≤ limit) × (a < limit) × (RangesBelow a es)
RangesBelow limit (e ∷ es) = RangesBelow limit es

-- the closing section's kSynchronize: where it stands; nothing is read after it but padding
abbrev pub EndsAt : ℕ → List Event → Type 0
EndsAt q [] = ⊥
EndsAt q (synchronize p ∷ es) = q ≡ p
EndsAt q (e ∷ es) = ⊥

-- ---- *items*: the map from byte 0, one word, then each slot item with its width

-- the bytes that object o's items have together
unfoldable pub filled_of : List Event → ℕ → ℕ
filled_of [] o = 0
filled_of (item x s w k ∷ es) o = if eqb o x then filled_of es o + w else filled_of es o
filled_of (e ∷ es) o = filled_of es o

-- how many items object o has
unfoldable pub items_of : List Event → ℕ → ℕ
items_of [] o = 0
items_of (item x s w k ∷ es) o = if eqb o x then items_of es o + 1 else items_of es o
items_of (e ∷ es) o = items_of es o

-- how many items slot record k is of
unfoldable pub items_in : List Event → ℕ → ℕ
items_in [] k = 0
items_in (item o s w j ∷ es) k = if eqb k j then items_in es k + 1 else items_in es k
items_in (e ∷ es) k = items_in es k

-- each item starts where those of its object before it end, so the first at byte 0; and the first
-- has one word
unfoldable pub EndToEnd : ℕ → List Event → Type 0
EndToEnd word [] = Unit {0}
EndToEnd word (item o s w k ∷ es) = (s ≡ filled_of es o) × (items_of es o ≡ 0 → w ≡ word) × (EndToEnd word es)
EndToEnd word (e ∷ es) = EndToEnd word es

-- width of an item whose value has these fields: raw its length, or 0 if it does not advance;
-- repeats count times a word; skip its bytes; stream bytes 0; all else one word
abbrev pub width_of_value : ℕ → Fields → ℕ
width_of_value word v =
    if eqb v.kind 5 then v.b
    else if eqb v.kind 6 then 0
    else if eqb v.kind 7 then v.a * word
    else if eqb v.kind 8 then v.a * word
    else if eqb v.kind 9 then v.a
    else if eqb v.kind 10 then 0 else word

-- an item is an object's map, one word from byte 0, or has the width of its value; its slot record
-- keeps that value
abbrev pub ItemOf : ℕ → List Event → ℕ → ℕ → ℕ → Type 0
ItemOf word es s w k = ((v : Fields) × (Told es (value v (in_map k))) × (s ≡ 0) × (w ≡ word)) ⊎ ((v : Fields) × (Told es (value v (in_slot k))) × (w ≡ width_of_value word v))

-- object o has exactly one map item: it begins at byte 0, has one word, and is kept in the slot
-- record that keeps its map
pub record MapItem (word : ℕ) (es : List Event) (o : ℕ) : Type 0 where
  pub slot : ℕ
  pub map : Fields
  pub map_kept : Told es (value map (in_map slot))
  pub read : Told es (item o 0 word slot)
  pub only : (s w k : ℕ) (v : Fields) → Told es (item o s w k) → Told es (value v (in_map k)) →
      (s ≡ 0) × (w ≡ word) × (k ≡ slot)

-- ---- values, and where they are kept

-- how many values were read that slot record k keeps, as an object's map or as another slot
unfoldable pub in_slots : List Event → ℕ → ℕ
in_slots [] k = 0
in_slots (value v (in_map j) ∷ es) k = if eqb k j then in_slots es k + 1 else in_slots es k
in_slots (value v (in_slot j) ∷ es) k = if eqb k j then in_slots es k + 1 else in_slots es k
in_slots (e ∷ es) k = in_slots es k

-- and that value record k keeps
unfoldable pub in_values : List Event → ℕ → ℕ
in_values [] k = 0
in_values (value v (in_value j) ∷ es) k = if eqb k j then in_values es k + 1 else in_values es k
in_values (e ∷ es) k = in_values es k

-- *left pending*: slot record k keeps a pending value with number n, and no resolve of n stands
-- after it
unfoldable pub LeftPending : List Event → ℕ → ℕ → Type 0
LeftPending [] k n = ⊥
LeftPending (value v (in_slot j) ∷ es) k n = ((v ≡ triple 13 n 0) × (j ≡ k)) ⊎ (LeftPending es k n)
LeftPending (resolve j o ∷ es) k n = (j ≢ n) × (LeftPending es k n)
LeftPending (e ∷ es) k n = LeftPending es k n

-- a pending value that a resolve fills: the first resolve of its number after it stands after the
-- map of object o, to which it then *refers*
unfoldable pub FilledBy : List Event → ℕ → ℕ → ℕ → Type 0
FilledBy [] k n o = ⊥
FilledBy (resolve j x ∷ es) k n o = ((j ≡ n) × (x ≡ o) × (LeftPending es k n)) ⊎ (FilledBy es k n o)
FilledBy (e ∷ es) k n o = FilledBy es k n o
