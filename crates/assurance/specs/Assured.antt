-- What is assured of a payload that is accepted under a plain sheet. The words are those of
-- Words.antt. Assumes nothing: these are definitions.
use Rattle.std.specs.Prelude.{◌≡◌, ◌⊎◌, ◌≢◌, ℕ, ◌+◌, ◌*◌, ◌/◌, ◌<◌, ◌≤◌, length, get_or}
use Rattle.sheet.specs.Names.{k_synchronize}
use Rattle.sheet.specs.Sheet.{number, word_bytes}
use Rattle.tables.specs.declared.values.Fields.{Fields}
use Rattle.tables.specs.Values.{triple}
use Rattle.tables.specs.Records.{field}
use Rattle.definition.specs.Memory.{Kept, in_map, in_slot, in_value, opened, passed, item, value, begins, Table}
use Rattle.definition.specs.Call.{Rooms, Call, input_of, empty}
use Rattle.assurance.specs.Words.{events, Told, openings, place_of, words_of, IntegerAt, RangesBelow, EndsAt, filled_of, items_in, EndToEnd, ItemOf, MapItem, in_slots, in_values, LeftPending, FilledBy}
use Rattle.assurance.specs.Records.{SlotHas, ValueHas, SlotAt, slots_of, ZeroRest}
use Rattle.assurance.specs.Steps.{OpensAt}
use Rattle.assurance.specs.Raws.{IsRange}
use Rattle.assurance.specs.Kept.{KeptInSlot, KeptInValue}

-- of the call c, with these tables as it leaves them and the cursor at the finish
pub record Assured (c : Call) (rooms : Rooms) (objects slots values addresses : Table) (end : ℕ) : Type 0 where
  -- the objects listed are exactly those that the payload opens, in order; each is opened at a
  -- new-object head
  pub opened_at_heads : (q w : ℕ) → Told (events c rooms) (opened q w) → OpensAt (input_of c) q
  pub listed_as_opened : openings (events c rooms) ≡ objects.count
  pub listed_place : (o : ℕ) → o < objects.count → field 4 objects.rows o 1 ≡ place_of (events c rooms) o
  pub listed_size : (o : ℕ) → o < objects.count → field 4 objects.rows o 0 ≡ words_of (events c rooms) o * word_bytes c.sheet
  -- its declared words are the integer after its head byte
  pub declared_words : (q w : ℕ) → Told (events c rooms) (opened q w) → IntegerAt c.payload (q + 1) w
  pub listed_declared : (o : ℕ) → o < objects.count →
      IntegerAt c.payload (place_of (events c rooms) o + 1) (words_of (events c rooms) o)
  -- every object that it refers to is listed, in dropped values too; what a weak or a repeat holds
  -- is a value record
  pub referred_is_listed : (v : Fields) (t : Kept) → Told (events c rooms) (value v t) → v.kind ≡ 1 → v.a < objects.count
  pub repeat_holds_value : (v : Fields) (t : Kept) → Told (events c rooms) (value v t) → v.kind ≡ 7 → v.b < values.count
  pub weak_holds_value : (v : Fields) (t : Kept) → Told (events c rooms) (value v t) → v.kind ≡ 12 → v.a < values.count
  -- where a value is kept, it stands by its kind and numbers; an object's map and a value that a
  -- weak or a repeat holds do not wait
  pub map_stands : (v : Fields) (k : ℕ) → Told (events c rooms) (value v (in_map k)) → SlotHas slots k v 0
  pub slot_stands : (v : Fields) (k : ℕ) → Told (events c rooms) (value v (in_slot k)) → v.kind ≢ 13 → SlotHas slots k v 0
  pub value_stands : (v : Fields) (k : ℕ) → Told (events c rooms) (value v (in_value k)) → ValueHas values k v
  -- a pending slot is left pending, and waits; or a resolve fills it, and it is the object after
  -- whose map the resolve stands, a listed one
  pub pending_left_or_filled : (v : Fields) (k : ℕ) → Told (events c rooms) (value v (in_slot k)) → v.kind ≡ 13 → (LeftPending (events c rooms) k v.a) ⊎ ((o : ℕ) × (FilledBy (events c rooms) k v.a o))
  pub left_stands : (k n : ℕ) → LeftPending (events c rooms) k n → SlotHas slots k (triple 13 n 0) 1
  pub filled_stands : (k n o : ℕ) → FilledBy (events c rooms) k n o → (SlotHas slots k (triple 1 o 0) 0) × (o < objects.count)
  -- its raw ranges lie before the kSynchronize that ends the closing section, each starting higher
  -- than the one before and at or after its end
  pub final : ℕ
  pub final_inside : final < length c.payload
  pub final_byte : get_or c.payload final 0 ≡ number c.sheet k_synchronize
  pub final_ends_closing : EndsAt final (events c rooms)
  -- that is the first kSynchronize at a place where an entry of the closing section begins
  pub final_begins : Told (events c rooms) (begins final)
  pub none_begins_later : (q : ℕ) → Told (events c rooms) (begins q) → q ≤ final
  pub none_before_is_final : (q : ℕ) → Told (events c rooms) (begins q) → q < final →
      get_or c.payload q 0 ≢ number c.sheet k_synchronize
  pub end_after_final : final < end
  pub end_inside : end ≤ length c.payload
  pub raw_is_range : (v : Fields) (t : Kept) → Told (events c rooms) (value v t) → IsRange v → Told (events c rooms) (passed v.a v.b)
  pub ranges_in_order : RangesBelow final (events c rooms)
  -- the items of each object laid end to end fill its declared bytes exactly, each slot index below
  -- its declared words
  pub items_end_to_end : EndToEnd (word_bytes c.sheet) (events c rooms)
  pub items_fill_object : (o : ℕ) → o < objects.count → filled_of (events c rooms) o ≡ words_of (events c rooms) o * word_bytes c.sheet
  pub index_below_words : (o s w k : ℕ) → Told (events c rooms) (item o s w k) → (o < objects.count) × (s / word_bytes c.sheet < words_of (events c rooms) o)
  -- an item is an object's map, one word from byte 0, or has the width of its value
  pub item_of_value : (o s w k : ℕ) → Told (events c rooms) (item o s w k) → ItemOf (word_bytes c.sheet) (events c rooms) s w k
  -- each object has exactly one map item, and so a word at least: an object of no words is not
  -- among the accepted
  pub one_map_item : (o : ℕ) → o < objects.count → MapItem (word_bytes c.sheet) (events c rooms) o
  pub some_words : (o : ℕ) → o < objects.count → 0 < words_of (events c rooms) o
  -- each slot record is one item's, with its object and index; each object's slot count is the
  -- number of its slot records
  pub item_has_record : (o s w k : ℕ) → Told (events c rooms) (item o s w k) → SlotAt slots k o (s / word_bytes c.sheet)
  pub record_has_item : (k : ℕ) → k < slots.count → items_in (events c rooms) k ≡ 1
  pub slot_counts : (o : ℕ) → o < objects.count → field 4 objects.rows o 3 ≡ slots_of slots.rows o slots.count
  -- every slot and value record keeps exactly one value that was read, and no value is kept
  -- anywhere else
  pub slot_keeps_one : (k : ℕ) → k < slots.count → (in_slots (events c rooms) k ≡ 1) × (KeptInSlot (events c rooms) k)
  pub no_slot_beyond : (k : ℕ) → slots.count ≤ k → in_slots (events c rooms) k ≡ 0
  pub value_keeps_one : (k : ℕ) → k < values.count → (in_values (events c rooms) k ≡ 1) × (KeptInValue (events c rooms) k)
  pub no_value_beyond : (k : ℕ) → values.count ≤ k → in_values (events c rooms) k ≡ 0
  -- what is not used of a table is zero; a plain sheet has no addresses
  pub objects_rest_zero : ZeroRest 4 objects
  pub slots_rest_zero : ZeroRest 6 slots
  pub values_rest_zero : ZeroRest 3 values
  pub no_addresses : addresses ≡ empty rooms.addresses
