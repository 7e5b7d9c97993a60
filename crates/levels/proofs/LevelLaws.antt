-- What is known of an object that becomes a slot.
use Rattle.std.specs.Prelude.{◌≡◌, ℕ, ◌+◌, ◌/◌}
use Rattle.tables.specs.declared.values.SlotValue.TheVariants.{Ref as IsRef}
use Rattle.tables.specs.declared.values.Ref.TheVariants.{Object}
use Rattle.tables.specs.declared.values.Fields.{Fields}
use Rattle.tables.specs.Values.{fields_of}
use Rattle.definition.specs.Memory.{Input, word, got, no}
use Rattle.definition.specs.Slots.{keep_item, place_item}
use Rattle.readers.specs.declared.state.State.{State}
use Rattle.readers.specs.Views.{Lent, mem}
use Rattle.objects.specs.Item.{slot_of}

-- the state without the with-skip amount
abbrev unskipped : State → State
unskipped s =
    record s { skip = 0 }

-- the slot of an object, from what the slot record's reader answered
module _ (x : Input) (o done child : ℕ) (s t : State) (l l' : Lent) {i : ℕ} {f : Fields} (index_is : i ≡ (done + s.skip) / word x) (fields_are : f ≡ fields_of (IsRef (Object child))) where
  pub put_no : {n q : ℕ} → no n q (mem t l') ≡ slot_of o i f 0 (mem s l) → no n q (mem t l') ≡ place_item x o done (IsRef (Object child)) (mem s l)
  unfolding place_item keep_item
  put_no e = rw (← index_is, ← fields_are, ← e)

  pub put_is : {k : ℕ} → got k (mem t l') ≡ slot_of o i f 0 (mem s l)
      → got (done + s.skip + word x) (mem (unskipped t) l') ≡ place_item x o done (IsRef (Object child)) (mem s l)
  unfolding place_item keep_item
  put_is e = rw (← index_is, ← fields_are, ← e)
