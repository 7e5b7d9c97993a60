use native.Mathlib.Omega.{arith}
use mathlib.Core.Path.{◌≡◌}
use Prim.Native.Nat.{◌+◌, ◌/◌}
use Rattle.sheet.specs.Sheet.{word_bytes}
use Rattle.tables.specs.Values.{fields_of}
use Rattle.definition.specs.Memory.{got}
use Rattle.definition.specs.Slots.{waits_of}
use Rattle.readers.specs.Views.{mem}
use Rattle.readers.specs.Lent.{lent_of}
use Rattle.objects.specs.Item.{slot_of}
use Rattle.objects.proofs.ItemLaws.{kept_room, kept_plain, kept_waits}
use Rattle.objects.proofs.item.keep_item.Goals as goal
use Rattle.objects.proofs.item.keep_item.Goals.{In_ok-k}

-- the slot record, in the definition's words
pushed : (c : In_ok-k) → let a = c.args in got c.in_ok-k.k (mem c.in_ok-k.t (lent_of c.push_slot.new.w)) ≡ slot_of a.level.object ((a.level.done + a.s.skip) / word_bytes a.w.now.sheet.now) (fields_of a.v) (waits_of a.v) (mem a.s (lent_of a.w.now))
pushed c = rw (c.words_in-index.ensures, c.from.ensures, c.waits_of.ensures) at c.in_ok-k.ensures.is

pub overflow_add-k : goal.overflow_add-k
overflow_add-k c = omega (arith, kept_room _ _ _ _ (pushed (goal.at.overflow_add-k c).In_ok-k), c.well_formed)

pub returns-in-PendingRef-clause-index : goal.returns-in-PendingRef-clause-index
returns-in-PendingRef-clause-index c =
    kept_waits _ _ _ _ (pushed (goal.at.returns-in-PendingRef-clause-index c).In_ok-k) _ (rw c.push_slot.ensures.kept.1.0 c.requires.indexed) c.in-PendingRef.is c.note.ensures

pub returns-in_default-clause-index : goal.returns-in_default-clause-index
returns-in_default-clause-index c =
    kept_plain _ _ _ _ (pushed (goal.at.returns-in_default-clause-index c).In_ok-k) _ (rw c.push_slot.ensures.kept.1.0 c.requires.indexed) c.in_default.not-PendingRef
