-- The induction for every clause: what the rules keep from the start on holds at the end of an
-- accepted reading. Assumes nothing.
use Rattle.std.proofs.Math.Path.{refl}
use Rattle.std.proofs.Common.{sym, subst, arith}
use Rattle.std.specs.Prelude.{List, []}
use Rattle.sheet.specs.Sheet.{usable}
use Rattle.tables.specs.declared.values.SlotValue.{SlotValue}
use Rattle.definition.specs.Memory.{told, begins, synchronize, Mem, noted}
use Rattle.definition.specs.Call.{Rooms, Call, input_of, start, too_long, called, graph}
use Rattle.assurance.specs.PlainSheet.{PlainSheet, plain-gives}
use Rattle.assurance.specs.Words.{Accepted}
use Rattle.assurance.specs.Gives.{Gives, given, refused, gives-choose}
use Rattle.assurance.specs.Steps.{Frame, Base, Rules, AtEnd}
use Rattle.assurance.specs.Whole.{End, walk_has}

module _ (c : Call) (rooms : Rooms) (m : Mem) (a : Accepted c rooms m) where
  abbrev pub plainly : PlainSheet c.sheet
  plainly = plain-gives c.sheet a.plain_sheet

  module _ (I : List Frame → Mem → Type 0) (W : Mem → SlotValue → Type 0) (rules : Rules (input_of c) I W) (i : I [] (start rooms (told []))) where
    abbrev pub Ended : Mem → Type 0
    Ended = End (input_of c) a.bytes plainly I W rules

    begin : Base (input_of c) [] (start rooms (told []))
    begin = record { within = omega arith; objects_fit = omega arith; slots_fit = omega arith; open_below = tt; no_skip = refl }

    graph-gives : Gives (λ u. Ended) (graph c rooms)
    unfolding graph called
    graph-gives =
        let Q : Unit {0} → Mem → Type 0 = λ u. Ended in
        gives-choose Q (usable c.sheet) _ _ (start rooms (told []))
        (λ t. gives-choose Q (too_long c) _ _ (start rooms (told [])) (λ t. refused Q _ _ _)
        (λ t. walk_has (input_of c) a.bytes plainly I W rules (start rooms (told [])) refl (begin, i)))
        (λ t. refused Q _ _ _)

    -- where the closing section's kSynchronize stands
    pub graph_end : Ended m
    graph_end = given (λ u. Ended) tt m (subst (Gives (λ u. Ended)) a.accepted graph-gives)

    pub graph_has : AtEnd I → I [] m
    graph_has last =
        let e = graph_end in
        let s : Mem = noted (synchronize e.before.at) (noted (begins e.before.at) e.before) in
        subst (I []) (sym e.after) (rules.on_move [] s e.next (last e.before e.holds.1) e.later e.ends)
