use Rattle.objects.proofs.ItemLaws.{previous_fits, previous_indexed}
use Rattle.objects.proofs.item.place_item.Goals as goal

pub keep_item-requires-clause-fits : goal.keep_item-requires-clause-fits
keep_item-requires-clause-fits c =
    let a = c.args in
    previous_fits a.w.now c.keep_previous.new.w a.s _ c.in_ok-k-in-RepeatPrev.ensures.is c.keep_previous.ensures.kept.0 c.in-RepeatPrev.is c.requires.fits

pub keep_item-requires-clause-indexed : goal.keep_item-requires-clause-indexed
keep_item-requires-clause-indexed c =
    let a = c.args in
    previous_indexed a.w.now c.keep_previous.new.w a.s _ c.in_ok-k-in-RepeatPrev.ensures.is _ (rw c.keep_previous.ensures.kept.1.0 c.requires.indexed)
