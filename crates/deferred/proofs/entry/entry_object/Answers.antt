use Rattle.std.proofs.lemmas.Result.{err_from_is_err_and}
use Rattle.readers.specs.Lent.{input_of}
use Rattle.readers.proofs.ViewLaws.{nothing}
use Rattle.deferred.proofs.EntryLaws.{byte_addresses, byte_counts, object_cut, object_no, object_named, object-other, an_object, no_object}
use Rattle.deferred.proofs.entry.entry_object.Goals as goal

pub legacy_backref-requires : goal.legacy_backref-requires
legacy_backref-requires c = let a = c.args in rw (byte_addresses (input_of a.w.now) a.s (c.in_ok-t.ensures.by_index _ _ _ nothing)) (c.requires.0, byte_counts (input_of a.w.now) a.s (c.in_ok-t.ensures.by_index _ _ _ nothing) c.requires.1)

pub returns-in_err-t-clause-is : goal.returns-in_err-t-clause-is
returns-in_err-t-clause-is c = let p = err_from_is_err_and c.from_residual.result c.from_residual.ensures.1 in rw (p.1, p.2) (object_cut _ c.args.space _ (c.in_err-t.ensures.by_index _ _ _ _))

pub returns-in_err-value-clause-is : goal.returns-in_err-value-clause-is
returns-in_err-value-clause-is c = let p = err_from_is_err_and c.from_residual-in_err-value.result c.from_residual-in_err-value.ensures.1 in rw (p.1, p.2) (object_no _ _ _ (c.in_ok-t.ensures.by_index _ _ _ _) c.in_err-value.ensures.is)

pub returns-in_err-o-clause-is : goal.returns-in_err-o-clause-is
returns-in_err-o-clause-is c =
    let p = err_from_is_err_and c.from_residual-in_err-o.result c.from_residual-in_err-o.ensures.1 in
    let n = no_object _ _ _ c.object_of.ensures c.in_err-o.ensures.value in
    rw (p.1, p.2, n.1, c.refused.ensures) (object-other _ _ _ (c.in_ok-t.ensures.by_index _ _ _ _) c.in_ok-value.ensures.is n.0)

pub returns-clause-is : goal.returns-clause-is
returns-clause-is c = object_named _ _ _ (c.in_ok-t.ensures.by_index _ _ _ _) c.in_ok-value.ensures.is (an_object _ _ _ c.object_of.ensures c.in_ok-o.ensures.value)
