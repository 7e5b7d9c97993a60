use Rattle.std.proofs.Common.{refl, ◌∙◌, rules}
use Rattle.std.proofs.lemmas.Result.{err_from_is_err_and}
use Rattle.readers.proofs.ViewLaws.{then_got, then_no}
use Rattle.readers.proofs.IntLaws.{skip_addresses}
use Rattle.readers.proofs.SimpleLaws.{skipped_target}
use Rattle.readers.proofs.simple.with_skip.Goals as goal

pub returns-in_err-t-clause-is : goal.returns-in_err-t-clause-is
returns-in_err-t-clause-is c = let p = err_from_is_err_and c.from_residual.result c.from_residual.ensures.1 in rw (p.1, p.2) (then_no _ (c.in_err-t.ensures.is _ _ _ _))

pub legacy_backref-requires : goal.legacy_backref-requires
legacy_backref-requires c = rw (skip_addresses c.args.s c.in_ok-t.t c.args.w.now.payload.now c.in_ok-t.ensures.is) (c.requires.addressed.0, c.in_ok-t.ensures.counts)

pub hot_ref-requires : goal.hot_ref-requires
hot_ref-requires c = c.requires.place c.in-HotWithSkip.is

pub returns-in-LegacyBackrefWithSkip-clause-is : goal.returns-in-LegacyBackrefWithSkip-clause-is
returns-in-LegacyBackrefWithSkip-clause-is c = then_got _ (c.in_ok-t.ensures.is _ _ _ _) (rw c.in-LegacyBackrefWithSkip.is c.legacy_backref.ensures.is)

pub returns-in-HotWithSkip-clause-is : goal.returns-in-HotWithSkip-clause-is
returns-in-HotWithSkip-clause-is c = then_got _ (c.in_ok-t.ensures.is _ _ _ _) (rw c.in-HotWithSkip.is c.hot_ref.ensures)

pub returns-in-RootConstantWithSkip-clause-is : goal.returns-in-RootConstantWithSkip-clause-is
returns-in-RootConstantWithSkip-clause-is c = then_got _ (c.in_ok-t.ensures.is _ _ _ _) (rw c.in-RootConstantWithSkip.is refl)

pub returns-in-Api-clause-is : goal.returns-in-Api-clause-is
returns-in-Api-clause-is c = then_got _ (c.in_ok-t.ensures.is _ _ _ _) (rw c.in-Api.is (c.one_int.ensures _ (search rules) _ _ _ _))

pub returns-in_default : goal.returns-in_default
returns-in_default c = record { is = then_got _ (c.in_ok-t.ensures.is _ _ _ _) (c.one_int-in_default.ensures _ (search rules) _ _ _ _ ∙ skipped_target _ _ _ c.args.head.kind c.in_default.not-LegacyBackrefWithSkip c.in_default.not-HotWithSkip c.in_default.not-RootConstantWithSkip c.in_default.not-Api); kept = search rules }
