use Rattle.std.proofs.lemmas.Result.{err_from_is_err_and}
use Rattle.readers.specs.Views.{mem}
use Rattle.readers.specs.Lent.{input_of, lent_of}
use Rattle.walker.proofs.ScratchLaws.{after_on}
use Rattle.deferred.proofs.EntryLaws.{entry_no, entry-cut, entry_done, object_ready, int_ready}
use Rattle.deferred.proofs.entry.entry.Goals as goal

pub read_int-requires : goal.read_int-requires
read_int-requires c = (object_ready c.requires.ready c.args.space c.entry_object.ensures.kept c.in_ok-o.ensures.is).sound.long_low

pub entry_items-requires : goal.entry_items-requires
entry_items-requires c =
    let f = c.entry_object.ensures.kept.0 in
    record { ready = int_ready (object_ready c.requires.ready c.args.space c.entry_object.ensures.kept c.in_ok-o.ensures.is) (c.in_ok-size.ensures.by_index _ _ _ _); legacy = (rw f.sheet c.requires.legacy, c.in_ok-size.ensures.small) }

pub returns-in_err-o-clause-is : goal.returns-in_err-o-clause-is
returns-in_err-o-clause-is c =
    let p = err_from_is_err_and c.from_residual.result c.from_residual.ensures.1 in
    rw (p.1, p.2) (entry_no (input_of c.args.w.now) c.args.space (mem c.args.s (lent_of c.args.w.now)) c.in_err-o.ensures.is)

pub returns-in_err-size-clause-is : goal.returns-in_err-size-clause-is
returns-in_err-size-clause-is c =
    let p = err_from_is_err_and c.from_residual-in_err-size.result c.from_residual-in_err-size.ensures.1 in
    let w = c.args.w.now in
    let f = c.entry_object.ensures.kept.0 in
    rw (p.1, p.2) (entry-cut (input_of w) c.args.space (mem c.args.s (lent_of w)) c.in_ok-o.ensures.is (rw f.payload at (c.in_err-size.ensures.by_index w.sheet.now w.trusted.now w.spaces (lent_of c.entry_object.new.w))))

pub returns : goal.returns
returns c =
    let w = c.args.w.now in
    let f = c.entry_object.ensures.kept.0 in
    record {
      is = entry_done (input_of w) c.args.space (mem c.args.s (lent_of w)) c.in_ok-o.ensures.is (rw f.payload at (c.in_ok-size.ensures.by_index w.sheet.now w.trusted.now w.spaces (lent_of c.entry_object.new.w))) (rw (f.sheet, f.payload, f.spaces, f.trusted) at c.entry_items.ensures.is);
      after = after_on f c.entry_items.ensures.after;
    }
