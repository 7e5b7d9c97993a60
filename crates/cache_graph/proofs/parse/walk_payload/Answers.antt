use Rattle.std.proofs.Common.{refl, sym, rules}
use Rattle.std.proofs.lemmas.Result.{err_from_is_err_and}
use Rattle.cache_graph.specs.Promise.{entered}
use Rattle.cache_graph.proofs.CallLaws.{same_input, started, started_ready, walk_refused, walk_ended}
use Rattle.cache_graph.proofs.parse.walk_payload.Goals as goal

pub walk-requires : goal.walk-requires
walk-requires c =
    let ex = same_input (entered c.args.call) c.spaces.ensures in
    record { ready = started_ready c.requires ex refl (started c.requires c.new.ensures c.new-2.ensures) c.clear_first.ensures }

pub returns-in_err-s : goal.returns-in_err-s
returns-in_err-s c =
    let call = entered c.args.call in
    let p = err_from_is_err_and c.from_residual.result c.from_residual.ensures.1 in
    rw (p.1, p.2) (walk_refused c.requires (same_input call c.spaces.ensures) (started c.requires c.new.ensures c.new-2.ensures) _ _ c.in_err-s.ensures.is)

pub returns : goal.returns
returns c =
    let call = entered c.args.call in
    let f = c.walk.ensures.fixed in
    let h = walk_ended c.requires (same_input call c.spaces.ensures) (started c.requires c.new.ensures c.new-2.ensures) c.in_ok-s.s _ c.in_ok-s.ensures.is
    (let n = sym f.objects in search rules) (let n = sym f.slots in search rules) (let n = sym f.values in search rules) (let n = sym f.addresses in search rules) in
    rw c.from.ensures h
