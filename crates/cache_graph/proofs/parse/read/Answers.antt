use Rattle.std.proofs.Common.{sym, ◌∙◌}
use Rattle.std.proofs.lemmas.Result.{err_from_is_err_and}
use Rattle.cache_graph.specs.Promise.{entered, begun_in}
use Rattle.cache_graph.proofs.CallLaws.{decoded_none, decoded_usable, decoded_heads, not_some, not_long, called_unusable, called_long, called_walks}
use Rattle.cache_graph.proofs.parse.read.Goals as goal

pub returns-in_err-heads-clause-walked : goal.returns-in_err-heads-clause-walked
returns-in_err-heads-clause-walked c =
    let p = err_from_is_err_and c.from_residual.result c.from_residual.ensures.1 in
    let h = c.in_err-heads.ensures in
    let u = called_unusable (entered c.args.call) (begun_in c.args.tables.now) (decoded_none c.decode.ensures h.ok_part) in
    rw (p.1, p.2, not_some h.value h.ok_part, c.at_start.ensures) (_, u)

pub returns-in_err-heads-clause-bytes : goal.returns-in_err-heads-clause-bytes
returns-in_err-heads-clause-bytes c =
    let p = err_from_is_err_and c.from_residual.result c.from_residual.ensures.1 in rw (p.1) tt

pub returns-then-too_long-clause-walked : goal.returns-then-too_long-clause-walked
returns-then-too_long-clause-walked c =
    let call = entered c.args.call in
    let u = decoded_usable c.decode.ensures c.in_ok-heads.ensures.ok_part in
    rw c.at_start-then-too_long.ensures (_, called_long call (begun_in c.args.tables.now) u (sym (c.too_long.ensures.is call.sheet call.trusted) ∙ c.if-too_long.true))

pub walk_payload-requires : goal.walk_payload-requires
walk_payload-requires c =
    let e = c.in_ok-heads.ensures.ok_part in
    let call = entered c.args.call in
    record {
      proper = record { sheet_usable = decoded_usable c.decode.ensures e; short = not_long call (sym (c.too_long.ensures.is call.sheet call.trusted) ∙ c.if-too_long.false); bytes = c.too_long.ensures.bytes };
      decoded = decoded_heads c.decode.ensures e;
      prepared = (let p = c.requires in record { objects_zero = p.objects_zero; values_zero = p.values_zero; slots_length = p.slots_length; addresses_length = p.addresses_length; first_slot = p.first_slot });
    }

-- past the checks the call is the walk
pub returns-clause-walked : goal.returns-clause-walked
returns-clause-walked c =
    let call = entered c.args.call in
    let u = decoded_usable c.decode.ensures c.in_ok-heads.ensures.ok_part in
    rw (called_walks call (begun_in c.args.tables.now) u (sym (c.too_long.ensures.is call.sheet call.trusted) ∙ c.if-too_long.false)) c.walk_payload.ensures
