use native.Mathlib.Omega.{arith}
use mathlib.Core.Path.{sym, ◌∙◌}
use Rattle.std.proofs.lemmas.Result.{err_from_is_err_and}
use Rattle.readers.specs.Views.{mem}
use Rattle.readers.specs.Lent.{input_of, lent_of}
use Rattle.objects.proofs.AnswerLaws.{fixed_refl}
use Rattle.graph.proofs.WalkLaws.{top_cut, top_other, top_opens, byte_ready, object_ready}
use Rattle.graph.proofs.walk.top_object.Goals as goal

pub parse_object-requires-clause-ready : goal.parse_object-requires-clause-ready
parse_object-requires-clause-ready c = byte_ready c.requires.ready (c.in_ok-b.ensures.by_index _ _ _ _)

pub returns-in_err-b : goal.returns-in_err-b
returns-in_err-b c = let p = err_from_is_err_and c.from_residual.result c.from_residual.ensures.1 in rw (p.1, p.2) (record { is = top_cut (input_of c.args.w.now) _ (c.in_err-b.ensures.by_index _ _ _ _); fixed = fixed_refl _; ready = tt })

pub returns-then-not-opens : goal.returns-then-not-opens
returns-then-not-opens c = record { is = rw c.refused_at.ensures (top_other (input_of c.args.w.now) _ (c.in_ok-b.ensures.by_index _ _ _ _) (sym c.opens.ensures ∙ c.if-not-opens.true)); fixed = fixed_refl _; ready = tt }

pub returns : goal.returns
returns c =
    let e = c.in_ok-b.ensures.by_index _ _ _ (lent_of c.args.w.now) in
    record {
      is = top_opens (input_of c.args.w.now) (mem c.args.s (lent_of c.args.w.now)) e (sym c.opens.ensures ∙ c.if-not-opens.false) (c.top_space.ensures.space c.args.w.now.payload.now c.args.w.now.trusted.now c.args.w.now.spaces) c.parse_object.ensures.is;
      fixed = c.parse_object.ensures.after.fixed;
      ready = object_ready c.parse_object.result (byte_ready c.requires.ready e) c.top_space.result (omega (arith, c.top_space.ensures.low, c.in_ok-b.ensures.small)) c.parse_object.ensures.is c.parse_object.ensures.after;
    }
