use Rattle.std.proofs.Common.{sym, ap, subst, refl, ◌∙◌, ◌≡◌}
use Rattle.std.specs.Prelude.{[], ◌∷◌}
use Rattle.filled.specs.Numbers.{number_at}
use Rattle.dawichko.specs.Told.{TellsNumber}
use Rattle.dawichko.proofs.numbers.dawichko_number.Goals as goal

pub returns-in-Ok-number_at-clause-number : goal.returns-in-Ok-number_at-clause-number
returns-in-Ok-number_at-clause-number c listed =
    let told =
    ap (λ w. number_at c.in-Ok.part c.args.payload.now c.args.slot c.args.at w) (sym c.wish_of.ensures)
    ∙ sym c.number_at.ensures
    ∙ c.in-Ok-number_at.is in
    record {
      part = c.in-Ok.part;
      is_part = c.in-Ok.ensures.part;
      tells = subst (λ r. TellsNumber r 0 c.bits_of.result) (sym told) (refl, c.bits_of.ensures);
    }

pub returns-in-Err-number_at-clause-number : goal.returns-in-Err-number_at-clause-number
returns-in-Err-number_at-clause-number c listed =
    let told =
    ap (λ w. number_at c.in-Ok.part c.args.payload.now c.args.slot c.args.at w) (sym c.wish_of.ensures)
    ∙ sym c.number_at.ensures
    ∙ c.in-Err-number_at.is in
    record {
      part = c.in-Ok.part;
      is_part = c.in-Ok.ensures.part;
      tells = subst (λ r. TellsNumber r c.number.result (0 ∷ 0 ∷ [])) (sym told) (c.number.ensures, refl);
    }
