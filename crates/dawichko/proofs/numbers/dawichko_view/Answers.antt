use Rattle.std.proofs.Common.{sym, subst, refl, ◌∙◌, ◌≡◌}
use Rattle.std.specs.Prelude.{[], ◌∷◌}
use Rattle.dawichko.specs.Told.{TellsView}
use Rattle.dawichko.proofs.numbers.dawichko_view.Goals as goal

pub returns-in-Ok-raw_range-clause-view : goal.returns-in-Ok-raw_range-clause-view
returns-in-Ok-raw_range-clause-view c listed =
    let told = sym c.raw_range.ensures ∙ c.in-Ok-raw_range.is in
    let numbers = c.in-Ok-raw_range.r.begin ∷ c.in-Ok-raw_range.r.len ∷ [] in
    record {
      part = c.in-Ok.part;
      is_part = c.in-Ok.ensures.part;
      tells = subst (λ r. TellsView r 0 numbers) (sym told) (refl, refl);
    }

pub returns-in-Err-raw_range-clause-view : goal.returns-in-Err-raw_range-clause-view
returns-in-Err-raw_range-clause-view c listed =
    let told = sym c.raw_range.ensures ∙ c.in-Err-raw_range.is in
    record {
      part = c.in-Ok.part;
      is_part = c.in-Ok.ensures.part;
      tells = subst (λ r. TellsView r c.number.result (0 ∷ 0 ∷ [])) (sym told) (c.number.ensures, refl);
    }
