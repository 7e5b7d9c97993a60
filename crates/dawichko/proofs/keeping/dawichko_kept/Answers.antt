use Rattle.std.proofs.Common.{arith, refl}
use Rattle.dawichko.proofs.keeping.dawichko_kept.Goals as goal

pub returns-in-Ok-keep-clause-kept : goal.returns-in-Ok-keep-clause-kept
returns-in-Ok-keep-clause-kept c listed =
    record {
      part = c.in-Ok.part;
      is_part = c.in-Ok.ensures.part;
      refused = grind (arith, c.in-Ok-keep.ensures.refused);
      kept = λ no. (refl, c.in-Ok-keep.ensures.kept);
    }

pub returns-in-Err-keep-clause-kept : goal.returns-in-Err-keep-clause-kept
returns-in-Err-keep-clause-kept c listed =
    record {
      part = c.in-Ok.part;
      is_part = c.in-Ok.ensures.part;
      refused = grind (arith, c.in-Err-keep.ensures.refused, c.in-Err-keep.ensures.error, c.number.ensures);
      kept = grind (arith, c.in-Err-keep.ensures.error, c.number.ensures);
    }
