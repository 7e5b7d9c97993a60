use mathlib.Core.Path.{◌∙◌}
use native.Mathlib.Omega.{arith}
use Rattle.address_index.proofs.CountLaws.{space_field, count_low}
use Rattle.address_index.proofs.links.entry_of.Goals as goal

pub returns : goal.returns
returns c =
    let a = c.args in
    let q = c.requires in
    let w = q.2 (omega (arith, q.1)) in
    record {
      fits = record { number_low = λ l. let z = count_low a.table.now c.address_at-space.result.space a.n in omega (arith, c.listed.ensures.is l, w.lists.counts _ l, z); bucket_low = c.bucket_of.ensures.1 };
      space = rw c.address_at-space.ensures (space_field a.table.now a.n);
      number = λ l. c.listed.ensures.is l ∙ w.lists.counts _ l;
      unlisted = c.listed.ensures.none;
      bucket = c.bucket_of.ensures.0;
    }
