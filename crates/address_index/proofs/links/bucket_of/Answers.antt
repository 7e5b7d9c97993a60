use mathlib.Core.Path.{◌∙◌}
use Rattle.address_index.proofs.CountLaws.{space_field}
use Rattle.address_index.proofs.links.bucket_of.Goals as goal

pub returns : goal.returns
returns c =
    let a = c.args in
    (c.bucket.ensures.0 ∙ rw (c.capacity.ensures.is, c.into.ensures, c.address_at-a.ensures, space_field a.table.now a.i), rw c.capacity.ensures.is at c.bucket.ensures.1)
