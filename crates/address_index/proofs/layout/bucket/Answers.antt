use mathlib.Core.Path.{ap, ◌∙◌}
use Rattle.address_index.specs.Layout.{block_start}
use Rattle.address_index.proofs.LayoutLaws.{bucket_low, bucket_around}
use Rattle.address_index.proofs.layout.bucket.Goals as goal

pub returns-then-b-buckets : goal.returns-then-b-buckets
returns-then-b-buckets c =
    let a = c.args in
    let i = c.in_block.ensures.0 in
    rw i (bucket_low a.r a.seed a.space a.place.chunk a.place.offset _ (c.block_start.ensures.0 ∙ ap (block_start a.r a.seed) c.block.ensures) (rw i at c.if-b-buckets.true))

pub returns-else-b-buckets : goal.returns-else-b-buckets
returns-else-b-buckets c =
    let a = c.args in
    let i = c.in_block.ensures.0 in
    rw i (bucket_around a.r a.seed a.space a.place.chunk a.place.offset _ (c.block_start.ensures.0 ∙ ap (block_start a.r a.seed) c.block.ensures) c.requires.0 (rw i at c.if-b-buckets.false))
