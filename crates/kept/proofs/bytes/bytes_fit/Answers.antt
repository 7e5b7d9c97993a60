use Rattle.std.proofs.Common.{◌≡◌, ◌+◌, ◌-◌, ℕ, arith, refl, ap}
use Rattle.std.proofs.lemmas.Bool.{false≢true}
use Rattle.kept.specs.Bytes.{total_from, size_of, object_count}
use Rattle.kept.proofs.TotalLaws.{total_more, total_mono}
use Rattle.kept.proofs.bytes.bytes_fit.Goals as goal

pub returns-in-None : goal.returns-in-None
returns-in-None c =
    let part = c.args.filled in
    let l = c.loop-object in
    let more = total_more (size_of part) part.starts.objects l.object (omega (arith, l.auto.object)) in
    let all = total_mono (size_of part) part.starts.objects (l.object + 1 - part.starts.objects) (object_count part) (omega (arith, c.loop-object-test.true)) in
    (λ e. absurd (false≢true e), λ low. absurd (c.in-None.ensures (omega (arith, low, more, all, l.invariant.sum, c.size.ensures))))

pub returns : goal.returns
returns c =
    let part = c.args.filled in
    let l = c.loop-object in
    let at : l.object ≡ part.counts.objects = omega (arith, c.loop-object-test.false, l.auto.object-end part.started.objects) in
    let same = ap (λ (k : ℕ). total_from (size_of part) part.starts.objects (k - part.starts.objects)) at in
    (λ e. omega (arith, same, l.invariant.sum, l.invariant.fits), λ low. refl)
