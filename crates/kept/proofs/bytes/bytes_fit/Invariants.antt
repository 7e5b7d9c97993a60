use Rattle.std.proofs.Common.{◌≡◌, ◌-◌, ◌^◌, ◌<◌}
use Rattle.kept.specs.Bytes.{total_from, size_of}
use Rattle.kept.proofs.bytes.bytes_fit.Given as goal

abbrev pub invariant-loop-object : goal.invariant-loop-object
invariant-loop-object l =
    record {
      fits : l.sum < 2 ^ 64;
      sum : l.sum ≡ total_from (size_of l.filled) l.filled.starts.objects (l.object - l.filled.starts.objects);
    }
