use Rattle.std.proofs.Common.{arith}
use Rattle.cache_graph.specs.Promise.{entered, rooms_in}
use Rattle.cache_graph.proofs.CallLaws.{reads_accepted, reads_refused, numbered, cleared, assures, seconds}
use Rattle.cache_graph.proofs.parse.parse_with.Goals as goal

pub returns-in-Ok-clause-reads : goal.returns-in-Ok-clause-reads
returns-in-Ok-clause-reads c =
    let t = c.clear_rest.ensures.trimmed in
    reads_accepted (entered c.args.call) (rooms_in c.args.tables.now) c.prepare.ensures.prepared c.in-Ok.ensures.walked t.objects_same t.slots_rest t.values_same t.addresses_rest

pub returns-in-Ok-clause-assured : goal.returns-in-Ok-clause-assured
returns-in-Ok-clause-assured c =
    assures (entered c.args.call) (rooms_in c.args.tables.now) (returns-in-Ok-clause-reads c) c.in-Ok.ensures.bytes

pub returns-in-Ok-clause-second : goal.returns-in-Ok-clause-second
returns-in-Ok-clause-second c =
    seconds (entered c.args.call) (rooms_in c.args.tables.now) (returns-in-Ok-clause-reads c) c.in-Ok.ensures.bytes

pub returns-in-Err-clause-reads : goal.returns-in-Err-clause-reads
returns-in-Err-clause-reads c =
    rw c.in-Err.is (reads_refused (entered c.args.call) (rooms_in c.args.tables.now) c.prepare.ensures.prepared c.in-Err.field-0 c.in-Err.ensures.walked c.in-Err.ensures.rooms c.clear.ensures.zero)

pub returns-in-Err-clause-numbered : goal.returns-in-Err-clause-numbered
returns-in-Err-clause-numbered c =
    rw c.in-Err.is (numbered (entered c.args.call) (rooms_in c.args.tables.now) c.prepare.ensures.prepared c.in-Err.field-0 c.in-Err.ensures.walked)

pub returns-in-Err-clause-assured : goal.returns-in-Err-clause-assured
returns-in-Err-clause-assured c =
    let n = numbered (entered c.args.call) (rooms_in c.args.tables.now) c.prepare.ensures.prepared c.in-Err.field-0 c.in-Err.ensures.walked in
    rw c.in-Err.is (λ p z. absurd (omega (arith, n, z)))

pub returns-in-Err-clause-second : goal.returns-in-Err-clause-second
returns-in-Err-clause-second c =
    let n = numbered (entered c.args.call) (rooms_in c.args.tables.now) c.prepare.ensures.prepared c.in-Err.field-0 c.in-Err.ensures.walked in
    rw c.in-Err.is (λ p z. absurd (omega (arith, n, z)))

pub returns-in-Err-clause-cleared : goal.returns-in-Err-clause-cleared
returns-in-Err-clause-cleared c =
    rw c.in-Err.is (cleared (entered c.args.call) (rooms_in c.args.tables.now) c.prepare.ensures.prepared c.in-Err.ensures.rooms c.clear.ensures.zero)
