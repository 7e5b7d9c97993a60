use Rattle.readers.specs.Views.{mem}
use Rattle.readers.specs.Lent.{input_of, lent_of}
use Rattle.objects.proofs.AnswerLaws.{same_input}
use Rattle.objects.proofs.MapLaws.{after_first}
use Rattle.objects.proofs.map.after_map.Goals as goal

pub returns-clause-is : goal.returns-clause-is
returns-clause-is c =
    let a = c.args in
    let l = lent_of a.w.now in
    let u = c.chunk_changes-u.ensures in
    after_first (input_of a.w.now) a.before a.space a.bytes a.o (mem a.s l) c.map_first.ensures c.if-not-map_first.false (c.pass_prefix-t.ensures.is l) u.is (rw (same_input u.kept.0) at c.allocate_object-2.ensures.is)
