use native.Mathlib.Omega.{arith}
use mathlib.Core.Path.{◌∙◌}
use Rattle.std.proofs.Common.{rules}
use Rattle.backref.proofs.BackrefLaws.{word_small}
use Rattle.readers.specs.Views.{refused_at}
use Rattle.readers.specs.Lent.{input_of, lent_of}
use Rattle.objects.proofs.AnswerLaws.{passed_on, mapped_ok, mapped_err}
use Rattle.objects.proofs.MapLaws.{allocated_room, allocated_no, allocated}
use Rattle.objects.proofs.map.allocate_object.Goals as goal

pub allocate_record-requires : goal.allocate_record-requires
allocate_record-requires c = (c.requires.sheet_value.1, word_small _ c.requires.sheet_value.0 c.word_bytes.ensures.0, c.requires.linked_before)

pub overflow_add-t : goal.overflow_add-t
overflow_add-t c =
    let p = mapped_ok _ c.allocate_record.result c.map_err.ensures.cases c.in_ok-alignment.was in
    omega (arith, allocated_room _ _ _ _ _ (rw p at c.allocate_record.ensures.is), c.well_formed)

pub returns-in_err-alignment-clause-is : goal.returns-in_err-alignment-clause-is
returns-in_err-alignment-clause-is c =
    let a = c.args in
    let e = c.allocate_record.ensures in
    let p = mapped_err _ {R = λ e. refused_at e a.s.at a.s} (λ e y k. search rules) c.allocate_record.result c.map_err.ensures.cases c.in_err-alignment.was in
    passed_on _ _ _ c.from_residual.ensures.1
    ∙ rw p.2 (allocated_no (input_of a.w.now) a.s a.space a.bytes a.o _ (lent_of a.w.now) c.word_bytes.ensures.0 p.0 (rw p.1 at e.some) (rw p.1 at e.is) (rw p.1 at e.refused).0)

pub returns-clause-is : goal.returns-clause-is
returns-clause-is c =
    let a = c.args in
    let e = c.allocate_record.ensures in
    let p = mapped_ok _ c.allocate_record.result c.map_err.ensures.cases c.in_ok-alignment.was in
    allocated (input_of a.w.now) a.s a.space a.bytes a.o _ (lent_of a.w.now) c.word_bytes.ensures.0 (rw p at e.is) e.rest.lent
