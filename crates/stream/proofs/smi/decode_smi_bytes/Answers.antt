use borrow.Author.Rules.{rules}
use native.Mathlib.Omega.{arith}
use Rattle.stream.proofs.SmiLaws.{word_below, smi8_is, smi8_no, smi4_is, smi4_no, smi_no}
use Rattle.stream.proofs.smi.decode_smi_bytes.Goals as goal

pub returns-then-raw-eq0-clause-is : goal.returns-then-raw-eq0-clause-is
returns-then-raw-eq0-clause-is c = smi8_is _ c.if-d-eq8.true c.little_endian-raw.ensures c.if-raw-eq0.true (search rules) c.signed32.ensures.is

pub returns-then-d-eq8-clause-is : goal.returns-then-d-eq8-clause-is
returns-then-d-eq8-clause-is c = smi8_no _ c.if-d-eq8.true c.little_endian-raw.ensures c.if-raw-eq0.false

pub signed32-requires-then-raw-eq0-2 : goal.signed32-requires-then-raw-eq0-2
signed32-requires-then-raw-eq0-2 c =
    word_below _ (λ i. omega (arith, c.type_inv.d i)) c.little_endian-raw-then-d-eq4.ensures

pub returns-then-raw-eq0-2-clause-is : goal.returns-then-raw-eq0-2-clause-is
returns-then-raw-eq0-2-clause-is c =
    smi4_is _ c.if-d-eq4.true c.little_endian-raw-then-d-eq4.ensures c.if-raw-eq0-2.true
    (word_below _ (λ i. omega (arith, c.type_inv.d i)) c.little_endian-raw-then-d-eq4.ensures)
    c.signed32-then-raw-eq0-2.ensures.is

pub returns-else-raw-eq0-2-clause-is : goal.returns-else-raw-eq0-2-clause-is
returns-else-raw-eq0-2-clause-is c = smi4_no _ c.if-d-eq4.true c.little_endian-raw-then-d-eq4.ensures c.if-raw-eq0-2.false

pub returns-else-d-eq4-clause-is : goal.returns-else-d-eq4-clause-is
returns-else-d-eq4-clause-is c = smi_no _ c.if-d-eq8.false c.if-d-eq4.false
