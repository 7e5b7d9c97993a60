-- The parts of the driver that are a function of their own in the code. Assumes nothing: these are
-- definitions.
use Rattle.std.specs.Prelude.{if◌then◌else◌, Ok, Err}
use Rattle.sheet.specs.Tests.{opens}
use Rattle.tables.specs.declared.values.SlotValue.{SlotValue}
use Rattle.definition.specs.Memory.{Input, Reader, ◌>>=◌, refuse_at, byte}
use Rattle.definition.specs.Object.{object}
use Rattle.definition.specs.Reference.{ref_at}
use Rattle.definition.specs.Call.{top_space}
use Rattle.readers.specs.declared.walker.Walker.{Walker}
use Rattle.readers.specs.Views.{Answer}
use Rattle.walker.specs.Ready.{Ready}

-- the top object
abbrev pub top_object : Input → Reader SlotValue
top_object x = byte x >>= (λ b. if opens x.sheet b then object x (ref_at x 64) (top_space x b) 0 else refuse_at 5 0)

-- with an answer, what holds at the start of a reader holds again
abbrev pub ReadyAfter : {A : Type 0} → Answer A → Walker → Type 0
ReadyAfter (Ok r) w = Ready w r.1
ReadyAfter (Err e) w = Unit {0}
