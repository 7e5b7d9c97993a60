-- The walk at each way out of the code. Assumes nothing.
use mathlib.Core.Path.{◌≡◌, refl}
use mathlib.Core.Bool.{true, false}
use Prim.Native.Nat.{ℕ, ◌<◌}
use Rattle.std.specs.Prelude.{Ok, Err}
use Rattle.sheet.specs.Tests.{opens}
use Rattle.tables.specs.declared.values.SlotValue.{SlotValue}
use Rattle.definition.specs.Memory.{Input, Mem, Out, got, no, byte}
use Rattle.definition.specs.Object.{object}
use Rattle.definition.specs.Reference.{ref_at}
use Rattle.definition.specs.Closing.{closing}
use Rattle.definition.specs.Call.{top_space, walk}
use Rattle.laws.specs.Steps.{by}
use Rattle.laws.specs.Keeps.{Passed, byte_keeps}
use Rattle.readers.specs.declared.state.State.{State}
use Rattle.readers.specs.declared.walker.Walker.{Walker}
use Rattle.readers.specs.Views.{Answer, mem, seen}
use Rattle.readers.specs.Lent.{input_of, lent_of}
use Rattle.readers.proofs.ViewLaws.{then_got, then_no}
use Rattle.walker.specs.Ready.{Ready, After}
use Rattle.walker.proofs.ReadyLaws.{object_went}
use Rattle.walker.proofs.ReferenceLaws.{byte_still}
use Rattle.objects.proofs.AnswerLaws.{fixed_refl}
use Rattle.deferred.proofs.ReadyLaws.{idle_ready, went_ready}
use Rattle.graph.specs.Driver.{top_object, ReadyAfter}

module _ (x : Input) (m : Mem) where
  pub top_cut : {n q : ℕ} {m1 : Mem} → no n q m1 ≡ byte x m → no n q m1 ≡ top_object x m
  top_cut e = rw (← e)

  module _ {b : ℕ} {m1 : Mem} (e : got b m1 ≡ byte x m) where
    pub top_other : opens x.sheet b ≡ false → no 5 0 m1 ≡ top_object x m
    top_other y = rw (← e, y)

    pub top_opens : {space : ℕ} {out : Out SlotValue} → opens x.sheet b ≡ true → space ≡ top_space x b → out ≡ object x (ref_at x 64) space 0 m1 → out ≡ top_object x m
    top_opens y s h = rw (← e, y, ← s) h

  pub walk_no : {n q : ℕ} {m1 : Mem} → no n q m1 ≡ top_object x m → no n q m1 ≡ walk x m
  unfolding walk
  walk_no e = then_no (λ _. closing x) e

  pub walk_on : {v : SlotValue} {m1 : Mem} {out : Out (Unit {0})} → got v m1 ≡ top_object x m → out ≡ closing x m1 → out ≡ walk x m
  unfolding walk
  walk_on e h = then_got (λ _. closing x) e h

-- after the first byte
pub byte_ready : {w : Walker} {s t : State} {b : ℕ} → Ready w s → got b (mem t (lent_of w)) ≡ byte (input_of w) (mem s (lent_of w)) → Ready w t
byte_ready {w} {s} g e = idle_ready g (Passed 256) (λ I W R c. by c (byte_keeps g.proper R)) (byte_still (input_of w) (mem s (lent_of w))) (fixed_refl w, (refl, refl)) e

-- after the top object
pub object_ready : {w w' : Walker} {s : State} (r : Answer SlotValue) → Ready w s → (space : ℕ) → space < 256 → seen r (lent_of w') ≡ object (input_of w) (ref_at (input_of w) 64) space 0 (mem s (lent_of w)) → After w r w' → ReadyAfter r w'
object_ready (Ok (v, t)) g space b e a = went_ready g a (object_went g 64 space 0 b e)
object_ready (Err q) g space b e a = tt
