-- What holds at the start of a reader, after a reader of the driver went. Assumes nothing.
use mathlib.Core.Path.{◌≡◌, sym, subst}
use mathlib.Core.List.{List, []}
use Rattle.std.specs.Prelude.{Ok}
use Rattle.tables.specs.declared.values.SlotValue.{SlotValue}
use Rattle.address_index.specs.Links.{Linked}
use Rattle.definition.specs.Memory.{Input, table, Mem, Out, got}
use Rattle.laws.specs.Sound.{Proper, Sound, Counted, Kept, Holds}
use Rattle.laws.specs.Rules.{Frame, Rules}
use Rattle.laws.specs.Steps.{Good, Ends}
use Rattle.laws.specs.Rules.{Nothing, NoValue}
use Rattle.laws.proofs.Theorems.{rules, holds, begin}
use Rattle.laws.specs.Addresses.{Ascending, Seated, seated_rules, stays, from}
use Rattle.laws.specs.Numbered.{Numbered, FreshValue, Numbers, numbered-rules, orders, good}
use Rattle.readers.specs.declared.state.State.{State}
use Rattle.readers.specs.declared.walker.Walker.{Walker}
use Rattle.readers.specs.Views.{mem}
use Rattle.readers.specs.Lent.{input_of, lent_of, Fixed, Addressed}
use Rattle.readers.specs.Lent as Lent
use Rattle.objects.specs.Index.{Indexed}
use Rattle.objects.proofs.AnswerLaws.{same_input}
use Rattle.walker.specs.Ready.{Ready, After}
use Rattle.walker.proofs.ReadyLaws.{Went, went, None}
use Rattle.walker.proofs.SameLaws.{same_got}
use Rattle.walker.proofs.ReferenceLaws.{Records, records_of, Idle}

-- ---- after what a reader kept

-- a reader outside every object, by its law for every invariant
abbrev pub Law : {A : Type 0} → Input → (Mem → A → Mem → Type 0) → Mem → Out A → Type 1
Law {A} x P m o = (I : List Frame → Mem → Type 0) (W : Mem → SlotValue → Type 0) → Rules x I W → Good x I [] m m → Ends x I m (λ _. []) (P m) o

module _ {A : Type 0} {x : Input} {m : Mem} (p : Proper x) (s : Sound x m) (c : Counted m) (n : Numbered m) (a : Ascending x m.addresses m.alloc) (P : Mem → A → Mem → Type 0) {o : Out A} (l : Law x P m o) where
  pub law_went : {v : A} {m' : Mem} → got v m' ≡ o → Went x m (P m) None v m'
  law_went e =
      let kept : Holds x m (P m) o = holds x (l Nothing NoValue (rules x) (begin x s c tt)) in
      went kept (orders p (l Numbers FreshValue (numbered-rules x) (good p m s c n [] tt)) (λ _ _ _. tt)) (stays p (l (Seated x) NoValue (seated_rules p) (from p m s c a [] tt tt))) e

module _ {w : Walker} {s : State} (g : Ready w s) where
  pub ready_after : {w' : Walker} {s' : State} → Fixed w w' → Kept (input_of w) (mem s (lent_of w)) (mem s' (lent_of w')) → Numbered (mem s' (lent_of w')) → Ascending (input_of w) (table w'.addresses.now s'.addresses) w'.alloc
      → Indexed w'.slots.now s'.slots w'.pending.now → Linked w'.addresses.now s'.addresses w'.index.now → Ready w' s'
  ready_after {w'} {s'} f k n a i j =
      let e = sym (same_input f) in
      record {
        proper = subst Proper e g.proper;
        decoded = rw (f.sheet, f.heads) g.decoded;
        sound = subst (λ x. Sound x (mem s' (lent_of w'))) e k.sound;
        counted = k.counted;
        numbered = n;
        ascending = subst (λ x. Ascending x (table w'.addresses.now s'.addresses) w'.alloc) e a;
        indexed = i;
        linked = j;
      }

  module _ {A : Type 0} {P Q : A → Mem → Type 0} {v : A} {w' : Walker} {s' : State} where
    pub went_ready : After w (Ok (v, s')) w' → Went (input_of w) (mem s (lent_of w)) P Q v (mem s' (lent_of w')) → Ready w' s'
    went_ready a z = ready_after a.fixed z.kept z.numbered z.ascending a.indexed a.linked

  -- it left the slots, the address records and scratch as they were
  pub idle_ready : {A : Type 0} (P : Mem → A → Mem → Type 0) {o : Out A} → Law (input_of w) P (mem s (lent_of w)) o → Idle (mem s (lent_of w)) o → {w' : Walker} → Lent.Kept w w' → {v : A} {s' : State} → got v (mem s' (lent_of w')) ≡ o → Ready w' s'
  idle_ready P l u {w'} k {s' = s'} e =
      let z = law_went g.proper g.sound g.counted g.numbered g.ascending P l e in
      let same : records_of (mem s' (lent_of w')) ≡ records_of (mem s (lent_of w)) = same_got records_of {m = mem s (lent_of w)} {m' = mem s' (lent_of w')} e u in
      ready_after k.0 z.kept z.numbered z.ascending
      (subst (λ (r : Records). Indexed r.slots.rows r.slots.count w'.pending.now) (sym same) (rw k.1.0 g.indexed))
      (subst (λ (r : Records). Linked r.addresses.rows r.addresses.count w'.index.now) (sym same) (rw k.1.1 g.linked))
