-- What a walker and a state have in order, over the definition's input and memory, and what an
-- answer says of it. Assumes nothing.
use mathlib.Core.Path.{◌≡◌, sym, subst}
use mathlib.Core.List.{List}
use Prim.Native.Nat.{ℕ}
use native.Mathlib.Omega.{arith}
use Rattle.std.specs.Prelude.{Ok, Err}
use Rattle.heads.specs.declared.heads.Head.{Head}
use Rattle.heads.specs.Heads.{Heads}
use Rattle.address_index.specs.Links.{Linked}
use Rattle.definition.specs.Memory.{Input, Table, table, Mem, Out, got, no}
use Rattle.laws.specs.Sound.{Proper, Sound, Counted}
use Rattle.laws.specs.Numbered.{Numbered}
use Rattle.laws.specs.Addresses.{Ascending, ascending_sorted}
use Rattle.readers.specs.declared.state.State.{State}
use Rattle.readers.specs.declared.walker.Walker.{Walker}
use Rattle.readers.specs.Views.{Answer, mem, seen}
use Rattle.readers.specs.Lent.{input_of, lent_of, Fixed, SameScratch, Addressed}
use Rattle.objects.specs.Index.{Indexed}
use Rattle.objects.proofs.AnswerLaws.{fixed_on, same_input}
use Rattle.walker.specs.Ready.{Ready, After}

-- the places of the pending numbers, and the index of address records
pub record Scratch : Type 0 where
  pub pending : List ℕ
  pub index : List ℕ

abbrev pub scratch_of : Walker → Scratch
scratch_of w = record { pending = w.pending.now; index = w.index.now }

pub record Index (slots addresses : Table) (sc : Scratch) : Type 0 where
  pub pending : Indexed slots.rows slots.count sc.pending
  pub linked : Linked addresses.rows addresses.count sc.index

-- with a value both are right
abbrev pub OutIndex : {A : Type 0} → Out A → Scratch → Type 0
OutIndex (got v m) sc = Index m.slots m.addresses sc
OutIndex (no n q m) sc = Unit {0}

-- what `Ready` says, of an input and a memory
pub record InOrder (x : Input) (h : List Head) (m : Mem) (sc : Scratch) : Type 0 where
  pub proper : Proper x
  pub decoded : Heads x.sheet h
  pub sound : Sound x m
  pub counted : Counted m
  pub numbered : Numbered m
  pub ascending : Ascending x m.addresses m.alloc
  pub index : Index m.slots m.addresses sc

pub order_of : {w : Walker} {s : State} → Ready w s → InOrder (input_of w) w.heads.now (mem s (lent_of w)) (scratch_of w)
order_of g =
    record { proper = g.proper; decoded = g.decoded; sound = g.sound; counted = g.counted; numbered = g.numbered; ascending = g.ascending; index = record { pending = g.indexed; linked = g.linked } }

pub ready_of : {w : Walker} {s : State} → InOrder (input_of w) w.heads.now (mem s (lent_of w)) (scratch_of w) → Ready w s
ready_of g =
    record { proper = g.proper; decoded = g.decoded; sound = g.sound; counted = g.counted; numbered = g.numbered; ascending = g.ascending; indexed = g.index.pending; linked = g.index.linked }

-- legacy addresses may be looked up
pub addressed : {w : Walker} {s : State} → Ready w s → Addressed w s.addresses
addressed {w} {s} g =
    record { usable = g.proper.sheet_usable; within = omega (arith, g.sound.addresses_fit); linked = g.linked; sorted = ascending_sorted (input_of w) (table w.addresses.now s.addresses) w.alloc g.ascending }

-- ---- what is only read stays

same_heads : {w w' : Walker} → Fixed w w' → w'.heads.now ≡ w.heads.now
same_heads f = rw (f.heads)

-- an equation over the input after a call, as one over the input before it
pub at_input : {A : Type 0} {w w' : Walker} → Fixed w w' → {o : Out A} (r : Input → Out A) → o ≡ r (input_of w') → o ≡ r (input_of w)
at_input f {o} r e = subst (λ (x : Input). o ≡ r x) (same_input f) e

pub ready_on : {w w' : Walker} {s' : State} → Fixed w w' → InOrder (input_of w) w.heads.now (mem s' (lent_of w')) (scratch_of w') → Ready w' s'
ready_on {w} {w'} {s'} f g =
    ready_of (subst (λ (h : List Head). InOrder (input_of w') h (mem s' (lent_of w')) (scratch_of w')) (sym (same_heads f)) (subst (λ (x : Input). InOrder x w.heads.now (mem s' (lent_of w')) (scratch_of w')) (sym (same_input f)) g))

-- ---- answers

module _ {A : Type 0} {w w' : Walker} where
  pub after_of : (r : Answer A) → Fixed w w' → OutIndex (seen r (lent_of w')) (scratch_of w') → After w r w'
  after_of (Ok r) f i = record { fixed = f; indexed = i.pending; linked = i.linked }
  after_of (Err e) f i = record { fixed = f; indexed = tt; linked = tt }

  pub got_index : {v : A} {s : State} → After w (Ok (v, s)) w' → Index (table w'.slots.now s.slots) (table w'.addresses.now s.addresses) (scratch_of w')
  got_index a = record { pending = a.indexed; linked = a.linked }

-- an answer of a call that goes on from another
pub after_on : {A : Type 0} {w w₁ w₂ : Walker} {r : Answer A} → Fixed w w₁ → After w₁ r w₂ → After w r w₂
after_on f a = record { fixed = fixed_on f a.fixed; indexed = a.indexed; linked = a.linked }

pub same_scratch : (w w' : Walker) → SameScratch w w' → scratch_of w' ≡ scratch_of w
same_scratch w w' k = rw (k.0, k.1)
