-- The 256 answers while the rows are claimed from the last to the first: they are those of the rows
-- so far. Assumes nothing.
use mathlib.Core.Path.{◌≡◌, refl, ap, ◌∙◌}
use mathlib.Core.Bool.{Bool, true, false, ◌&&◌}
use mathlib.Core.List.{List, [], ◌∷◌, ◌++◌}
use Prim.Native.Nat.{ℕ, ◌+◌, ◌<◌, ◌≤◌}
use native.Mathlib.Omega.{arith}
use lib.Dec.{leb, ltb}
use lib.ListN.{length, replicate, length-replicate, get_or-replicate}
use Rattle.std.proofs.Common.{append_assoc, append-nil}
use borrow.Author.Tests.{leb-true, leb-false, ltb-true, ltb-false}
use Rattle.sheet.specs.Sheet.{number, present, root_mask, usable as isUsable}
use Rattle.sheet.proofs.UsableSheet.{usable_gives}
use Rattle.heads.specs.Heads.{order, span_of, tests, claims, head_by, first_of, head_of, no_head, head_at, Heads}
use Rattle.heads.specs.Assigning.{Assigned}
use Rattle.heads.specs.declared.heads.Head.{Head}
use Rattle.heads.specs.declared.order.Claim.{Claim}
use Rattle.heads.specs.declared.order.TheConstants.{ORDER}
use Rattle.heads.proofs.Assigning.{assigned_as}
use Rattle.heads.proofs.Spans.{fits}

pub record Answers (v : List ℕ) (rows : List Claim) (t : List Head) : Type 0 where
  pub size : length t ≡ 256
  pub each : (b : ℕ) → b < 256 → head_at t b ≡ first_of v rows b

-- of no row: no byte has a meaning
answers_none : (v : List ℕ) (t : List Head) → t ≡ replicate 256 no_head → Answers v [] t
unfolding first_of
answers_none v t e =
    record { size = ap length e ∙ length-replicate {A = Head} 256 no_head; each = λ b h. rw e (get_or-replicate 256 b no_head no_head h) }

untested : (a b c : Bool) → a && false && b && c ≡ false
untested true b c = refl
untested false b c = refl

module _ (v : List ℕ) (r : Claim) (rows : List Claim) (t : List Head) (w : Answers v rows t) where
  passed : (b : ℕ) → claims v r b ≡ false → first_of v (r ∷ rows) b ≡ first_of v rows b
  unfolding first_of
  passed b e = rw e

  taken : (b : ℕ) → claims v r b ≡ true → first_of v (r ∷ rows) b ≡ head_by v r b
  unfolding first_of
  taken b e = rw e

  -- a row that lays hold of no byte changes nothing
  answers_same : ((b : ℕ) → claims v r b ≡ false) → Answers v (r ∷ rows) t
  answers_same e = record { size = w.size; each = λ b h. rw (passed b (e b)) (w.each b h) }

  answers_absent : present v r.name ≡ false → Answers v (r ∷ rows) t
  answers_absent e = answers_same (λ b. rw e)

  answers_untested : tests v r.family ≡ false → Answers v (r ∷ rows) t
  answers_untested e = answers_same (λ b. rw e (untested _ _ _))

  -- one that applies has its bytes, and no others
  module _ (p : present v r.name ≡ true) (q : tests v r.family ≡ true) (after : List Head) (d : Assigned t (number v r.name) (span_of v r.span) r.kind r.argument (root_mask v) after) where
    claims_at : (b : ℕ) → claims v r b ≡ leb (number v r.name) b && ltb b (number v r.name + span_of v r.span)
    claims_at b = rw (p, q)

    claimed_at : (b : ℕ) → b < 256 → (x y : Bool) → leb (number v r.name) b ≡ x → ltb b (number v r.name + span_of v r.span) ≡ y → head_at after b ≡ first_of v (r ∷ rows) b
    claimed_at b h true true e f = rw (taken b (rw (claims_at b, e, f))) (d.inside b (leb-true _ _ e) (ltb-true _ _ f))
    claimed_at b h true false e f = rw (passed b (rw (claims_at b, e, f))) (d.above b (ltb-false _ _ f) h ∙ w.each b h)
    claimed_at b h false y e f = rw (passed b (rw (claims_at b, e))) (d.below b (leb-false _ _ e) ∙ w.each b h)

    answers_claimed : Answers v (r ∷ rows) after
    answers_claimed = record { size = d.size ∙ w.size; each = λ b h. claimed_at b h _ _ refl refl }

-- the claims that are left to make are the first rows, and the answers are those of the others
pub record Left (v : List ℕ) (cs : List Claim) (t : List Head) : Type 0 where
  pub made : List Claim
  pub rows : cs ++ made ≡ order
  pub answers : Answers v made t

-- the code's table is the order
pub left_all : (v : List ℕ) (cs : List Claim) (t : List Head) → cs ≡ ORDER → t ≡ replicate 256 no_head → Left v cs t
unfolding order
left_all v cs t e z = record { made = []; rows = append-nil cs ∙ e; answers = answers_none v t z }

pub left_none : (v : List ℕ) (cs : List Claim) (t : List Head) → length cs ≡ 0 → Left v cs t → Heads v t
unfolding head_of
left_none v [] t e w = let d : Answers v order t = rw w.rows at w.answers in record { size = d.size; each = d.each }
left_none v (c ∷ cs) t e w = absurd (omega arith)

-- the last of them is made
module _ (v : List ℕ) (t : List Head) (cs ds : List Claim) (c : Claim) (e : cs ≡ ds ++ c ∷ []) (w : Left v cs t) where
  rows_left : ds ++ c ∷ w.made ≡ order
  rows_left = rw (← append_assoc ds (c ∷ []) w.made, ← e) w.rows

  left_as : (after : List Head) → Answers v (c ∷ w.made) after → Left v ds after
  left_as after d = record { made = c ∷ w.made; rows = rows_left; answers = d }

  pub left_absent : present v c.name ≡ false → Left v ds t
  left_absent p = left_as t (answers_absent v c w.made t w.answers p)

  pub left_untested : tests v c.family ≡ false → Left v ds t
  left_untested q = left_as t (answers_untested v c w.made t w.answers q)

  module _ (first n : ℕ) (f : first ≡ number v c.name) (s : n ≡ span_of v c.span) (p : present v c.name ≡ true) (q : tests v c.family ≡ true) where
    pub left_fits : isUsable v ≡ true → first + n ≤ 256
    left_fits u = rw (f, s) (fits v (usable_gives v u) ds w.made c rows_left p q)

    pub left_claimed : (after : List Head) (mask : ℕ) → mask ≡ root_mask v → Assigned t first n c.kind c.argument mask after → Left v ds after
    left_claimed after mask m d = left_as after (answers_claimed v c w.made t w.answers p q after (assigned_as f s m d))
