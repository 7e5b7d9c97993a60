-- A plain sheet gives no head byte a kind that only legacy, 6.x or with-skip sheets have. Assumes
-- nothing.
use Rattle.std.specs.Prelude.{◌≡◌, refl, Bool, true, false, not, ◌&&◌, ◌||◌, ℕ, ◌+◌, ◌-◌, ◌<◌, ◌≤◌, eqb, leb}
use Rattle.std.proofs.Common.{⊎_elim, arith, eqb-true, leb-true, ltb-true, le-leb, lt-ltb}
use mathlib.Core.List.{List}
use Rattle.std.proofs.lemmas.Bool.{not-true, and_parts, or_cases}
use Rattle.sheet.specs.Names.{k_new_object, k_backref, k_hot_object_with_skip, k_root_array_constants_with_skip, k_skip}
use Rattle.sheet.specs.Sheet.{number, present, root_mask}
use Rattle.sheet.specs.Tests.{opens}
use Rattle.sheet.proofs.TestsLaws.{none_past}
use Rattle.heads.specs.declared.heads.Head.{Head}
use Rattle.heads.specs.declared.kinds.Kind.{Kind}
use Rattle.heads.specs.declared.kinds.Kind.TheVariants.{NewObject, Hot, FixedRaw, LegacyBackref, LegacyBackrefWithSkip, NextChunk, Alignment, HotWithSkip, RootConstantWithSkip, Builtin, External, Api, Internal, Deoptimizer, StreamBytes, EmbedderFields, OffHeapTarget, Skip, RepeatPrevious, VariableRepeatPrevious}
use Rattle.heads.specs.declared.order.Claim.{Claim}
use Rattle.heads.specs.declared.order.Span.{Span}
use Rattle.heads.specs.declared.order.Span.TheVariants.{UpToBackref}
use Rattle.heads.specs.declared.order.Family.{Family}
use Rattle.heads.specs.declared.order.Family.TheVariants.{Legacy, SixX, SixXAlone}
use Rattle.heads.specs.Heads.{tests, order, claims, head_by, head_of}
use Rattle.heads.proofs.Rules.{each_head, is_ruled, place_low, raw_low}
use Rattle.assurance.specs.PlainSheet.{clash, PlainSheet}

-- the kinds that a plain sheet does not have
abbrev pub not_plain : Kind → Bool
not_plain LegacyBackref = true
not_plain LegacyBackrefWithSkip = true
not_plain NextChunk = true
not_plain Alignment = true
not_plain HotWithSkip = true
not_plain RootConstantWithSkip = true
not_plain Builtin = true
not_plain External = true
not_plain Api = true
not_plain Internal = true
not_plain Deoptimizer = true
not_plain StreamBytes = true
not_plain EmbedderFields = true
not_plain OffHeapTarget = true
not_plain Skip = true
not_plain RepeatPrevious = true
not_plain VariableRepeatPrevious = true
not_plain kind = false

-- what is known of a head that a plain sheet gives a byte: its kind; a new-object head lies from
-- kNewObject up to below kBackref; fixed raw data has a word at least; a hot byte names one of eight
-- places
pub record PlainHead (v : List ℕ) (b : ℕ) (h : Head) : Type 0 where
  pub kind : not_plain h.kind ≡ false
  pub new_object_lem : h.kind ≡ NewObject → opens v b ≡ true
  pub raw : h.kind ≡ FixedRaw → 1 ≤ h.argument
  pub place : h.kind ≡ Hot → h.argument < 8

-- families and names of which a plain sheet has none
abbrev no_family : Family → Bool
no_family Legacy = true
no_family SixX = true
no_family SixXAlone = true
no_family family = false

abbrev no_name : ℕ → Bool
no_name k = eqb k k_hot_object_with_skip || eqb k k_root_array_constants_with_skip || eqb k k_skip

abbrev untested : Claim → Bool
untested r = no_family r.family || no_name r.name

-- a new-object row is that of modern sheets
abbrev is_up_to_backref : Span → Bool
is_up_to_backref UpToBackref = true
is_up_to_backref span = false

abbrev is_opening : Kind → Claim → Bool
is_opening NewObject r = untested r || (eqb r.name k_new_object && is_up_to_backref r.span)
is_opening kind r = true

abbrev fits : Claim → Bool
fits r = (untested r || not (not_plain r.kind)) && is_opening r.kind r && is_ruled r.kind r.argument

up_to_backref : (s : Span) → is_up_to_backref s ≡ true → s ≡ UpToBackref
up_to_backref UpToBackref e = refl
up_to_backref s e = absurd cc

module _ (v : List ℕ) (s : PlainSheet v) where
  not_tested : (f : Family) → no_family f ≡ true → tests v f ≡ true → ⊥
  not_tested Legacy e t = clash (tests v Legacy) t s.no_legacy
  not_tested SixX e t = clash (tests v SixX) t s.no_six_x
  not_tested SixXAlone e t = clash (tests v SixX) (and_parts (tests v SixX) _ t).0 s.no_six_x
  not_tested f e t = cc

  not_present : (k : ℕ) → no_name k ≡ true → present v k ≡ true → ⊥
  not_present k e p =
      let is : (j : ℕ) → eqb k j ≡ true → present v j ≡ false → ⊥ = λ j q a. clash (present v j) (rw (eqb-true k j q) at p) a in
      ⊎_elim
      (λ q. ⊎_elim (λ q. is k_hot_object_with_skip q s.no_hot_skip) (λ q. is k_root_array_constants_with_skip q s.no_root_skip) (or_cases (eqb k k_hot_object_with_skip) _ q))
      (λ q. is k_skip q s.no_skip)
      (or_cases (eqb k k_hot_object_with_skip || eqb k k_root_array_constants_with_skip) _ e)

  untested_row : (r : Claim) (b : ℕ) → untested r ≡ true → claims v r b ≡ true → ⊥
  untested_row r b u c =
      let l : present v r.name && tests v r.family ≡ true = (and_parts _ _ (and_parts _ _ c).0).0 in
      ⊎_elim
      (λ f. not_tested r.family f (and_parts (present v r.name) _ l).1)
      (λ n. not_present r.name n (and_parts _ _ l).0)
      (or_cases (no_family r.family) _ u)

  -- of the modern row for new objects
  opening : (r : Claim) (b : ℕ) → r.name ≡ k_new_object → r.span ≡ UpToBackref → claims v r b ≡ true → opens v b ≡ true
  opening r b n u c =
      let low : number v k_new_object ≤ b = leb-true _ _ (rw n at (and_parts (present v r.name && tests v r.family) _ (and_parts _ _ c).0).1) in
      let high : b < number v k_new_object + (number v k_backref - number v k_new_object) = ltb-true _ _ (rw (n, u) at (and_parts (present v r.name && tests v r.family && leb (number v r.name) b) _ c).1) in
      rw (le-leb (number v k_new_object) b low, lt-ltb b (number v k_backref) (omega arith), none_past v s.no_legacy b)

  row_plain : (r : Claim) (b : ℕ) → fits r ≡ true → claims v r b ≡ true → PlainHead v b (head_by v r b)
  row_plain r b f c =
      let both = and_parts ((untested r || not (not_plain r.kind)) && is_opening r.kind r) _ f in
      let p = and_parts (untested r || not (not_plain r.kind)) (is_opening r.kind r) both.0 in
      let first : ℕ = number v r.name in
      let mask : ℕ = root_mask v in
      record {
        kind = ⊎_elim (λ u. absurd (untested_row r b u c)) (λ n. not-true _ n) (or_cases (untested r) _ p.0);
        new_object_lem =
            (λ e. ⊎_elim (λ u. absurd (untested_row r b u c))
            (λ q. let q = and_parts (eqb r.name k_new_object) (is_up_to_backref r.span) q in opening r b (eqb-true r.name k_new_object q.0) (up_to_backref r.span q.1) c)
            (or_cases (untested r) _ (rw e at p.1)));
        raw = λ e. raw_low mask first b r.argument (rw e at both.1);
        place = λ e. place_low mask first b r.argument (rw e at both.1);
      }

  -- THE THEOREM
  pub head_plain : (b : ℕ) → PlainHead v b (head_of v b)
  unfolding order
  head_plain b = each_head v b (PlainHead v b) fits
      (record { kind = refl; new_object_lem = λ e. absurd cc; raw = λ e. absurd cc; place = λ e. absurd cc })
      (λ r f c. row_plain r b f c) refl
