-- The reference of a value, by what the value holds. Assumes nothing.
use Rattle.std.specs.Prelude.{◌≡◌, refl, Bool, true, false, ◌&&◌, ◌||◌, if◌then◌else◌, ◌==◌, ℕ, ◌<◌, ◌≤◌, nat_le, nat_lt, Option, Some, None}
use Rattle.std.specs.Option.{option_map}
use Rattle.std.proofs.Common.{sym, subst, ◌∙◌}
use Rattle.std.proofs.lemmas.Bool.{and_parts, leb-true, ltb-true}
use Rattle.tables.specs.declared.values.Fields.{Fields}
use Rattle.filled.specs.declared.filled.Filled.{Filled}
use Rattle.references.specs.declared.held.Held.TheVariants.{Object, Value, Nothing}
use Rattle.references.specs.declared.reference.Reference.{Reference}
use Rattle.references.specs.Held.{value_of, held_of, value_held, lists_object}
use Rattle.references.specs.References.{Refers, directly, through, reference_to, under, IsReference}

same_reference : {a b : Reference} → Some a ≡ Some b → a ≡ b
same_reference e = cc

abbrev ReferredBy : Filled → ℕ → Fields → Reference → Type 0
ReferredBy part bound v r = Refers part bound v r.weak r.object

module _ (part : Filled) (bound : ℕ) (v : Fields) where
  only_object : (o q : ℕ) (weak : Bool) → held_of part bound v ≡ Object o → Refers part bound v weak q → Some (reference_to o false) ≡ Some (reference_to q weak)
  only_object o q _ e (directly _ _ _ f) = let same : o ≡ q = cc in rw same
  only_object o q _ e (through _ _ k w weak _ f r) = absurd (let clash : Object o ≡ Value k w = sym e ∙ f in cc)

  -- the value holds an object
  pub is_object : (o : ℕ) → held_of part bound v ≡ Object o → IsReference part bound v (Some (reference_to o false))
  is_object o e =
      record {
        there = λ q weak s. subst (ReferredBy part bound v) (same_reference s) (directly bound v o e);
        only = λ q weak r. only_object o q weak e r;
      }

  only_nothing : (q : ℕ) (weak : Bool) → held_of part bound v ≡ Nothing → Refers part bound v weak q → ⊥
  only_nothing q _ e (directly _ _ o f) = let clash : Nothing ≡ Object o = sym e ∙ f in cc
  only_nothing q _ e (through _ _ k w weak _ f r) = let clash : Nothing ≡ Value k w = sym e ∙ f in cc

  -- the value holds neither object nor value record
  pub is_nothing : held_of part bound v ≡ Nothing → IsReference part bound v None
  is_nothing e =
      record { there = λ q weak s. absurd (cc); only = λ q weak r. absurd (only_nothing q weak e r) }

  module _ (k : ℕ) (w : Bool) (e : held_of part bound v ≡ Value k w) where
    there_through : (r : Option Reference) → IsReference part k (value_of part.tables.values.now k) r → (q : ℕ) (weak : Bool) → option_map (under w) r ≡ Some (reference_to q weak) → Refers part bound v weak q
    there_through None h q weak s = absurd (cc)
    there_through (Some r) h q weak s =
        subst (ReferredBy part bound v) (same_reference s) (through bound v k w r.weak r.object e (h.there r.object r.weak refl))

    only_through : (r : Option Reference) → IsReference part k (value_of part.tables.values.now k) r → (q : ℕ) (weak : Bool) → Refers part bound v weak q → option_map (under w) r ≡ Some (reference_to q weak)
    only_through r h q _ (directly _ _ o f) = absurd (let clash : Value k w ≡ Object o = sym e ∙ f in cc)
    only_through r h q _ (through _ _ j u weak _ f s) =
        let same : Value k w ≡ Value j u = sym e ∙ f in
        let same_number : j ≡ k = cc in
        let same_weak : u ≡ w = cc in
        let from : Refers part k (value_of part.tables.values.now k) weak q = subst (λ (n : ℕ). Refers part n (value_of part.tables.values.now n) weak q) same_number s in
        rw (h.only q weak from, same_weak)

    -- the value holds a value record, which has this reference
    pub is_through : (r : Option Reference) → IsReference part k (value_of part.tables.values.now k) r → IsReference part bound v (option_map (under w) r)
    is_through r h = record { there = there_through r h; only = only_through r h }

-- a reference of the value reached along a chain is one of the value that it began with, and so far
-- it has been weak or not
pub record Leads (part : Filled) (from : ℕ) (first : Fields) (bound : ℕ) (v : Fields) (weak : Bool) : Type 0 where
  pub gives : (r : Option Reference) → IsReference part bound v r → IsReference part from first (option_map (under weak) r)

under_strong : (r : Option Reference) → option_map (under false) r ≡ r
under_strong None = refl
under_strong (Some r) = elim r.weak as (λ w. Some (reference_to r.object (w || false)) ≡ Some (reference_to r.object w)) [ true ↦ refl | false ↦ refl ]

under_both : (a b : Bool) (r : Option Reference) → option_map (under a) (option_map (under b) r) ≡ option_map (under (a || b)) r
under_both a b None = refl
under_both true true (Some r) = elim r.weak as (λ w. Some (reference_to r.object ((w || true) || true)) ≡ Some (reference_to r.object (w || true))) [ true ↦ refl | false ↦ refl ]
under_both true false (Some r) = elim r.weak as (λ w. Some (reference_to r.object ((w || false) || true)) ≡ Some (reference_to r.object (w || true))) [ true ↦ refl | false ↦ refl ]
under_both false b (Some r) = elim r.weak as (λ w. Some (reference_to r.object ((w || b) || false)) ≡ Some (reference_to r.object (w || b))) [ true ↦ refl | false ↦ elim b as (λ c. Some (reference_to r.object (c || false)) ≡ Some (reference_to r.object c)) [ true ↦ refl | false ↦ refl ] ]

pub leads_first : (part : Filled) (bound : ℕ) (v : Fields) → Leads part bound v bound v false
leads_first part bound v = record { gives = λ r h. rw (under_strong r) h }

pub leads_on : (part : Filled) (from : ℕ) (first : Fields) (bound : ℕ) (v : Fields) (weak : Bool) (k : ℕ) (w : Bool) → Leads part from first bound v weak → held_of part bound v ≡ Value k w → Leads part from first k (value_of part.tables.values.now k) (weak || w)
leads_on part from first bound v weak k w l e =
    record { gives = λ r h. rw (← under_both weak w r) (l.gives _ (is_through part bound v k w e r h)) }

pub leads_object : (part : Filled) (from : ℕ) (first : Fields) (bound : ℕ) (v : Fields) (weak : Bool) (o : ℕ) → Leads part from first bound v weak → held_of part bound v ≡ Object o → IsReference part from first (Some (reference_to o weak))
leads_object part from first bound v weak o l e = l.gives _ (is_object part bound v o e)

pub leads_nowhere : (part : Filled) (from : ℕ) (first : Fields) (bound : ℕ) (v : Fields) (weak : Bool) → Leads part from first bound v weak → held_of part bound v ≡ Nothing → IsReference part from first None
leads_nowhere part from first bound v weak l e = l.gives _ (is_nothing part bound v e)

-- a value record that is held is earlier, and in the part
pub record IsEarlier (part : Filled) (bound k : ℕ) : Type 0 where
  pub from_start : part.starts.values ≤ k
  pub below : k < bound

value_held_earlier : (part : Filled) (bound j k : ℕ) (u w : Bool) → value_held part bound j u ≡ Value k w → IsEarlier part bound k
value_held_earlier part bound j k u w e = go (nat_le part.starts.values j) (nat_lt j bound) refl refl e
  where
    go : (a b : Bool) → nat_le part.starts.values j ≡ a → nat_lt j bound ≡ b → (if a && b then Value j u else Nothing) ≡ Value k w → IsEarlier part bound k
    go true true p q e = let same : j ≡ k = cc in subst (IsEarlier part bound) same (record { from_start = leb-true _ _ p; below = ltb-true _ _ q })
    go true false p q e = absurd (cc)
    go false b p q e = absurd (cc)

pub held_earlier : (part : Filled) (bound : ℕ) (v : Fields) (k : ℕ) (w : Bool) → held_of part bound v ≡ Value k w → IsEarlier part bound k
held_earlier part bound v k w e = go (v.kind == 1 && lists_object part v.a) (v.kind == 7) (v.kind == 12) e
  where
    go : (a b c : Bool) → (if a then Object v.a else (if b then value_held part bound v.b false else (if c then value_held part bound v.a true else Nothing))) ≡ Value k w → IsEarlier part bound k
    go true b c e = absurd (cc)
    go false true c e = value_held_earlier part bound v.b k false w e
    go false false true e = value_held_earlier part bound v.a k true w e
    go false false false e = absurd (cc)

-- an object that is listed
pub record IsListed (part : Filled) (o : ℕ) : Type 0 where
  pub from_start : part.starts.objects ≤ o
  pub below_count : o < part.counts.objects

pub listed_at : (part : Filled) (o : ℕ) → lists_object part o ≡ true → IsListed part o
listed_at part o e =
    let both = and_parts _ _ e in
    record { from_start = leb-true _ _ both.0; below_count = ltb-true _ _ both.1 }

value_held_no_object : (part : Filled) (bound j : ℕ) (u : Bool) (o : ℕ) → value_held part bound j u ≡ Object o → ⊥
value_held_no_object part bound j u o e = go (nat_le part.starts.values j && nat_lt j bound) e
  where
    go : (a : Bool) → (if a then Value j u else Nothing) ≡ Object o → ⊥
    go true e = cc
    go false e = cc

held_listed : (part : Filled) (bound : ℕ) (v : Fields) (o : ℕ) → held_of part bound v ≡ Object o → lists_object part o ≡ true
held_listed part bound v o e = go (v.kind == 1) (lists_object part v.a) (v.kind == 7) (v.kind == 12) refl e
  where
    go : (a l b c : Bool) → lists_object part v.a ≡ l → (if a && l then Object v.a else (if b then value_held part bound v.b false else (if c then value_held part bound v.a true else Nothing))) ≡ Object o → lists_object part o ≡ true
    go true true b c f e = let same : v.a ≡ o = cc in subst (λ (q : ℕ). lists_object part q ≡ true) same f
    go true false true c f e = absurd (value_held_no_object part bound v.b false o e)
    go true false false true f e = absurd (value_held_no_object part bound v.a true o e)
    go true false false false f e = absurd (cc)
    go false l true c f e = absurd (value_held_no_object part bound v.b false o e)
    go false l false true f e = absurd (value_held_no_object part bound v.a true o e)
    go false l false false f e = absurd (cc)

-- what is referred to is listed
pub refers_listed : (part : Filled) (bound : ℕ) (v : Fields) (weak : Bool) (o : ℕ) → Refers part bound v weak o → IsListed part o
refers_listed part _ _ _ _ (directly bound v o e) = listed_at part o (held_listed part bound v o e)
refers_listed part _ _ _ _ (through bound v k w weak o e r) = refers_listed part k _ weak o r
