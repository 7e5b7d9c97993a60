-- The items of each object that was opened lie end to end from byte 0 and fill its declared bytes.
-- Assumes nothing.
use Rattle.std.specs.Prelude.{if◌then◌else◌, ◌≡◌, refl, ◌⊎◌, ◌≢◌, Bool, true, false, List, [], ◌∷◌, ℕ, ◌+◌, ◌*◌, ◌/◌, ◌<◌, ◌≤◌, eqb}
use Rattle.std.proofs.Common.{sym, subst, ◌∙◌, ap, ⊎_elim, inl, inr, zero-add, div-lt_iff_lt-mul, arith, eq-eqb, ne_eqb, eqb-true}
use Rattle.std.proofs.lemmas.Bool.{eqb-false}
use Rattle.tables.specs.declared.values.Fields.{Fields}
use Rattle.definition.specs.Memory.{Input, word, Kept, in_map, in_slot, in_value, dropped, Event, opened, passed, item, value, resolve, begins, synchronize, Mem}
use Rattle.definition.specs.Call.{Rooms, Call, input_of, told_of}
use Rattle.assurance.specs.Steps.{Frame, frame}
use Rattle.assurance.specs.PlainSheet.{word_pos}
use Rattle.assurance.specs.Induct.{plainly}
use Rattle.assurance.specs.On.{All, all_map, all_told}
use Rattle.assurance.proofs.EventRules.{EventRules, tables_have}
use Rattle.assurance.specs.Words.{Accepted, Told, openings, words_of, filled_of, items_of, EndToEnd}

-- the objects that are being read are below a bound, the outer below the inner; each has its size,
-- and so many bytes of it were read
unfoldable pub Stacked : ℕ → List Frame → ℕ → List Event → Type 0
Stacked ts [] bound es = Unit {0}
Stacked ts (frame o size done ∷ S) bound es = (o < bound) × (words_of es o * ts ≡ size) × (filled_of es o ≡ done) × (Stacked ts S o es)

-- object o is not being read
unfoldable pub Free : List Frame → ℕ → Type 0
Free [] o = Unit {0}
Free (frame x size done ∷ S) o = (o ≢ x) × (Free S o)

-- an item ends within what its object's items have together; it starts below the declared bytes, or
-- has a byte at least
pub record Inside (word : ℕ) (objects : ℕ) (words filled : ℕ → ℕ) (o s w : ℕ) : Type 0 where
  pub listed : o < objects
  pub within : s + w ≤ filled o
  pub low : (s < words o * word) ⊎ (1 ≤ w)

abbrev pub Fits : ℕ → ℕ → List Event → Event → Type 0
Fits ts objects es (item o s w k) = Inside ts objects (words_of es) (filled_of es) o s w
Fits ts objects es (opened q w) = Unit {0}
Fits ts objects es (passed a n) = Unit {0}
Fits ts objects es (value v t) = Unit {0}
Fits ts objects es (resolve n o) = Unit {0}
Fits ts objects es (begins q) = Unit {0}
Fits ts objects es (synchronize q) = Unit {0}

pub record Filling (ts : ℕ) (S : List Frame) (objects : ℕ) (es : List Event) : Type 0 where
  pub counted : openings es ≡ objects
  pub laid : EndToEnd ts es
  pub unopened : (o : ℕ) → objects ≤ o → filled_of es o ≡ 0
  pub stacked : Stacked ts S objects es
  pub full : (o : ℕ) → o < objects → Free S o → filled_of es o ≡ words_of es o * ts
  pub inside : All (Fits ts objects es) es

stacked_map : (ts : ℕ) (S : List Frame) (n k : ℕ) (es fs : List Event) → n ≤ k → ((o : ℕ) → o < n → words_of fs o ≡ words_of es o) → ((o : ℕ) → o < n → filled_of fs o ≡ filled_of es o) → Stacked ts S n es → Stacked ts S k fs
unfolding Stacked
stacked_map ts [] n k es fs l hw hf h = tt
stacked_map ts (frame o size done ∷ S) n k es fs l hw hf h =
    (omega (arith, h.0), ap (λ (x : ℕ). x * ts) (hw o h.0) ∙ h.1, hf o h.0 ∙ h.2, stacked_map ts S o o es fs (omega arith) (λ x g. hw x (omega (arith, h.0))) (λ x g. hf x (omega (arith, h.0))) h.3)

-- what fits still does when there are more objects and each has as many bytes of items or more
fits_up : (ts n k : ℕ) (es fs : List Event) → n ≤ k → ((o : ℕ) → o < n → words_of fs o ≡ words_of es o) → ((o : ℕ) → filled_of es o ≤ filled_of fs o) → (e : Event) → Fits ts n es e → Fits ts k fs e
fits_up ts n k es fs l hw hf (item o s w j) h = record { listed = omega (arith, h.listed); within = omega (arith, h.within, hf o); low = rw (hw o h.listed) h.low }
fits_up ts n k es fs l hw hf (opened q w) h = tt
fits_up ts n k es fs l hw hf (passed a b) h = tt
fits_up ts n k es fs l hw hf (value v t) h = tt
fits_up ts n k es fs l hw hf (resolve a o) h = tt
fits_up ts n k es fs l hw hf (begins q) h = tt
fits_up ts n k es fs l hw hf (synchronize q) h = tt

open_filling : (ts : ℕ) (S : List Frame) (n q w : ℕ) (es : List Event) → Filling ts S n es → Filling ts (frame n (w * ts) 0 ∷ S) (n + 1) (opened q w ∷ es)
unfolding openings words_of filled_of EndToEnd Stacked Free All
open_filling ts S n q w es h =
    let other : (o : ℕ) → o ≢ n → words_of (opened q w ∷ es) o ≡ words_of es o = (λ o e. rw (ne_eqb o (openings es) (λ z. e (z ∙ h.counted)))) in
    record {
      counted = ap (λ (x : ℕ). x + 1) h.counted;
      laid = h.laid;
      unopened = (λ o l. h.unopened o (omega arith));
      stacked = (omega arith, rw (eq-eqb n (openings es) (sym h.counted)), h.unopened n (omega arith), stacked_map ts S n n es (opened q w ∷ es) (omega arith) (λ o l. other o (λ e. omega arith)) (λ o l. refl) h.stacked);
      full = (λ o l f. h.full o (let z = f.0 in omega arith) f.1 ∙ ap (λ (x : ℕ). x * ts) (sym (other o f.0)));
      inside = (tt, all_map (Fits ts n es) (Fits ts (n + 1) (opened q w ∷ es)) (fits_up ts n (n + 1) es (opened q w ∷ es) (omega arith) (λ o l. other o (λ e. omega arith)) (λ o. omega arith)) es h.inside);
    }

pub pick_up : (t : Bool) (a b : ℕ) → b ≤ (if t then b + a else b)
pick_up true a b = omega arith
pick_up false a b = omega arith

-- an object without items has no bytes of them
no_items : (es : List Event) (o : ℕ) → items_of es o ≡ 0 → filled_of es o ≡ 0
unfolding items_of filled_of
no_items [] o e = refl
no_items (opened q w ∷ es) o e = no_items es o e
no_items (passed a n ∷ es) o e = no_items es o e
no_items (item x s w k ∷ es) o e = at (eqb o x) (no_items es o) e
  where
    at : (t : Bool) → (items_of es o ≡ 0 → filled_of es o ≡ 0) → (if t then items_of es o + 1 else items_of es o) ≡ 0 → (if t then filled_of es o + w else filled_of es o) ≡ 0
    at true f z = absurd (omega arith)
    at false f z = f z
no_items (value v t ∷ es) o e = no_items es o e
no_items (resolve n x ∷ es) o e = no_items es o e
no_items (begins q ∷ es) o e = no_items es o e
no_items (synchronize q ∷ es) o e = no_items es o e

-- an item that starts where its object was read to
item_filling : (ts : ℕ) (S : List Frame) (n o size done w k : ℕ) (v : Fields) (t : Kept) (es : List Event) → o < n → (items_of es o ≡ 0 → w ≡ ts) → ((done < size) ⊎ (1 ≤ w)) → Filling ts (frame o size done ∷ S) n es → Filling ts (frame o size (done + w) ∷ S) n (item o done w k ∷ value v t ∷ es)
unfolding openings words_of filled_of items_of EndToEnd Stacked Free All
item_filling ts S n o size done w k v t es l first low h =
    let fs : List Event = item o done w k ∷ value v t ∷ es in
    let other : (x : ℕ) → x ≢ o → filled_of fs x ≡ filled_of es x = (λ x e. rw (ne_eqb x o e)) in
    let same : filled_of fs o ≡ done + w = rw (eq-eqb o o refl) (ap (λ (x : ℕ). x + w) h.stacked.2) in
    record {
      counted = h.counted;
      laid = (sym h.stacked.2, first, h.laid);
      unopened = (λ x g. other x (λ e. omega arith) ∙ h.unopened x g);
      stacked = (l, h.stacked.1, same, stacked_map ts S o o es fs (omega arith) (λ x g. refl) (λ x g. other x (λ e. omega arith)) h.stacked.3);
      full = (λ x g f. other x f.0 ∙ h.full x g f);
      inside = (
        record { listed = l; within = omega (arith, same); low = rw h.stacked.1 low },
        (tt, all_map (Fits ts n es) (Fits ts n fs) (fits_up ts n n es fs (omega arith) (λ x g. refl) (λ x. pick_up (eqb x o) w (filled_of es x))) es h.inside),
      );
    }

close_filling : (ts : ℕ) (S : List Frame) (n o size : ℕ) (es : List Event) → o < n → Filling ts (frame o size size ∷ S) n es → Filling ts S n es
unfolding Stacked Free
close_filling ts S n o size es l h =
    record {
      counted = h.counted;
      laid = h.laid;
      unopened = h.unopened;
      stacked = stacked_map ts S o n es es (omega arith) (λ x k. refl) (λ x k. refl) h.stacked.3;
      full = (λ x k f. at x k f (eqb x o) refl);
      inside = h.inside;
    }
  where
    at : (x : ℕ) → x < n → Free S x → (t : Bool) → eqb x o ≡ t → filled_of es x ≡ words_of es x * ts
    at x k f true e = subst (λ (y : ℕ). filled_of es y ≡ words_of es y * ts) (sym (eqb-true x o e)) (h.stacked.2 ∙ sym h.stacked.1)
    at x k f false e = h.full x k (eqb-false x o e, f)

-- an event that is neither an opening nor an item
other : (ts : ℕ) (S : List Frame) (n : ℕ) (es : List Event) (e : Event) → openings (e ∷ es) ≡ openings es → (EndToEnd ts es → EndToEnd ts (e ∷ es)) → words_of (e ∷ es) ≡ words_of es → filled_of (e ∷ es) ≡ filled_of es → Fits ts n (e ∷ es) e → Filling ts S n es → Filling ts S n (e ∷ es)
unfolding All
other ts S n es e c l w f i h =
    record {
      counted = c ∙ h.counted;
      laid = l h.laid;
      unopened = rw f h.unopened;
      stacked = stacked_map ts S n n es (e ∷ es) (omega arith) (λ o g. rw w) (λ o g. rw f) h.stacked;
      full = rw (w, f) h.full;
      inside = (i, all_map (Fits ts n es) (Fits ts n (e ∷ es)) (fits_up ts n n es (e ∷ es) (omega arith) (λ o g. rw w) (λ o. rw f (omega arith))) es h.inside);
    }

pub rules : (x : Input) → 1 ≤ word x → EventRules x (λ S ot st vt. Filling (word x) S ot.count)
unfolding openings words_of filled_of EndToEnd Stacked
rules x pos =
    record {
      on_passed = (λ S ot st vt es a n. other (word x) S ot.count es (passed a n) refl (λ l. l) refl refl tt);
      on_begins = (λ S ot st vt es q. other (word x) S ot.count es (begins q) refl (λ l. l) refl refl tt);
      on_synchronize = (λ S ot st vt es q. other (word x) S ot.count es (synchronize q) refl (λ l. l) refl refl tt);
      on_dropped = (λ S ot st vt es v. other (word x) S ot.count es (value v dropped) refl (λ l. l) refl refl tt);
      on_value = (λ S ot st vt es v l. other (word x) S ot.count es (value v (in_value vt.count)) refl (λ l. l) refl refl tt);
      on_open = (λ S ot st vt es q w p i l. open_filling (word x) S ot.count q w es);
      on_flag = (λ S ot st vt es o l h. h);
      on_map = (λ S ot st vt es o size v p h. subst (λ (d : ℕ). Filling (word x) (frame o size d ∷ S) ot.count (item o 0 (word x) st.count ∷ value v (in_map st.count) ∷ es)) (zero-add (word x)) (item_filling (word x) S ot.count o size 0 (word x) st.count v (in_map st.count) es p.listed (λ e. refl) (inr pos) h));
      on_item = (λ S ot st vt es o size done w v k p e q l h. item_filling (word x) S ot.count o size done w st.count v (in_slot st.count) es p.listed (λ e. absurd (omega (arith, no_items es o e, h.stacked.2))) (inl l) h);
      on_unknown = (λ S ot st vt es n o. other (word x) S ot.count es (resolve n o) refl (λ l. l) refl refl tt);
      on_fill = (λ S ot st vt es n o k w. other (word x) S ot.count es (resolve n o) refl (λ l. l) refl refl tt);
      on_close = (λ S ot st vt es o size l p h. close_filling (word x) S ot.count o size es l h);
    }

pub record Filled (word objects : ℕ) (es : List Event) : Type 0 where
  pub laid : EndToEnd word es
  pub full : (o : ℕ) → o < objects → filled_of es o ≡ words_of es o * word
  pub index : (o s w k : ℕ) → Told es (item o s w k) → (o < objects) × (s / word < words_of es o)

filled_of_lem : (ts n : ℕ) (es : List Event) → 1 ≤ ts → Filling ts [] n es → Filled ts n es
unfolding Free
filled_of_lem ts n es pos h = record { laid = h.laid; full = (λ o l. h.full o l tt); index = index }
  where
    index : (o s w k : ℕ) → Told es (item o s w k) → (o < n) × (s / ts < words_of es o)
    index o s w k t =
        let i : Inside ts n (words_of es) (filled_of es) o s w = all_told (Fits ts n es) es (item o s w k) h.inside t in
        let l : s < words_of es o * ts = ⊎_elim (λ l. l) (λ l. omega (arith, i.within, h.full o i.listed tt)) i.low in
        (i.listed, (div-lt_iff_lt-mul pos).1 l)

-- THE THEOREM
pub items_fill : (c : Call) (rooms : Rooms) (m : Mem) → Accepted c rooms m → Filled (word (input_of c)) m.objects.count (told_of m.log)
unfolding openings filled_of EndToEnd Stacked All
items_fill c rooms m a =
    let pos : 1 ≤ word (input_of c) = word_pos c.sheet (plainly c rooms m a) in
    filled_of_lem (word (input_of c)) m.objects.count (told_of m.log) pos
    (tables_have c rooms m a _ (rules (input_of c) pos) (record { counted = refl; laid = tt; unopened = (λ o l. refl); stacked = tt; full = (λ o l f. absurd (omega arith)); inside = tt }))
