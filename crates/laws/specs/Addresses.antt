-- THE THEOREM on legacy addresses: in every reading the addresses of a space do not fall, in the
-- order of allocating. They are at most the space's counters, since a filler is no longer than what
-- the next free offset moves by: with words of 8 bytes offsets are multiples of 8, and there is
-- none. Assumes nothing.
use Rattle.std.specs.Prelude.{if◌then◌else◌, ◌≡◌, ◌⊎◌, Bool, ◌&&◌, ◌||◌, List, [], ◌∷◌, ℕ, zero, suc, ◌+◌, ◌-◌, ◌%◌, ◌<◌, ◌≤◌, leb, length, get_or, set}
use Rattle.std.proofs.Math.Path.{refl}
use Rattle.std.proofs.Common.{sym, ap, subst, ◌∙◌, inl, inr, length-set, get_or-set_same, get_or-set_other}
use Rattle.std.proofs.Math.Bool.{true, false, not}
use Rattle.std.proofs.Math.Nat.{zero-mod, mul-mod_left}
use native.Mathlib.Omega.{arith}
use borrow.Author.Tests.{leb-true, leb-false, ltb-true, ltb-false, le-leb, lt-leb, eqb-true, eqb-false}
use Rattle.std.proofs.Math.Dec.{ltb, eqb}
use Rattle.std.proofs.Math.Seq.{set_out}
use Rattle.tables.specs.Records.{room, field, address_row, written}
use Rattle.tables.proofs.RecordLaws.{written_same, written_else}
use Rattle.alloc.specs.Fill.{max_fill_to_align, fill_to_align}
use Rattle.alloc.specs.declared.legacy_alloc.LegacyAlloc.{LegacyAlloc}
use Rattle.alloc.specs.declared.legacy_alloc.Request.{Request}
use Rattle.alloc.specs.Allocation.{zero_counters, next_chunk, advance_of, Outcome, allocate_of}
use Rattle.address_index.specs.Links.{space_of}
use Rattle.address_index.specs.Sorted.{AtMost, Sorted}
use Rattle.address_index.proofs.CountLaws.{space_field}
use Rattle.definition.specs.Memory.{Input, word, resolve, Table, table, Mem, Out, got, no, noted}
use Rattle.definition.specs.Slots.{waiter, fill_waiter, resolved}
use Rattle.definition.specs.Object.{read_map, object}
use Rattle.definition.specs.Reference.{ref_at}
use Rattle.definition.specs.Call.{walk}
use Rattle.laws.specs.Leaves.{if_case}
use Rattle.laws.specs.Sound.{Proper, Sound, Counted}
use Rattle.laws.specs.Rules.{Frame, frame, Listed, Rules}
use Rattle.laws.specs.Steps.{Good, Result, Ends}
use Rattle.laws.specs.Keeps.{sheet_gives, map_ends, object-keeping}
use Rattle.laws.specs.References.{ref_keeping}
use Rattle.laws.specs.ClosingKeeps.{zero_at, walk_ends}
use Rattle.laws.specs.Rules.{NoValue}

-- ---- what an allocation leaves

-- a record in a space without counters, which stay; or one at the next free offset after the
-- filler, which moves on
pub data Shape (t : List ℕ) (n spaces : ℕ) (want : Request) (c : LegacyAlloc) (r : Outcome) : Type 0 where
  bare : spaces ≤ want.space → r.table ≡ written t n (address_row want.space 0 0 want.object 0) → r.alloc ≡ c → Shape t n spaces want c r
  seated : want.space < spaces → r.table ≡ written t n (address_row want.space (get_or c.cur want.space 0) (get_or c.used want.space 0 + fill_to_align (get_or c.used want.space 0) want.alignment want.word) want.object 1) → r.alloc.cur ≡ c.cur → r.alloc.used ≡ set c.used want.space (get_or c.used want.space 0 + advance_of want.size want.alignment want.word) → Shape t n spaces want c r

module _ (t : List ℕ) (n spaces : ℕ) (want : Request) (c : LegacyAlloc) where
  abbrev Shaped : Outcome → Type 0
  Shaped r = r.number ≡ 0 → (n < room 5 t) × (Shape t n spaces want c r)

  pub allocate_shape : Shaped (allocate_of t n spaces want c)
  unfolding allocate_of
  allocate_shape =
      if_case Shaped (leb (room 5 t) n) _ _ (λ _ z. absurd (omega arith))
      (λ e. let h : n < room 5 t = leb-false _ _ e in
      if_case Shaped (ltb 4294967295 want.size) _ _ (λ _ z. absurd (omega arith))
      (λ _. if_case Shaped (leb spaces want.space) _ _ (λ f z. (h, bare (leb-true _ _ f) refl refl))
      (λ f. if_case Shaped (ltb 4294967295 (get_or c.used want.space 0 + fill_to_align (get_or c.used want.space 0) want.alignment want.word) || ltb 4294967295 (get_or c.used want.space 0 + advance_of want.size want.alignment want.word)) _ _ (λ _ z. absurd (omega arith))
      (λ _ z. (h, seated (leb-false _ _ f) refl refl refl)))))

-- ---- the filler

-- offsets are multiples of the word, and a filler is no longer than what the offset moves by
module _ (used alignment w size : ℕ) (words : (w ≡ 4) ⊎ (w ≡ 8)) (whole : used % w ≡ 0) where
  fill_low : fill_to_align used alignment w ≤ advance_of size alignment w
  unfolding fill_to_align advance_of max_fill_to_align
  fill_low = go (eqb alignment 1) (eqb alignment 2) (eqb alignment 0) (eqb (used % 8) 0) refl refl refl refl words
    where
      go : (a b z d : Bool) → eqb alignment 1 ≡ a → eqb alignment 2 ≡ b → eqb alignment 0 ≡ z → eqb (used % 8) 0 ≡ d → (w ≡ 4) ⊎ (w ≡ 8) → (if a && not d then w else if b && d then 8 - w else 0) ≤ (if z then size else size + (8 - w))
      go true b true d p q r s v = let x = eqb-true alignment 1 p in let y = eqb-true alignment 0 r in absurd (omega (arith, x, y))
      go false true true d p q r s v = let x = eqb-true alignment 2 q in let y = eqb-true alignment 0 r in absurd (omega (arith, x, y))
      go true b false true p q r s v = second b v
        where
          second : (b : Bool) → (w ≡ 4) ⊎ (w ≡ 8) → (if b && true then 8 - w else 0) ≤ size + (8 - w)
          second true v = omega arith
          second false v = omega arith
      go true b false false p q r s (inl v) = omega (arith, v)
      go true b false false p q r s (inr v) = absurd (let y = eqb-false (used % 8) 0 s in y (subst (λ (k : ℕ). used % k ≡ 0) v whole))
      go false true false true p q r s v = omega arith
      go false true false false p q r s v = omega arith
      go false false z d p q r s v = omega arith

  advance_whole : size % w ≡ 0 → (used + advance_of size alignment w) % w ≡ 0
  unfolding advance_of max_fill_to_align
  advance_whole e = go (eqb alignment 0) words
    where
      go : (z : Bool) → (w ≡ 4) ⊎ (w ≡ 8) → (used + (if z then size else size + (8 - w))) % w ≡ 0
      go true (inl v) = rw v (let a = rw v at whole in let b = rw v at e in omega (arith, a, b))
      go true (inr v) = rw v (let a = rw v at whole in let b = rw v at e in omega (arith, a, b))
      go false (inl v) = rw v (let a = rw v at whole in let b = rw v at e in omega (arith, a, b))
      go false (inr v) = rw v (let a = rw v at whole in let b = rw v at e in omega (arith, a, b))

-- ---- the invariant

-- each object that is being read has a size of whole words
abbrev pub Whole : Input → List Frame → Type 0
Whole x [] = Unit {0}
Whole x (frame o size done ∷ S) = (size % word x ≡ 0) × (Whole x S)

-- the addresses of a space do not fall, nor are they above its counters; records without counters
-- are all at address 0
module _ (x : Input) where
  pub record Ascending (a : Table) (c : LegacyAlloc) : Type 0 where
    pub chunks : length c.cur ≡ 256
    pub offsets : length c.used ≡ 256
    pub whole : (s : ℕ) → get_or c.used s 0 % word x ≡ 0
    pub small : (i : ℕ) → i < a.count → space_of a.rows i < 256
    pub flags : (i : ℕ) → i < a.count → field 5 a.rows i 4 ≡ (if leb x.spaces (space_of a.rows i) then 0 else 1)
    pub bares : (i : ℕ) → i < a.count → x.spaces ≤ space_of a.rows i → (field 5 a.rows i 1 ≡ 0) × (field 5 a.rows i 2 ≡ 0)
    pub bounded : (i : ℕ) → i < a.count → AtMost (field 5 a.rows i 1) (field 5 a.rows i 2) (get_or c.cur (space_of a.rows i) 0) (get_or c.used (space_of a.rows i) 0)
    pub rising : (i j : ℕ) → i < j → j < a.count → space_of a.rows i ≡ space_of a.rows j → AtMost (field 5 a.rows i 1) (field 5 a.rows i 2) (field 5 a.rows j 1) (field 5 a.rows j 2)

  pub ascending_sorted : (a : Table) (c : LegacyAlloc) → Ascending a c → Sorted a.rows a.count
  ascending_sorted a c p =
      record {
        rising = p.rising;
        alike = λ i j l b e. p.flags i (omega (arith, l, b)) ∙ ap (λ (s : ℕ). if leb x.spaces s then 0 else 1) e ∙ sym (p.flags j b);
      }

at_most_trans : {a b c d e f : ℕ} → AtMost a b c d → AtMost c d e f → AtMost a b e f
at_most_trans (inl h) (inl k) = inl (omega (arith, h, k))
at_most_trans (inl h) (inr k) = inl (omega (arith, h, k.0))
at_most_trans (inr h) (inl k) = inl (omega (arith, h.0, k))
at_most_trans (inr h) (inr k) = inr (h.0 ∙ k.0, omega (arith, h.1, k.1))

-- ---- a chunk change

module _ (x : Input) (a : Table) (c : LegacyAlloc) (space : ℕ) (p : Ascending x a c) where
  abbrev next : LegacyAlloc
  next = record { cur = set c.cur space (get_or c.cur space 0 + 1); used = set c.used space 0 }

  -- the counters of a space after it: as they were, or higher
  raised : (s : ℕ) → AtMost (get_or c.cur s 0) (get_or c.used s 0) (get_or next.cur s 0) (get_or next.used s 0) × (get_or next.used s 0 % word x ≡ 0)
  raised s = go (eqb s space) (ltb space 256) refl refl
    where
      same : get_or next.cur s 0 ≡ get_or c.cur s 0 → get_or next.used s 0 ≡ get_or c.used s 0 → AtMost (get_or c.cur s 0) (get_or c.used s 0) (get_or next.cur s 0) (get_or next.used s 0) × (get_or next.used s 0 % word x ≡ 0)
      same a b = (inr (sym a, omega (arith, b)), rw b (p.whole s))

      go : (a b : Bool) → eqb s space ≡ a → ltb space 256 ≡ b → AtMost (get_or c.cur s 0) (get_or c.used s 0) (get_or next.cur s 0) (get_or next.used s 0) × (get_or next.used s 0 % word x ≡ 0)
      go false b e f = let z = eqb-false s space e in same (get_or-set_other c.cur space s _ 0 z) (get_or-set_other c.used space s 0 0 z)
      go true true e f =
          let z : s ≡ space = eqb-true s space e in
          let l = ltb-true space 256 f in
          let a : get_or next.cur space 0 ≡ get_or c.cur space 0 + 1 = get_or-set_same c.cur space _ 0 (omega (arith, l, p.chunks)) in
          let b : get_or next.used space 0 ≡ 0 = get_or-set_same c.used space 0 0 (omega (arith, l, p.offsets)) in
          rw z (inl (omega (arith, a)), rw b (zero-mod (word x)))
      go true false e f =
          let l = ltb-false space 256 f in
          same (ap (λ (t : List ℕ). get_or t s 0) (set_out c.cur space _ (omega (arith, l, p.chunks)))) (ap (λ (t : List ℕ). get_or t s 0) (set_out c.used space 0 (omega (arith, l, p.offsets))))

  chunk_next : Ascending x a next
  chunk_next =
      record {
        chunks = length-set c.cur space _ ∙ p.chunks;
        offsets = length-set c.used space 0 ∙ p.offsets;
        whole = λ s. (raised s).1;
        small = p.small;
        flags = p.flags;
        bares = p.bares;
        bounded = λ i l. at_most_trans (p.bounded i l) (raised (space_of a.rows i)).0;
        rising = p.rising;
      }

  pub chunk_ascending : Ascending x a (next_chunk c x.spaces space)
  unfolding next_chunk
  chunk_ascending = go (leb x.spaces space)
    where
      go : (b : Bool) → Ascending x a (if b then c else next)
      go true = p
      go false = chunk_next

-- ---- an address record

-- the fields of the records with one more, record n
module _ (t row : List ℕ) (n : ℕ) (five : length row ≡ 5) (roomy : n < room 5 t) where
  pub old_field : (i k : ℕ) → i < n → k < 5 → field 5 (written t n row) i k ≡ field 5 t i k
  old_field i k l b = subst (λ (w : ℕ). field w (written t n row) i k ≡ field w t i k) five (written_else t row n i k (omega (arith, five, b)) (λ e. omega (arith, e, l)))

  new_field : (k : ℕ) → k < 5 → field 5 (written t n row) n k ≡ get_or row k 0
  new_field k b = subst (λ (w : ℕ). field w (written t n row) n k ≡ get_or row k 0) five (written_same t row n k (omega (arith, five, b)) (subst (λ (w : ℕ). n < room w t) (sym five) roomy))

  pub old_space : (i : ℕ) → i < n → space_of (written t n row) i ≡ space_of t i
  old_space i l = sym (space_field (written t n row) i) ∙ old_field i 0 l (omega arith) ∙ space_field t i

  pub new_space : space_of (written t n row) n ≡ get_or row 0 0
  new_space = sym (space_field (written t n row) n) ∙ new_field 0 (omega arith)

-- a record i of n + 1 is one of the n, or record n
old_or_new : (P : ℕ → Type 0) (n i : ℕ) → i < n + 1 → ((i < n) → P i) → P n → P i
old_or_new P n i l f y = go (eqb i n) refl
  where
    go : (b : Bool) → eqb i n ≡ b → P i
    go true e = subst P (sym (eqb-true i n e)) y
    go false e = let z = eqb-false i n e in f (omega (arith, z, l))

module _ (x : Input) (words : (word x ≡ 4) ⊎ (word x ≡ 8)) (m : Mem) (p : Ascending x m.addresses m.alloc) (space size o : ℕ) (low : space < 256) (sized : size % word x ≡ 0) where
  abbrev want : Request
  want = record { space = space; size = size; object = o; alignment = m.alignment; word = word x }

  abbrev t : List ℕ
  t = m.addresses.rows

  abbrev n : ℕ
  n = m.addresses.count

  -- with a record of this space, chunk and offset, and counters that have only risen
  module _ (chunk offset flag : ℕ) (c : LegacyAlloc) (roomy : n < room 5 t) where
    abbrev row : List ℕ
    row = address_row space chunk offset o flag

    abbrev after : List ℕ
    after = written t n row

    with_record : length c.cur ≡ 256 → length c.used ≡ 256 → ((s : ℕ) → get_or c.used s 0 % word x ≡ 0)
        → flag ≡ (if leb x.spaces space then 0 else 1) → (x.spaces ≤ space → (chunk ≡ 0) × (offset ≡ 0))
        → ((s : ℕ) → AtMost (get_or m.alloc.cur s 0) (get_or m.alloc.used s 0) (get_or c.cur s 0) (get_or c.used s 0))
        → AtMost chunk offset (get_or c.cur space 0) (get_or c.used space 0)
        → ((i : ℕ) → i < n → space_of t i ≡ space → AtMost (field 5 t i 1) (field 5 t i 2) chunk offset)
        → Ascending x (table after (n + 1)) c
    with_record a b d e f up top mono =
        let five : length row ≡ 5 = refl in
        let oldf = old_field t row n five roomy in
        let newf = new_field t row n five roomy in
        let olds = old_space t row n five roomy in
        let news : space_of after n ≡ space = new_space t row n five roomy in
        record {
          chunks = a;
          offsets = b;
          whole = d;
          small = λ i l. old_or_new (λ i. space_of after i < 256) n i l (λ h. rw (olds i h) (p.small i h)) (rw news low);
          flags = λ i l. old_or_new (λ i. field 5 after i 4 ≡ (if leb x.spaces (space_of after i) then 0 else 1)) n i l (λ h. rw (oldf i 4 h (omega arith), olds i h) (p.flags i h)) (rw (newf 4 (omega arith), news) e);
          bares = λ i l. old_or_new (λ i. x.spaces ≤ space_of after i → (field 5 after i 1 ≡ 0) × (field 5 after i 2 ≡ 0)) n i l (λ h. rw (olds i h, oldf i 1 h (omega arith), oldf i 2 h (omega arith)) (p.bares i h)) (rw (news, newf 1 (omega arith), newf 2 (omega arith)) f);
          bounded = λ i l. old_or_new (λ i. AtMost (field 5 after i 1) (field 5 after i 2) (get_or c.cur (space_of after i) 0) (get_or c.used (space_of after i) 0)) n i l (λ h. rw (olds i h, oldf i 1 h (omega arith), oldf i 2 h (omega arith)) (at_most_trans (p.bounded i h) (up (space_of t i)))) (rw (news, newf 1 (omega arith), newf 2 (omega arith)) top);
          rising = λ i j l b. old_or_new (λ j. i < j → space_of after i ≡ space_of after j → AtMost (field 5 after i 1) (field 5 after i 2) (field 5 after j 1) (field 5 after j 2)) n j b
              (λ h l. let k : i < n = omega (arith, h, l) in rw (olds i k, olds j h, oldf i 1 k (omega arith), oldf i 2 k (omega arith), oldf j 1 h (omega arith), oldf j 2 h (omega arith)) (p.rising i j l h))
              (λ k. rw (olds i k, news, oldf i 1 k (omega arith), oldf i 2 k (omega arith), newf 1 (omega arith), newf 2 (omega arith)) (mono i k)) l;
        }

  -- a filler is no longer than what the next free offset moves by
  moved_up : (s : ℕ) (used : List ℕ) → used ≡ set m.alloc.used space (get_or m.alloc.used space 0 + advance_of size m.alignment (word x)) → (get_or m.alloc.used s 0 ≤ get_or used s 0) × (get_or used s 0 % word x ≡ 0)
  moved_up s used e = rw e (go (eqb s space) refl)
    where
      more : ℕ
      more = get_or m.alloc.used space 0 + advance_of size m.alignment (word x)

      go : (b : Bool) → eqb s space ≡ b → (get_or m.alloc.used s 0 ≤ get_or (set m.alloc.used space more) s 0) × (get_or (set m.alloc.used space more) s 0 % word x ≡ 0)
      go true e =
          let z : s ≡ space = eqb-true s space e in
          let q : get_or (set m.alloc.used space more) space 0 ≡ more = get_or-set_same m.alloc.used space more 0 (omega (arith, low, p.offsets)) in
          rw (z, q) (omega arith, advance_whole (get_or m.alloc.used space 0) m.alignment (word x) size words (p.whole space) sized)
      go false e =
          let q : get_or (set m.alloc.used space more) s 0 ≡ get_or m.alloc.used s 0 = get_or-set_other m.alloc.used space s more 0 (eqb-false s space e) in
          rw q (omega arith, p.whole s)

  least : (a b : ℕ) → AtMost 0 0 a b
  least zero b = inr (refl, omega arith)
  least (suc a) b = inl (omega arith)

  shaped : (r : Outcome) → n < room 5 t → Shape t n x.spaces want m.alloc r → Ascending x (table r.table (n + 1)) r.alloc
  shaped r roomy (bare h e f) =
      let out : leb x.spaces space ≡ true = le-leb x.spaces space h in
      rw (e, f)
      (with_record 0 0 0 m.alloc roomy p.chunks p.offsets p.whole (rw out) (λ _. (refl, refl)) (λ s. inr (refl, omega arith)) (least _ _)
      (λ i l q. let z = p.bares i l (rw q h) in rw (z.0, z.1) (inr (refl, omega arith))))
  shaped r roomy (seated h e f u) =
      let out : leb x.spaces space ≡ false = lt-leb x.spaces space h in
      let used : ℕ = get_or m.alloc.used space 0 in
      let fill : ℕ = fill_to_align used m.alignment (word x) in
      let more : get_or r.alloc.used space 0 ≡ used + advance_of size m.alignment (word x) = rw u (get_or-set_same m.alloc.used space _ 0 (omega (arith, low, p.offsets))) in
      rw e
      (with_record (get_or m.alloc.cur space 0) (used + fill) 1 r.alloc roomy (rw f p.chunks) (rw u (length-set m.alloc.used space _ ∙ p.offsets)) (λ s. (moved_up s r.alloc.used u).1) (rw out) (λ q. absurd (omega (arith, q, h)))
      (λ s. inr (rw f, (moved_up s r.alloc.used u).0))
      (inr (rw f, let z = fill_low used m.alignment (word x) size words (p.whole space) in omega (arith, z, more)))
      (λ i l q. at_most_trans (subst (λ (s : ℕ). AtMost (field 5 t i 1) (field 5 t i 2) (get_or m.alloc.cur s 0) (get_or m.alloc.used s 0)) q (p.bounded i l)) (inr (refl, omega arith))))

  pub allocated : (r : Outcome) → r ≡ allocate_of t n x.spaces want m.alloc → r.number ≡ 0 → Ascending x (table r.table (n + 1)) r.alloc
  allocated r e z = let h = subst (Shaped t n x.spaces want m.alloc) (sym e) (allocate_shape t n x.spaces want m.alloc) z in shaped r h.0 h.1

-- ---- the rules

-- as an invariant
abbrev pub Seated : Input → List Frame → Mem → Type 0
Seated x S m = (Ascending x m.addresses m.alloc) × (Whole x S)

filled_seated : (x : Input) (S : List Frame) (m : Mem) (number o k : ℕ) → Seated x S m → Seated x S (noted (resolve number o) (fill_waiter k o m))
filled_seated x S m number o zero i = i
filled_seated x S m number o (suc k) i = i

resolved_seated : (x : Input) (S : List Frame) (m : Mem) (number o : ℕ) → Seated x S m → Seated x S (resolved number o m)
unfolding resolved
resolved_seated x S m number o i = filled_seated x S m number o (waiter m.slots.rows number m.slots.count) i

pub seated_rules : {x : Input} → Proper x → Rules x (Seated x) NoValue
seated_rules {x} g =
    record {
      on_move = λ S m at s i h l. i;
      on_long = λ S m n i. i;
      on_amount = λ S m n s i d h. i;
      on_enter = λ S m r s i v. i;
      aside = λ m m' v a h. tt;
      on_given = λ S m v i d. tt;
      on_backref = λ S m o i h. tt;
      on_hot = λ S m i r s h e. tt;
      on_single = λ S m space value r s i e. tt;
      on_place = λ S m space place s i. tt;
      on_raw = λ S m n advances s i h. (i, tt);
      on_pending = λ S m s i h. (i, tt);
      on_value = λ S m v s i h l. (i, tt, λ n. tt);
      on_previous = λ S m n s i h l. (i, tt);
      on_object = λ S m tag words s i l. (i.0, (mul-mod_left words (word x), i.1));
      on_flag = λ S m o size done v s i h e. i;
      on_map = λ S m o size v s i h b l. i;
      on_resolve = λ S m o size done number s i b. resolved_seated x (frame o size done ∷ S) m number o i;
      on_item = λ S m o size done v s i h d b l r. i;
      on_skip = λ S m o size done n i h. i;
      on_bytes = λ S m o size done n i h. i;
      on_deferred = λ S m o size done b i e h l. i;
      on_close = λ S m o size i b. ((i.0, i.1.1), tt);
      on_aligned = λ S m a i. i;
      on_chunk = λ S m space i. (chunk_ascending x m.addresses m.alloc space i.0, i.1);
      on_allocate = λ S m o size done space s i b h r e z. (allocated x (sheet_gives g).word m i.0 space size o h i.1.0 r e z, i.1);
      on_drop = λ m v i h. i;
      on_begins = λ m i. i;
      on_synchronize = λ m i h e. i;
      on_entry = λ m o index f s e i l. i;
      on_fault = λ S m e i. (i.0, tt);
    }

-- ---- the theorems

-- what a reader gives, refusals included
abbrev pub StaysAscending : {A : Type 0} → Input → Out A → Type 0
StaysAscending x (got a m) = Ascending x m.addresses m.alloc
StaysAscending x (no n q m) = Ascending x m.addresses m.alloc

module _ {x : Input} (g : Proper x) where
  stays_by : {A : Type 0} (m : Mem) (T : A → List Frame) (P : A → Mem → Type 0) (o : Out A) → Result x (Seated x) m T P o → StaysAscending x o
  stays_by m T P (got a m') h = h.0.has.0
  stays_by m T P (no k q m') h = h.1.has.0

  pub stays : {A : Type 0} {m : Mem} {T : A → List Frame} {P : A → Mem → Type 0} {o : Out A} → Ends x (Seated x) m T P o → StaysAscending x o
  stays {m = m} {T} {P} {o} e = stays_by m T P o e.result

  module _ (m : Mem) (s : Sound x m) (c : Counted m) (p : Ascending x m.addresses m.alloc) where
    pub from : (S : List Frame) → Whole x S → Listed S m.objects.count → Good x (Seated x) S m m
    from S w l = record { kept = record { sound = s; counted = c; onward = omega arith }; has = (p, w); listed = l }

    pub ref_ascending : (k : ℕ) → StaysAscending x (ref_at x k m)
    ref_ascending k = stays ((ref_keeping g (seated_rules g) k).ends [] m (from [] tt tt))

    pub object_ascending : (k space tag : ℕ) → space < 256 → StaysAscending x (object x (ref_at x k) space tag m)
    object_ascending k space tag h = stays ((object-keeping g (seated_rules g) (ref_keeping g (seated_rules g) k) space tag h).ends [] m (from [] tt tt))

    -- of an object o of whole words that has a record
    pub map_ascending : (o size k space : ℕ) → o < m.objects.count → size % word x ≡ 0 → space < 256 → StaysAscending x (read_map x (ref_at x k) space size o m)
    map_ascending o size k space l w h = stays (map_ends g (seated_rules g) (ref_keeping g (seated_rules g) k) (from (frame o size 0 ∷ []) (w, tt) (l, tt)) space h)

    pub walk_ascending : StaysAscending x (walk x m)
    walk_ascending = stays (walk_ends g (seated_rules g) (from [] tt tt))

  -- a call starts so
  pub start_ascending : (dt : List ℕ) → Ascending x (table dt 0) zero_counters
  start_ascending dt =
      record {
        chunks = refl;
        offsets = refl;
        whole = λ s. rw (zero_at 256 s) (zero-mod (word x));
        small = λ i l. absurd (omega (arith, l));
        flags = λ i l. absurd (omega (arith, l));
        bares = λ i l. absurd (omega (arith, l));
        bounded = λ i l. absurd (omega (arith, l));
        rising = λ i j a l. absurd (omega (arith, l));
      }
