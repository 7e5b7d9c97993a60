-- Two readings compared: what only legacy sheets have, back-references by address and allocation.
-- Assumes nothing.
use Rattle.std.specs.Prelude.{if◌then◌else◌, ◌≡◌, Bool, ◌||◌, get_or, Option, Some, None}
use Rattle.std.proofs.Math.Path.{refl, ap, subst}
use Rattle.std.proofs.Common.{sym, ◌∙◌, ⊎_elim, eq-or-lt_of_le, arith}
use Rattle.std.proofs.Math.Bool.{true, false}
use mathlib.Core.List.{List}
use Prim.Native.Nat.{ℕ, zero, suc, ◌+◌, ◌-◌, ◌*◌, ◌/◌, ◌<◌, ◌≤◌}
use borrow.Author.Tests.{leb-true, leb-false, eqb-true, lt-leb, le-leb}
use Rattle.std.proofs.Math.Dec.{ltb, leb, eqb}
use Rattle.sheet.specs.Sheet.{word_bytes}
use Rattle.tables.specs.declared.values.Ref.{Ref}
use Rattle.tables.specs.declared.values.SlotValue.{SlotValue}
use Rattle.tables.specs.Values.{ref_fields, fields_of}
use Rattle.tables.specs.Records.{room, field, written, address_row}
use Rattle.tables.proofs.RecordLaws.{written_same, written_else}
use Rattle.alloc.specs.declared.legacy_alloc.LegacyAlloc.{LegacyAlloc}
use Rattle.alloc.specs.declared.legacy_alloc.Request.{Request}
use Rattle.alloc.specs.declared.resolve.Place.{Place}
use Rattle.alloc.specs.Fill.{fill_to_align}
use Rattle.alloc.specs.Resolve.{is_address, addressed, or_else, resolve_of, ordinal_from}
use Rattle.alloc.specs.Allocation.{Outcome, outcome, advance_of, allocate_of}
use Rattle.backref.specs.Legacy.{numbered_as, by_number, by_place, placed, index_of, unpacked, is_single, number_in, single}
use Rattle.definition.specs.Memory.{word, table, Mem, change, refuse, with_alloc}
use Rattle.definition.specs.Object.{after_allocation, allocate}
use Rattle.definition.specs.Reference.{of_single, single_reference, place_reference, after_first, legacy_reference}
use Rattle.assurance.specs.Wider.{resolve_of_same, ordinal_from_same}
use Rattle.assurance.specs.TableMap.{TableMap, SameLength, map_room, map_written}
use Rattle.assurance.specs.Simulate.{Pair, x', φ, Recorded, Fits, Follows, Alike, Any, gives, stops, choose_at, then_law, int_law}

-- a reference to an object is to one whose record is within its table
abbrev pub RecordedRef : Pair → Ref → Type 0
RecordedRef S r = (ref_fields r).kind ≡ 1 → Recorded S (ref_fields r).a

abbrev pub RecordedValue : Pair → SlotValue → Type 0
RecordedValue S v = (fields_of v).kind ≡ 1 → Recorded S (fields_of v).a

-- ---- back-references

abbrev RecordedFound : Pair → Option ℕ → Type 0
RecordedFound S (Some o) = Recorded S o
RecordedFound S None = Unit {0}

module _ (S : Pair) (t : List ℕ) where
  pick_recorded : (b : Bool) (f g : Option ℕ) → RecordedFound S f → RecordedFound S g → RecordedFound S (if b then f else g)
  pick_recorded true f g y n = y
  pick_recorded false f g y n = n

  or_else_recorded : (f g : Option ℕ) → RecordedFound S f → RecordedFound S g → RecordedFound S (or_else f g)
  or_else_recorded (Some o) g y n = y
  or_else_recorded None g y n = n

  addressed_recorded : (space chunk offset n : ℕ) → ((k : ℕ) → k < n → Recorded S (field 5 t k 3)) → RecordedFound S (addressed t space chunk offset n)
  unfolding addressed
  addressed_recorded space chunk offset zero recorded = tt
  addressed_recorded space chunk offset (suc n) recorded =
      pick_recorded (is_address t space chunk offset n) _ _ (recorded n (omega arith)) (addressed_recorded space chunk offset n (λ k l. recorded k (omega arith)))

  resolve_recorded : (n space chunk offset alignment w : ℕ) → ((k : ℕ) → k < n → Recorded S (field 5 t k 3)) → RecordedFound S (resolve_of t n space chunk offset alignment w)
  unfolding resolve_of
  resolve_recorded n space chunk offset alignment w recorded =
      or_else_recorded (addressed t space chunk offset n) (if eqb (fill_to_align offset alignment w) 0 then None else addressed t space chunk (offset + fill_to_align offset alignment w) n)
      (addressed_recorded space chunk offset n recorded)
      (pick_recorded (eqb (fill_to_align offset alignment w) 0) None (addressed t space chunk (offset + fill_to_align offset alignment w) n) tt (addressed_recorded space chunk (offset + fill_to_align offset alignment w) n recorded))

  ordinal_recorded : (space index k n : ℕ) → ((i : ℕ) → i < k + n → Recorded S (field 5 t i 3)) → RecordedFound S (ordinal_from t space index k n)
  unfolding ordinal_from
  ordinal_recorded space index k zero recorded = tt
  ordinal_recorded space index k (suc n) recorded =
      let more : (i : ℕ) → i < k + 1 + n → Recorded S (field 5 t i 3) = (λ i l. recorded i (omega arith)) in
      pick_recorded (eqb (field 5 t k 0) space) _ _
      (pick_recorded (eqb index 0) _ _ (recorded k (omega arith)) (ordinal_recorded space (index - 1) (k + 1) n more))
      (ordinal_recorded space index (k + 1) n more)

abbrev RecordedIf : Pair → Option Ref → Type 0
RecordedIf S (Some r) = RecordedRef S r
RecordedIf S None = Unit {0}

module _ (S : Pair) where
  pick_ref_recorded : (b : Bool) (f g : Option Ref) → RecordedIf S f → RecordedIf S g → RecordedIf S (if b then f else g)
  pick_ref_recorded true f g y n = y
  pick_ref_recorded false f g y n = n

  by_place_recorded : (f : Option ℕ) (place : Place) → RecordedFound S f → RecordedRef S (by_place f place)
  by_place_recorded (Some o) place recorded = λ e. recorded
  by_place_recorded None place recorded = λ e. absurd (omega arith)

  by_number_recorded : (f : Option ℕ) → RecordedFound S f → RecordedIf S (by_number f)
  by_number_recorded (Some o) recorded = λ e. recorded
  by_number_recorded None recorded = tt

  -- with other address records above the first n
  module _ (v t u : List ℕ) (n alignment space : ℕ) (same : (i : ℕ) → i < n * 5 → get_or u i 0 ≡ get_or t i 0) where
    placed_same : (place : Place) → placed v u n alignment space place ≡ placed v t n alignment space place
    unfolding placed
    placed_same place =
        ap (λ (f : Option ℕ). by_place f place) (resolve_of_same t u n space place.chunk place.offset alignment (word_bytes v) same)

    single_same : (value : ℕ) → single v u n alignment space value ≡ single v t n alignment space value
    unfolding single
    single_same value =
        rw (placed_same (unpacked v (index_of v value)), ordinal_from_same t u (numbered_as v space) (number_in v value) 0 n (λ i l. same i (omega arith)))

  module _ (v t : List ℕ) (n alignment space : ℕ) (recorded : (i : ℕ) → i < n → Recorded S (field 5 t i 3)) where
    placed_recorded : (place : Place) → RecordedRef S (placed v t n alignment space place)
    unfolding placed
    placed_recorded place =
        by_place_recorded (resolve_of t n space place.chunk place.offset alignment (word_bytes v)) place
        (resolve_recorded S t n space place.chunk place.offset alignment (word_bytes v) recorded)

    single_recorded : (value : ℕ) → RecordedIf S (single v t n alignment space value)
    unfolding single
    single_recorded value =
        pick_ref_recorded (eqb (numbered_as v space) 0) _ _ (placed_recorded (unpacked v (index_of v value)))
        (by_number_recorded (ordinal_from t (numbered_as v space) (number_in v value) 0 n) (ordinal_recorded S t (numbered_as v space) (number_in v value) 0 n (λ i l. recorded i (omega arith))))

  -- the second reading's address records
  abbrev theirs : Mem → List ℕ
  theirs m = S.maps.addresses.rows m.addresses.count m.addresses.rows

  single_law : (space value : ℕ) → Alike S 0 (RecordedValue S) (single_reference S.x space value) (single_reference (x' S) space value)
  single_law space value =
      record {
        at_law = (λ m fit.
            rw (single_same S.x.sheet m.addresses.rows (theirs m) m.addresses.count m.alignment space (S.maps.addresses.same m.addresses.count m.addresses.rows) value)
            (go m fit (single S.x.sheet m.addresses.rows m.addresses.count m.alignment space value) (single_recorded S.x.sheet m.addresses.rows m.addresses.count m.alignment space fit.recorded value)));
      }
    where
      go : (m : Mem) → Fits S m → (o : Option Ref) → RecordedIf S o → Follows S 0 (RecordedValue S) m (of_single o m) (of_single o (φ S m))
      go m fit (Some r) f = gives S fit f (omega arith) (λ v. refl)
      go m fit None f = stops S fit (λ v. refl)

  place_law : (space : ℕ) (place : Place) → Alike S 0 (RecordedValue S) (place_reference S.x space place) (place_reference (x' S) space place)
  place_law space place =
      record {
        at_law = (λ m fit.
            rw (placed_same S.x.sheet m.addresses.rows (theirs m) m.addresses.count m.alignment space (S.maps.addresses.same m.addresses.count m.addresses.rows) place)
            (gives S fit (placed_recorded S.x.sheet m.addresses.rows m.addresses.count m.alignment space fit.recorded place) (omega arith) (λ v. refl)));
      }

  first_law : (space first : ℕ) → Alike S 0 (RecordedValue S) (after_first S.x space first) (after_first (x' S) space first)
  first_law space first =
      record {
        at_law = (λ m fit.
            choose_at S (is_single S.x.sheet space) _ _ _ _ (λ _. (single_law space first).at_law m fit)
            (λ _. (then_law S (int_law S) (λ second _. place_law space (record { chunk = first; offset = second }))).at_law m fit));
      }

  pub legacy_reference_law : (space : ℕ) → Alike S 0 (RecordedValue S) (legacy_reference S.x space) (legacy_reference (x' S) space)
  unfolding legacy_reference
  legacy_reference_law space = then_law S (int_law S) (λ first _. first_law space first)

-- ---- allocation

-- from n records: what is given then, one record more where an object is placed
abbrev mapped_outcome : TableMap 5 → ℕ → Outcome → Outcome
mapped_outcome f n r = outcome r.number r.alignment r.alloc (f.rows (if eqb r.number 0 then n + 1 else n) r.table)

pick-mapped : (f : TableMap 5) (n : ℕ) (b : Bool) (r s r' s' : Outcome) → r' ≡ mapped_outcome f n r → s' ≡ mapped_outcome f n s → (if b then r' else s') ≡ mapped_outcome f n (if b then r else s)
pick-mapped f n true r s r' s' y z = y
pick-mapped f n false r s r' s' y z = z

module _ (S : Pair) (t : List ℕ) (n spaces : ℕ) (want : Request) (c : LegacyAlloc) where
  -- where there is room
  allocate_mapped : (f : TableMap 5) → n < room 5 t → allocate_of (f.rows n t) n spaces want c ≡ mapped_outcome f n (allocate_of t n spaces want c)
  unfolding allocate_of
  allocate_mapped f l =
      let e : (chunk offset is_placed : ℕ) → written (f.rows n t) n (address_row want.space chunk offset want.object is_placed) ≡ f.rows (n + 1) (written t n (address_row want.space chunk offset want.object is_placed)) = (λ chunk offset is_placed. map_written (address_row want.space chunk offset want.object is_placed) f n t (omega arith) l) in
      rw (lt-leb (room 5 t) n l, lt-leb (room 5 (f.rows n t)) n (map_room f n t (omega arith) l))
      (pick-mapped f n (ltb 4294967295 want.size) _ _ _ _ refl
      (pick-mapped f n (leb spaces want.space) _ _ _ _ (ap (outcome 0 want.alignment c) (e 0 0 0))
      (pick-mapped f n (ltb 4294967295 (get_or c.used want.space 0 + fill_to_align (get_or c.used want.space 0) want.alignment want.word) || ltb 4294967295 (get_or c.used want.space 0 + advance_of want.size want.alignment want.word)) _ _ _ _ refl
      (ap (outcome 0 0 _) (e _ _ 1)))))

  -- without room a reading refuses with 3
  allocate_full : (u : List ℕ) → room 5 u ≤ n → allocate_of u n spaces want c ≡ outcome 3 want.alignment c u
  unfolding allocate_of
  allocate_full u l = rw (le-leb (room 5 u) n l)

  -- the second reading's outcome: the first one's, with its own table; where 3 is not compared,
  -- only if there is room
  allocated : (f : TableMap 5) → (S.Compared 3 → SameLength f) → ((allocate_of t n spaces want c).number ≡ 3 → S.Compared 3) → allocate_of (f.rows n t) n spaces want c ≡ mapped_outcome f n (allocate_of t n spaces want c)
  allocated f full compared = go (leb (room 5 t) n) refl
    where
      go : (b : Bool) → leb (room 5 t) n ≡ b → allocate_of (f.rows n t) n spaces want c ≡ mapped_outcome f n (allocate_of t n spaces want c)
      go true e =
          let l : room 5 t ≤ n = leb-true _ _ e in
          let z : room 5 (f.rows n t) ≡ room 5 t = ap (λ (k : ℕ). k / 5) (full (compared (ap (λ (r : Outcome). r.number) (allocate_full t l))) n t) in
          allocate_full (f.rows n t) (rw z l) ∙ sym (ap (mapped_outcome f n) (allocate_full t l))
      go false e = allocate_mapped f (leb-false _ _ e)

  -- with the record of an object that is within its table, every address is one of such an object
  abbrev RecordedRows : Outcome → Type 0
  RecordedRows r = r.number ≡ 0 → (j : ℕ) → j < n + 1 → Recorded S (field 5 r.table j 3)

  pick_rows : (b : Bool) (r s : Outcome) → RecordedRows r → RecordedRows s → RecordedRows (if b then r else s)
  pick_rows true r s y n = y
  pick_rows false r s y n = n

  module _ (recorded : (j : ℕ) → j < n → Recorded S (field 5 t j 3)) (mine : Recorded S want.object) where
    row_recorded : (space chunk offset placed : ℕ) → n < room 5 t → (j : ℕ) → j < n + 1 → Recorded S (field 5 (written t n (address_row space chunk offset want.object placed)) j 3)
    row_recorded space chunk offset placed l j b =
        let row : List ℕ = address_row space chunk offset want.object placed in
        ⊎_elim
        (λ e. rw (e, written_same t row n 3 (omega arith) l) mine)
        (λ b. rw (written_else t row n j 3 (omega arith) (λ e. omega arith)) (recorded j b))
        (let z : j ≤ n = omega arith in eq-or-lt_of_le z)

    allocated_recorded : RecordedRows (allocate_of t n spaces want c)
    unfolding allocate_of
    allocated_recorded = go (leb (room 5 t) n) refl
      where
        go : (b : Bool) → leb (room 5 t) n ≡ b → RecordedRows (allocate_of t n spaces want c)
        go true e = rw (e) (λ z. absurd (omega arith))
        go false e =
            let l : n < room 5 t = leb-false _ _ e in
            rw (e)
            (pick_rows (ltb 4294967295 want.size) _ _ (λ z. absurd (omega arith))
            (pick_rows (leb spaces want.space) _ _ (λ z. row_recorded want.space 0 0 0 l)
            (pick_rows (ltb 4294967295 (get_or c.used want.space 0 + fill_to_align (get_or c.used want.space 0) want.alignment want.word) || ltb 4294967295 (get_or c.used want.space 0 + advance_of want.size want.alignment want.word)) _ _
            (λ z. absurd (omega arith)) (λ z. row_recorded want.space _ _ 1 l))))

module _ (S : Pair) where
  abbrev request : ℕ → ℕ → ℕ → Mem → Request
  request space bytes o m = record { space = space; size = bytes; object = o; alignment = m.alignment; word = word S.x }

  pub allocate_law : (space bytes o : ℕ) → Recorded S o → Alike S 0 Any (allocate S.x space bytes o) (allocate (x' S) space bytes o)
  unfolding allocate
  allocate_law space bytes o recorded =
      record {
        at_law = (λ m fit.
            go m fit (allocate_of m.addresses.rows m.addresses.count S.x.spaces (request space bytes o m) m.alloc)
            (allocate_of (S.maps.addresses.rows m.addresses.count m.addresses.rows) m.addresses.count S.x.spaces (request space bytes o m) m.alloc)
            (allocated_recorded S m.addresses.rows m.addresses.count S.x.spaces (request space bytes o m) m.alloc fit.recorded recorded)
            (allocated S m.addresses.rows m.addresses.count S.x.spaces (request space bytes o m) m.alloc S.maps.addresses (λ w. (S.compared_full w).addresses)));
      }
    where
      go : (m : Mem) → Fits S m → (r r' : Outcome) → (r.number ≡ 0 → (j : ℕ) → j < m.addresses.count + 1 → Recorded S (field 5 r.table j 3)) → ((r.number ≡ 3 → S.Compared 3) → r' ≡ mapped_outcome S.maps.addresses m.addresses.count r) → Follows S 0 Any m (after_allocation r m) (after_allocation r' (φ S m))
      go m fit r r' rows e = turn (eqb r.number 0) refl
        where
          turn : (b : Bool) → eqb r.number 0 ≡ b → Follows S 0 Any m ((if b then change (with_alloc (table r.table (m.addresses.count + 1)) r.alignment r.alloc) else refuse r.number) m) (after_allocation r' (φ S m))
          turn true z =
              let placed : r.number ≡ 0 = eqb-true _ _ z in
              gives S (record { inside = fit.inside; logged = fit.logged; filed = fit.filed; objects_length = fit.objects_length; slots_within = fit.slots_within; recorded = rows placed }) tt (omega arith) (λ v. rw (e (λ three. absurd (omega arith)), z))
          turn false z = stops S fit (λ v. rw (e (λ three. subst S.Compared three v), z))
