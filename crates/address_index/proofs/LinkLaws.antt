-- What a new record changes in the index. Assumes nothing.
use Rattle.std.specs.Prelude.{◌≡◌, ◌≢◌, ◌⊎◌, List, ℕ, zero, suc, ◌+◌, ◌-◌, ◌*◌, ◌<◌, ◌≤◌, length, get_or, set}
use Rattle.std.proofs.Common.{refl, sym, ap, subst, ◌∙◌, inl, inr, ⊎_elim, add-one, arith, length-set, get_or-set_same, get_or-set_other}
use Rattle.std.proofs.lemmas.Bool.{cases_eq}
use borrow.Author.Tests.{eq-eqb, ne_eqb}
use Rattle.tables.specs.Records.{field}
use Rattle.address_index.specs.Layout.{capacity, list_cell, bucket_cell, link_cell}
use Rattle.address_index.specs.Links.{space_of, count_in, bucket_of, newest, Names, Lists, Chains, Links, Linked}
use Rattle.address_index.specs.Entries.{in_bucket, in_list, OffBucket, OffList}
use Rattle.address_index.specs.Numbered.{Numbered}
use Rattle.address_index.proofs.CountLaws.{space_field, count_on, count_off, count_low, count_after, count_two, numbered_there}
use Rattle.address_index.proofs.LayoutLaws.{list_low, list_apart}

-- ---- the newest record of a bucket

module _ (bucket_at : ℕ → ℕ) (b : ℕ) where
  newest_on : (n : ℕ) → bucket_at n ≡ b → newest bucket_at b (suc n) ≡ suc n
  unfolding newest
  newest_on n e = rw (eq-eqb (bucket_at n) b e)

  newest_off : (n : ℕ) → bucket_at n ≢ b → newest bucket_at b (suc n) ≡ newest bucket_at b n
  unfolding newest
  newest_off n e = rw (ne_eqb (bucket_at n) b e)

  newest_low : (n : ℕ) → newest bucket_at b n ≤ n
  unfolding newest
  newest_low zero = omega arith
  newest_low (suc n) =
      let h = newest_low n in
      ⊎_elim (λ e. let z = newest_on n e in omega (arith, z)) (λ e. let z = newest_off n e in omega (arith, z, h)) (cases_eq (bucket_at n) b)

  -- it is in the bucket, and what lies after it is not
  newest_is : (n p : ℕ) → newest bucket_at b n ≡ suc p → bucket_at p ≡ b
  unfolding newest
  newest_is zero p h = absurd (omega (arith, h))
  newest_is (suc n) p h =
      ⊎_elim
      (λ e. let z : n ≡ p = (let y = newest_on n e in omega (arith, y, h)) in subst (λ (i : ℕ). bucket_at i ≡ b) z e)
      (λ e. newest_is n p (sym (newest_off n e) ∙ h))
      (cases_eq (bucket_at n) b)

  newest_gap : (n k : ℕ) → newest bucket_at b n ≤ k → k < n → bucket_at k ≢ b
  unfolding newest
  newest_gap zero k h l = absurd (omega (arith, l))
  newest_gap (suc n) k h l =
      ⊎_elim (λ e. let z = newest_on n e in absurd (omega (arith, z, h, l)))
      (λ e. let z = newest_off n e in gap (cases_eq k n) e (λ l'. newest_gap n k (omega (arith, z, h)) l'))
      (cases_eq (bucket_at n) b)
    where
      gap : (k ≡ n) ⊎ (k ≢ n) → bucket_at n ≢ b → (k < n → bucket_at k ≢ b) → bucket_at k ≢ b
      gap (inl q) e f = subst (λ (i : ℕ). bucket_at i ≢ b) (sym q) e
      gap (inr q) e f = f (omega (arith, l, q))

  -- there is one, or there is none
  some_or_none : (n : ℕ) → (0 < newest bucket_at b n) ⊎ (newest bucket_at b n ≡ 0)
  some_or_none n = ⊎_elim (λ e. inr e) (λ e. inl (omega (arith, e))) (cases_eq (newest bucket_at b n) 0)

  -- ---- along the links of a bucket

  -- none lies after the one that is named
  pub names_gap : {n h : ℕ} → Names bucket_at b n (suc h) → (k : ℕ) → h < k → k < n → bucket_at k ≢ b
  names_gap {n} {h} w k a l = ⊎_elim (λ p. let z = w p in newest_gap n k (omega (arith, z, a)) l) (λ e. newest_gap n k (omega (arith, e)) l) (some_or_none n)

  -- there is none where no record is named
  pub names_none : {n v : ℕ} → Names bucket_at b n v → (v ≡ 0) ⊎ (n < v) → (k : ℕ) → k < n → bucket_at k ≢ b
  names_none {n} {v} w out k l =
      ⊎_elim
      (λ p. let z = w p in let y = newest_low n in absurd (⊎_elim (λ e. omega (arith, z, p, e)) (λ e. omega (arith, z, y, e)) out))
      (λ e. newest_gap n k (omega (arith, e)) l)
      (some_or_none n)

  -- there is none where a record of another bucket is named
  pub names_other : {n h : ℕ} → Names bucket_at b n (suc h) → bucket_at h ≢ b → (k : ℕ) → k < n → bucket_at k ≢ b
  names_other {n} {h} w d k l = ⊎_elim (λ p. absurd (d (newest_is n h (sym (w p))))) (λ e. newest_gap n k (omega (arith, e)) l) (some_or_none n)

  -- what the link of the one that is named names
  pub names_on : {n h v : ℕ} → Names bucket_at b n (suc h) → h < n → Names bucket_at (bucket_at h) h v → Names bucket_at b h v
  names_on {n} {h} {v} w l u p =
      let q = newest bucket_at b h in
      let y = newest_low h in
      let in_bucket : bucket_at (q - 1) ≡ b = newest_is h (q - 1) (omega (arith, p)) in
      let some : 0 < newest bucket_at b n = ⊎_elim (λ p. p) (λ e. absurd (newest_gap n (q - 1) (omega (arith, e)) (omega (arith, y, p, l)) in_bucket)) (some_or_none n) in
      let same : bucket_at h ≡ b = newest_is n h (sym (w some)) in
      subst (λ (c : ℕ). Names bucket_at c h v) same u p

-- ---- a record enters its bucket

module _ (ix : List ℕ) (n r b : ℕ) (low : b < r * 3) where
  abbrev linked_to : List ℕ
  linked_to = set ix (link_cell r n) (get_or ix (bucket_cell r b) 0)

  abbrev chained : List ℕ
  chained = set linked_to (bucket_cell r b) (n + 1)

  chained_else : (x : ℕ) → x ≢ link_cell r n → x ≢ bucket_cell r b → get_or chained x 0 ≡ get_or ix x 0
  chained_else x p q = get_or-set_other linked_to (bucket_cell r b) x (n + 1) 0 q ∙ get_or-set_other ix (link_cell r n) x _ 0 p

  module _ (roomy : n < r) (fits : 9 + r * 8 ≤ length ix) where
    bucket_is : get_or chained (bucket_cell r b) 0 ≡ n + 1
    bucket_is = let z = length-set ix (link_cell r n) (get_or ix (bucket_cell r b) 0) in get_or-set_same linked_to (bucket_cell r b) (n + 1) 0 (omega (arith, z, fits, low))

    link_is : get_or chained (link_cell r n) 0 ≡ get_or ix (bucket_cell r b) 0
    link_is = get_or-set_other linked_to (bucket_cell r b) (link_cell r n) (n + 1) 0 (λ q. omega (arith, q, low)) ∙ get_or-set_same ix (link_cell r n) _ 0 (omega (arith, fits, roomy))

    module _ (t : List ℕ) (seed : ℕ) (e : b ≡ bucket_of t r seed n) (w : Chains t n r seed ix) where
      bucket_right : (c : ℕ) → c < r * 3 → Names (bucket_of t r seed) c (n + 1) (get_or chained (bucket_cell r c) 0)
      bucket_right c l =
          ⊎_elim
          (λ q. subst (λ (c : ℕ). Names (bucket_of t r seed) c (n + 1) (get_or chained (bucket_cell r c) 0)) (sym q) (λ _. bucket_is ∙ rw (add-one n) (sym (newest_on (bucket_of t r seed) b n (sym e)))))
          (λ q. rw (chained_else (bucket_cell r c) (λ u. omega (arith, u, l)) (λ u. q (omega (arith, u))), add-one n, newest_off (bucket_of t r seed) c n (λ u. q (sym u ∙ sym e))) (w.buckets c l))
          (cases_eq c b)

      link_right : (i : ℕ) → i < n + 1 → Names (bucket_of t r seed) (bucket_of t r seed i) i (get_or chained (link_cell r i) 0)
      link_right i l =
          ⊎_elim
          (λ q. subst (λ (i : ℕ). Names (bucket_of t r seed) (bucket_of t r seed i) i (get_or chained (link_cell r i) 0)) (sym q) (subst (λ (c : ℕ). Names (bucket_of t r seed) c n (get_or chained (link_cell r n) 0)) e (λ p. link_is ∙ w.buckets b low p)))
          (λ q. rw (chained_else (link_cell r i) (λ u. q (omega (arith, u))) (λ u. omega (arith, u, low))) (w.links i (omega (arith, q, l))))
          (cases_eq i n)

      chain_enters : Chains t (n + 1) r seed chained
      chain_enters = record { buckets = bucket_right; links = link_right }

module _ (ix : List ℕ) {ix' : List ℕ} (n b : ℕ) (low : b < capacity (length ix) * 3) (e : ix' ≡ in_bucket ix n b) where
  pub bucket_else : (x : ℕ) → OffBucket (capacity (length ix)) n b x → get_or ix' x 0 ≡ get_or ix x 0
  bucket_else x o = rw e (chained_else ix n _ b low x o.off_link o.off_bucket)

  pub bucket_chains : n < capacity (length ix) → (t : List ℕ) (seed : ℕ) → b ≡ bucket_of t (capacity (length ix)) seed n → Chains t n (capacity (length ix)) seed ix → Chains t (n + 1) (capacity (length ix)) seed ix'
  bucket_chains roomy t seed q w = rw e (chain_enters ix n _ b low roomy (omega (arith, roomy)) t seed q w)

-- lists and seed lie before buckets and links
pub off_before : (r n b x : ℕ) → x < 9 + r * 4 → OffBucket r n b x
off_before r n b x l = record { off_bucket = λ u. omega (arith, u, l); off_link = λ u. omega (arith, u, l) }

pub lists_before : {t ix ix' : List ℕ} {k r : ℕ} → k ≤ r → ((x : ℕ) → x < 9 + r * 4 → get_or ix' x 0 ≡ get_or ix x 0) → Lists t k r ix → Lists t k r ix'
lists_before {t} {ix} {ix'} {k} {r} fits same w =
    record {
      counts = λ s l. same s (omega (arith, l)) ∙ w.counts s l;
      places = λ i l low. let c = count_low t (space_of t i) i in same _ (list_low r (space_of t i) _ low (omega (arith, c, l, fits))).1 ∙ w.places i l low;
    }

-- ---- a record enters the list of its space

module _ (ix : List ℕ) (n r space k : ℕ) (low : space < 8) (small : k ≤ n) (roomy : n < r) where
  abbrev placed : List ℕ
  placed = set ix (list_cell r space k) n

  abbrev listed : List ℕ
  listed = set placed space (k + 1)

  cell_lies : (9 ≤ list_cell r space k) × (list_cell r space k < 9 + r * 4)
  cell_lies = list_low r space k low (omega (arith, small, roomy))

  listed_else : (x : ℕ) → x ≢ list_cell r space k → x ≢ space → get_or listed x 0 ≡ get_or ix x 0
  listed_else x p q = get_or-set_other placed space x (k + 1) 0 q ∙ get_or-set_other ix (list_cell r space k) x n 0 p

  -- buckets and links lie behind, and the seed between
  pub off_behind : (x : ℕ) → (x ≡ 8) ⊎ (9 + r * 4 ≤ x) → OffList r space k x
  off_behind x h =
      let z = cell_lies in
      record {
        off_count = λ u. ⊎_elim (λ a. omega (arith, a, u, low)) (λ a. omega (arith, a, u, low)) h;
        off_list = λ u. ⊎_elim (λ a. omega (arith, a, u, z.0)) (λ a. omega (arith, a, u, z.1)) h;
      }

  module _ (fits : 9 + r * 8 ≤ length ix) where
    count_is : get_or listed space 0 ≡ k + 1
    count_is = let z = length-set ix (list_cell r space k) n in get_or-set_same placed space (k + 1) 0 (omega (arith, z, fits, low))

    place_is : get_or listed (list_cell r space k) 0 ≡ n
    place_is =
        let z = cell_lies in
        get_or-set_other placed space (list_cell r space k) (k + 1) 0 (λ u. omega (arith, u, z.0, low)) ∙ get_or-set_same ix (list_cell r space k) n 0 (omega (arith, z.1, fits))

    module _ (t : List ℕ) (e : space_of t n ≡ space) (ek : k ≡ count_in t space n) (w : Lists t n r ix) where
      count_right : (s : ℕ) → s < 8 → get_or listed s 0 ≡ count_in t s (n + 1)
      count_right s l =
          ⊎_elim
          (λ q. subst (λ (s : ℕ). get_or listed s 0 ≡ count_in t s (n + 1)) (sym q) (count_is ∙ rw (add-one n, ek) (add-one _ ∙ sym (count_on t space n e))))
          (λ q. let z = cell_lies in listed_else s (λ u. omega (arith, u, z.0, l)) q ∙ w.counts s l ∙ rw (add-one n) (sym (count_off t s n (λ u. q (sym u ∙ e)))))
          (cases_eq s space)

      place_right : (i : ℕ) → i < n + 1 → space_of t i < 8 → get_or listed (list_cell r (space_of t i) (count_in t (space_of t i) i)) 0 ≡ i
      place_right i l h =
          ⊎_elim
          (λ q. subst (λ (i : ℕ). get_or listed (list_cell r (space_of t i) (count_in t (space_of t i) i)) 0 ≡ i) (sym q) (subst (λ (s : ℕ). get_or listed (list_cell r s (count_in t s n)) 0 ≡ n) (sym e) (subst (λ (j : ℕ). get_or listed (list_cell r space j) 0 ≡ n) ek place_is)))
          (λ q. let a : i < n = omega (arith, q, l) in listed_else _ (apart i a) (away i a h) ∙ w.places i a h)
          (cases_eq i n)
        where
          -- an older record has a lower number in its space
          number_low : (i : ℕ) → i < n → count_in t (space_of t i) i < count_in t (space_of t i) n
          number_low i a = count_after t (space_of t i) i n refl a

          apart : (i : ℕ) → i < n → list_cell r (space_of t i) (count_in t (space_of t i) i) ≢ list_cell r space k
          apart i a =
              let y = number_low i a in
              let c = count_low t (space_of t i) n in
              list_apart r (space_of t i) _ space k (omega (arith, y, c, roomy)) (omega (arith, small, roomy))
              (λ u v. let x : count_in t (space_of t i) n ≡ k = rw u (sym ek) in omega (arith, v, x, y))
              (λ u. let x = count_two t (space_of t i) space n u in omega (arith, x, y, ek, roomy))

          away : (i : ℕ) → i < n → space_of t i < 8 → list_cell r (space_of t i) (count_in t (space_of t i) i) ≢ space
          away i a h u = let c = count_low t (space_of t i) i in let z = list_low r (space_of t i) (count_in t (space_of t i) i) h (omega (arith, c, a, roomy)) in omega (arith, u, z.0, low)

      list_enters : Lists t (n + 1) r listed
      list_enters = record { counts = count_right; places = place_right }

module _ (ix : List ℕ) {ix' : List ℕ} (n space k : ℕ) (low : space < 8) (small : k ≤ n) (roomy : n < capacity (length ix)) (e : ix' ≡ in_list ix n space k) where
  pub list_else : (x : ℕ) → OffList (capacity (length ix)) space k x → get_or ix' x 0 ≡ get_or ix x 0
  list_else x o = rw e (listed_else ix n _ space k low small roomy x o.off_list o.off_count)

  pub list_lists : (t : List ℕ) → space_of t n ≡ space → k ≡ count_in t space n → Lists t n (capacity (length ix)) ix → Lists t (n + 1) (capacity (length ix)) ix'
  list_lists t q qk w = rw e (list_enters ix n _ space k low small roomy (omega (arith, roomy)) t q qk w)

-- the list of a space holds its records
pub list_holds : {t ix : List ℕ} {n r : ℕ} → Lists t n r ix → (space k : ℕ) → space < 8 → k < count_in t space n → Numbered t n space k (get_or ix (list_cell r space k) 0)
list_holds {t} {ix} {n} {r} w space k low l =
    let h = numbered_there t space n k l in
    let m = h.1 in
    let e : get_or ix (list_cell r space k) 0 ≡ h.0 = subst (λ (j : ℕ). get_or ix (list_cell r space j) 0 ≡ h.0) m.number (subst (λ (s : ℕ). get_or ix (list_cell r s (count_in t s h.0)) 0 ≡ h.0) m.of_space (w.places h.0 m.within (rw m.of_space low))) in
    subst (Numbered t n space k) (sym e) m

-- a space without a list
pub list_skips : {t ix : List ℕ} {n r : ℕ} → 8 ≤ space_of t n → Lists t n r ix → Lists t (n + 1) r ix
list_skips {t} {ix} {n} {r} high w =
    record {
      counts = λ s l. w.counts s l ∙ rw (add-one n) (sym (count_off t s n (λ u. omega (arith, u, high, l))));
      places = λ i l h. w.places i (⊎_elim (λ q. absurd (omega (arith, high, h, ap (space_of t) q))) (λ q. omega (arith, q, l)) (cases_eq i n)) h;
    }

pub chains_behind : {t ix ix' : List ℕ} {k r seed : ℕ} → ((x : ℕ) → 9 + r * 4 ≤ x → get_or ix' x 0 ≡ get_or ix x 0) → Chains t k r seed ix → Chains t k r seed ix'
chains_behind {t} {ix} {ix'} {k} {r} {seed} same w =
    record {
      buckets = λ b l. rw (same (bucket_cell r b) (omega arith)) (w.buckets b l);
      links = λ i l. rw (same (link_cell r i) (omega arith)) (w.links i l);
    }

-- lists and chains of an index that is as long as before and has the same seed
pub links_of : {t : List ℕ} (ix : List ℕ) {ix' : List ℕ} {n : ℕ} → length ix' ≡ length ix → get_or ix' 8 0 ≡ get_or ix 8 0 → Lists t n (capacity (length ix)) ix' → Chains t n (capacity (length ix)) (get_or ix 8 0) ix' → Links t n ix'
links_of {t} ix {ix'} {n} l s lists chains =
    record {
      lists = subst (λ (k : ℕ). Lists t n (capacity k) ix') (sym l) lists;
      chains = subst (λ (k : ℕ). Chains t n (capacity k) (get_or ix' 8 0) ix') (sym l) (subst (λ (seed : ℕ). Chains t n (capacity (length ix)) seed ix') (sym s) chains);
    }

-- ---- the first n records alone matter

module _ (t t' : List ℕ) (n : ℕ) (h : (i k : ℕ) → i < n → k < 5 → field 5 t' i k ≡ field 5 t i k) where
  space_same : (i : ℕ) → i < n → space_of t' i ≡ space_of t i
  space_same i l = sym (space_field t' i) ∙ h i 0 l (omega arith) ∙ space_field t i

  count_same : (s m : ℕ) → m ≤ n → count_in t' s m ≡ count_in t s m
  unfolding count_in
  count_same s zero l = refl
  count_same s (suc m) l = rw (space_same m (omega (arith, l)), count_same s m (omega (arith, l)))

  bucket_same : (r seed i : ℕ) → i < n → bucket_of t' r seed i ≡ bucket_of t r seed i
  bucket_same r seed i l = rw (space_same i l, h i 1 l (omega arith), h i 2 l (omega arith))

  newest_same : (r seed b m : ℕ) → m ≤ n → newest (bucket_of t' r seed) b m ≡ newest (bucket_of t r seed) b m
  unfolding newest
  newest_same r seed b zero l = refl
  newest_same r seed b (suc m) l = rw (bucket_same r seed m (omega (arith, l)), newest_same r seed b m (omega (arith, l)))

  pub linked_same : (ix : List ℕ) → Linked t n ix → Linked t' n ix
  linked_same ix w fits =
      let v = w fits in
      record {
        lists = record {
          counts = λ s l. v.lists.counts s l ∙ sym (count_same s n (omega arith));
          places = λ i l b. rw (space_same i l, count_same (space_of t i) i (omega (arith, l))) (v.lists.places i l (rw (space_same i l) at b));
        };
        chains = record {
          buckets = λ b l. rw (newest_same _ _ b n (omega arith)) (v.chains.buckets b l);
          links = λ i l. rw (bucket_same (capacity (length ix)) (get_or ix 8 0) i l, newest_same (capacity (length ix)) (get_or ix 8 0) (bucket_of t (capacity (length ix)) (get_or ix 8 0) i) i (omega (arith, l))) (v.chains.links i l);
        };
      }

-- an index whose counts are zero is that of no records; all else may be anything
pub linked_start : (t ix : List ℕ) → ((s : ℕ) → s < 8 → get_or ix s 0 ≡ 0) → Linked t 0 ix
unfolding newest count_in
linked_start t ix e fits =
    record {
      lists = record { counts = e; places = λ i l. absurd (omega (arith, l)) };
      chains = record { buckets = λ b l p. absurd (omega (arith, p)); links = λ i l. absurd (omega (arith, l)) };
    }
