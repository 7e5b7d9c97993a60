-- What the rules keep holds of every accepted payload, under a plain sheet. Assumes nothing.
use Rattle.std.specs.Prelude.{if◌then◌else◌, ◌≡◌, ◌≢◌, leb, eqb, get_or}
use Rattle.std.proofs.Math.Path.{refl, sym, subst}
use Rattle.std.proofs.Common.{◌∙◌}
use Rattle.std.proofs.Math.Bool.{true, false}
use mathlib.Core.List.{List, []}
use Prim.Native.Nat.{ℕ, zero, suc, ◌+◌, ◌-◌, ◌<◌, ◌≤◌}
use native.Mathlib.Omega.{arith}
use borrow.Author.Tests.{leb-false, eqb-true}
use Rattle.std.proofs.Math.ListN.{length}
use Rattle.stream.proofs.ByteLaws.{Bytes, peek-byte}
use Rattle.sheet.specs.Names.{k_synchronize}
use Rattle.sheet.specs.Sheet.{number, is_legacy}
use Rattle.sheet.specs.Tests.{opens, is_nop}
use Rattle.std.proofs.lemmas.Bool.{eqb-false, and_parts}
use Rattle.tables.specs.declared.values.SlotValue.{SlotValue}
use Rattle.tables.specs.Values.{fields_of}
use Rattle.definition.specs.Memory.{Input, value, dropped, begins, synchronize, Table, Mem, Out, got, no, Reader, ◌>>=◌, ◌>>◌, change, tell, refuse_at, moved, aligned, noted, byte}
use Rattle.definition.specs.Object.{peek, object}
use Rattle.definition.specs.Reference.{ref_at}
use Rattle.definition.specs.Closing.{drop_reference, ends_legacy, after_entry, by_entry, entries, padding, closing}
use Rattle.definition.specs.Call.{top_space, walk}
use Rattle.assurance.specs.PlainSheet.{PlainSheet, not_legacy, closing_case}
use Rattle.assurance.specs.Gives.{Gives, gives, given, refused, gives_then, gives-choose, gives_map, gives_both, byte_gives}
use Rattle.assurance.specs.Steps.{Frame, OpensAt, Base, Rules, resolve_case, base_same}
use Rattle.assurance.specs.Objects.{Good, Has, good_move, object_has}
use Rattle.assurance.specs.References.{reference_has, ref_has}

-- nothing is asked of what is given
unfoldable pub Any : Mem → SlotValue → Type 0
Any m v = Unit {0}

-- the cursor does not fall, and no address is recorded
pub steady : (x : Input) (n : ℕ) (t : Table) → Rules x (λ S m. (n ≤ m.at) × (m.addresses ≡ t)) Any
unfolding Any
steady x n t =
    record {
      on_move = (λ S m at h l g. (omega (arith, h.0), h.1));
      on_long = (λ S m n h. h);
      on_object = (λ S m i h l. tt);
      on_root = (λ S m i h. tt);
      on_read_only = (λ S m c o h. tt);
      on_attached = (λ S m i h. tt);
      on_cleared = (λ S m h. tt);
      on_hot = (λ S m i r h l e. tt);
      on_enter = (λ S m r t h w. (h, tt));
      on_pending = (λ S m h. (h, tt));
      on_raw = (λ S m k a h l g. ((omega (arith, h.0), h.1), tt));
      on_value = (λ S m v h w l. (h, tt, λ n. tt));
      on_open = (λ S m tag words q i h l. h);
      on_flag = (λ S m o v l h w. (h, tt));
      on_map = (λ S m o size v b h w l. h);
      on_item = (λ S m o size done v b h w p d l. h);
      on_resolve = (λ S m o size done k b h. resolve_case m k o (λ m. (n ≤ m.at) × (m.addresses ≡ t)) (λ e. h) (λ j e. h));
      on_close = (λ S m o size l p h. h);
      on_drop = (λ S m v h w. h);
      on_align = (λ S m a h. h);
      on_begins = (λ m n h. h);
    }

module _ (x : Input) (bytes : Bytes x.payload) (plainly : PlainSheet x.sheet) where
  -- a reference reads a byte at least
  reads : (k : ℕ) (S : List Frame) (m : Mem) → Base x S m → Gives (λ v m'. m.at < m'.at) (ref_at x (suc k) m)
  unfolding ref_at
  reads k S m b =
      let J : List Frame → Mem → Type 0 = λ S' m'. (suc m.at ≤ m'.at) × (m'.addresses ≡ m.addresses) in
      let R : Rules x J Any = steady x (suc m.at) m.addresses in
      gives_map _ _ _ (λ v m' h. h.0.1.0)
      (reference_has x bytes plainly J Any R (ref_at x k) (ref_has x bytes plainly J Any R k) S m
      (λ l. (base_same x S m b (moved (m.at + 1) m) (omega arith) refl refl refl, (omega arith, refl))))

  module _ (I : List Frame → Mem → Type 0) (W : Mem → SlotValue → Type 0) (rules : Rules x I W) where
    abbrev G : Mem → Type 0
    G = Good x bytes plainly I W rules []

    -- the closing section ended: at its kSynchronize this was had, and then the cursor went on
    pub record End (m : Mem) : Type 0 where
      pub before : Mem
      pub holds : G before
      pub inside : before.at < length x.payload
      pub final : get_or x.payload before.at 0 ≡ number x.sheet k_synchronize
      pub next : ℕ
      pub later : before.at < next
      pub ends : next ≤ length x.payload
      pub after : m ≡ moved next (noted (synchronize before.at) (noted (begins before.at) before))

    after_has : (P Q : Unit {0} → Mem → Type 0) (k : Reader (Unit {0})) (o : Out (Unit {0})) → Gives P o → ((m : Mem) → P tt m → Gives Q (k m)) → Gives Q (after_entry x k o)
    after_has P Q k (got u m) h f = f m (given P _ _ h)
    after_has P Q k (no n q m) h f =
        gives-choose Q (ends_legacy x n) _ _ m (λ t. absurd (not_legacy x.sheet plainly (and_parts _ _ t).0)) (λ t. refused Q _ _ _)

    drop_has : (m : Mem) → G m → Gives (λ u m'. (G m') × (m.at < m'.at)) (drop_reference x m)
    drop_has m g =
        gives_then (λ v m'. (Has x bytes plainly I W rules [] v m') × (m.at < m'.at)) (λ u m'. (G m') × (m.at < m'.at)) (ref_at x 65 m) _
        (gives_both (Has x bytes plainly I W rules []) (λ v m'. m.at < m'.at) (ref_at x 65 m) (ref_has x bytes plainly I W rules 65 [] m g) (reads 64 [] m g.0))
        (λ v m' h. gives (λ u m'. (G m') × (m.at < m'.at)) _ _ ((base_same x [] m' h.0.0.0 (noted (value (fields_of v) dropped) m') h.0.0.0.within refl refl refl, rules.on_drop [] m' v h.0.0.1 h.0.1), h.1))

    other_byte : (m : Mem) → m.at < length x.payload → eqb (number x.sheet k_synchronize) (peek x m) ≡ false → get_or x.payload m.at 0 ≢ number x.sheet k_synchronize
    other_byte m l e q = eqb-false _ _ e (sym q ∙ peek-byte x.payload m.at l refl)

    begin_has : (m : Mem) → m.at < length x.payload → eqb (number x.sheet k_synchronize) (peek x m) ≡ false → G m → G (noted (begins m.at) m)
    begin_has m l e g = (base_same x [] m g.0 (noted (begins m.at) m) g.0.within refl refl refl, rules.on_begins m (other_byte m l e) g.1)

    entries_have : (n : ℕ) (m : Mem) → G m → length x.payload < m.at + n → Gives (λ u. End) (entries x n m)
    unfolding entries
    entries_have zero m g l = absurd (omega (arith, g.0.within))
    entries_have (suc n) m g l =
        let Q : Unit {0} → Mem → Type 0 = λ u. End in
        gives-choose Q (leb (length x.payload) m.at) _ _ m
        (λ t. gives-choose Q (is_legacy x.sheet) _ _ m (λ t. absurd (not_legacy x.sheet plainly t)) (λ t. refused Q _ _ _))
        (λ t. let b : m.at < length x.payload = leb-false _ _ t in
        let s : Mem = noted (begins m.at) m in
        let z : Mem = moved (m.at + 1) (noted (synchronize m.at) s) in
        closing_case x.sheet plainly (λ c. Gives Q (by_entry x (entries x n) c s)) (peek x m)
        (λ e. gives_then (λ u m'. m' ≡ z) Q ((tell (synchronize m.at) >> byte x) s) _
        (byte_gives x (λ u m'. m' ≡ z) (noted (synchronize m.at) s) (λ h. refl))
        (λ u m' e'. gives Q _ _ (record { before = m; holds = g; inside = b; final = peek-byte x.payload m.at b refl ∙ sym (eqb-true (number x.sheet k_synchronize) (peek x m) e); next = m.at + 1; later = omega arith; ends = omega arith; after = e' })))
        (λ e a. let k : G s = begin_has m b e g in
        gives_then (λ u m'. (G m') × (m.at < m'.at)) Q ((byte x >> change (aligned a)) s) _
        (gives_then (λ u m'. (G m') × (m.at < m'.at)) (λ u m'. (G m') × (m.at < m'.at)) (byte x s) _
        (byte_gives x (λ u m'. (G m') × (m.at < m'.at)) s (λ h. (good_move x bytes plainly I W rules [] s (m.at + 1) k (omega arith) (omega arith), omega arith)))
        (λ u m' h. gives (λ u m'. (G m') × (m.at < m'.at)) _ _ ((base_same x [] m' h.0.0 (aligned a m') h.0.0.within refl refl refl, rules.on_align [] m' a h.0.1), h.1)))
        (λ u m' h. entries_have n m' h.0 (omega (arith, h.1))))
        (λ e. after_has (λ u m'. (G m') × (m.at < m'.at)) Q (entries x n) (drop_reference x s) (drop_has s (begin_has m b e g)) (λ m' h. entries_have n m' h.0 (omega (arith, h.1)))))

    -- padding moves the cursor
    padding_has : (n : ℕ) (m : Mem) → End m → Gives (λ u. End) (padding x n m)
    unfolding padding
    padding_has zero m e = gives (λ u. End) _ _ e
    padding_has (suc n) m e =
        let Q : Unit {0} → Mem → Type 0 = λ u. End in
        gives-choose Q (leb (length x.payload) m.at) _ _ m (λ t. gives Q _ _ e)
        (λ t. gives-choose Q (is_nop x.sheet (peek x m)) _ _ m
        (λ u. gives_then (λ b. End) Q (byte x m) _
        (byte_gives x (λ b. End) m (λ l. record { before = e.before; holds = e.holds; inside = e.inside; final = e.final; next = m.at + 1; later = (let z : m.at ≡ e.next = rw e.after in omega (arith, e.later)); ends = omega arith; after = rw e.after }))
        (λ u m' h. padding_has n m' h))
        (λ u. gives-choose Q (is_legacy x.sheet) _ _ m (λ t. gives Q _ _ e) (λ t. refused Q _ _ _)))

    pub walk_has : (m : Mem) → m.at ≡ 0 → G m → Gives (λ u. End) (walk x m)
    unfolding walk closing
    walk_has m z g =
        let R : Reader SlotValue = byte x >>= (λ b. if opens x.sheet b then object x (ref_at x 64) (top_space x b) 0 else refuse_at 5 0) in
        let H : SlotValue → Mem → Type 0 = Has x bytes plainly I W rules [] in
        let Q : ℕ → Mem → Type 0 = λ b m. (G m) × (m.at ≡ 1) × (opens x.sheet b ≡ true → OpensAt x 0) in
        gives_then H (λ u. End) (R m) _
        (gives_then Q H (byte x m) _
        (byte_gives x Q m (λ l. (good_move x bytes plainly I W rules [] m (m.at + 1) g (omega arith) (omega arith), omega arith, λ e. subst (OpensAt x) z (l, e))))
        (λ b m h. gives-choose H (opens x.sheet b) _ _ m (λ t. object_has x bytes plainly I W rules (ref_at x 64) (ref_has x bytes plainly I W rules 64) [] (top_space x b) 0 m h.1 (h.2 t) h.0) (λ t. refused H _ _ _)))
        (λ v m h. gives_then (λ u. End) (λ u. End) (entries x (length x.payload - m.at + 1) m) _
        (entries_have (length x.payload - m.at + 1) m h.0 (omega arith))
        (λ u m e. padding_has (length x.payload - m.at) m e))
