-- The kSynchronize that ends the closing section is the first such byte at a place where an entry
-- of it begins. Assumes nothing.
use Rattle.std.specs.Prelude.{◌≡◌, ◌≢◌, ◌⊎◌, refl, List, ◌∷◌, ℕ, ◌+◌, ◌<◌, ◌≤◌, get_or}
use Rattle.std.proofs.Common.{sym, subst, inl, inr, ⊎_elim, arith}
use mathlib.Core.List.Memᴰ
use Rattle.stream.proofs.ByteLaws.{Bytes}
use Rattle.sheet.specs.Names.{k_synchronize}
use Rattle.sheet.specs.Sheet.{number}
use Rattle.tables.specs.Values.{fields_of, width_of}
use Rattle.definition.specs.Memory.{Input, word, in_map, in_slot, in_value, dropped, Event, opened, passed, item, value, resolve, begins, synchronize, Log, off, told, note, Mem}
use Rattle.definition.specs.Call.{Rooms, Call, input_of, told_of}
use Rattle.assurance.specs.Steps.{Frame, frame, Rules, resolve_case}
use Rattle.assurance.specs.PlainSheet.{PlainSheet}
use Rattle.assurance.specs.Whole.{Any, End}
use Rattle.assurance.specs.Induct.{plainly, graph_end}
use Rattle.assurance.specs.On.{On, on_note, on_map}
use Rattle.assurance.specs.Words.{Accepted, Told, EndsAt}

-- what holds of the entries that have begun while the payload is read: they begin at the cursor or
-- before it, and none is kSynchronize
abbrev Begun : Input → ℕ → List Event → Type 0
Begun x at es =
    (q : ℕ) → Told es (begins q) → (q ≤ at) × (get_or x.payload q 0 ≢ number x.sheet k_synchronize)

begun_up : (x : Input) (l k : ℕ) → l ≤ k → (es : List Event) → Begun x l es → Begun x k es
begun_up x l k g es h q t = let z = h q t in (omega (arith, z.0), z.1)

-- an event that is no beginning
begun_more : (x : Input) (at : ℕ) (e : Event) → ((q : ℕ) → begins q ≢ e) → (es : List Event) → Begun x at es → Begun x at (e ∷ es)
begun_more x at e n es h q t = ⊎_elim (λ z. absurd (n q z)) (λ u. h q u) (Memᴰ.cases_cons t)

abbrev Inv : Input → List Frame → Mem → Type 0
Inv x S m = On (Begun x m.at) m.log

module _ (x : Input) where
  told_one : (e : Event) → ((q : ℕ) → begins q ≢ e) → (at : ℕ) (l : Log) → On (Begun x at) l → On (Begun x at) (note e l)
  told_one e n at l h = on_note _ _ e l (begun_more x at e n) h

  told_two : (e f : Event) → ((q : ℕ) → begins q ≢ e) → ((q : ℕ) → begins q ≢ f) → (at : ℕ) (l : Log) → On (Begun x at) l → On (Begun x at) (note f (note e l))
  told_two e f n p at l h = told_one f p at (note e l) (told_one e n at l h)

  no_item : (o s w k q : ℕ) → begins q ≢ item o s w k
  no_item o s w k q e = let z : ◌≡◌ {A = ℕ} 0 1 = cc in omega arith

  rules : Rules x (Inv x) Any
  unfolding Any
  rules =
      record {
        on_move = (λ S m at h l g. on_map _ _ m.log (begun_up x m.at at (omega arith)) h);
        on_long = (λ S m n h. h);
        on_object = (λ S m i h l. tt);
        on_root = (λ S m i h. tt);
        on_read_only = (λ S m c o h. tt);
        on_attached = (λ S m i h. tt);
        on_cleared = (λ S m h. tt);
        on_hot = (λ S m i r h l e. tt);
        on_enter = (λ S m r t h w. (h, tt));
        on_pending = (λ S m h. (h, tt));
        on_raw = (λ S m n a h l g. (on_map _ _ (note (passed m.at n) m.log) (begun_up x m.at (m.at + n) (omega arith)) (told_one (passed m.at n) (λ q e. let z : ◌≡◌ {A = ℕ} 0 1 = cc in omega arith) m.at m.log h), tt));
        on_value = (λ S m v h w l. (told_one (value (fields_of v) (in_value m.values.count)) (λ q e. let z : ◌≡◌ {A = ℕ} 0 1 = cc in omega arith) m.at m.log h, tt, λ n. tt));
        on_open = (λ S m tag words q i h l. told_one (opened tag words) (λ q e. let z : ◌≡◌ {A = ℕ} 0 1 = cc in omega arith) m.at m.log h);
        on_flag = (λ S m o v l h w. (h, tt));
        on_map = (λ S m o size v b h w l. told_two (value (fields_of v) (in_map m.slots.count)) (item o 0 (word x) m.slots.count) (λ q e. let z : ◌≡◌ {A = ℕ} 0 1 = cc in omega arith) (no_item o 0 (word x) m.slots.count) m.at m.log h);
        on_item = (λ S m o size done v b h w p d l. told_two (value (fields_of v) (in_slot m.slots.count)) (item o done (width_of (word x) v) m.slots.count) (λ q e. let z : ◌≡◌ {A = ℕ} 0 1 = cc in omega arith) (no_item o done (width_of (word x) v) m.slots.count) m.at m.log h);
        on_resolve = (λ S m o size done n b h. resolve_case m n o (Inv x (frame o size done ∷ S)) (λ e. told_one (resolve n o) (λ q e. let z : ◌≡◌ {A = ℕ} 0 1 = cc in omega arith) m.at m.log h) (λ k e. told_one (resolve n o) (λ q e. let z : ◌≡◌ {A = ℕ} 0 1 = cc in omega arith) m.at m.log h));
        on_close = (λ S m o size l p h. h);
        on_drop = (λ S m v h w. told_one (value (fields_of v) dropped) (λ q e. let z : ◌≡◌ {A = ℕ} 0 1 = cc in omega arith) m.at m.log h);
        on_align = (λ S m a h. h);
        on_begins = (λ m n h. on_note _ _ (begins m.at) m.log (λ es g q t. ⊎_elim (λ e. let z : q ≡ m.at = cc e in subst (λ (i : ℕ). (i ≤ m.at) × (get_or x.payload i 0 ≢ number x.sheet k_synchronize)) (sym z) (omega arith, n)) (λ u. g q u) (Memᴰ.cases_cons t)) h);
      }

-- of the entries of the closing section, the last of which begins at `final`
pub record Entries (c : Call) (final : ℕ) (es : List Event) : Type 0 where
  pub last_begins : Told es (begins final)
  pub none_later : (q : ℕ) → Told es (begins q) → q ≤ final
  pub none_before : (q : ℕ) → Told es (begins q) → q < final → get_or c.payload q 0 ≢ number c.sheet k_synchronize

entries_told : (c : Call) (q : ℕ) (es : List Event) → Begun (input_of c) q es → Entries c q (synchronize q ∷ begins q ∷ es)
entries_told c q es h =
    record {
      last_begins = Memᴰ.tail (Memᴰ.head refl);
      none_later = (λ p t. ⊎_elim (λ e. omega arith) (λ u. (h p u).0) (before p t));
      none_before = (λ p t l. ⊎_elim (λ e. absurd (omega arith)) (λ u. (h p u).1) (before p t));
    }
  where
    before : (p : ℕ) → Told (synchronize q ∷ begins q ∷ es) (begins p) → (p ≡ q) ⊎ (Told es (begins p))
    before p t = ⊎_elim (λ e. absurd (let z : ◌≡◌ {A = ℕ} 0 1 = cc in omega arith)) (λ u. ⊎_elim (λ e. inl (cc e)) (λ w. inr w) (Memᴰ.cases_cons u)) (Memᴰ.cases_cons t)

entries_on : (c : Call) (q : ℕ) (l : Log) → On (Begun (input_of c) q) l → Entries c q (told_of (note (synchronize q) (note (begins q) l)))
entries_on c q off h = absurd h
entries_on c q (told es) h = entries_told c q es h

entries_of : (c : Call) (bytes : Bytes c.payload) (p : PlainSheet c.sheet) (m : Mem) → End (input_of c) bytes p (Inv (input_of c)) Any (rules (input_of c)) m → (q : ℕ) → EndsAt q (told_of m.log) → Entries c q (told_of m.log)
entries_of c bytes p m z q e = rw z.after (subst (λ (i : ℕ). Entries c i (told_of (note (synchronize z.before.at) (note (begins z.before.at) z.before.log)))) (sym (same z.before.log z.holds.1 (rw z.after at e))) (entries_on c z.before.at z.before.log z.holds.1))
  where
    same : (l : Log) → On (Begun (input_of c) z.before.at) l → EndsAt q (told_of (note (synchronize z.before.at) (note (begins z.before.at) l))) → q ≡ z.before.at
    same off h e = absurd h
    same (told es) h e = e

-- THE THEOREM
pub entries_begin : (c : Call) (rooms : Rooms) (m : Mem) → Accepted c rooms m → (q : ℕ) → EndsAt q (told_of m.log) → Entries c q (told_of m.log)
entries_begin c rooms m a = entries_of c a.bytes (plainly c rooms m a) m (graph_end c rooms m a (Inv (input_of c)) Any (rules (input_of c)) (λ q t. absurd (Memᴰ.not-nil t)))
