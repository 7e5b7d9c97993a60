-- The raw ranges, in the order read, lie one after the other, and before the kSynchronize that ends
-- the closing section. Assumes nothing.
use Rattle.std.specs.Prelude.{◌≡◌, refl, List, [], ◌∷◌, ℕ, ◌<◌, ◌≤◌, length, get_or}
use Rattle.std.proofs.Common.{arith}
use Rattle.stream.proofs.ByteLaws.{Bytes}
use Rattle.sheet.specs.Names.{k_synchronize}
use Rattle.sheet.specs.Sheet.{number}
use Rattle.tables.specs.Values.{fields_of, width_of}
use Rattle.definition.specs.Memory.{Input, word, in_map, in_slot, in_value, dropped, Event, opened, passed, item, value, resolve, begins, synchronize, Log, off, told, note, Mem}
use Rattle.definition.specs.Call.{Rooms, Call, input_of, told_of}
use Rattle.assurance.specs.Steps.{Frame, frame, Rules, resolve_case}
use Rattle.assurance.specs.PlainSheet.{PlainSheet}
use Rattle.assurance.specs.Whole.{Any, End}
use Rattle.assurance.specs.Induct.{plainly, graph_end}
use Rattle.assurance.specs.On.{On, on_note, on_note_two, on_map, on_told}
use Rattle.assurance.specs.Words.{Accepted, RangesBelow, EndsAt}

ranges_up : (es : List Event) (l k : ℕ) → l ≤ k → RangesBelow l es → RangesBelow k es
unfolding RangesBelow
ranges_up [] l k g h = tt
ranges_up (opened q w ∷ es) l k g h = ranges_up es l k g h
ranges_up (passed a n ∷ es) l k g h = (omega (arith, h.0), omega (arith, h.1), h.2)
ranges_up (item o s w i ∷ es) l k g h = ranges_up es l k g h
ranges_up (value v t ∷ es) l k g h = ranges_up es l k g h
ranges_up (resolve n o ∷ es) l k g h = ranges_up es l k g h
ranges_up (begins q ∷ es) l k g h = ranges_up es l k g h
ranges_up (synchronize q ∷ es) l k g h = ranges_up es l k g h

-- what holds of the raw ranges while the payload is read: they end at the cursor or before it
abbrev Inv : List Frame → Mem → Type 0
Inv S m = On (RangesBelow m.at) m.log

rules : (x : Input) → Rules x Inv Any
unfolding RangesBelow Any
rules x =
    record {
      on_move = (λ S m at h l g. on_map _ _ m.log (λ es i. ranges_up es m.at at (omega arith) i) h);
      on_long = (λ S m n h. h);
      on_object = (λ S m i h l. tt);
      on_root = (λ S m i h. tt);
      on_read_only = (λ S m c o h. tt);
      on_attached = (λ S m i h. tt);
      on_cleared = (λ S m h. tt);
      on_hot = (λ S m i r h l e. tt);
      on_enter = (λ S m r t h w. (h, tt));
      on_pending = (λ S m h. (h, tt));
      on_raw = (λ S m n a h l g. (on_note _ _ (passed m.at n) m.log (λ es i. (omega arith, omega arith, i)) h, tt));
      on_value = (λ S m v h w l. (on_note _ _ (value (fields_of v) (in_value m.values.count)) m.log (λ es i. i) h, tt, λ n. tt));
      on_open = (λ S m tag words q n h l. on_note _ _ (opened tag words) m.log (λ es i. i) h);
      on_flag = (λ S m o v l h w. (h, tt));
      on_map = (λ S m o size v b h w l. on_note_two _ _ (value (fields_of v) (in_map m.slots.count)) (item o 0 (word x) m.slots.count) m.log (λ es i. i) h);
      on_item = (λ S m o size done v b h w p d l. on_note_two _ _ (value (fields_of v) (in_slot m.slots.count)) (item o done (width_of (word x) v) m.slots.count) m.log (λ es i. i) h);
      on_resolve = (λ S m o size done n b h. resolve_case m n o (Inv (frame o size done ∷ S)) (λ e. on_note _ _ (resolve n o) m.log (λ es i. i) h) (λ k e. on_note _ _ (resolve n o) m.log (λ es i. i) h));
      on_close = (λ S m o size l p h. h);
      on_drop = (λ S m v h w. on_note _ _ (value (fields_of v) dropped) m.log (λ es i. i) h);
      on_align = (λ S m a h. h);
      on_begins = (λ m n h. on_note _ _ (begins m.at) m.log (λ es i. i) h);
    }

-- kSynchronize ends the closing section at `final`, where the byte is one, and what is read then is
-- padding; the raw ranges lie before it
pub record Ranges (c : Call) (m : Mem) : Type 0 where
  pub final : ℕ
  pub told_last : EndsAt final (told_of m.log)
  pub inside : final < length c.payload
  pub is_final : get_or c.payload final 0 ≡ number c.sheet k_synchronize
  pub before_end : final < m.at
  pub end_inside : m.at ≤ length c.payload
  pub ranges : RangesBelow final (told_of m.log)

ends_at : (q : ℕ) (l : Log) (P : List Event → Type 0) → On P l → EndsAt q (told_of (note (synchronize q) l))
ends_at q off P h = absurd h
ends_at q (told es) P h = refl

begun_below : (q : ℕ) (l : Log) → On (RangesBelow q) l → On (RangesBelow q) (note (begins q) l)
unfolding RangesBelow
begun_below q l h = on_note _ _ (begins q) l (λ es i. i) h

below_last : (q : ℕ) (l : Log) → On (RangesBelow q) l → RangesBelow q (told_of (note (synchronize q) l))
unfolding RangesBelow
below_last q l h = on_told (RangesBelow q) (note (synchronize q) l) (on_note _ _ (synchronize q) l (λ es i. i) h)

ranges_of : (c : Call) (bytes : Bytes c.payload) (p : PlainSheet c.sheet) (m : Mem) → End (input_of c) bytes p Inv Any (rules (input_of c)) m → Ranges c m
ranges_of c bytes p m z =
    record {
      final = z.before.at;
      told_last = rw z.after (ends_at z.before.at (note (begins z.before.at) z.before.log) (RangesBelow z.before.at) (begun_below z.before.at z.before.log z.holds.1));
      inside = z.inside;
      is_final = z.final;
      before_end = rw z.after z.later;
      end_inside = rw z.after z.ends;
      ranges = rw z.after (below_last z.before.at (note (begins z.before.at) z.before.log) (begun_below z.before.at z.before.log z.holds.1));
    }

-- THE THEOREM
pub ranges : (c : Call) (rooms : Rooms) (m : Mem) → Accepted c rooms m → Ranges c m
unfolding RangesBelow
ranges c rooms m a = ranges_of c a.bytes (plainly c rooms m a) m (graph_end c rooms m a Inv Any (rules (input_of c)) tt)
