-- A second payload that begins as an accepted one does, through the kSynchronize that ends its
-- closing section: both readings come to the same state there. For every sheet that is not legacy.
-- Assumes nothing.
use Rattle.std.specs.Prelude.{if◌then◌else◌, ◌≡◌, refl, Bool, true, false, ◌||◌, List, [], ◌∷◌, ℕ, ◌+◌, ◌-◌, ◌<◌, ◌≤◌, ltb, length, get_or, take}
use Rattle.std.proofs.Common.{sym, ◌∙◌, subst, arith, le-ltb, length-take, get_or-take, length-take-le}
use Rattle.std.proofs.Math.Path.{ap}
use Rattle.sheet.specs.Sheet.{is_legacy, usable}
use Rattle.definition.specs.Memory.{synchronize, told, Mem, Out, got, and_then, refuse_at, moved}
use Rattle.definition.specs.Closing.{padding}
use Rattle.definition.specs.Call.{Rooms, Call, input_of, start, walk, called, graph, told_of, events_of}
use Rattle.assurance.specs.SimulateClosing.{walk-ended}
use Rattle.assurance.specs.Words.{events, EndsAt}
use Rattle.assurance.specs.Agree.{BeginsAs, Reaches, reaches}
use Rattle.assurance.specs.Padding.{padding_all, padding_only}
use Rattle.assurance.specs.Prefix.{with_payload}

-- ---- calls

-- an accepted call passes the first two checks
record Walks (c : Call) (m₀ m : Mem) : Type 0 where
  is_usable : usable c.sheet ≡ true
  few : ltb 65536 (length c.reservations) ≡ false
  walks : walk (input_of c) m₀ ≡ got tt m

called_walks : (c : Call) (m₀ m : Mem) → called c m₀ ≡ got tt m → Walks c m₀ m
unfolding called
called_walks c m₀ m e = go (usable c.sheet) (ltb 16777216 (length c.payload)) (ltb 65536 (length c.reservations)) refl refl e
  where
    go : (t u w : Bool) → usable c.sheet ≡ t → ltb 65536 (length c.reservations) ≡ w → (if t then (if u || w then refuse_at 2 0 else walk (input_of c)) else refuse_at 1 0) m₀ ≡ got tt m → Walks c m₀ m
    go true true w a b e = absurd (let z : ◌≡◌ {A = ℕ} 0 1 = cc in omega arith)
    go true false true a b e = absurd (let z : ◌≡◌ {A = ℕ} 0 1 = cc in omega arith)
    go true false false a b e = record { is_usable = a; few = b; walks = e }
    go false u w a b e = absurd (let z : ◌≡◌ {A = ℕ} 0 1 = cc in omega arith)

called_in : (c : Call) (m₀ : Mem) → usable c.sheet ≡ true → length c.payload ≤ 16777216 → ltb 65536 (length c.reservations) ≡ false → called c m₀ ≡ walk (input_of c) m₀
unfolding called
called_in c m₀ u s r = rw (u, le-ltb 16777216 (length c.payload) s, r)

begins : (p p' : List ℕ) (n : ℕ) → n ≤ length p → take n p' ≡ take n p → BeginsAs p p' n
begins p p' n l e =
    let z : length (take n p') ≡ n = ap (length {A = ℕ}) e ∙ length-take-le n p l in
    record {
      long = l;
      long' = omega (arith, length-take n p');
      same = (λ i b. sym (get_or-take n p' i 0 b) ∙ ap (λ (t : List ℕ). get_or t i 0) e ∙ get_or-take n p i 0 b);
    }

module _ (c : Call) (rooms : Rooms) (modern : is_legacy c.sheet ≡ false) (m : Mem) (e : graph c rooms ≡ got tt m) where
  passes : Walks c (start rooms (told [])) m
  unfolding graph
  passes = called_walks c (start rooms (told [])) m e

  module _ (p' : List ℕ) (L : ℕ) (ag : BeginsAs c.payload p' L) where
    known : Reaches (input_of c) p' L (start rooms (told [])) m
    known = reaches (input_of c) modern p' L rooms.objects ag rooms m refl passes.walks

    -- what follows the section only moves the cursor
    last_move : m ≡ moved (length c.payload) known.end
    last_move =
        let z : length c.payload ≡ known.end.at + (length c.payload - known.end.at) = omega (arith, known.ended_there.within) in
        let o : got tt m ≡ got tt (moved (length c.payload) known.end) = sym known.then_padding ∙ padding_all (input_of c) _ known.end z (padding_only (input_of c) modern _ known.end m z known.then_padding) in
        cc

    told_end : m.log ≡ told (synchronize (known.end.at - 1) ∷ known.ended_there.before)
    told_end = ap (λ m. m.log) last_move ∙ known.ended_there.told_last

    -- that is where the events say that it ends
    only_end : (q : ℕ) → EndsAt q (events c rooms) → q ≡ known.end.at - 1
    only_end q t = let z : events c rooms ≡ synchronize (known.end.at - 1) ∷ known.ended_there.before = ap events_of e ∙ ap told_of told_end in subst (EndsAt q) z t

  end_inside : (q : ℕ) → EndsAt q (events c rooms) → q < length c.payload
  end_inside q t =
      let whole : BeginsAs c.payload c.payload (length c.payload) = record { long = omega arith; long' = omega arith; same = (λ i l. refl) } in
      let k = (known c.payload (length c.payload) whole).ended_there in
      omega (arith, only_end c.payload (length c.payload) whole q t, k.behind, k.within)

  -- q is the place of the kSynchronize that ends the closing section, p' begins with the payload
  -- through it
  module _ (q : ℕ) (at : EndsAt q (events c rooms)) (p' : List ℕ) (short : length p' ≤ 16777216) (same : take (q + 1) p' ≡ take (q + 1) c.payload) where
    agree : BeginsAs c.payload p' (q + 1)
    agree = begins c.payload p' (q + 1) (omega (arith, end_inside q at)) same

    pub end : Mem
    end = (known p' (q + 1) agree).end

    pub end_is : end.at ≡ q + 1
    unfolding end
    end_is = omega (arith, only_end p' (q + 1) agree q at, (known p' (q + 1) agree).ended_there.behind)

    pub second_graph : graph (with_payload p' c) rooms ≡ padding (input_of (with_payload p' c)) (length p' - end.at) end
    unfolding graph end
    second_graph =
        called_in (with_payload p' c) (start rooms (told [])) passes.is_usable short passes.few
        ∙ walk-ended (input_of (with_payload p' c)) (start rooms (told []))
        ∙ ap (λ o. and_then o (λ _ m. padding (input_of (with_payload p' c)) (length p' - m.at) m)) ((known p' (q + 1) agree).second (omega (arith, end_is)))

    pub rest : length p' ≡ end.at + (length p' - end.at)
    rest = omega (arith, end_is, agree.long')

    -- what follows the section only moves the cursor
    pub end_moved : ◌≡◌ {A = Out (Unit {0})} (got tt (moved (length p') end)) (got tt (moved (length p') m))
    unfolding end
    end_moved = ap (λ m. got tt (moved (length p') m)) (sym (last_move p' (q + 1) agree))
