-- What holds of the events recorded so far. Assumes nothing.
use Rattle.std.proofs.Common.{sym, subst, ⊎_elim}
use mathlib.Core.List.Memᴰ
use mathlib.Core.List.{List, [], ◌∷◌, Memᴰ}
use Rattle.definition.specs.Memory.{Event, Log, off, told, note}
use Rattle.definition.specs.Call.{told_of}

-- events are recorded, and P holds of them
abbrev pub On : (List Event → Type 0) → Log → Type 0
On P off = ⊥
On P (told es) = P es

pub on_note : (P Q : List Event → Type 0) (e : Event) (l : Log) → ((es : List Event) → P es → Q (e ∷ es)) → On P l → On Q (note e l)
on_note P Q e off f h = h
on_note P Q e (told es) f h = f es h

pub on_note_two : (P Q : List Event → Type 0) (e f : Event) (l : Log) → ((es : List Event) → P es → Q (f ∷ e ∷ es)) → On P l → On Q (note f (note e l))
on_note_two P Q e f off g h = h
on_note_two P Q e f (told es) g h = g es h

pub on_map : (P Q : List Event → Type 0) (l : Log) → ((es : List Event) → P es → Q es) → On P l → On Q l
on_map P Q off f h = h
on_map P Q (told es) f h = f es h

pub on_told : (P : List Event → Type 0) (l : Log) → On P l → P (told_of l)
on_told P off h = absurd h
on_told P (told es) h = h

pub on_both : (P Q : List Event → Type 0) (l : Log) → On P l → On Q l → On (λ es. (P es) × (Q es)) l
on_both P Q off g h = h
on_both P Q (told es) g h = (g, h)

-- of every event
unfoldable pub All : (Event → Type 0) → List Event → Type 0
All P [] = Unit {0}
All P (e ∷ es) = (P e) × (All P es)

pub all_map : (P Q : Event → Type 0) → ((e : Event) → P e → Q e) → (es : List Event) → All P es → All Q es
unfolding All
all_map P Q f [] h = tt
all_map P Q f (e ∷ es) h = (f e h.0, all_map P Q f es h.1)

pub all_told : (P : Event → Type 0) (es : List Event) (e : Event) → All P es → Memᴰ e es → P e
unfolding All
all_told P [] e h t = absurd (Memᴰ.not-nil t)
all_told P (x ∷ es) e h t = ⊎_elim (λ q. subst P (sym q) h.0) (λ u. all_told P es e h.1 u) (Memᴰ.cases_cons t)
