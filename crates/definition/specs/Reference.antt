-- A reference: what its head byte says, in the order of the Rust's `parse_ref_inner`
-- (specs/Heads.antt of the crate `heads`). Assumes nothing: these are definitions.
use Rattle.std.specs.Prelude.{if◌then◌else◌, Bool, true, ℕ, zero, suc, ◌+◌, ◌*◌, ◌^◌, ◌-◌, max, ltb, Option, Some, None}
use Rattle.stream.specs.Bytes.{raw_at}
use Rattle.sheet.specs.Sheet.{is_legacy, raw_advances}
use Rattle.heads.specs.declared.kinds.Kind.{Kind}
use Rattle.heads.specs.declared.kinds.Kind.TheVariants.{NoMeaning, NewObject, Backref, LegacyBackref, LegacyBackrefWithSkip, NextChunk, Alignment, Hot, HotWithSkip, RootArray, RootConstant, RootConstantWithSkip, ReadOnly, Attached, Builtin, External, Api, Internal, Deoptimizer, StreamBytes, EmbedderFields, OffHeapTarget, Cache, RegisterPending, ClearedWeak, WeakPrefix, PointerPrefix, DispatchEntry, FixedRaw, VariableRaw, Skip, FixedRepeat, FixedRepeatRoot, RepeatPrevious, VariableRepeat, VariableRepeatPrevious, VariableRepeatRoot, MetaMap}
use Rattle.heads.specs.Heads.{head_of}
use Rattle.tables.specs.declared.values.Ref.{Ref}
use Rattle.tables.specs.declared.values.Ref.TheVariants.{Object, Root, RoRef, Attached}
use Rattle.tables.specs.declared.values.SlotValue.{SlotValue}
use Rattle.tables.specs.declared.values.SlotValue.TheVariants.{Ref as IsRef, Repeat, RepeatPrev, Skip, StreamBytes, Raw as IsRaw, ClearedWeak, WeakRef, PendingRef}
use Rattle.tables.specs.Values.{fields_of}
use Rattle.backref.specs.HotRing.{entered, hot_at}
use Rattle.backref.specs.Legacy.{is_single, placed, single}
use Rattle.definition.specs.Memory.{Input, word, passed, got, Reader, ◌>>=◌, ◌>>◌, give, change, refuse, refuse_at, moved, with_hot, with_pending, with_skip, aligned, noted, here, byte, int}
use Rattle.alloc.specs.declared.resolve.Place.{Place}
use Rattle.definition.specs.Slots.{add_value}
use Rattle.definition.specs.Object.{change_chunk, object}

-- ---- references without others in them

-- a with-skip amount: it stands until the next slot item has been read
abbrev pub skip_amount : Input → Reader (Unit {0})
skip_amount x = int x >>= (λ n. change (λ m. with_skip (m.skip + n) m))

abbrev pub refers : Ref → Reader SlotValue
refers r = give (IsRef r)

-- back-references and kRootArray enter the hot ring
abbrev pub refers_hot : Ref → Reader SlotValue
refers_hot r m = got (IsRef r) (with_hot (entered m.hot r) m)

-- a plain index is below the object count (else refusal 8)
unfoldable pub backref_to : ℕ → Reader SlotValue
backref_to i m = (if ltb i m.objects.count then refers_hot (Object i) else refuse 8) m

-- a place of the hot ring; empty: refusal 9 (difference D18)
abbrev pub of_hot : Option Ref → Reader SlotValue
of_hot (Some r) = refers r
of_hot None = refuse 9

abbrev pub hot_place : ℕ → Reader SlotValue
hot_place i m = of_hot (hot_at m.hot i) m

-- legacy: of one integer, in 6.x and where the space is numbered; no object has the number: refusal
-- 15
abbrev pub of_single : Option Ref → Reader SlotValue
of_single (Some r) = refers_hot r
of_single None = refuse 15

abbrev pub single_reference : Input → ℕ → ℕ → Reader SlotValue
single_reference x space value m =
    of_single (single x.sheet m.addresses.rows m.addresses.count m.alignment space value) m

-- or of two, chunk and offset
abbrev pub place_reference : Input → ℕ → Place → Reader SlotValue
place_reference x space place m =
    refers_hot (placed x.sheet m.addresses.rows m.addresses.count m.alignment space place) m

abbrev pub after_first : Input → ℕ → ℕ → Reader SlotValue
after_first x space first =
    if is_single x.sheet space then single_reference x space first
    else (int x >>= (λ second. place_reference x space (record { chunk = first; offset = second })))

unfoldable pub legacy_reference : Input → ℕ → Reader SlotValue
legacy_reference x space = int x >>= after_first x space

-- things outside the payload, as read-only references with a first number of their own: 2^32 less 1
-- for caches, 2 for builtins, 3 for external and 4 for API references, 5 for off-heap targets
-- (differences D41 and D42)
abbrev pub outside : Input → ℕ → Reader SlotValue
outside x k = int x >>= (λ i. refers (RoRef (2 ^ 32 - k) i))

unfoldable pub pending_reference : Reader SlotValue
pending_reference m = got (PendingRef m.pending) (with_pending (m.pending + 1) m.waiting m)

-- raw data of n bytes; past the payload's end: refusal 7
abbrev pub after_raw : ℕ → Bool → Option ℕ → Reader SlotValue
after_raw n advances (Some end) m =
    got (IsRaw (record { off = m.at; len = n; advances = advances })) (noted (passed m.at n) (moved end m))
after_raw n advances None m = refuse 7 m

unfoldable pub raw_data : Input → ℕ → Bool → Reader SlotValue
raw_data x n advances m = after_raw n advances (raw_at x.payload m.at n) m

-- variable raw data counts words, in legacy bytes; a length of 0 reads one byte (difference D16)
abbrev pub raw_bytes : Input → ℕ → ℕ
raw_bytes x n = max (if is_legacy x.sheet then n else n * word x) 1

-- ---- references with others in them; r reads those, one level deeper

-- what a weak or a repeat holds, any value, becomes a value record (differences D12 and D15)
abbrev pub weak_of : SlotValue → Reader SlotValue
weak_of v = add_value (fields_of v) >>= (λ k. give (WeakRef k))

abbrev pub repeat_of : ℕ → SlotValue → Reader SlotValue
repeat_of n v = add_value (fields_of v) >>= (λ k. give (Repeat n k))

-- a root that is repeated is one plain byte
abbrev pub repeat_root : Input → ℕ → Reader SlotValue
repeat_root x n = byte x >>= (λ i. repeat_of n (IsRef (Root i)))

-- ---- by the head's kind and argument; the head stands at `tag`, and the cursor after it
-- Where the Rust leaves V8 here: pointer prefixes leave no trace (D13), the self pointer is a
-- cleared weak (D14), stream bytes are not passed over (D38), a dispatch entry is its integer alone
-- (D39), meta maps are refused (D36), and so are tags that only V8 knows (D37, D40)

unfoldable pub by_head : Input → Reader SlotValue → ℕ → Kind → ℕ → Reader SlotValue
by_head x r tag NewObject a = object x r a tag
by_head x r tag Backref a = int x >>= backref_to
by_head x r tag LegacyBackref a = legacy_reference x a
by_head x r tag LegacyBackrefWithSkip a = skip_amount x >> legacy_reference x a
by_head x r tag NextChunk a = byte x >>= (λ space. change (change_chunk x space)) >> r
by_head x r tag Alignment a = change (aligned a) >> r
by_head x r tag Hot a = hot_place a
by_head x r tag HotWithSkip a = skip_amount x >> hot_place a
by_head x r tag RootArray a = int x >>= (λ i. refers_hot (Root i))
by_head x r tag RootConstant a = refers (Root a)
by_head x r tag RootConstantWithSkip a = skip_amount x >> refers (Root a)
by_head x r tag ReadOnly a = int x >>= (λ c. int x >>= (λ o. refers (RoRef c o)))
by_head x r tag Attached a = int x >>= (λ i. refers (Attached i))
by_head x r tag Builtin a = outside x 2
by_head x r tag External a = outside x 3
by_head x r tag Api a = skip_amount x >> outside x 4
by_head x r tag Internal a = int x >> int x >> give (Skip 0)
by_head x r tag Deoptimizer a = int x >> give (Skip 0)
by_head x r tag StreamBytes a = int x >>= (λ n. give (StreamBytes n))
by_head x r tag EmbedderFields a = int x >> int x >>= (λ n. give (StreamBytes n))
by_head x r tag OffHeapTarget a = skip_amount x >> int x >> refers (RoRef (2 ^ 32 - 5) 0)
by_head x r tag Cache a = outside x 1
by_head x r tag RegisterPending a = pending_reference
by_head x r tag ClearedWeak a = give ClearedWeak
by_head x r tag WeakPrefix a = r >>= weak_of
by_head x r tag PointerPrefix a = r
by_head x r tag DispatchEntry a = int x >> give ClearedWeak
by_head x r tag FixedRaw a = raw_data x (a * word x) true
by_head x r tag VariableRaw a = int x >>= (λ n. raw_data x (raw_bytes x n) (raw_advances x.sheet))
by_head x r tag Skip a = int x >>= (λ n. give (Skip n))
by_head x r tag FixedRepeat a = r >>= repeat_of a
by_head x r tag FixedRepeatRoot a = repeat_root x a
by_head x r tag RepeatPrevious a = give (RepeatPrev a)
by_head x r tag VariableRepeat a = int x >>= (λ n. r >>= repeat_of (n + 18))
by_head x r tag VariableRepeatPrevious a = int x >>= (λ n. give (RepeatPrev n))
by_head x r tag VariableRepeatRoot a = int x >>= (λ n. repeat_root x (n + 18))
by_head x r tag MetaMap a = refuse_at 11 tag
by_head x r tag NoMeaning a = refuse_at 10 tag

-- a reference, whose inner references r reads
unfoldable pub reference : Input → Reader SlotValue → Reader SlotValue
reference x r =
    here >>= (λ tag. byte x >>= (λ b. by_head x r tag (head_of x.sheet b).kind (head_of x.sheet b).argument))

-- a reference with so many levels left, of 65; none left: refusal 6 at the cursor (difference D35)
unfoldable pub ref_at : Input → ℕ → Reader SlotValue
ref_at x zero = refuse 6
ref_at x (suc k) = reference x (ref_at x k)
