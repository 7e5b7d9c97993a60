-- Where the cursor stands after a read, and the bytes of a raw range. Assumes nothing: these are
-- definitions.
use Rattle.std.specs.Prelude.{cond, Bool, true, false, List, [], ℕ, ◌+◌, length, take, drop, ltb, eqb, Option, Some, None}
use Rattle.stream.specs.Bytes.{peek_at}
use Rattle.stream.specs.declared.putint.Int.{Int}
use Rattle.reader.specs.declared.Reader.{Reader}

-- the byte at a place; none where `peek_at` is 256, since none is left
abbrev pub unless_end : Bool → ℕ → Option ℕ
unless_end true b = None
unless_end false b = Some b

abbrev pub byte_at : List ℕ → ℕ → Option ℕ
byte_at p at = unless_end (eqb (peek_at p at) 256) (peek_at p at)

-- the same payload, with the cursor at another place
abbrev pub moved_to : Reader → ℕ → Reader
moved_to r at = record { payload = r.payload; at = at }

-- past a byte; where none is left the cursor stays
abbrev pub past_byte : List ℕ → ℕ → ℕ
past_byte p at = cond (ltb at (length p)) (at + 1) at

-- past an integer; where it is cut the cursor stays
abbrev pub past_int : Option Int → ℕ → ℕ
past_int (Some i) at = at + i.count
past_int None at = at

-- past a raw range; where it passes the payload's end the cursor stays
abbrev pub past_raw : Option ℕ → ℕ → ℕ
past_raw (Some end) at = end
past_raw None at = at

-- the bytes of a raw range; none where it passes the payload's end
abbrev pub bytes_of : List ℕ → ℕ → ℕ → Option ℕ → List ℕ
bytes_of p at n (Some end) = take n (drop at p)
bytes_of p at n None = []
