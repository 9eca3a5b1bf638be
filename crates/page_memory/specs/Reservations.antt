-- The words that the harts of a process have reserved, and which writes end a reservation
-- (unprivileged manual, "Zalrsc", Load-Reserved/Store-Conditional Instructions; that a write by the own hart ends one too, and that
-- one aligned word is reserved, is this project's profile).
use Rattle.std.specs.Prelude.{ℕ, ◌+◌, ◌==◌, ◌&&◌, nat_lt, Bool, false, List, map, replicate, slice_set, slice_index_or, Option, Some, None, if◌then◌else◌}

-- by the hart's number: the address of the word that it has reserved, or none
abbrev pub Reservations : Type 0
Reservations = List (Option ℕ)

-- so many harts may have a reservation each
abbrev pub most_reserving : ℕ
most_reserving = 8

abbrev pub none_reserved : Reservations
none_reserved = replicate most_reserving None

abbrev pub is_word : ℕ → Option ℕ → Bool
is_word address None = false
is_word address (Some word) = word == address

-- whether a hart has reserved the word at an address
unfoldable pub has_reserved : ℕ → ℕ → Reservations → Bool
has_reserved hart address reserved = is_word address (slice_index_or reserved hart None)

-- a hart reserves a word, in place of another that it may have reserved
unfoldable pub with_reserved : ℕ → ℕ → Reservations → Reservations
with_reserved hart address reserved = slice_set reserved hart (Some address)

-- a hart's reservation goes
unfoldable pub without_reserved : ℕ → Reservations → Reservations
without_reserved hart reserved = slice_set reserved hart None

-- whether one of so many bytes from an address on is one of a word's four
abbrev pub touches : ℕ → ℕ → ℕ → Bool
touches address count word = nat_lt 0 count && (nat_lt word (address + count) && nat_lt address (word + 4))

-- a reservation after so many bytes were written from an address on
abbrev pub unless_touched : ℕ → ℕ → Option ℕ → Option ℕ
unless_touched address count None = None
unless_touched address count (Some word) = if touches address count word then None else Some word

-- the reservations that are left: those of words of which no byte was written, changed or not
unfoldable pub left_by : ℕ → ℕ → Reservations → Reservations
left_by address count reserved = map (unless_touched address count) reserved
