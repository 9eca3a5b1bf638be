-- What lines of traces of addresses say.
use Rattle.std.specs.Prelude.{ℕ, ◌+◌, ◌-◌, ◌/◌, ◌^◌, ◌==◌, ◌&&◌, ◌||◌, Bool, true, false, nat_eq, nat_lt, List, [], ◌∷◌, length, take, drop, position, codes, Option, Some, None, if◌then◌else◌}
use Rattle.std.specs.Option.{option_or, option_flatten, is_some, is_none}
use Rattle.std.specs.List.{starts_with, ends_with, list_any}
use Rattle.std.specs.Str.{bytes_eq}
use Rattle.text_lines.specs.Text.{words_of}
use Rattle.trace_lines.specs.Ids.{id_to}
use Rattle.trace_lines.specs.PageIds.{more_pages}
use Rattle.trace_lines.specs.declared.address_lines.AddressLine.{AddressLine}
use Rattle.trace_lines.specs.declared.address_lines.AddressLine.TheVariants.{Access as Accessed, Other}

-- ---- an access

abbrev pub access_from : ℕ → Bool → Option ℕ → Option AddressLine
access_from first is_written None = None
access_from first is_written (Some more) = Some (Accessed (record { first = first; more = more; is_written = is_written }))

-- An access to so many bytes at an address is to the pages from that of its first byte to that of its last, of 4096 bytes each. There is
-- none of no bytes, and none whose last byte lies past 2^64.
unfoldable pub access_to : ℕ → ℕ → Bool → Option AddressLine
access_to address size is_written = if nat_lt 0 size && nat_lt (address + (size - 1)) (2 ^ 64)
    then access_from (address / 4096) is_written (more_pages (address / 4096) ((address + (size - 1)) / 4096)) else None

-- where address, size and kind are written
abbrev pub access_at : Option ℕ → Option ℕ → Option Bool → Option AddressLine
access_at None size kind = None
access_at (Some address) None kind = None
access_at (Some address) (Some size) None = None
access_at (Some address) (Some size) (Some is_written) = access_to address size is_written

-- a number in hexadecimal, after `0x`
unfoldable pub hexadecimal_in : List ℕ → Option ℕ
hexadecimal_in word = if starts_with nat_eq word (codes "0x") then id_to 16 (drop 2 word) else None

-- ---- valgrind's lackey

abbrev pub is_comma : ℕ → Bool
is_comma c = c == 44

-- what valgrind says itself, or an empty line
unfoldable pub is_of_valgrind : List ℕ → Bool
is_of_valgrind line = (length line == 0) || starts_with nat_eq line (codes "==") || starts_with nat_eq line (codes "--")

-- whether an access of a kind writes: fetches and loads do not, stores and modifications do
unfoldable pub lackey_kind : List ℕ → Option Bool
lackey_kind word = if bytes_eq word (codes "I") || bytes_eq word (codes "L") then Some false
    else if bytes_eq word (codes "S") || bytes_eq word (codes "M") then Some true else None

-- an address in hexadecimal, and after a comma a size
abbrev pub place_cut : Option Bool → List ℕ → Option ℕ → Option AddressLine
place_cut kind place (Some comma) = access_at (id_to 16 (take comma place)) (id_to 10 (drop (comma + 1) place)) kind
place_cut kind place None = None

unfoldable pub lackey_place : Option Bool → List ℕ → Option AddressLine
lackey_place kind place = place_cut kind place (position is_comma place)

abbrev pub lackey_words : List (List ℕ) → Option AddressLine
lackey_words [] = None
lackey_words (kind ∷ []) = None
lackey_words (kind ∷ place ∷ []) = lackey_place (lackey_kind kind) place
lackey_words (kind ∷ place ∷ other ∷ others) = None

unfoldable pub lackey_line : List ℕ → Option AddressLine
lackey_line line = if is_of_valgrind line then Some Other else lackey_words (words_of line)

-- ---- DynamoRIO's clients

-- a title or a mark, or an empty line
unfoldable pub is_title : List ℕ → Bool
is_title line = (length line == 0) || list_any (λ c. c == 60) line || starts_with nat_eq line (codes "--")

-- an address of `memtrace`, with a colon after it
unfoldable pub is_place : List ℕ → Bool
is_place word = starts_with nat_eq word (codes "0x") && ends_with nat_eq word (codes ":")

-- a size, with a comma after it
unfoldable pub size_in : List ℕ → Option ℕ
size_in word = if ends_with nat_eq word (codes ",") then id_to 10 (take (length word - 1) word) else None

-- the words after the address: the size, and `w` where it is written, or else `r` or an instruction's name
abbrev pub memtrace_words : List ℕ → List (List ℕ) → Option AddressLine
memtrace_words place [] = None
memtrace_words place (size ∷ []) = None
memtrace_words place (size ∷ word ∷ others) = access_at (hexadecimal_in (take (length place - 1) place)) (size_in size) (Some (bytes_eq word (codes "w")))

-- whether an access of a kind writes
unfoldable pub view_kind : List ℕ → Option Bool
view_kind word = if bytes_eq word (codes "ifetch") || bytes_eq word (codes "read") then Some false
    else if bytes_eq word (codes "write") then Some true else None

-- The kind of a view's line so far, a word later; and its size, once a word followed the kind: the number of that word, if it is one.
unfoldable pub kind_after : Option Bool → List ℕ → Option Bool
kind_after kind word = option_or (view_kind word) kind

unfoldable pub size_after : Option Bool → Option (Option ℕ) → List ℕ → Option (Option ℕ)
size_after kind size word = if is_some kind && is_none size && is_none (view_kind word) then Some (id_to 10 word) else size

-- the words after the `@`, of which the first is the address
abbrev pub view_place : Option Bool → Option (Option ℕ) → List (List ℕ) → Option AddressLine
view_place kind size [] = None
view_place kind size (address ∷ others) = access_at (hexadecimal_in address) (option_flatten size) kind

-- a view's words: a kind, a size after it, and an address after an `@`
unfoldable pub view_words : Option Bool → Option (Option ℕ) → List (List ℕ) → Option AddressLine
view_words kind size [] = None
view_words kind size (word ∷ words) = if bytes_eq word (codes "@") then view_place kind size words else view_words (kind_after kind word) (size_after kind size word) words

abbrev pub dynamorio_words : Bool → List (List ℕ) → Option AddressLine
dynamorio_words of_format [] = None
dynamorio_words of_format (first ∷ words) = if is_place first then memtrace_words first words
    else if of_format then Some Other else view_words None None (first ∷ words)

unfoldable pub dynamorio_line : List ℕ → Option AddressLine
dynamorio_line line = if is_title line then Some Other else dynamorio_words (starts_with nat_eq line (codes "Output format")) (words_of line)
