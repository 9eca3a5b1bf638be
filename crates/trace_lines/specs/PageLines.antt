-- What lines and records of traces of pages say.
use Rattle.std.specs.Prelude.{ℕ, ◌+◌, ◌^◌, ◌<◌, ◌==◌, Bool, true, false, List, [], ◌∷◌, length, take, drop, position, codes, slice_range, Option, Some, None, if◌then◌else◌}
use Rattle.std.specs.Option.{option_map}
use Rattle.std.specs.Str.{bytes_eq}
use Rattle.byteorder.specs.Endian.{little_number}
use Rattle.text_lines.specs.Text.{words_of}
use Rattle.clock_policy.specs.declared.key.Key.{Key}
use Rattle.guest_strings.specs.declared.reference.Reference.{Reference}
use Rattle.trace_lines.specs.Ids.{id_in, written_below}
use Rattle.trace_lines.specs.PageIds.{page_of_id}

-- ---- a line: a page, and after it a `w` where it is written

abbrev pub is_bar : ℕ → Bool
is_bar c = c == 47

abbrev pub page_of_parts : Option ℕ → Option ℕ → Option Key
page_of_parts (Some process) (Some vpn) = Some (record { process = process; vpn = vpn })
page_of_parts (Some process) None = None
page_of_parts None vpn = None

-- a page is the numbers of a process and of a page of it, of 32 bits, with a bar between them, or only an id
abbrev pub page_cut : List ℕ → Option ℕ → Option Key
page_cut word (Some bar) = page_of_parts (written_below 4294967296 (take bar word)) (written_below 4294967296 (drop (bar + 1) word))
page_cut word None = option_map page_of_id (id_in word)

unfoldable pub page_in : List ℕ → Option Key
page_in word = page_cut word (position is_bar word)

abbrev pub referred : Bool → Key → Reference
referred is_written page = record { page = page; is_written = is_written }

abbrev pub words_reference : List (List ℕ) → Option Reference
words_reference [] = None
words_reference (page ∷ []) = option_map (referred false) (page_in page)
words_reference (page ∷ mark ∷ []) = if bytes_eq mark (codes "w") then option_map (referred true) (page_in page) else None
words_reference (page ∷ mark ∷ other ∷ others) = None

abbrev pub line_reference : List ℕ → Option Reference
line_reference line = words_reference (words_of line)

-- ---- a record of 24 bytes: the id is after 4 bytes of time

unfoldable pub record_page : List ℕ → Option Key
record_page bytes = if length bytes == 24 then Some (page_of_id (little_number 8 (slice_range bytes 4 12))) else None

-- ---- pages and references that a program can have

pub record IsPage (page : Key) : Type 0 where
  pub process : page.process < 2 ^ 32
  pub vpn : page.vpn < 2 ^ 32

abbrev pub AreReferences : List Reference → Type 0
AreReferences [] = Unit {0}
AreReferences (reference ∷ references) = IsPage reference.page × AreReferences references
