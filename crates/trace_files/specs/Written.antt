-- What is written of a string of references, to be read by libCacheSim or by `policies`.
use Rattle.std.specs.Prelude.{ℕ, ◌+◌, ◌-◌, ◌^◌, cond, nat_lt, min, List, [], ◌∷◌, ◌++◌, codes, Some, None}
use Rattle.std.specs.Fmt.{decimal}
use Rattle.byteorder.specs.Endian.{little_bytes}
use Rattle.clock_policy.specs.declared.key.Key.{Key}
use Rattle.clock_policy.specs.Text.{key_text}
use Rattle.guest_strings.specs.declared.reference.Reference.{Reference}
use Rattle.page_policies.specs.Optimal.{next_use}
use Rattle.trace_lines.specs.PageIds.{id_of}
use Rattle.trace_lines.specs.declared.format.Column.TheVariants.{At, Usual}
use Rattle.trace_lines.specs.declared.format.IdKind.TheVariants.{Unknown}
use Rattle.trace_lines.specs.declared.format.Table.{Table}

-- the line of names of a table
abbrev pub header : List ℕ
header = codes "time,id,size"

-- a table of which only the ids are read, in the column that has a usual name
abbrev pub usual_table : Table
usual_table = record { id = Usual; volume = None; size = None; op = None; page_size = None; writes = None; separator = None; ids = Unknown }

-- a table that is written, by the places of its columns
abbrev pub written_table : Table
written_table = record { id = At 1; volume = None; size = None; op = None; page_size = None; writes = None; separator = Some 44; ids = Unknown }

-- time, id and size, which is 1
abbrev pub csv_row : ℕ → Key → List ℕ
csv_row time page = decimal time ++ codes "," ++ decimal (id_of page) ++ codes ",1"

abbrev pub csv_line : ℕ → Key → List ℕ
csv_line time page = csv_row time page ++ 10 ∷ []

-- a page, and after it a `w` where it is written
abbrev pub reference_line : Reference → List ℕ
reference_line reference = key_text reference.page ++ cond reference.is_written (codes " w") [] ++ 10 ∷ []

-- the time of the reference at a place, from 1 on, in 32 bits: later ones have the greatest
abbrev pub short_time : ℕ → ℕ
short_time at = min (at + 1) (2 ^ 32 - 1)

-- The time of the next use of the page at a place of a string of n references, of which so many come before; -1 in two's complement
-- where there are no more.
abbrev pub next_time : ℕ → ℕ → ℕ → ℕ
next_time n at ahead = cond (nat_lt n (at + ahead + 2)) (2 ^ 64 - 1) (at + ahead + 2)

-- a record of 24 bytes: time, id, size and the time of the next use
unfoldable pub record_bytes : ℕ → Key → ℕ → List ℕ
record_bytes time page next = little_bytes 4 time ++ little_bytes 8 (id_of page) ++ little_bytes 4 1 ++ little_bytes 8 next

-- the records of the references from the place `at` on, of a string of n
abbrev pub records : ℕ → ℕ → List Key → List ℕ
records n at [] = []
records n at (p ∷ ps) = record_bytes (short_time at) p (next_time n at (next_use p ps)) ++ records n (at + 1) ps
