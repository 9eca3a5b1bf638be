-- Points, and when one is met.
use Rattle.std.specs.Prelude.{ℕ, zero, suc, ◌+◌, ◌^◌, ◌≤◌, ◌==◌, ◌||◌, not, ⊤, Bool, true, false, List, [], ◌∷◌, slice_index_or, Option, Some, None}
use Rattle.page_memory.specs.Memory.{Memory, byte_at}
use Rattle.debug_core.specs.declared.point.Point.{Point}
use Rattle.debug_core.specs.declared.point.Point.TheVariants.{Break, Watch}

-- so many bytes from an address on, each where a page is mapped
unfoldable pub bytes_from : Memory → ℕ → ℕ → List (Option ℕ)
bytes_from memory address zero = []
bytes_from memory address (suc count) = byte_at memory address ∷ bytes_from memory (address + 1) count

-- whether a byte was there, and is not what it was
abbrev pub has_changed : Option ℕ → Option ℕ → Bool
has_changed None now = false
has_changed (Some was) None = true
has_changed (Some was) (Some is) = not (was == is)

-- whether one of some bytes has changed
unfoldable pub any_changed : List (Option ℕ) → List (Option ℕ) → Bool
any_changed [] now = false
any_changed (was ∷ before) [] = false
any_changed (was ∷ before) (is ∷ now) = has_changed was is || any_changed before now

-- whether a point is a watch, and one of its bytes has changed from one memory to the other
abbrev pub is_hit : Memory → Memory → Option Point → Bool
is_hit was now None = false
is_hit was now (Some (Break address)) = false
is_hit was now (Some (Watch address length)) = any_changed (bytes_from was address length) (bytes_from now address length)

-- whether a point is a break at this address
abbrev pub is_break_at : ℕ → Option Point → Bool
is_break_at pc None = false
is_break_at pc (Some (Break address)) = address == pc
is_break_at pc (Some (Watch address length)) = false

-- whether so many bytes from an address on, one at least and so many at most, stay below 2^32
abbrev pub IsRange : ℕ → ℕ → ℕ → Type 0
IsRange most address count = (1 ≤ count) × ((count ≤ most) × (address + count ≤ 2 ^ 32))

-- a watch has 1 to 16 bytes
abbrev pub IsPoint : Option Point → Type 0
IsPoint None = ⊤
IsPoint (Some (Break address)) = ⊤
IsPoint (Some (Watch address length)) = IsRange 16 address length

-- the point with a number, if there is one
abbrev pub point_at : List (Option Point) → ℕ → Option Point
point_at points number = slice_index_or points number None

abbrev pub ArePoints : List (Option Point) → Type 0
ArePoints points = (number : ℕ) → IsPoint (point_at points number)

-- whether each byte is there
unfoldable pub all_there : List (Option ℕ) → Bool
all_there [] = true
all_there (None ∷ bytes) = false
all_there (Some byte ∷ bytes) = all_there bytes
