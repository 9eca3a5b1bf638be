-- Regions of 4 MiB: the 1024 pages that one first-level entry of an Sv32 table covers.
use Rattle.std.specs.Prelude.{ℕ, ◌/◌, List, [], ◌∷◌, map, cond, ◌==◌}
use Rattle.std.specs.List.{list_any}
use Rattle.elf_image.specs.declared.image.ImagePage.{ImagePage}

-- the region that a page lies in
abbrev pub region_of : ImagePage → ℕ
region_of listed = listed.number / 1024

-- each value of a list once
unfoldable pub distinct : List ℕ → List ℕ
distinct [] = []
distinct (x ∷ xs) = cond (list_any (λ y. y == x) xs) (distinct xs) (x ∷ distinct xs)

-- the regions that pages lie in
abbrev pub regions : List ImagePage → List ℕ
regions pages = distinct (map region_of pages)
