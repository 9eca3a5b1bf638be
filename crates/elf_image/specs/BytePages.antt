-- Bytes in whole pages.
use Rattle.std.specs.Prelude.{ℕ, ◌+◌, ◌*◌, ◌/◌, List, length, map, take, drop}
use Rattle.std.specs.List.{range_with_len}
use Rattle.page_memory.specs.declared.rights.Rights.{Rights}
use Rattle.elf_image.specs.declared.image.ImagePage.{ImagePage}
use Rattle.elf_image.specs.Image.{padded}

-- how many pages bytes need
abbrev pub page_count : List ℕ → ℕ
page_count bytes = (length bytes + 4095) / 4096

-- the k-th page of bytes that begin with page `first`: zeros follow the last byte
abbrev pub nth_page : ℕ → Rights → List ℕ → ℕ → ImagePage
nth_page first rights bytes k =
    record { number = first + k; page = record { rights = rights; bytes = padded (take 4096 (drop (4096 * k) bytes)) } }

-- the pages of bytes that begin with page `first`
unfoldable pub byte_pages : ℕ → Rights → List ℕ → List ImagePage
byte_pages first rights bytes = map (nth_page first rights bytes) (range_with_len 0 (page_count bytes))
