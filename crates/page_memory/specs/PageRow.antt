-- Pages whose bytes stand in one row, one page behind the other.
use Rattle.std.specs.Prelude.{◌≡◌, ℕ, ◌+◌, ◌*◌, List, [], ◌∷◌, ◌++◌, take, drop}
use Rattle.std.specs.Option.{IsSomeAnd}
use Rattle.page_memory.specs.declared.rights.Rights.{Rights}
use Rattle.page_memory.specs.Pages.{Page, overwritten}
use Rattle.page_memory.specs.Entries.{value_at, with_value}

-- the pages, by their numbers and rights and by the row of their bytes
unfoldable pub pages_in : List (ℕ × Rights) → List ℕ → List (ℕ × Page)
pages_in [] bytes = []
pages_in (e ∷ es) bytes = (e.0, record { rights = e.1; bytes = take 4096 bytes }) ∷ pages_in es (drop 4096 bytes)

-- the bytes of the page at a place, and the row with others there
abbrev pub page_of_row : ℕ → List ℕ → List ℕ
page_of_row place bytes = take 4096 (drop (place * 4096) bytes)

abbrev pub with_page : ℕ → List ℕ → List ℕ → List ℕ
with_page place new bytes = take (place * 4096) bytes ++ (new ++ drop (place * 4096 + 4096) bytes)

-- the page at a place has other bytes from an offset on
abbrev pub Rewritten : ℕ → ℕ → List ℕ → List (ℕ × Page) → List (ℕ × Page) → Type 0
Rewritten place offset bytes old new =
    IsSomeAnd (value_at place old) (λ page. new ≡ with_value old place (record page { bytes = overwritten page.bytes offset bytes }))
