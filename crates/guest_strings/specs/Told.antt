-- The pages of a step, as lists.
use Rattle.std.specs.Prelude.{ℕ, ◌%◌, ◌==◌, Bool, List, [], ◌∷◌, ◌++◌, Option, Some, None, cond}
use Rattle.page_memory.specs.Words.{page_number}
use Rattle.guest_strings.specs.declared.step_pages.PageUse.{PageUse}
use Rattle.guest_strings.specs.declared.step_pages.StepPages.{StepPages}

-- a page, where there is one
abbrev pub listed : Option ℕ → List ℕ
listed None = []
listed (Some page) = page ∷ []

abbrev pub used_page : Option PageUse → List ℕ
used_page None = []
used_page (Some use_of) = use_of.page ∷ []

abbrev pub stored_page : Option PageUse → List ℕ
stored_page None = []
stored_page (Some use_of) = cond use_of.is_written (use_of.page ∷ []) []

-- the page of the fetch, then that of the data
abbrev pub pages_told : StepPages → List ℕ
pages_told told = listed told.fetched ++ used_page told.data

abbrev pub stores_told : StepPages → List ℕ
stores_told told = stored_page told.data

-- the page of an address, where the access is aligned and the page has the right
abbrev pub page_where : Bool → ℕ → ℕ → List ℕ
page_where may_use bytes address = cond (address % bytes == 0) (cond may_use (page_number address ∷ []) []) []
