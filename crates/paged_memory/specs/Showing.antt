-- That a process's memory shows a flat memory, page by page.
use Rattle.std.specs.Prelude.{◌≡◌, ℕ, ◌^◌, ◌<◌, Bool, false, Option, Some, option_map, List}
use Rattle.std.specs.FinMap.{get}
use Rattle.page_memory.specs.Memory.{Memory}
use Rattle.page_memory.specs.Pages.{Page}
use Rattle.page_memory.specs.declared.rights.Rights.{Rights}
use Rattle.page_store.specs.PageValue.{PageValue, Place, page_state_of}
use Rattle.paged_memory.specs.Paged.{PagedValue, page_at}
use Rattle.paged_memory.specs.moves.Stages.{is_purged_stage}
use Rattle.paged_memory.specs.Whole.{rights_in, shown_in}

-- the page of a number of a flat memory, if one is mapped
abbrev pub mapped_page : Memory → ℕ → Option Page
mapped_page memory number = get memory.pages number

-- the rights of a page, if one is mapped
abbrev pub rights_of : Option Page → Option Rights
rights_of page = option_map (λ (p : Page). p.rights) page

module _ {S : Type 0} where
  abbrev pub paged_rights : Option (PageValue S) → Option Rights
  paged_rights page = option_map (λ (p : PageValue S). p.origin.rights) page

  abbrev pub is_purged_place : Place S → Bool
  is_purged_place place = is_purged_stage (Some (page_state_of place))

  -- whether a page was given up
  abbrev pub is_purged : Option (PageValue S) → Bool
  is_purged page = is_purged_stage (option_map (λ (p : PageValue S). page_state_of p.place) page)

  abbrev pub is_given_up : PagedValue S → ℕ → Bool
  is_given_up memory number = is_purged (page_at memory.pages number)

  -- no page that was given up is one that was not
  abbrev pub KeepsGivenUp : PagedValue S → PagedValue S → Type 0
  KeepsGivenUp old new = (number : ℕ) → is_given_up new number ≡ false → is_given_up old number ≡ false

  -- with slots that hold this: the same pages are mapped, with the same rights; each page that was not given up shows what the flat
  -- memory has; and the same words are reserved
  pub record ShowsFlat (held : S → List ℕ) (paged : PagedValue S) (memory : Memory) : Type 0 where
    pub mapped : (number : ℕ) → number < 2 ^ 20 → rights_of (mapped_page memory number) ≡ rights_in paged number
    pub shown : (number : ℕ) → number < 2 ^ 20 → is_given_up paged number ≡ false → mapped_page memory number ≡ shown_in held paged number
    pub reserved : memory.reserved ≡ paged.reserved
