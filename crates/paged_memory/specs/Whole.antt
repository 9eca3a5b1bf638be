-- What is read of a process's memory as a whole, page by page. Code that builds on this memory uses these names.
use Rattle.std.specs.Prelude.{ℕ, Bool, Option, option_map, option_and_then, List, length}
use Rattle.frame_pool.specs.FrameValue.{FrameValue}
use Rattle.page_memory.specs.Pages.{Page}
use Rattle.page_memory.specs.declared.rights.Rights.{Rights}
use Rattle.page_store.specs.declared.state.PageState.{PageState}
use Rattle.page_store.specs.PageValue.{page_state_of, frame_of, is_out}
use Rattle.sv32_table.specs.Entry.{Entry}
use Rattle.sv32_table.specs.EntryAt.{entry_at}
use Rattle.paged_memory.specs.Calls.{accessed_at}
use Rattle.paged_memory.specs.Counting.{page_passes, residents_of, savings_of, outs_of, frames_of, slots_of}
use Rattle.paged_memory.specs.Paged.{PagedValue, page_at, seen_at, flat_page}
use Rattle.paged_memory.specs.Seen.{is_used, is_dirty}
use Rattle.paged_memory.specs.Soundness.{is_held}

module _ {S : Type 0} where
  -- where the page of a number is, if one is mapped
  abbrev pub stage_in : PagedValue S → ℕ → Option PageState
  stage_in memory vpn = option_map (λ page. page_state_of page.place) (page_at memory.pages vpn)

  -- its rights
  abbrev pub rights_in : PagedValue S → ℕ → Option Rights
  rights_in memory vpn = option_map (λ page. page.origin.rights) (page_at memory.pages vpn)

  -- the frame that it holds
  abbrev pub frame_in : PagedValue S → ℕ → Option FrameValue
  frame_in memory vpn = option_and_then (λ page. frame_of page.place) (page_at memory.pages vpn)

  -- its rights and what it shows, where slots hold this
  abbrev pub shown_in : (S → List ℕ) → PagedValue S → ℕ → Option Page
  shown_in held memory vpn = option_map (flat_page held) (page_at memory.pages vpn)

  -- its page-table entry, which is blank where there is none
  abbrev pub entry_in : PagedValue S → ℕ → Entry
  entry_in memory vpn = entry_at memory.tables vpn

  -- its accessed bit, where it is resident
  abbrev pub accessed_in : PagedValue S → ℕ → Option Bool
  accessed_in memory vpn = accessed_at (seen_at memory.pages vpn) (entry_at memory.tables vpn)

  -- whether its use is marked, and whether it is marked as dirty
  abbrev pub is_used_in : PagedValue S → ℕ → Bool
  is_used_in memory vpn = is_used (seen_at memory.pages vpn) (entry_at memory.tables vpn)

  abbrev pub is_dirty_in : PagedValue S → ℕ → Bool
  is_dirty_in memory vpn = is_dirty (seen_at memory.pages vpn) (entry_at memory.tables vpn)

  -- whether a cache holds a translation of it
  abbrev pub is_cached : PagedValue S → ℕ → Bool
  is_cached memory vpn = is_held vpn memory.caches

  -- how many harts have a cache
  abbrev pub harts_in : PagedValue S → ℕ
  harts_in memory = length memory.caches

  -- whether bytes of it are out with a job: it is being saved, or a copy of it is out
  abbrev pub is_out_in : PagedValue S → ℕ → Bool
  is_out_in memory vpn = page_passes (λ page. is_out page.place) (page_at memory.pages vpn)

  -- how many such pages there are
  abbrev pub outs_within : PagedValue S → ℕ
  outs_within memory = outs_of memory.pages

  -- how many pages are resident, or are being saved, of those whose numbers pass; hold a frame whose number passes; have a slot at hand
  abbrev pub residents_among : PagedValue S → (ℕ → Bool) → ℕ
  residents_among memory test = residents_of memory.pages test

  abbrev pub savings_among : PagedValue S → (ℕ → Bool) → ℕ
  savings_among memory test = savings_of memory.pages test

  abbrev pub frames_among : PagedValue S → (ℕ → Bool) → ℕ
  frames_among memory test = frames_of memory.pages test

  abbrev pub slots_within : PagedValue S → ℕ
  slots_within memory = slots_of memory.pages
