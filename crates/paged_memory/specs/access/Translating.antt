-- What is shown of how a process's addresses are translated: what each hart has cached, the words of the page tables, and whether a page
-- counts as changed.
use Rattle.std.specs.Prelude.{ℕ, ◌%◌, ◌^◌, ◌==◌, nat_lt, Bool, List, drop, Option, None, option_map, slice_get, if◌then◌else◌}
use Rattle.std.specs.Option.{option_and_then}
use Rattle.byteorder.specs.Endian.{little_number}
use Rattle.page_memory.specs.Words.{page_number, page_offset}
use Rattle.frame_pool.specs.FrameValue.{FrameValue}
use Rattle.page_store.specs.PageValue.{PageValue, changed, frame_of}
use Rattle.sv32_table.specs.EntryAt.{entry_at, dirty_of}
use Rattle.tlb_core.specs.declared.translation.Translation.{Translation}
use Rattle.paged_memory.specs.Paged.{PagedValue, page_at}

module _ {S : Type 0} where
  -- what a hart has cached, the oldest first, if there is such a hart
  abbrev pub translations_in : PagedValue S → ℕ → Option (List Translation)
  translations_in memory hart = slice_get memory.caches hart

  -- the words of the page tables, the root's first
  abbrev pub tables_in : PagedValue S → List (List ℕ)
  tables_in memory = memory.tables

  -- whether the page of a number counts as changed, if it is mapped
  abbrev pub changed_in : PagedValue S → ℕ → Option Bool
  changed_in memory vpn =
      if nat_lt vpn (2 ^ 20) then option_map (λ (page : PageValue S). changed (dirty_of (entry_at memory.tables vpn)) page.place) (page_at memory.pages vpn) else None

  -- the word at an address that is aligned to it, if its page is in a frame
  abbrev pub framed_word : PageValue S → ℕ → Option ℕ
  framed_word page address = option_map (λ (frame : FrameValue). little_number 4 (drop (page_offset address) frame.bytes)) (frame_of page.place)

  abbrev pub framed_word_in : PagedValue S → ℕ → Option ℕ
  framed_word_in memory address =
      if address % 4 == 0 then option_and_then (λ (page : PageValue S). framed_word page address) (page_at memory.pages (page_number address)) else None
