-- How many of a process's pages pass a test, such as being resident, or holding one of some frames.
use Rattle.std.specs.Prelude.{ℕ, zero, suc, ◌+◌, ◌^◌, Bool, true, false, ◌&&◌, cond, Option, Some, None, is_some, List}
use Rattle.frame_pool.specs.FrameValue.{FrameValue}
use Rattle.page_store.specs.Keeping.{Keeping, NoSlot, Saved, Unbacked, Cleaning, CopyOut}
use Rattle.page_store.specs.PageValue.{PageValue, Place, page_state_of, frame_of, slot_of, is_out}
use Rattle.paged_memory.specs.Paged.{page_at}
use Rattle.paged_memory.specs.moves.Stages.{is_resident_stage, is_saving_stage}

abbrev pub frame_passes : (ℕ → Bool) → Option FrameValue → Bool
frame_passes test (Some frame) = test frame.number
frame_passes test None = false

module _ {S : Type 0} where
  abbrev pub page_passes : (PageValue S → Bool) → Option (PageValue S) → Bool
  page_passes test (Some page) = test page
  page_passes test None = false

  -- how many page numbers below a bound have a page that passes, by its number and what it is
  unfoldable pub pages_below : (ℕ → PageValue S → Bool) → List (ℕ × PageValue S) → ℕ → ℕ
  pages_below test pages zero = 0
  pages_below test pages (suc number) = cond (page_passes (test number) (page_at pages number)) 1 0 + pages_below test pages number

  -- how many pages pass
  unfoldable pub pages_where : (ℕ → PageValue S → Bool) → List (ℕ × PageValue S) → ℕ
  pages_where test pages = pages_below test pages (2 ^ 20)

  -- whether a place is that of a resident page, and of one that is being saved
  abbrev pub is_resident_place : Place S → Bool
  is_resident_place place = is_resident_stage (Some (page_state_of place))

  abbrev pub is_saving_place : Place S → Bool
  is_saving_place place = is_saving_stage (Some (page_state_of place))

  abbrev pub is_kept : Keeping S → Bool
  is_kept NoSlot = false
  is_kept (Saved copy) = true
  is_kept (Unbacked slot) = is_some slot
  is_kept (Cleaning slot) = is_some slot
  is_kept CopyOut = false

  -- the resident pages whose numbers pass
  abbrev pub residents_of : List (ℕ × PageValue S) → (ℕ → Bool) → ℕ
  residents_of pages test = pages_where (λ number page. is_resident_place page.place && test number) pages

  -- the pages that are being saved, whose numbers pass
  abbrev pub savings_of : List (ℕ × PageValue S) → (ℕ → Bool) → ℕ
  savings_of pages test = pages_where (λ number page. is_saving_place page.place && test number) pages

  -- the pages of which bytes are out with a job
  abbrev pub outs_of : List (ℕ × PageValue S) → ℕ
  outs_of pages = pages_where (λ number page. is_out page.place) pages

  -- the pages that hold a frame whose number passes
  abbrev pub frames_of : List (ℕ × PageValue S) → (ℕ → Bool) → ℕ
  frames_of pages test = pages_where (λ number page. frame_passes test (frame_of page.place)) pages

  -- the pages that have a slot at hand
  abbrev pub slots_of : List (ℕ × PageValue S) → ℕ
  slots_of pages = pages_where (λ number page. is_kept (slot_of page.place)) pages
