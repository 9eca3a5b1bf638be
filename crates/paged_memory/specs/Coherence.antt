-- How the pages, tables and caches of a process agree with one another at any time.
use Rattle.std.specs.Prelude.{◌≡◌, ℕ, ◌+◌, ◌*◌, ◌%◌, ◌^◌, ◌<◌, true, false, if◌then◌else◌, Option, Some, None, Result, Ok, Err, List, All}
use Rattle.page_memory.specs.Words.{page_number}
use Rattle.page_memory.specs.Rights.{may}
use Rattle.page_memory.specs.declared.rights.Rights.{Rights}
use Rattle.page_memory.specs.declared.words.Access.{Access}
use Rattle.page_store.specs.PageValue.{PageValue}
use Rattle.sv32_table.specs.EntryAt.{entry_at}
use Rattle.sv32_table.specs.Leading.{walk_leads}
use Rattle.sv32_table.specs.declared.fault.WalkFault.{WalkFault}
use Rattle.sv32_table.specs.declared.fault.WalkFault.TheVariants.{PageFault}
use Rattle.tlb_core.specs.declared.translation.Translation.{Translation}
use Rattle.paged_memory.specs.Seen.{Seen, Standing, Resident, Leaving, Elsewhere, frame_seen}
use Rattle.paged_memory.specs.access.Access.{is_resident}
use Rattle.paged_memory.specs.cleaning.Copies.{told_of_page}
use Rattle.paged_memory.specs.Soundness.{is_held}
use Rattle.paged_memory.specs.Paged.{page_at, seen_at}

-- where a walk is to lead for an address: into the frame of a resident page that has the right, at the same offset; for every
-- other page it is a page fault
abbrev pub led_standing : Access → ℕ → Rights → Standing → Result ℕ WalkFault
led_standing access address rights (Resident frame loose) = if may access rights then Ok (frame * 0x1000 + address % 0x1000) else Err PageFault
led_standing access address rights (Leaving frame mark loose) = Err PageFault
led_standing access address rights Elsewhere = Err PageFault

abbrev pub led : Access → ℕ → Option Seen → Result ℕ WalkFault
led access address (Some seen) = led_standing access address seen.rights seen.standing
led access address None = Err PageFault

module _ {S : Type 0} (pages : List (ℕ × PageValue S)) where
  -- where the accessed bit of a resident page is clear, each translation of it is marked as one to be dropped
  abbrev pub MarksClear : List (List ℕ) → List (List Translation) → Type 0
  MarksClear tables caches =
      (number : ℕ) → number < 2 ^ 20 → is_resident (seen_at pages number) ≡ true → (entry_at tables number).accessed ≡ false → All (λ cache. All (λ (t : Translation). t.page ≡ number → t.doomed ≡ true) cache) caches

  -- no cache holds a translation of a page that is neither resident nor leaving, such as one that is being saved, or is away
  abbrev pub HoldsFramed : List (List Translation) → Type 0
  HoldsFramed caches = (number : ℕ) → frame_seen (seen_at pages number) ≡ None → is_held number caches ≡ false

  -- while a copy of a page is out and its dirty bit, or the one that it took along, reports no store since, no cache has a translation
  -- of it through which a store would set no bit
  abbrev pub CopiesUnmarked : List (List ℕ) → List (List Translation) → Type 0
  CopiesUnmarked tables caches =
      (number : ℕ) (bytes : List ℕ) → number < 2 ^ 20 → told_of_page (entry_at tables number).dirty (page_at pages number) ≡ Some (false, bytes) → All (λ cache. All (λ (t : Translation). t.page ≡ number → t.dirty ≡ false) cache) caches

  -- a walk in user mode, by the manual's process over the words that the tables represent, leads where the page's state requires
  abbrev pub WalksLead : List (List ℕ) → Type 0
  WalksLead tables =
      (address : ℕ) (access : Access) → address < 2 ^ 32 → walk_leads tables address access ≡ led access address (seen_at pages (page_number address))
