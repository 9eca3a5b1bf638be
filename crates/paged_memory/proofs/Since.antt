-- The use of a page that an access marks is marked since the hart's turn began.
use Rattle.std.specs.Prelude.{◌≡◌, ℕ, ◌^◌, ◌<◌, true, List, Result, Ok, Err, OnOk, option_map}
use Rattle.std.proofs.Math.Logic.{∥∥₁_elim, ∥∥₁_prop}
use Rattle.std.proofs.Common.{sym, ap, ◌∙◌, inl, inr}
use Rattle.page_memory.specs.declared.fault.MemoryFault.{MemoryFault}
use Rattle.page_memory.specs.declared.words.Access.{Access}
use Rattle.page_memory.specs.Words.{page_number}
use Rattle.page_store.specs.PageValue.{PageValue}
use Rattle.rv_exec.specs.declared.bus.BusError.{BusError}
use Rattle.rv_exec.specs.Answers.{Answers}
use Rattle.sv32_table.specs.EntryAt.{entry_at}
use Rattle.tlb_core.specs.declared.translation.Translation.{Translation}
use Rattle.paged_memory.specs.access.Access.{KeepsBare, MarksUse, Serves, cache_of}
use Rattle.paged_memory.specs.access.HartMemory.{InTurn, MarksSince, UsedSince}
use Rattle.paged_memory.specs.access.OwnCache.{FilledFrom}
use Rattle.paged_memory.proofs.access_laws.ShownLaws.{serves_shown}
use Rattle.paged_memory.proofs.access_laws.HartMemoryLaws.{seen_bare, served_before}
use Rattle.paged_memory.specs.Paged.{PagedValue, page_at, seen_at, seen_of}
use Rattle.paged_memory.specs.Seen.{is_used}

-- what is seen of a page does not rest on its frame's bytes
pub seen_written : {S : Type 0} {number : ℕ} (old new : List (ℕ × PageValue S)) → KeepsBare number old new → (page : ℕ) → seen_at new page ≡ seen_at old page
seen_written {S} {number} old new kept page = sym (seen_bare (page_at new page)) ∙ ap (option_map seen_of) (kept.bare page) ∙ seen_bare (page_at old page)

module _ {S : Type 0} (hart : ℕ) (opening : List Translation) (access : Access) (old new : PagedValue S) (turn : InTurn hart opening old) (seen : (page : ℕ) → seen_at new.pages page ≡ seen_at old.pages page)
    (filled : ∥ FilledFrom (λ _. true) opening (cache_of new.caches hart) ∥₁) where
  marks : (page : ℕ) → page < 2 ^ 20 → MarksUse old.pages new.tables (cache_of old.caches hart) access page → MarksSince new opening page
  marks page small (inl used) = (small, inl (ap (λ s. is_used s (entry_at new.tables page)) (seen page) ∙ used))
  marks page small (inr served) = (small, inr (served_before page (cache_of old.caches hart) opening turn.doomed (record { access = access; served = served })))

  pub answers_since : {A : Type 0} (has lacks : ℕ → Type 0) (address : ℕ) (expected : Result A MemoryFault) (result : Result A BusError) → page_number address < 2 ^ 20 → OnOk result (Serves (cache_of new.caches hart) access (page_number address))
      → Answers has (MarksUse old.pages new.tables (cache_of old.caches hart) access) lacks address expected result → Answers has (UsedSince hart new opening) lacks address expected result
  answers_since has lacks address expected (Ok answer) small shown answers =
      (answers.0, (answers.1.0, (marks (page_number address) small answers.1.1, ∥∥₁_elim filled ∥∥₁_prop (λ f. serves_shown opening (cache_of new.caches hart) access (page_number address) f shown))))
  answers_since has lacks address expected (Err refusal) small shown answers = answers
