-- What was known of a process's memory in a hart's turn still holds after more of the hart's accesses.
use Rattle.std.specs.Prelude.{ℕ, List}
use Rattle.tlb_core.specs.declared.translation.Translation.{Translation}
use Rattle.paged_memory.specs.access.Access.{HasPage, LacksPage}
use Rattle.paged_memory.specs.access.HartMemory.{KeepsAccess, UsedSince}
use Rattle.paged_memory.specs.access.Missing.{TakesSince}
use Rattle.paged_memory.specs.access.Using.{cache_in}
use Rattle.paged_memory.specs.Paged.{PagedValue}

-- what accesses kept before, they keep; a page that the hart lacks or has now, it lacked or had then; a page that it used or stored to is one
pub record KeepsTold {S : Type 0} (hart : ℕ) (opening : List Translation) (old new : PagedValue S) : Type 0 where
  pub since : (start : PagedValue S) → KeepsAccess hart start old → KeepsAccess hart start new
  pub lacked : (page : ℕ) → LacksPage new.pages page → LacksPage old.pages page
  pub had : (page : ℕ) → HasPage new.pages (cache_in new hart) page → HasPage old.pages (cache_in old hart) page
  pub used : (page : ℕ) → UsedSince hart old opening page → UsedSince hart new opening page
  pub takes : (page : ℕ) → TakesSince old opening page → TakesSince new opening page
