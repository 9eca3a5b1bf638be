-- Accesses of a hart keep what was told of its memory.
use Rattle.std.specs.Prelude.{ℕ, List}
use Rattle.tlb_core.specs.declared.translation.Translation.{Translation}
use Rattle.paged_memory.specs.access.HartMemory.{KeepsAccess}
use Rattle.paged_memory.specs.access.Told.{KeepsTold}
use Rattle.paged_memory.specs.Paged.{PagedValue}
use Rattle.paged_memory.proofs.access_laws.HartMemoryLaws.{access_itself, access_on, had, lacked, used_since}
use Rattle.paged_memory.proofs.access_laws.MissingLaws.{since_kept}

module _ {S : Type 0} (hart : ℕ) (opening : List Translation) (old new : PagedValue S) where
  pub told_kept : KeepsAccess hart old new → KeepsTold hart opening old new
  told_kept kept = record {
    since = λ start before. access_on hart start old new before kept;
    lacked = λ page lacks. lacked old.pages new.pages page kept.pages lacks;
    had = λ page has. had hart page old new kept has;
    used = λ page used. used_since hart page opening old new kept used;
    takes = λ page taken. since_kept hart page opening old new kept taken;
  }

  pub kept_told : KeepsTold hart opening old new → KeepsAccess hart old new
  kept_told told = told.since old (access_itself hart old)
