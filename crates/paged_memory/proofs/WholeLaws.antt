-- An access of a hart to one page, as one of its process's memory as a whole.
use Rattle.std.specs.Prelude.{◌≡◌, ℕ, ◌^◌, ◌<◌, List, Result, Ok, Err, refl}
use Rattle.std.proofs.Common.{sym, subst}
use Rattle.page_memory.specs.Memory.{Memory}
use Rattle.page_memory.specs.Reservations.{Reservations}
use Rattle.page_memory.specs.Words.{page_number}
use Rattle.page_memory.specs.declared.fault.MemoryFault.{MemoryFault}
use Rattle.page_memory.specs.declared.words.Access.{Access}
use Rattle.page_memory.specs.declared.words.Access.TheVariants.{Store}
use Rattle.rv_exec.specs.Answers.{BusRefuses}
use Rattle.rv_exec.specs.declared.bus.BusError.{BusError}
use Rattle.page_store.specs.PageValue.{PageValue}
use Rattle.tlb_core.specs.declared.translation.Translation.{Translation}
use Rattle.paged_memory.specs.access.Access.{HasPage, KeepsTranslations, LacksPage, MarksUse, TakesStores, cache_of}
use Rattle.paged_memory.specs.access.Accesses.{Reads, Writes}
use Rattle.paged_memory.specs.access.HartMemory.{InTurn}
use Rattle.paged_memory.proofs.access_laws.HartMemoryLaws.{still_in_turn}
use Rattle.paged_memory.specs.access.OnePage.{AnswersUse, UsesPage, WritesPage}
use Rattle.paged_memory.specs.Paged.{PagedValue, memory_of}
use Rattle.paged_memory.proofs.access_laws.OnePageLaws.{uses_answered, uses_refused}
use Rattle.paged_memory.proofs.access_laws.ReservationLaws.{bare_itself}

-- a memory whose parts stand one by one is the one that the access began with
module _ {S : Type 0} (hart : ℕ) {parts old : PagedValue S} (same : parts ≡ old) where
  -- the hart goes on with its turn
  pub turn_goes_on : {page : ℕ} {opening : List Translation} {new : PagedValue S} → InTurn hart opening old → KeepsTranslations parts.pages hart page parts.tables new.tables parts.caches new.caches → InTurn hart opening new
  turn_goes_on {page} {opening} {new} turn kept = still_in_turn hart page opening parts new (subst (InTurn hart opening) (sym same) turn) kept

  -- what is asked of a memory is answered, or refused
  module _ {A : Type 0} (held : S → List ℕ) (access : Access) (tables : List (List ℕ)) (address : ℕ) (asked : Memory → Result A MemoryFault) where
    pub whole_answered : (answer : A) → asked (memory_of held parts) ≡ Ok answer → HasPage parts.pages (cache_of parts.caches hart) (page_number address) × MarksUse parts.pages tables (cache_of parts.caches hart) access (page_number address)
        → AnswersUse hart access old.pages tables old.caches address (asked (memory_of held old)) (Ok answer)
    whole_answered answer is by_page = subst (λ (m : PagedValue S). AnswersUse hart access m.pages tables m.caches address (asked (memory_of held m)) (Ok answer)) same (is, by_page)

    pub whole_refused : (refusal : BusError) → BusRefuses (LacksPage parts.pages) address (asked (memory_of held parts)) refusal → AnswersUse hart access old.pages tables old.caches address (asked (memory_of held old)) (Err refusal)
    whole_refused refusal is = subst (λ (m : PagedValue S). AnswersUse hart access m.pages tables m.caches address (asked (memory_of held m)) (Err refusal)) same is

  -- it reads
  pub reads_whole : {A : Type 0} {access : Access} {page : ℕ} {result : Result A BusError} {tables : List (List ℕ)} {caches : List (List Translation)} → page < 2 ^ 20 → UsesPage hart access page result parts.pages parts.tables tables parts.caches caches
      → Reads hart access page result old (record parts { tables = tables; caches = caches })
  reads_whole {access} {page} {result} {tables} {caches} small uses = subst (λ (m : PagedValue S). Reads hart access page result m (record parts { tables = tables; caches = caches })) same (record {
    accesses = record { small = small; process = refl; bare = bare_itself parts.pages; uses = uses };
    pages = refl;
    reserved = refl;
  })

  -- it is refused to write, whatever it would answer
  pub writes_not : {A B : Type 0} {held : S → List ℕ} {honest : Type 0} {page : ℕ} {refusal : BusError} {pages : List (ℕ × PageValue S)} {tables : List (List ℕ)} {caches : List (List Translation)} → page < 2 ^ 20
      → WritesPage {A = A} held honest hart page (Err refusal) parts.pages pages parts.tables tables parts.caches caches → Writes {A = B} hart Store page (Err refusal) old (record parts { pages = pages; tables = tables; caches = caches })
  writes_not {A} {B} {page} {refusal} {pages} {tables} {caches} small writes = subst (λ (m : PagedValue S). Writes {A = B} hart Store page (Err refusal) m (record parts { pages = pages; tables = tables; caches = caches })) same (record {
    accesses = record { small = small; process = refl; bare = writes.bare; uses = uses_refused writes.uses };
    takes = tt;
    pages = writes.refused;
    reserved = refl;
  })

  -- it writes, whatever it answers
  pub writes_whole : {A B : Type 0} {held : S → List ℕ} {honest : Type 0} {page : ℕ} {first : A} {pages : List (ℕ × PageValue S)} {tables : List (List ℕ)} {caches : List (List Translation)} (answer : B) (reserved : Reservations) → page < 2 ^ 20
      → WritesPage held honest hart page (Ok first) parts.pages pages parts.tables tables parts.caches caches → Writes hart Store page (Ok answer) old (record parts { pages = pages; tables = tables; caches = caches; reserved = reserved })
  writes_whole {page} {pages} {tables} {caches} answer reserved small writes = subst (λ (m : PagedValue S). Writes hart Store page (Ok answer) m (record parts { pages = pages; tables = tables; caches = caches; reserved = reserved })) same (record {
    accesses = record { small = small; process = refl; bare = writes.bare; uses = uses_answered writes.uses };
    takes = writes.takes;
    pages = tt;
    reserved = tt;
  })

  -- it might have written, and all pages stay
  pub writes_nothing : {A B : Type 0} {page : ℕ} {first : A} {tables : List (List ℕ)} {caches : List (List Translation)} (answer : B) (reserved : Reservations) → page < 2 ^ 20
      → UsesPage hart Store page (Ok first) parts.pages parts.tables tables parts.caches caches → TakesStores parts.pages tables page → Writes hart Store page (Ok answer) old (record parts { tables = tables; caches = caches; reserved = reserved })
  writes_nothing {page} {tables} {caches} answer reserved small uses takes = subst (λ (m : PagedValue S). Writes hart Store page (Ok answer) m (record parts { tables = tables; caches = caches; reserved = reserved })) same (record {
    accesses = record { small = small; process = refl; bare = bare_itself parts.pages; uses = uses_answered uses };
    takes = takes;
    pages = tt;
    reserved = tt;
  })
