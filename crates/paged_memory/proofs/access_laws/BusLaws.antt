-- What an access of a hart does to its process's memory is what a bus does.
use Rattle.std.specs.Prelude.{◌≡◌, ℕ, ◌^◌, ◌<◌, true, List, [], Result, Ok, Err, OnErr, OnOk, ◌⊎◌}
use Rattle.std.proofs.Common.{ap, sym, subst, ◌∙◌, inl, inr}
use Rattle.std.proofs.Math.Logic.{∥∥₁_map}
use Rattle.page_memory.specs.declared.fault.MemoryFault.{MemoryFault}
use Rattle.page_memory.specs.declared.words.Access.{Access}
use Rattle.page_memory.specs.declared.words.Access.TheVariants.{Store}
use Rattle.page_memory.specs.Words.{page_number}
use Rattle.rv_exec.specs.declared.bus.BusError.{BusError}
use Rattle.rv_exec.specs.declared.bus.BusError.TheVariants.{Fault, Absent}
use Rattle.rv_exec.specs.Answers.{Answers, with_answer}
use Rattle.rv_exec.specs.Bounds.{Bounds}
use Rattle.rv_exec.specs.Leaves.{Leaves, MissedBefore}
use Rattle.rv_exec.specs.Uses.{page_of_access}
use Rattle.sv32_table.specs.EntryAt.{entry_at}
use Rattle.tlb_core.specs.declared.translation.Translation.{Translation}
use Rattle.paged_memory.specs.access.Access.{HasPage, KeepsBare, LacksPage, MarksUse, Serves, ServesHeld, TakesStores, cache_of}
use Rattle.paged_memory.specs.access.Accesses.{AnswersAccess, Accesses, Reads, Reserves, Writes}
use Rattle.paged_memory.specs.access.HartMemory.{InTurn, KeepsAccess, MarksWithin, UsedSince}
use Rattle.paged_memory.specs.access.OwnCache.{FilledFrom}
use Rattle.paged_memory.proofs.access_laws.OwnCacheLaws.{filled_on, goes_filled}
use Rattle.paged_memory.proofs.access_laws.HartMemoryLaws.{access_written}
use Rattle.paged_memory.specs.access.Missing.{MissesIn, TakesIn, TakesSince}
use Rattle.paged_memory.proofs.access_laws.MissingLaws.{missed_behind, missed_now}
use Rattle.paged_memory.specs.Paged.{PagedValue, memory_in, memory_of}
use Rattle.paged_memory.proofs.access_laws.StoredLaws.{stored_dirty}
use Rattle.paged_memory.proofs.Marking.{bounds_access, bounds_access_with, stores_of}
use Rattle.paged_memory.specs.Seen.{takes_stores}
use Rattle.paged_memory.proofs.Since.{answers_since, seen_written}

-- the same of an answer with another value
pub on_with : {A B : Type 0} (P : Type 0) (f : A → B) (r : Result A BusError) → OnOk r P → OnOk (with_answer f r) P
on_with P f (Ok answer) is = is
on_with P f (Err refusal) is = tt

module _ {S : Type 0} (hart : ℕ) (access : Access) {A : Type 0} (address : ℕ) (result : Result A BusError) (old new : PagedValue S) where
  -- what the access filled
  filled_now : (opening : List Translation) → InTurn hart opening old → Accesses hart access (page_number address) result old new → ∥ FilledFrom (λ _. true) opening (cache_of new.caches hart) ∥₁
  filled_now opening turn accesses = ∥∥₁_map turn.filled (λ filled.
      filled_on (λ _. true) opening (cache_of old.caches hart) (cache_of new.caches hart) filled
      (goes_filled (page_number address) old.tables new.tables (cache_of old.caches hart) (cache_of new.caches hart) accesses.uses.kept.fills).filled)

  -- the use of the page that it marks is marked since the hart's turn began, and the hart's cache shows the page; by a hart of the same number
  pub bus_answers : {B : Type 0} (hart' : ℕ) (opening : List Translation) (expected : Result B MemoryFault) (told : Result B BusError) → hart' ≡ hart → InTurn hart opening old
      → OnOk told (Serves (cache_of new.caches hart) access (page_number address)) → Accesses hart access (page_number address) result old new → AnswersAccess hart access old new address expected told
      → Answers (HasPage old.pages (cache_of old.caches hart)) (UsedSince hart' new opening) (LacksPage old.pages) address expected told
  bus_answers hart' opening expected told same turn shown accesses answers =
      subst (λ h. Answers (HasPage old.pages (cache_of old.caches hart)) (UsedSince h new opening) (LacksPage old.pages) address expected told) (sym same)
      (answers_since hart opening access old new turn (seen_written old.pages new.pages accesses.bare) (filled_now opening turn accesses) (HasPage old.pages (cache_of old.caches hart)) (LacksPage old.pages) address expected told accesses.small shown answers)

  -- no mark but the page's own rises
  pub bus_bound : (expected : Result A MemoryFault) → Accesses hart access (page_number address) result old new → AnswersAccess hart access old new address expected result
      → Bounds (MarksWithin old.tables) (MarksWithin new.tables) (page_of_access address expected) (stores_of access (page_of_access address expected))
  bus_bound expected accesses answers =
      bounds_access access (HasPage old.pages (cache_of old.caches hart)) (MarksUse old.pages new.tables (cache_of old.caches hart) access) (LacksPage old.pages) address old.tables new.tables expected result
      answers accesses.uses.entries accesses.uses.unmarked

  -- the same of an answer with another value
  pub bus_bound_with : {B : Type 0} (expected : Result B MemoryFault) (f : A → B) → Accesses hart access (page_number address) result old new
      → AnswersAccess hart access old new address expected (with_answer f result)
      → Bounds (MarksWithin old.tables) (MarksWithin new.tables) (page_of_access address expected) (stores_of access (page_of_access address expected))
  bus_bound_with expected f accesses answers =
      bounds_access_with access (HasPage old.pages (cache_of old.caches hart)) (MarksUse old.pages new.tables (cache_of old.caches hart) access) (LacksPage old.pages) address old.tables new.tables expected f result
      answers accesses.uses.entries accesses.uses.unmarked

  pub bus_keeps : Accesses hart access (page_number address) result old new → new.pages ≡ old.pages → KeepsAccess hart old new
  bus_keeps accesses pages = access_written hart (page_number address) old new accesses.process accesses.bare accesses.uses.kept (inl pages)

  told_by : {B : Type 0} (r : Result B BusError) → OnErr r (new.pages ≡ old.pages) → OnOk r (TakesStores old.pages new.tables (page_number address)) → (new.pages ≡ old.pages) ⊎ TakesStores old.pages new.tables (page_number address)
  told_by (Ok answer) pages takes = inr takes
  told_by (Err refusal) pages takes = inl pages

  pub bus_keeps_written : Writes hart access (page_number address) result old new → KeepsAccess hart old new
  bus_keeps_written writes = access_written hart (page_number address) old new writes.accesses.process writes.accesses.bare writes.accesses.uses.kept (told_by result writes.pages writes.takes)

  -- the memory that it stands for stays over one that reads, and where another is refused
  same_parts : (held : S → List ℕ) → new.pages ≡ old.pages → new.reserved ≡ old.reserved → memory_of held new ≡ memory_of held old
  same_parts held pages reserved = ap (λ p. memory_in held p new.reserved) pages ∙ ap (λ r. memory_in held old.pages r) reserved

  pub bus_same : (held : S → List ℕ) → Reads hart access (page_number address) result old new → memory_of held new ≡ memory_of held old
  bus_same held reads = same_parts held reads.pages reads.reserved

  refused_parts : (held : S → List ℕ) {B : Type 0} (r : Result B BusError) → OnErr r (new.pages ≡ old.pages) → OnErr r (new.reserved ≡ old.reserved) → OnErr r (memory_of held new ≡ memory_of held old)
  refused_parts held (Ok answer) pages reserved = pages
  refused_parts held (Err refusal) pages reserved = same_parts held pages reserved

  pub bus_refuses : (held : S → List ℕ) → Writes hart access (page_number address) result old new → OnErr result (memory_of held new ≡ memory_of held old)
  bus_refuses held writes = refused_parts held result writes.pages writes.reserved

  reserving_parts : (held : S → List ℕ) {B : Type 0} (r : Result B BusError) → new.pages ≡ old.pages → OnErr r (new.reserved ≡ old.reserved) → OnErr r (memory_of held new ≡ memory_of held old)
  reserving_parts held (Ok answer) pages reserved = reserved
  reserving_parts held (Err refusal) pages reserved = same_parts held pages reserved

  pub bus_refuses_reserving : (held : S → List ℕ) → Reserves hart access (page_number address) result old new → OnErr result (memory_of held new ≡ memory_of held old)
  bus_refuses_reserving held reserves = reserving_parts held result reserves.pages reserves.reserved

  -- ---- what it leaves, from below

  leaves_by : {B : Type 0} (answered : Type 0) (r : Result A BusError) (expected : Result B MemoryFault) (f : A → B) → OnOk r answered → ServesHeld (cache_of old.caches hart) access (page_number address) r
      → AnswersAccess hart access old new address expected (with_answer f r) → Leaves answered (MissesIn old hart [] access) r
  leaves_by answered (Ok answer) expected f is held answers = is
  leaves_by answered (Err (Fault fault)) expected f is held answers = tt
  leaves_by answered (Err (Absent page)) expected f is held answers =
      subst (MissesIn old hart [] access) (sym answers.0) (missed_now (cache_of old.caches hart) access (page_number address) held)

  leaves_plainly : (answered : Type 0) (r : Result A BusError) (expected : Result A MemoryFault) → OnOk r answered → ServesHeld (cache_of old.caches hart) access (page_number address) r
      → AnswersAccess hart access old new address expected r → Leaves answered (MissesIn old hart [] access) r
  leaves_plainly answered (Ok answer) expected is held answers = is
  leaves_plainly answered (Err (Fault fault)) expected is held answers = tt
  leaves_plainly answered (Err (Absent page)) expected is held answers =
      subst (MissesIn old hart [] access) (sym answers.0) (missed_now (cache_of old.caches hart) access (page_number address) held)

  on_any : {B : Type 0} (answered : Type 0) (r : Result B BusError) → answered → OnOk r answered
  on_any answered (Ok answer) is = is
  on_any answered (Err refusal) is = tt

  takes_now : {B : Type 0} (r : Result B BusError) → page_number address < 2 ^ 20 → KeepsBare (page_number address) old.pages new.pages
      → OnOk r (TakesStores old.pages new.tables (page_number address)) → OnOk r (TakesIn new (page_number address))
  takes_now (Ok answer) small bare takes = (small, ap (λ s. takes_stores s (entry_at new.tables (page_number address))) (seen_written old.pages new.pages bare (page_number address)) ∙ takes)
  takes_now (Err refusal) small bare takes = tt

  -- and the page has D where no translation served the store that the hart had when its turn began
  since_now : {B : Type 0} (opening : List Translation) (r : Result A BusError) (expected : Result B MemoryFault) (f : A → B) → access ≡ Store → InTurn hart opening old
      → Writes hart access (page_number address) r old new → AnswersAccess hart access old new address expected (with_answer f r) → OnOk r (TakesSince new opening (page_number address))
  since_now opening (Ok answer) expected f store turn writes answers = (
    takes_now (Ok answer) writes.accesses.small writes.accesses.bare writes.takes,
    stored_dirty hart access (page_number address) opening old new store writes.accesses.small turn (seen_written old.pages new.pages writes.accesses.bare)
        (λ served. (writes.accesses.uses.served served).0) (writes.accesses.uses.dirtied store) answers.1.1,
  )
  since_now opening (Err refusal) expected f store turn writes answers = tt

  -- of one that loads
  pub bus_leaves : (expected : Result A MemoryFault) (answered : Type 0) → answered → Accesses hart access (page_number address) result old new → AnswersAccess hart access old new address expected result
      → Leaves answered (MissesIn old hart [] access) result
  bus_leaves expected answered is accesses answers = leaves_plainly answered result expected (on_any answered result is) accesses.uses.held answers

  pub bus_leaves_with : {B : Type 0} (expected : Result B MemoryFault) (f : A → B) → Accesses hart access (page_number address) result old new → AnswersAccess hart access old new address expected (with_answer f result)
      → Leaves (Unit {0}) (MissesIn old hart [] access) result
  bus_leaves_with expected f accesses answers = leaves_by (Unit {0}) result expected f (on_any (Unit {0}) result tt) accesses.uses.held answers

  -- of one that stores
  pub bus_leaves_written : {B : Type 0} (opening : List Translation) (expected : Result B MemoryFault) (f : A → B) → access ≡ Store → InTurn hart opening old → Writes hart access (page_number address) result old new
      → AnswersAccess hart access old new address expected (with_answer f result) → Leaves (TakesSince new opening (page_number address)) (MissesIn old hart [] access) result
  bus_leaves_written opening expected f store turn writes answers =
      leaves_by (TakesSince new opening (page_number address)) result expected f (since_now opening result expected f store turn writes answers) writes.accesses.uses.held answers

  -- what is missed behind a fetch, by a hart of the same number
  pub bus_missed : (hart' : ℕ) → hart' ≡ hart → Accesses hart access (page_number address) result old new → MissedBefore (MissesIn old hart) (MissesIn new hart') (page_number address)
  bus_missed hart' same accesses =
      subst (λ h. MissedBefore (MissesIn old hart) (MissesIn new h) (page_number address)) (sym same)
      (missed_behind (page_number address) old.tables new.tables (cache_of old.caches hart) (cache_of new.caches hart) accesses.uses.kept.fills)
