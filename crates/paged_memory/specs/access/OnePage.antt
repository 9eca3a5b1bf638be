-- What an access of a hart does to one page, and to the tables and caches that translate it, by its answer.
use Rattle.std.specs.Prelude.{◌≡◌, ◌⊎◌, ℕ, true, List, Result, IfOk, IfErr, OnOk, OnErr}
use Rattle.page_memory.specs.declared.fault.MemoryFault.{MemoryFault}
use Rattle.page_memory.specs.declared.words.Access.{Access}
use Rattle.page_memory.specs.declared.words.Access.TheVariants.{Store}
use Rattle.page_store.specs.PageValue.{PageValue}
use Rattle.rv_exec.specs.Answers.{Answers}
use Rattle.rv_exec.specs.declared.bus.BusError.{BusError}
use Rattle.sv32_table.specs.EntryAt.{entry_at}
use Rattle.tlb_core.specs.declared.translation.Translation.{Translation}
use Rattle.paged_memory.specs.access.Access.{Reaches, RefusesAccess, HasPage, LacksPage, MarksUse, KeepsBare, KeepsTranslations, MayWalk, Serves, ServesHeld, TakesStores, cache_of}
use Rattle.paged_memory.specs.Paged.{Holds, seen_at}
use Rattle.paged_memory.specs.Seen.{is_dirty}

module _ {S : Type 0} where
  -- the answer is what was expected, by a page that the hart has, and whose use the access marks, or that the page is not resident
  abbrev pub AnswersUse : {A : Type 0} → ℕ → Access → List (ℕ × PageValue S) → List (List ℕ) → List (List Translation) → ℕ → Result A MemoryFault → Result A BusError → Type 0
  AnswersUse hart access pages tables' caches address expected result =
      Answers (HasPage pages (cache_of caches hart)) (MarksUse pages tables' (cache_of caches hart) access) (LacksPage pages) address expected result

  -- a hart's access uses a page, whatever it does to the bytes there: the page is never absent to a hart whose cache shows it for
  -- the access; of the tables a walk changes the page's entry, and fills its translation with D as it is then, or nothing changes,
  -- as where the access is refused. Where a translation serves the access there is no walk, even if the translation is to be dropped.
  -- An answered access leaves a translation that serves it, and a store has set D unless it was served
  pub record UsesPage {A : Type 0} (hart : ℕ) (access : Access) (page : ℕ) (result : Result A BusError) (pages : List (ℕ × PageValue S)) (tables tables' : List (List ℕ)) (caches caches' : List (List Translation)) : Type 0 where
    pub held : ServesHeld (cache_of caches hart) access page result
    pub kept : KeepsTranslations pages hart page tables tables' caches caches'
    pub entries : MayWalk access page tables tables'
    pub unmarked : OnErr result (tables' ≡ tables)
    pub unfilled : OnErr result (caches' ≡ caches)
    pub served : Serves (cache_of caches hart) access page → (tables' ≡ tables) × (caches' ≡ caches)
    pub shown : OnOk result (Serves (cache_of caches' hart) access page)
    pub dirtied : access ≡ Store → OnOk result (Serves (cache_of caches hart) access page ⊎ (is_dirty (seen_at pages page) (entry_at tables' page) ≡ true))

  -- of one that answers the page's place: the access may use the page there, which the hart had, and the use is marked; or why it
  -- is refused
  pub record ReachesPage (hart : ℕ) (access : Access) (page : ℕ) (result : Result ℕ BusError) (pages : List (ℕ × PageValue S)) (tables tables' : List (List ℕ)) (caches caches' : List (List Translation)) : Type 0 where
    pub reaches : IfOk result (λ place. Reaches pages tables' access page place)
    pub refused : IfErr result (RefusesAccess pages access page)
    pub has : OnOk result (HasPage pages (cache_of caches hart) page)
    pub marked : OnOk result (MarksUse pages tables' (cache_of caches hart) access page)
    pub uses : UsesPage hart access page result pages tables tables' caches caches'

  -- of one that writes: pages, tables and caches go together still; pages stay but for the bytes in the page's frame; where it is
  -- answered, the page takes stores, whatever the bytes are; where it is refused, all pages stay
  pub record WritesPage {A : Type 0} (content : S → List ℕ) (honest : Type 0) (hart page : ℕ) (result : Result A BusError) (pages pages' : List (ℕ × PageValue S)) (tables tables' : List (List ℕ)) (caches caches' : List (List Translation)) : Type 0 where
    pub holds : Holds content honest pages' tables' caches'
    pub uses : UsesPage hart Store page result pages tables tables' caches caches'
    pub bare : KeepsBare page pages pages'
    pub takes : OnOk result (TakesStores pages tables' page)
    pub refused : OnErr result (pages' ≡ pages)
