-- What an access of a hart does to a process's memory as a whole, by its answer.
use Rattle.std.specs.Prelude.{◌≡◌, ℕ, ◌^◌, ◌<◌, Result, OnOk, OnErr}
use Rattle.page_memory.specs.declared.fault.MemoryFault.{MemoryFault}
use Rattle.page_memory.specs.declared.words.Access.{Access}
use Rattle.rv_exec.specs.declared.bus.BusError.{BusError}
use Rattle.paged_memory.specs.access.Access.{KeepsBare, TakesStores}
use Rattle.paged_memory.specs.access.OnePage.{AnswersUse, UsesPage}
use Rattle.paged_memory.specs.Paged.{PagedValue}

module _ {S : Type 0} where
  -- the answer is memory's, by a page that the hart has, and whose use the access marks, or that the page is not resident
  abbrev pub AnswersAccess : {A : Type 0} → ℕ → Access → PagedValue S → PagedValue S → ℕ → Result A MemoryFault → Result A BusError → Type 0
  AnswersAccess hart access old new address expected result = AnswersUse hart access old.pages new.tables old.caches address expected result

  -- of an access to a page, whatever it does there: pages stay but for the bytes in their frames; of tables and caches it changes
  -- what a use of the page changes
  pub record Accesses {A : Type 0} (hart : ℕ) (access : Access) (page : ℕ) (result : Result A BusError) (old new : PagedValue S) : Type 0 where
    pub small : page < 2 ^ 20
    pub process : new.process ≡ old.process
    pub bare : KeepsBare page old.pages new.pages
    pub uses : UsesPage hart access page result old.pages old.tables new.tables old.caches new.caches

  -- of one that reads: all pages and reservations stay
  pub record Reads {A : Type 0} (hart : ℕ) (access : Access) (page : ℕ) (result : Result A BusError) (old new : PagedValue S) : Type 0 where
    pub accesses : Accesses hart access page result old new
    pub pages : new.pages ≡ old.pages
    pub reserved : new.reserved ≡ old.reserved

  -- of one that reads and reserves: all pages stay
  pub record Reserves {A : Type 0} (hart : ℕ) (access : Access) (page : ℕ) (result : Result A BusError) (old new : PagedValue S) : Type 0 where
    pub accesses : Accesses hart access page result old new
    pub pages : new.pages ≡ old.pages
    pub reserved : OnErr result (new.reserved ≡ old.reserved)

  -- of one that writes: where it is answered, the page takes stores, whatever the bytes are; where it is refused, all pages and
  -- reservations stay
  pub record Writes {A : Type 0} (hart : ℕ) (access : Access) (page : ℕ) (result : Result A BusError) (old new : PagedValue S) : Type 0 where
    pub accesses : Accesses hart access page result old new
    pub takes : OnOk result (TakesStores old.pages new.tables page)
    pub pages : OnErr result (new.pages ≡ old.pages)
    pub reserved : OnErr result (new.reserved ≡ old.reserved)
