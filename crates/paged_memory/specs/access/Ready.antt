-- What a hart's cache serves at once, and what stays over accesses that it serves.
use Rattle.std.specs.Prelude.{◌≡◌, ℕ, ◌^◌, ◌<◌, List}
use Rattle.page_memory.specs.declared.words.Access.{Access}
use Rattle.page_memory.specs.declared.words.Access.TheVariants.{Store}
use Rattle.paged_memory.specs.access.Access.{MarksUse, Serves, TakesStores}
use Rattle.paged_memory.specs.Coheres.{Coheres}
use Rattle.paged_memory.specs.access.HartMemory.{KeepsAccess}
use Rattle.paged_memory.specs.moves.Moving.{OnlyPages}
use Rattle.paged_memory.specs.Paged.{PagedValue, seen_at}
use Rattle.paged_memory.specs.access.Using.{cache_in, HasIn}

module _ {S : Type 0} where
  -- a page is at hand for a hart's accesses of a kind: the hart has it, a translation serves them, their use of it is marked, and for stores
  -- it takes them
  pub record ServesIn (memory : PagedValue S) (hart : ℕ) (access : Access) (page : ℕ) : Type 0 where
    pub small : page < 2 ^ 20
    pub has : HasIn memory hart page
    pub marked : MarksUse memory.pages memory.tables (cache_in memory hart) access page
    pub takes : access ≡ Store → TakesStores memory.pages memory.tables page
    pub serves : Serves (cache_in memory hart) access page

  -- nothing but bytes in frames changes, as by the hart's accesses, so that what was at hand is; and pages, tables and caches go together
  -- if they did
  pub record KeepsReady (held : S → List ℕ) (honest : Type 0) (hart : ℕ) (old new : PagedValue S) : Type 0 where
    pub only : OnlyPages old new
    pub seen : (page : ℕ) → seen_at new.pages page ≡ seen_at old.pages page
    pub since : (start : PagedValue S) → KeepsAccess hart start old → KeepsAccess hart start new
    pub serves : (access : Access) (page : ℕ) → ServesIn old hart access page → ServesIn new hart access page
    pub coheres : Coheres held honest old → Coheres held honest new
