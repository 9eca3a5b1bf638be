-- What accesses and instructions leave, from below: a page that was stored to takes stores, and the bus had no page at hand that it
-- called absent.
use Rattle.std.specs.Prelude.{◌≡◌, ℕ, List, [], ◌∷◌, ◌⊎◌, All, Contains, Result, Ok, Err}
use Rattle.page_memory.specs.declared.words.Access.{Access}
use Rattle.page_memory.specs.declared.words.Access.TheVariants.{Load, Store, Fetch}
use Rattle.rv_exec.specs.declared.bus.BusError.{BusError}
use Rattle.rv_exec.specs.declared.bus.BusError.TheVariants.{Fault, Absent}
use Rattle.rv_exec.specs.declared.outcome.Outcome.{Outcome}
use Rattle.rv_exec.specs.declared.outcome.Outcome.TheVariants as outcome

-- of an access: what holds where it was answered, and of a page that it was refused for as absent
abbrev pub Leaves : {A : Type 0} → Type 0 → (ℕ → Type 0) → Result A BusError → Type 0
Leaves answered missed (Ok answer) = answered
Leaves answered missed (Err (Fault fault)) = Unit {0}
Leaves answered missed (Err (Absent page)) = missed page

-- what is not at hand after accesses to some pages was not at hand before, after accesses to this page and those
abbrev pub MissedBefore : (before after : List ℕ → Access → ℕ → Type 0) → ℕ → Type 0
MissedBefore before after first = (pages : List ℕ) (access : Access) (page : ℕ) → after pages access page → before (first ∷ pages) access page

-- nothing less is at hand
abbrev pub MissesNoMore : (before after : List ℕ → Access → ℕ → Type 0) → Type 0
MissesNoMore before after = (pages : List ℕ) (access : Access) (page : ℕ) → after pages access page → before pages access page

-- why an access to data was refused, where these pages are stored to: the page was not at hand for a load, or it is one of these and was
-- not at hand for a store
abbrev pub MissedData : (missed : Access → ℕ → Type 0) → List ℕ → ℕ → Type 0
MissedData missed stores page = missed Load page ⊎ (Contains stores page × missed Store page)

-- of an instruction's access to data, which stores to these pages: each takes stores; or the absent one was not at hand. A call has
-- none
abbrev pub LeavesData : (takes : ℕ → Type 0) → (before after : List ℕ → Access → ℕ → Type 0) → List ℕ → Outcome → Type 0
LeavesData takes before after stores outcome.Done = All takes stores
LeavesData takes before after stores outcome.Ecall = All takes stores × MissesNoMore before after
LeavesData takes before after stores (outcome.Trap cause value) = All takes stores
LeavesData takes before after stores (outcome.Absent page) = MissedData (before []) stores page

-- why an access was refused of an instruction, or of its call, whose code is at one page and which stores to these: the code's page was
-- not at hand; or its use is marked, and the data's page was not at hand after it
abbrev pub Missed : (marks : ℕ → Type 0) → (misses : List ℕ → Access → ℕ → Type 0) → ℕ → List ℕ → ℕ → Type 0
Missed marks misses code stores page = ((page ≡ code) × misses [] Fetch page) ⊎ (marks code × MissedData (misses (code ∷ [])) stores page)

-- of an instruction: each page that it stores to takes stores; or the absent one was not at hand. A call goes on from there
abbrev pub LeavesPages : (takes marks : ℕ → Type 0) → (before after : List ℕ → Access → ℕ → Type 0) → ℕ → List ℕ → Outcome → Type 0
LeavesPages takes marks before after code stores outcome.Done = All takes stores
LeavesPages takes marks before after code stores outcome.Ecall = All takes stores × (marks code × MissedBefore before after code)
LeavesPages takes marks before after code stores (outcome.Trap cause value) = All takes stores
LeavesPages takes marks before after code stores (outcome.Absent page) = Missed marks before code stores page
