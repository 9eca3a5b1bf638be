-- Pages that are loaded from or stored to.
use Rattle.std.specs.Prelude.{◌≡◌, ℕ, ◌==◌, Bool, false, ◌||◌, if◌then◌else◌, Option, Some, None, nat_eq, unwrap_or}
use Rattle.std.specs.HashMap.{get, HashMap}
use Rattle.std.specs.Option.{ForSome}
use Rattle.std.specs.declared.hash.FoldHasher.{FoldHasher}
use Rattle.std.specs.declared.hash.BuildHasherDefault.{BuildHasherDefault}
use Rattle.page_memory.specs.Words.{page_number}
use Rattle.guest_steps.specs.declared.access.DataAccess.{DataAccess}

-- pages that were used, and whether each was stored to
abbrev pub PageUses : Type 0
PageUses = HashMap ℕ Bool (BuildHasherDefault FoldHasher)

abbrev pub is_stored_to : Option Bool → Bool
is_stored_to used = unwrap_or used false

-- a use of a page, the same one or another: whether it was stored to, if it was used
abbrev pub marked : ℕ → Bool → ℕ → Option Bool → Option Bool
marked page is_store at used = if page == at then Some (is_stored_to used || is_store) else used

abbrev pub marked_by : DataAccess → ℕ → Option Bool → Option Bool
marked_by access at used = marked (page_number access.address) access.is_store at used

-- what an instruction loads or stores, if it does
abbrev pub used_by : Option DataAccess → ℕ → Option Bool → Option Bool
used_by None at used = used
used_by (Some access) at used = marked_by access at used

-- the page that was used last needs no further mark
abbrev pub IsMarked : PageUses → Option (ℕ × Bool) → Type 0
IsMarked pages last = ForSome last (λ use_. Some (is_stored_to (get nat_eq pages use_.0) || use_.1) ≡ get nat_eq pages use_.0)
