-- A copy that would stand for its page whatever bytes it had: a store was told of since it was made, so that it does not back the page.
use Rattle.std.proofs.Common.{◌≡◌, ℕ, ◌<◌, ◌^◌, ◌||◌, Bool, true, false, List, [], ◌∷◌, Option, Some, None, sym, subst, true≢false}
use Rattle.std.specs.Prelude.{IsFalse, option_map}
use Rattle.page_store.specs.Cleaning.{IfCopyOut, IfOut}
use Rattle.page_store.specs.JobValue.{SavedValue}
use Rattle.page_store.specs.Keeping.{Keeping, NoSlot, Saved, Unbacked, Cleaning, CopyOut}
use Rattle.page_store.specs.PageValue.{PageValue, Place, Fresh, Resident, Leaving, Saving, Away, Purged}
use Rattle.page_store.specs.declared.answer.Cleaned.TheVariants as end
use Rattle.sv32_table.specs.Entry.{Entry}
use Rattle.sv32_table.specs.EntryAt.{entry_at, dirty_of}
use Rattle.paged_memory.proofs.cleaning_laws.CleanBarLaws.{stands_back}
use Rattle.paged_memory.specs.Calls.{ChangesBy}
use Rattle.paged_memory.specs.Coheres.{HoldsIn}
use Rattle.paged_memory.specs.Paged.{PagedValue, page_at, seen_of, standing_of}
use Rattle.paged_memory.specs.Seen.{is_loose_standing, dirty_standing, takes_stores}
use Rattle.paged_memory.specs.access.Missing.{TakesIn}
use Rattle.paged_memory.specs.cleaning.Cleaning.{EndsCleaningIn, EndsSo}
use Rattle.paged_memory.specs.cleaning.Copies.{StandsAt, CopyStands}

-- a bit that is set, or else is not needed where none may be
by_bit : (bit : Bool) → bit || false ≡ true → bit ≡ false → ⊥
by_bit true takes clear = true≢false clear
by_bit false takes clear = true≢false (sym takes)

-- no copy backs a page of which a store was told since
two_bytes : (bytes copy : List ℕ) (stored : Bool) → IsFalse stored × (bytes ≡ copy) → (IsFalse stored → bytes ≡ []) → (IsFalse stored → bytes ≡ 0 ∷ []) → ⊥
two_bytes bytes copy stored clean none one = not_both (none clean.0) (one clean.0)
  where
    not_both : bytes ≡ [] → bytes ≡ 0 ∷ [] → ⊥
    not_both empty full = cc

module _ {S : Type 0} where
  -- a page whose copy is out, and that takes stores
  told_place : (bytes other : List ℕ) (e : Entry) (page : PageValue S) → StandsAt bytes e.dirty (Some page) → takes_stores (Some (seen_of page)) e ≡ true → StandsAt other e.dirty (Some page)
  told_place bytes other e page stands takes = by_place page.place stands takes
    where
      by_place : (place : Place S) → IfCopyOut e.dirty place (λ frame stored. IsFalse stored → frame.bytes ≡ bytes) → dirty_standing (standing_of place) e || is_loose_standing (standing_of place) ≡ true
          → IfCopyOut e.dirty place (λ frame stored. IsFalse stored → frame.bytes ≡ other)
      by_place Fresh h takes = absurd h
      by_place (Resident frame slot) h takes = by_slot slot h takes
        where
          by_slot : (slot : Keeping S) → IfOut slot (IsFalse e.dirty → frame.bytes ≡ bytes) → dirty_standing (standing_of (Resident frame slot)) e || is_loose_standing (standing_of (Resident frame slot)) ≡ true → IfOut slot (IsFalse e.dirty → frame.bytes ≡ other)
          by_slot NoSlot h takes = absurd h
          by_slot (Saved copy) h takes = absurd h
          by_slot (Unbacked own) h takes = absurd h
          by_slot (Cleaning own) h takes = absurd h
          by_slot CopyOut h takes = λ clear. absurd (by_bit e.dirty takes clear)
      by_place (Leaving frame slot mark) h takes = by_slot slot h takes
        where
          by_slot : (slot : Keeping S) → IfOut slot (IsFalse mark → frame.bytes ≡ bytes) → dirty_standing (standing_of (Leaving frame slot mark)) e || is_loose_standing (standing_of (Leaving frame slot mark)) ≡ true → IfOut slot (IsFalse mark → frame.bytes ≡ other)
          by_slot NoSlot h takes = absurd h
          by_slot (Saved copy) h takes = absurd h
          by_slot (Unbacked own) h takes = absurd h
          by_slot (Cleaning own) h takes = absurd h
          by_slot CopyOut h takes = λ clear. absurd (by_bit mark takes clear)
      by_place (Saving frame mark) h takes = absurd h
      by_place (Away copy) h takes = absurd h
      by_place Purged h takes = absurd h

  pub told_in : (bytes other : List ℕ) (memory : PagedValue S) (vpn : ℕ) → CopyStands vpn bytes memory → TakesIn memory vpn → CopyStands vpn other memory
  told_in bytes other memory vpn stands takes = by_page (page_at memory.pages vpn) stands takes.1
    where
      by_page : (o : Option (PageValue S)) → StandsAt bytes (entry_at memory.tables vpn).dirty o → takes_stores (option_map seen_of o) (entry_at memory.tables vpn) ≡ true → StandsAt other (entry_at memory.tables vpn).dirty o
      by_page None h takes = absurd h
      by_page (Some page) h takes = told_place bytes other (entry_at memory.tables vpn) page h takes

  clash_slot : (frame copy : List ℕ) (stored : Bool) (slot : Keeping S) → IfOut slot (IsFalse stored × (frame ≡ copy)) → IfOut slot (IsFalse stored → frame ≡ []) → IfOut slot (IsFalse stored → frame ≡ 0 ∷ []) → ⊥
  clash_slot frame copy stored NoSlot clean none one = clean
  clash_slot frame copy stored (Saved own) clean none one = clean
  clash_slot frame copy stored (Unbacked own) clean none one = clean
  clash_slot frame copy stored (Cleaning own) clean none one = clean
  clash_slot frame copy stored CopyOut clean none one = two_bytes frame copy stored clean none one

  clash : (dirty : Bool) (copy : List ℕ) (place : Place S) → IfCopyOut dirty place (λ frame stored. IsFalse stored × (frame.bytes ≡ copy)) → IfCopyOut dirty place (λ frame stored. IsFalse stored → frame.bytes ≡ [])
      → IfCopyOut dirty place (λ frame stored. IsFalse stored → frame.bytes ≡ 0 ∷ []) → ⊥
  clash dirty copy Fresh clean none one = clean
  clash dirty copy (Resident frame slot) clean none one = clash_slot frame.bytes copy dirty slot clean none one
  clash dirty copy (Leaving frame slot mark) clean none one = clash_slot frame.bytes copy mark slot clean none one
  clash dirty copy (Saving frame mark) clean none one = clean
  clash dirty copy (Away own) clean none one = clean
  clash dirty copy Purged clean none one = clean

  pub not_backing : (held : S → List ℕ) (honest : Type 0) (job : SavedValue S) (old new : PagedValue S) → HoldsIn held honest old → job.vpn < 2 ^ 20 → ((bytes : List ℕ) → CopyStands job.vpn bytes old) → EndsCleaningIn job end.Clean old new → ⊥
  not_backing held honest job old new holds small stands ends = clash dirty job.copy page.page.place page.how.1.0 (at []) (at (0 ∷ []))
    where
      dirty : Bool
      dirty = dirty_of (entry_at old.tables job.vpn)

      page : ChangesBy (EndsSo job dirty end.Clean) old.pages new.pages job.vpn
      page = ends.1.1

      at : (bytes : List ℕ) → StandsAt bytes dirty (Some page.page)
      at bytes = subst (λ o. StandsAt bytes dirty o) page.found (stands_back held honest old (record job { copy = bytes }) holds ends.0 small (stands bytes)).1.1
