-- What a page ends as, where a `&mut` to the bytes of its frame is returned.
use Rattle.std.specs.Prelude.{ℕ, List, Option}
use Rattle.std.specs.Borrow.{LendsIf, MutBor, Fml, Array, u8, RattleType}
use Rattle.std.specs.declared.sync.ledger.Ledger.{Ghosts as LedgerGhosts}
use Rattle.swap_slots.specs.declared.slot.SwapSlot.{Ghosts as SlotGhosts}
use Rattle.page_store.specs.PageValue.{PageValue, Place, Fresh, Resident, Leaving, Saving, Away, Purged}
use Rattle.page_store.specs.contracts.page.StoredPage.{the_row}

-- a page that is in a frame and not being saved, with these bytes in its frame
abbrev pub rewritten : {S : Type 0} → List ℕ → Place S → Place S
rewritten bytes Fresh = Fresh
rewritten bytes (Resident frame slot) = Resident (record frame { bytes = bytes }) slot
rewritten bytes (Leaving frame slot mark) = Leaving (record frame { bytes = bytes }) slot mark
rewritten bytes (Saving frame mark) = Saving frame mark
rewritten bytes (Away copy) = Away copy
rewritten bytes Purged = Purged

abbrev pub with_bytes : {S : Type 0} → PageValue S → List ℕ → PageValue S
with_bytes page bytes = record page { place = rewritten bytes page.place }

module _ (L S : RattleType) (l : LedgerGhosts L.Denot) (s : SlotGhosts S.Denot) where
  -- once the borrow ends, the frame's bytes are those last written through it
  abbrev pub LendsBytes : MutBor (PageValue S.Denot) → Option (MutBor (List ℕ)) → Fml
  LendsBytes page bytes = LendsIf (the_row L S l s) (Array u8 4096) page bytes (with_bytes page.now) page.now
