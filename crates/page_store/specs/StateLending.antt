-- A page's state lends the bytes of its frame, if it has one.
use Rattle.std.specs.Prelude.{ℕ, List, Option, Some, None}
use Rattle.std.specs.Borrow.{LendsIf, MutBor, Fml, Array, u8, RattleType}
use Rattle.std.specs.declared.sync.ledger.Ledger.{Ghosts as LedgerGhosts}
use Rattle.swap_slots.specs.declared.slot.SwapSlot.{Ghosts as SlotGhosts}
use Rattle.page_store.specs.declared.state.State.{State}
use Rattle.page_store.specs.declared.state.State.TheVariants.{Fresh, Resident, Leaving, ResidentOut, LeavingOut, Saving, Away, Purged}
use Rattle.page_store.specs.contracts.state.State.{the_row}

abbrev pub lent_frame : {L : Type 0} {S : Type 0} → State L S → Option (List ℕ)
lent_frame Fresh = None
lent_frame (Resident frame slot) = Some frame.bytes
lent_frame (Leaving frame slot mark) = Some frame.bytes
lent_frame (ResidentOut frame) = Some frame.bytes
lent_frame (LeavingOut frame mark) = Some frame.bytes
lent_frame (Saving frame mark) = None
lent_frame (Away copy) = None
lent_frame Purged = None

abbrev pub with_bytes : {L : Type 0} {S : Type 0} → State L S → List ℕ → State L S
with_bytes Fresh bytes = Fresh
with_bytes (Resident frame slot) bytes = Resident (record frame { bytes = bytes }) slot
with_bytes (Leaving frame slot mark) bytes = Leaving (record frame { bytes = bytes }) slot mark
with_bytes (ResidentOut frame) bytes = ResidentOut (record frame { bytes = bytes })
with_bytes (LeavingOut frame mark) bytes = LeavingOut (record frame { bytes = bytes }) mark
with_bytes (Saving frame mark) bytes = Saving frame mark
with_bytes (Away copy) bytes = Away copy
with_bytes Purged bytes = Purged

module _ (L S : RattleType) (l : LedgerGhosts L.Denot) (s : SlotGhosts S.Denot) where
  abbrev pub LendsState : MutBor (State L.Denot S.Denot) → Option (MutBor (List ℕ)) → Fml
  LendsState state bytes = LendsIf (the_row L S l s) (Array u8 4096) state bytes (with_bytes state.now) state.now
