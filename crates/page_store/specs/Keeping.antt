-- The slot that a page with a frame keeps, and what the page is backed by.
use Rattle.std.specs.Prelude.{Bool, true, false, Option, Some, None}
use Rattle.page_store.specs.CopyValue.{CopyValue}

-- no slot: it is backed by what it began with; a slot that holds the bytes which were last saved there: they back it; nothing backs it, with
-- its slot, if it has one: its last save failed or was in vain, or its cleaning ended so; the same while it is being cleaned; and the same
-- while a copy of it is out, with its slot
pub data Keeping (S : Type 0) : Type 0 where
  NoSlot : Keeping S
  Saved : CopyValue S → Keeping S
  Unbacked : Option S → Keeping S
  Cleaning : Option S → Keeping S
  CopyOut : Keeping S

-- the slot at hand, whether it holds the page or not
abbrev pub kept : {S : Type 0} → Keeping S → Option S
kept NoSlot = None
kept (Saved copy) = Some copy.slot
kept (Unbacked slot) = slot
kept (Cleaning slot) = slot
kept CopyOut = None

-- the page in a slot, where one was saved there
abbrev pub copy_in : {S : Type 0} → Keeping S → Option (CopyValue S)
copy_in NoSlot = None
copy_in (Saved copy) = Some copy
copy_in (Unbacked slot) = None
copy_in (Cleaning slot) = None
copy_in CopyOut = None

-- whether nothing backs the page
abbrev pub is_unbacked : {S : Type 0} → Keeping S → Bool
is_unbacked NoSlot = false
is_unbacked (Saved copy) = false
is_unbacked (Unbacked slot) = true
is_unbacked (Cleaning slot) = true
is_unbacked CopyOut = true

-- whether a copy of the page is out
abbrev pub is_copy_out : {S : Type 0} → Keeping S → Bool
is_copy_out NoSlot = false
is_copy_out (Saved copy) = false
is_copy_out (Unbacked slot) = false
is_copy_out (Cleaning slot) = false
is_copy_out CopyOut = true

-- whether stores may reach the page with no dirty bit to report them: nothing backs it, and no copy is out that would lack them
abbrev pub is_loose : {S : Type 0} → Keeping S → Bool
is_loose NoSlot = false
is_loose (Saved copy) = false
is_loose (Unbacked slot) = true
is_loose (Cleaning slot) = true
is_loose CopyOut = false

-- what a page keeps that begins to leave: a cleaning that has no copy ends
abbrev pub settled : {S : Type 0} → Keeping S → Keeping S
settled NoSlot = NoSlot
settled (Saved copy) = Saved copy
settled (Unbacked slot) = Unbacked slot
settled (Cleaning slot) = Unbacked slot
settled CopyOut = CopyOut
