-- What translation sees of a page: its rights, and which frame it holds.
use Rattle.std.specs.Prelude.{ℕ, Bool, false, ◌||◌, Option, Some, None}
use Rattle.page_memory.specs.declared.rights.Rights.{Rights}
use Rattle.sv32_table.specs.Entry.{Entry, blank, page_entry}

-- a page that is resident in the frame of this number; one that is unmapped and holds that frame still, with the dirty bit that its entry
-- had; and one that no translation may lead to. The last of the first two says whether nothing backs the page and no copy of it is out, so
-- that stores may reach it whatever its dirty bit is.
pub data Standing : Type 0 where
  Resident : ℕ → Bool → Standing
  Leaving : ℕ → Bool → Bool → Standing
  Elsewhere : Standing

pub record Seen : Type 0 where
  pub rights : Rights
  pub standing : Standing

-- the table entry that a page has, by its A and D
abbrev pub entry_standing : Rights → Standing → Bool → Bool → Entry
entry_standing rights (Resident frame loose) accessed dirty = page_entry frame rights accessed dirty
entry_standing rights (Leaving frame mark loose) accessed dirty = blank
entry_standing rights Elsewhere accessed dirty = blank

abbrev pub entry_seen : Option Seen → Bool → Bool → Entry
entry_seen (Some seen) accessed dirty = entry_standing seen.rights seen.standing accessed dirty
entry_seen None accessed dirty = blank

-- the frame that a page holds
abbrev pub frame_standing : Standing → Option ℕ
frame_standing (Resident frame loose) = Some frame
frame_standing (Leaving frame mark loose) = Some frame
frame_standing Elsewhere = None

abbrev pub frame_seen : Option Seen → Option ℕ
frame_seen (Some seen) = frame_standing seen.standing
frame_seen None = None

abbrev pub rights_seen : Option Seen → Option Rights
rights_seen (Some seen) = Some seen.rights
rights_seen None = None

-- whether a page is marked as dirty: its D is set while it is resident, or the mark that it took along while it leaves; elsewhere it has neither
abbrev pub dirty_standing : Standing → Entry → Bool
dirty_standing (Resident frame loose) e = e.dirty
dirty_standing (Leaving frame mark loose) e = mark
dirty_standing Elsewhere e = false

abbrev pub is_dirty : Option Seen → Entry → Bool
is_dirty (Some seen) e = dirty_standing seen.standing e
is_dirty None e = false

-- whether stores may reach a page: its dirty bit or its mark reports them, or they need not be reported
abbrev pub is_loose_standing : Standing → Bool
is_loose_standing (Resident frame loose) = loose
is_loose_standing (Leaving frame mark loose) = loose
is_loose_standing Elsewhere = false

abbrev pub loose_seen : Option Seen → Bool
loose_seen (Some seen) = is_loose_standing seen.standing
loose_seen None = false

abbrev pub takes_stores : Option Seen → Entry → Bool
takes_stores page e = is_dirty page e || loose_seen page

-- whether a page's use is marked: it is resident, and its A is set
abbrev pub used_standing : Standing → Entry → Bool
used_standing (Resident frame loose) e = e.accessed
used_standing (Leaving frame mark loose) e = false
used_standing Elsewhere e = false

abbrev pub is_used : Option Seen → Entry → Bool
is_used (Some seen) e = used_standing seen.standing e
is_used None e = false
