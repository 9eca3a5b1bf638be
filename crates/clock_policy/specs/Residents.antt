-- How many entries of the list are resident and pass a test of their keys: what ties the list to the pages that stand in frames.
use Rattle.std.specs.Prelude.{ℕ, Bool, true, false, ◌==◌, ◌&&◌, Option, Some, None, Result, Ok, Err}
use Rattle.clock_policy.specs.declared.key.Key.{Key}
use Rattle.clock_policy.specs.declared.entry.Entry.{Entry}
use Rattle.clock_policy.specs.declared.entry.EntryKind.{EntryKind}
use Rattle.clock_policy.specs.declared.entry.EntryKind.TheVariants.{Hot, Test, Cold, Shadow}
use Rattle.clock_policy.specs.declared.answer.Bit.{Bit}
use Rattle.clock_policy.specs.declared.answer.Bit.TheVariants.{Zero, One, Gone}
use Rattle.clock_policy.specs.declared.answer.Verdict.{Verdict}
use Rattle.clock_policy.specs.declared.answer.Verdict.TheVariants.{GoOn, Victim}
use Rattle.clock_policy.specs.declared.refusal.Refusal.{Refusal}
use Rattle.clock_policy.specs.ClockPro.{ClockState, number, kind_of}

abbrev pub in_frame : EntryKind → Bool
in_frame Hot = true
in_frame Test = true
in_frame Cold = true
in_frame Shadow = false

-- a resident entry whose key passes the test
abbrev pub is_resident_that : (Key → Bool) → Entry → Bool
is_resident_that r e = in_frame e.kind && r e.key

unfoldable pub residents : ClockState → (Key → Bool) → ℕ
residents s r = number (is_resident_that r) s.entries

-- the test that one key alone passes
abbrev pub is_key : Key → Key → Bool
is_key k q = (q.process == k.process) && (q.vpn == k.vpn)

abbrev pub found_in_frame : Option EntryKind → Bool
found_in_frame None = false
found_in_frame (Some kind) = in_frame kind

-- whether the list has the key's page as a resident one
abbrev pub has_resident : Key → ClockState → Bool
has_resident k s = found_in_frame (kind_of k s.entries)

abbrev pub is_gone : Bit → Bool
is_gone Zero = false
is_gone One = false
is_gone Gone = true

-- whether an answer takes the page of the question out of the resident ones: it was gone, or is the victim
abbrev pub takes : Bit → Result Verdict Refusal → Bool
takes bit (Ok GoOn) = is_gone bit
takes bit (Ok (Victim k)) = true
takes bit (Err e) = false
