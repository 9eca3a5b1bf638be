-- The hot answer and the purge told move by move, one entry at a time. For the hot answer the front is passed until the entry that is
-- asked stands there.
use Rattle.std.specs.Prelude.{ℕ, zero, suc, cond, Some, List, [], ◌∷◌, ◌++◌, take, drop}
use Rattle.clock_policy.specs.declared.key.Key.{Key}
use Rattle.clock_policy.specs.declared.entry.Entry.{Entry}
use Rattle.clock_policy.specs.declared.entry.EntryKind.{EntryKind}
use Rattle.clock_policy.specs.declared.entry.EntryKind.TheVariants.{Hot, Test, Cold, Shadow}
use Rattle.clock_policy.specs.declared.answer.Bit.{Bit}
use Rattle.clock_policy.specs.declared.answer.Bit.TheVariants.{Zero, One, Gone}
use Rattle.clock_policy.specs.ClockPro.{ClockState, removed, marked, fallen, is_of_process}

-- the front becomes the last, and hands on it stay on it
unfoldable pub front_turned : ClockState → ClockState
front_turned s = record s { entries = drop 1 s.entries ++ take 1 s.entries }

-- the hot hand passes a front of this kind
abbrev pub kind_passed : EntryKind → Key → ClockState → ClockState
kind_passed Hot k s = front_turned s
kind_passed Test k s = fallen 1 (front_turned (marked k Cold s))
kind_passed Cold k s = front_turned s
kind_passed Shadow k s = fallen 1 (removed k s)

abbrev pub passed_of : List Entry → ClockState → ClockState
passed_of [] s = s
passed_of (e ∷ es) s = kind_passed e.kind e.key s

abbrev pub front_passed : ClockState → ClockState
front_passed s = passed_of s.entries s

abbrev pub fronts_passed : ℕ → ClockState → ClockState
fronts_passed zero s = s
fronts_passed (suc n) s = fronts_passed n (front_passed s)

-- the hot entry of the key stands at the front, and is answered
abbrev pub front_answered : Bit → Key → ClockState → ClockState
front_answered Zero k s = front_turned (marked k Cold s)
front_answered One k s = front_turned s
front_answered Gone k s = removed k s

-- the entries of a process go one after another, in the order of a list
abbrev pub removed_of : ℕ → Entry → ClockState → ClockState
removed_of process e s = cond (is_of_process process e) (removed e.key s) s

abbrev pub each_removed : ℕ → List Entry → ClockState → ClockState
each_removed process [] s = s
each_removed process (e ∷ es) s = each_removed process es (removed_of process e s)

-- the test hand is set on an entry
unfoldable pub test_hand_on : Key → ClockState → ClockState
test_hand_on k s = record s { test_hand = Some k }

-- From the test hand on, in the order of a list, each test ends. The first shadow goes with the test hand on it, and ends this.
abbrev pub kind_ended : EntryKind → Key → (ClockState → ClockState) → ClockState → ClockState
kind_ended Hot k more s = more s
kind_ended Test k more s = more (fallen 1 (marked k Cold s))
kind_ended Cold k more s = more s
kind_ended Shadow k more s = fallen 1 (removed k (test_hand_on k s))

abbrev pub each_ended : List Entry → ClockState → ClockState
each_ended [] s = s
each_ended (e ∷ es) s = kind_ended e.kind e.key (each_ended es) s
