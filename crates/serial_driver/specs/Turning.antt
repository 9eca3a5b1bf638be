-- Whose turn it is among the harts, and how much of a slice is left of it.
use Rattle.std.specs.Prelude.{◌≡◌, ℕ, ◌-◌, ◌<◌, ◌==◌, ⊤, Bool, true, false, length, Option, Some, None, if◌then◌else◌}
use Rattle.clock_policy.specs.declared.key.Key.{Key}
use Rattle.machine_core.specs.Machine.{CoreValue}
use Rattle.machine_core.specs.declared.event.Event.{Event}
use Rattle.machine_core.specs.declared.event.Event.TheVariants.{Step, Notice, Sweep, Collect, Saved, PageIn, Kill, Purge}
use Rattle.machine_core.specs.declared.event.Reply.{Reply}
use Rattle.machine_core.specs.declared.event.Reply.TheVariants as reply
use Rattle.serial_driver.specs.Rounds.{IsLeastAbove, IsNextHart, NoneAbove}

-- A turn begins with the first instruction of a hart, the next one after the last that had a turn, if one had. That hart runs on. Its turn
-- is over, and it drops its translations; or it waits for the page that its last step found absent, or is gone. While it waits, the live
-- harts of a victim's process drop theirs one after another, each recorded as the last, and then the victim is looked at.
pub data Phase : Type 0 where
  Begins : Option ℕ → Phase
  Runs : Phase
  Rests : Phase
  Waits : Phase
  Clears : Key → Option ℕ → Phase

pub record Turn : Type 0 where
  pub slice : ℕ
  pub process : ℕ
  pub hart : ℕ
  pub left : ℕ
  -- the page that a step found absent last, which is the one that a hart waits for
  pub wanted : ℕ
  pub phase : Phase

-- at first a whole slice is left to the hart that will run
abbrev pub first_turn : ℕ → Turn
first_turn slice = record { slice = slice; process = 0; hart = 0; left = slice; wanted = 0; phase = Begins None }

-- the turn of another hart begins
abbrev pub begun : Turn → Turn
begun turn = record { slice = turn.slice; process = turn.process; hart = turn.hart; left = turn.slice; wanted = turn.wanted; phase = Begins (Some turn.hart) }

-- the page that its hart waits for
abbrev pub wanted_of : Turn → Key
wanted_of turn = record { process = turn.process; vpn = turn.wanted }

-- the hart waits
abbrev pub waiting : Turn → Turn
waiting turn = record { slice = turn.slice; process = turn.process; hart = turn.hart; left = turn.left; wanted = turn.wanted; phase = Waits }

-- it waits, and a page is to leave its frame, whose process's harts drop their translations up to the last one
abbrev pub clearing : Key → Option ℕ → Turn → Turn
clearing victim last turn = record { slice = turn.slice; process = turn.process; hart = turn.hart; left = turn.left; wanted = turn.wanted; phase = Clears victim last }

-- with nothing left of its slice a hart rests
abbrev pub resting : ℕ → Phase
resting left = if left == 0 then Rests else Runs

-- a hart's turn, of which so much is left
abbrev pub ran_turn : ℕ → ℕ → ℕ → ℕ → ℕ → Turn
ran_turn process hart slice left wanted = record { slice = slice; process = process; hart = hart; left = left; wanted = wanted; phase = resting left }

-- The same after a step of a hart, from what was left of a slice: an instruction that ran is one of the slice, and one that yields or that
-- ends the hart ends the turn. Where a page is absent the hart waits for this one.
abbrev pub step_turn : ℕ → ℕ → Reply → ℕ → ℕ → ℕ → Turn
step_turn process hart reply.Ran slice left wanted = ran_turn process hart slice (left - 1) wanted
step_turn process hart reply.Yielded slice left wanted = record { slice = slice; process = process; hart = hart; left = left - 1; wanted = wanted; phase = Rests }
step_turn process hart reply.HartDone slice left wanted = record { slice = slice; process = process; hart = hart; left = slice; wanted = wanted; phase = Begins (Some hart) }
step_turn process hart (reply.Absent page) slice left wanted = record { slice = slice; process = process; hart = hart; left = left; wanted = page; phase = Waits }
step_turn process hart _ slice left wanted = record { slice = slice; process = process; hart = hart; left = left; wanted = wanted; phase = Waits }

-- a hart that rests and drops its translations makes room for another; one of a victim's process was the last that did
abbrev pub noticed_in : Phase → ℕ → Turn → Turn
noticed_in Waits hart turn = waiting turn
noticed_in (Clears victim last) hart turn = clearing victim (Some hart) turn
noticed_in _ hart turn = begun turn

-- a question may name a victim
abbrev pub swept_turn : Reply → Turn → Turn
swept_turn (reply.Victim key) turn = clearing key None turn
swept_turn _ turn = waiting turn

-- a hart whose page came in runs on
abbrev pub paged_in : Bool → Turn → Turn
paged_in true turn = record { slice = turn.slice; process = turn.process; hart = turn.hart; left = turn.left; wanted = turn.wanted; phase = Runs }
paged_in false turn = waiting turn

-- one whose process is gone makes room
abbrev pub gone_if : Bool → Turn → Turn
gone_if true turn = begun turn
gone_if false turn = waiting turn

abbrev pub purged_in : ℕ → Turn → Turn
purged_in process turn = gone_if (process == turn.process) turn

module _ {S : Type 0} (honest : Type 0) (core : CoreValue S) where
  -- which hart may run
  abbrev pub MayStep : Phase → Turn → ℕ → ℕ → Type 0
  MayStep (Begins last) turn process hart = IsNextHart honest core turn.process last process hart
  MayStep Runs turn process hart = (process ≡ turn.process) × (hart ≡ turn.hart)
  MayStep _ turn process hart = ⊥

module _ {S : Type 0} (core : CoreValue S) where
  -- which may drop its translations: the one whose turn is over, or, while one waits, the next live one of the victim's process
  abbrev pub MayNotice : Phase → Turn → ℕ → ℕ → Type 0
  MayNotice Rests turn process hart = (process ≡ turn.process) × (hart ≡ turn.hart)
  MayNotice (Clears victim last) turn process hart = (process ≡ victim.process) × IsLeastAbove core victim.process last hart
  MayNotice _ turn process hart = ⊥

  -- which page may be looked at: the victim, once each live hart of its process has dropped its translations
  abbrev pub MayCollect : Phase → Key → Type 0
  MayCollect (Clears victim last) key = (key ≡ victim) × NoneAbove core victim.process last
  MayCollect _ key = ⊥

-- a process may be ended, and may give back what it has, at any time; no other event is a part of a run
abbrev pub EndsProcess : Event → Type 0
EndsProcess (Kill process cause) = ⊤
EndsProcess (Purge process) = ⊤
EndsProcess _ = ⊥

module _ {S : Type 0} (honest : Type 0) where
  -- An event comes in turn, in the machine that it finds: a hart runs till nothing is left of its slice, or till it yields, and drops its
  -- translations then; while it waits, victims are sought where no frame is free, and where one is the page that it waits for comes in.
  abbrev pub IsInTurn : CoreValue S → Turn → Event → Type 0
  IsInTurn core turn (Step process hart) = MayStep honest core turn.phase turn process hart
  IsInTurn core turn (Notice process hart) = MayNotice core turn.phase turn process hart
  IsInTurn core turn Sweep = (turn.phase ≡ Waits) × (length core.pager.pager.free ≡ 0)
  IsInTurn core turn (Collect key) = MayCollect core turn.phase key
  IsInTurn core turn (Saved key) = turn.phase ≡ Waits
  IsInTurn core turn (PageIn key) = (turn.phase ≡ Waits) × ((key ≡ wanted_of turn) × (0 < length core.pager.pager.free))
  IsInTurn core turn event = EndsProcess event
