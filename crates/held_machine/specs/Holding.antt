-- Holds of only a process's lock: the process is the one of its number, or no call was made.
use Rattle.std.specs.Prelude.{◌≡◌, ◌≢◌, ◌⊎◌, ℕ, Bool, true, false, nat_le, List, Option, Some, None}
use Rattle.std.specs.Option.{option_or}
use Rattle.flat_machine.specs.declared.end.KillCause.{KillCause}
use Rattle.flat_machine.specs.declared.end.KillCause.TheVariants.{NoSwap}
use Rattle.held_machine.specs.HeldValue.{HeldValue}
use Rattle.space_core.specs.declared.progress.Slice.{Slice}
use Rattle.held_machine.specs.Running.{may_go, NoticesHeld, KillsHeld, RunsHart}

module _ {S : Type 0} where
  pub record NoticesNumber (number hart : ℕ) (old new : HeldValue S) : Type 0 where
    pub process : old.side.memory.process ≡ number
    pub notices : NoticesHeld hart old new

  pub record KillsNumber (number : ℕ) (cause : KillCause) (old new : HeldValue S) : Type 0 where
    pub process : old.side.memory.process ≡ number
    pub kills : KillsHeld cause old new

  -- a process that was tried for as often as may be is killed; another one stays
  abbrev pub KillsWhere : Bool → HeldValue S → HeldValue S → Type 0
  KillsWhere true old new = KillsHeld NoSwap old new
  KillsWhere false old new = new ≡ old

  pub record KillsSpent (number most : ℕ) (spent : Bool) (old new : HeldValue S) : Type 0 where
    pub process : old.side.memory.process ≡ number
    pub tried : spent ≡ nat_le most old.tries
    pub kills : KillsWhere spent old new

  -- the process is another one: no call was made
  pub record IsElsewhere (number : ℕ) (old new : HeldValue S) : Type 0 where
    pub other : old.side.memory.process ≢ number
    pub stays : new ≡ old

  -- no call was made: the process is another one, or another hart of it is pressed
  pub record RunsNone (number hart : ℕ) (old new : HeldValue S) : Type 0 where
    pub why : (old.side.memory.process ≢ number) ⊎ (may_go hart old.pressed ≡ false)
    pub stays : new ≡ old

  -- a hart of the process of this number is pressed, unless one is already
  pub record PressesHart (number hart : ℕ) (old new : HeldValue S) : Type 0 where
    pub process : old.side.memory.process ≡ number
    pub held_is : new ≡ record old { pressed = option_or old.pressed (Some hart) }

  -- a hold of the process of a number, or of another one
  abbrev pub RunsWhere : (content : S → List ℕ) (honest : Type 0) (number hart budget : ℕ) → Option Slice → HeldValue S → HeldValue S → Type 0
  RunsWhere content honest number hart budget None old new = RunsNone number hart old new
  RunsWhere content honest number hart budget (Some slice) old new = RunsHart content honest number hart budget old new slice.ran slice.stop

  abbrev pub NoticesWhere : (number hart : ℕ) → Bool → HeldValue S → HeldValue S → Type 0
  NoticesWhere number hart false old new = IsElsewhere number old new
  NoticesWhere number hart true old new = NoticesNumber number hart old new

  abbrev pub PressesWhere : (number hart : ℕ) → Bool → HeldValue S → HeldValue S → Type 0
  PressesWhere number hart false old new = IsElsewhere number old new
  PressesWhere number hart true old new = PressesHart number hart old new

  abbrev pub KillsNumberWhere : (number : ℕ) (cause : KillCause) → Bool → HeldValue S → HeldValue S → Type 0
  KillsNumberWhere number cause false old new = IsElsewhere number old new
  KillsNumberWhere number cause true old new = KillsNumber number cause old new

  abbrev pub KillsSpentWhere : (number most : ℕ) → Option Bool → HeldValue S → HeldValue S → Type 0
  KillsSpentWhere number most None old new = IsElsewhere number old new
  KillsSpentWhere number most (Some spent) old new = KillsSpent number most spent old new
