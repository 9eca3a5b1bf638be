-- What is done to a process under only its lock, and what is published of it then.
use Rattle.std.specs.Prelude.{◌≡◌, ℕ, ◌==◌, Bool, true, List, Option, None, Some, if◌then◌else◌}
use Rattle.flat_machine.specs.declared.end.KillCause.{KillCause}
use Rattle.machine_sides.specs.Admitting.{AdmissionValue}
use Rattle.machine_sides.specs.Loading.{Loads, DoesNotLoad}
use Rattle.space_core.specs.StandsFor.{SpaceValue}
use Rattle.machine_sides.specs.ProcessCalls.{Slices, TakesNotices, IsKilled}
use Rattle.pager_core.specs.Pager.{tallied}
use Rattle.paged_memory.specs.declared.filling.PageInFault.{PageInFault}
use Rattle.space_core.specs.declared.progress.SliceStop.{SliceStop}
use Rattle.held_machine.specs.HeldValue.{HeldValue, status_of}

-- the tries of a process after a slice: they begin anew where an instruction ran
abbrev pub tries_after : ℕ → ℕ → ℕ
tries_after ran tries = if ran == 0 then tries else 0

-- which hart is pressed after a slice: none where an instruction ran
abbrev pub pressed_after : ℕ → Option ℕ → Option ℕ
pressed_after ran pressed = if ran == 0 then pressed else None

-- whether a hart may run: no other one is pressed
abbrev pub may_go : ℕ → Option ℕ → Bool
may_go hart None = true
may_go hart (Some pressed) = pressed == hart

module _ {S : Type 0} where
  -- what is published is how far the process has come
  abbrev pub Publishes : HeldValue S → HeldValue S → Type 0
  Publishes old new = new.writer ≡ record old.writer { last = status_of new.side }

  -- a hart's slice, after which it drops its translations that are to be dropped; what it came to is published last
  pub record SlicesHeld (content : S → List ℕ) (honest : Type 0) (hart budget : ℕ) (old new : HeldValue S) (ran : ℕ) (why : SliceStop) : Type 0 where
    pub between : SpaceValue S
    pub slice : Slices content honest hart budget old.side between ran why
    pub notices : TakesNotices hart between new.side
    pub published : Publishes old new
    pub tries : new.tries ≡ tries_after ran old.tries
    pub cleans : new.cleans ≡ old.cleans
    pub pressed : new.pressed ≡ pressed_after ran old.pressed

  -- a hart drops its translations that are to be dropped
  pub record NoticesHeld (hart : ℕ) (old new : HeldValue S) : Type 0 where
    pub notices : TakesNotices hart old.side new.side
    pub held_is : new ≡ record old { side = new.side }

  -- a slice of a hart of the process of this number, of which no other hart is pressed
  pub record RunsHart (content : S → List ℕ) (honest : Type 0) (number hart budget : ℕ) (old new : HeldValue S) (ran : ℕ) (why : SliceStop) : Type 0 where
    pub process : old.side.memory.process ≡ number
    pub may_run : may_go hart old.pressed ≡ true
    pub slice : SlicesHeld content honest hart budget old new ran why

  -- the machine ends the process, which is published
  pub record KillsHeld (cause : KillCause) (old new : HeldValue S) : Type 0 where
    pub killed : IsKilled cause old.side new.side
    pub published : Publishes old new
    pub tries : new.tries ≡ old.tries
    pub cleans : new.cleans ≡ old.cleans
    pub pressed : new.pressed ≡ old.pressed

  -- an admitted page is loaded and mapped, or the admission comes back; either counts as a try
  pub record LoadsHeld (content : S → List ℕ) (honest : Type 0) (admission : AdmissionValue) (old new : HeldValue S) : Type 0 where
    pub loads : Loads content honest admission old.side new.side
    pub held_is : new ≡ record old { side = new.side; tries = tallied old.tries }

  pub record DoesNotLoadHeld (content : S → List ℕ) (honest : Type 0) (failures : S → ℕ) (admission back : AdmissionValue) (fault : PageInFault) (old new : HeldValue S) : Type 0 where
    pub refuses : DoesNotLoad content honest failures admission back fault old.side new.side
    pub held_is : new ≡ record old { side = new.side; tries = tallied old.tries }
