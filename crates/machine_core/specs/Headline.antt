-- Paging is invisible: after every event of a run, each process shows what its instructions compute on flat memory.
use Rattle.std.specs.Prelude.{◌≡◌, ℕ, ◌^◌, ◌<◌, ◌++◌, ◌&&◌, ◌==◌, Bool, true, false, List, [], ◌∷◌, Some, Ok, slice_get, if◌then◌else◌}
use Rattle.clock_policy.specs.ClockPro.{question_of, answered}
use Rattle.clock_policy.specs.Residents.{residents}
use Rattle.clock_policy.specs.declared.answer.Bit.{Bit}
use Rattle.clock_policy.specs.declared.answer.Verdict.TheVariants as verdict
use Rattle.clock_policy.specs.declared.key.Key.{Key}
use Rattle.elf_image.specs.Image.{ImageContent}
use Rattle.flat_machine.specs.Process.{Process, opening, flat_run}
use Rattle.flat_machine.specs.Schedule.{written_out}
use Rattle.machine_core.specs.Applying.{Applies}
use Rattle.machine_core.specs.declared.event.Event.{Event}
use Rattle.machine_core.specs.declared.event.Event.TheVariants as event
use Rattle.machine_core.specs.declared.event.Reply.{Reply}
use Rattle.machine_core.specs.declared.event.Reply.TheVariants as reply
use Rattle.machine_core.specs.Machine.{CoreValue, total}
use Rattle.elf_image.specs.Start.{Start}
use Rattle.machine_core.specs.Opening.{MachineBegins}
use Rattle.machine_sides.specs.Sweeping.{bit_at}
use Rattle.machine_sides.specs.Together.{residents_in}
use Rattle.paged_memory.specs.Showing.{mapped_page, rights_of, is_given_up}
use Rattle.paged_memory.specs.Whole.{rights_in, shown_in}
use Rattle.space_core.specs.StandsFor.{SpaceValue, own_ending}

-- whether a step that is answered so ran its instruction
abbrev pub has_run : Reply → Bool
has_run reply.Ran = true
has_run reply.Yielded = true
has_run reply.HartDone = true
has_run reply.Ended = true
has_run _ = false

-- the hart that an event adds to the recorded order of a process: that of a step of this process which ran, and none else
abbrev pub adds : ℕ → Event → Reply → List ℕ
adds number (event.Step process hart) answer = if has_run answer && (number == process) then hart ∷ [] else []
adds number _ answer = []

-- the harts of a process's steps that ran, in order
unfoldable pub order_of : ℕ → List Event → List Reply → List ℕ
order_of number [] answers = []
order_of number (happened ∷ events) [] = []
order_of number (happened ∷ events) (answer ∷ answers) = adds number happened answer ++ order_of number events answers

module _ {S : Type 0} where
  -- a process goes on from the same image and input, with these harts added to its recorded order
  pub record GoesOn (added : List ℕ) (old new : SpaceValue S) : Type 0 where
    pub image : new.image ≡ old.image
    pub input : new.input ≡ old.input
    pub recorded : written_out new.schedule ≡ written_out old.schedule ++ added

  -- a process that was there goes on
  pub record Remains (number : ℕ) (added : List ℕ) (new : List (SpaceValue S)) (old : SpaceValue S) : Type 0 where
    pub process : SpaceValue S
    pub found : slice_get new number ≡ Some process
    pub goes_on : GoesOn added old process

  -- the victim is the page that the list asks for, and the list's answer to that page's accessed bit
  pub record IsNamed (old new : CoreValue S) (key : Key) : Type 0 where
    pub process : SpaceValue S
    pub found : slice_get old.processes key.process ≡ Some process
    pub asked : question_of old.pager.pager.list ≡ Some key
    pub bit : Bit
    pub as_asked : bit_at process key.vpn ≡ bit
    pub named : (answered bit old.pager.pager.list).1 ≡ Ok (verdict.Victim key)
    pub list : new.pager.pager.list ≡ (answered bit old.pager.pager.list).0

module _ {S : Type 0} (held : S → List ℕ) where
  -- a process shows the flat process that an image and an input become by instructions of these harts, in this order: its registers;
  -- its output, input left and break; its ending, but that one that the machine killed has none on flat memory; which pages are
  -- mapped, and with which rights; the bytes of each page that was not given up; and the words that its harts have reserved
  pub record ShowsFlatRun (image : ImageContent) (input harts : List ℕ) (space : SpaceValue S) : Type 0 where
    pub flat : Process
    pub ran : flat_run harts (opening image input) ≡ Some flat
    pub registers : space.running.harts ≡ flat.harts
    pub environment : space.running.environment ≡ flat.environment
    pub ending : own_ending space.running.ending ≡ flat.ending
    pub mapped : (number : ℕ) → number < 2 ^ 20 → rights_in space.memory number ≡ rights_of (mapped_page flat.memory number)
    pub memory : (number : ℕ) → number < 2 ^ 20 → is_given_up space.memory number ≡ false → mapped_page flat.memory number ≡ shown_in held space.memory number
    pub reserved : space.memory.reserved ≡ flat.memory.reserved

  -- the process of a number, in a machine that began with this start of it, shows what the steps of a run leave that ran
  pub record ShowsRun (number : ℕ) (start : Start) (events : List Event) (answers : List Reply) (processes : List (SpaceValue S)) : Type 0 where
    pub process : SpaceValue S
    pub found : slice_get processes number ≡ Some process
    pub recorded : written_out process.schedule ≡ order_of number events answers
    pub shows : ShowsFlatRun start.image start.input (order_of number events answers) process

module _ {S : Type 0} (held : S → List ℕ) (honest : Type 0) where
  -- what holds of the machine after an event, by the machine before it
  pub record IsInvisible (happened : Event) (answer : Reply) (old new : CoreValue S) : Type 0 where
    pub shown : honest → (number : ℕ) (process : SpaceValue S) → slice_get new.processes number ≡ Some process → ShowsFlatRun held process.image process.input (written_out process.schedule) process
    pub recorded : (number : ℕ) (process : SpaceValue S) → slice_get old.processes number ≡ Some process → Remains number (adds number happened answer) new.processes process
    pub listed : (test : Key → Bool) → residents new.pager.pager.list test ≡ total (λ (process : SpaceValue S). residents_in process test) new.processes
    pub victim : (key : Key) → answer ≡ reply.Victim key → IsNamed old new key

module _ {S : Type 0} (held : S → List ℕ) (honest : Type 0) (failures : S → ℕ) where
  -- an event of a run does what is written of it, and leaves paging invisible
  pub record HappensInvisibly (happened : Event) (answer : Reply) (old new : CoreValue S) : Type 0 where
    pub applies : Applies held honest failures happened old new answer
    pub invisible : IsInvisible held honest happened answer old new

  -- the same of every event of a run, one after another
  unfoldable pub AfterEach : List Event → List Reply → CoreValue S → CoreValue S → Type 0
  AfterEach [] [] old new = new ≡ old
  AfterEach [] (answer ∷ answers) old new = ⊥
  AfterEach (happened ∷ events) [] old new = ⊥
  AfterEach (happened ∷ events) (answer ∷ answers) old new = (between : CoreValue S) × (HappensInvisibly happened answer old between × AfterEach events answers between new)

  -- Whatever events come in whatever order: it holds of each; and in a machine that has just begun, each process shows in the
  -- end what the manual's instructions make of its image and its input on flat memory, in the order of its steps that ran.
  pub record PagingIsInvisible (events : List Event) (answers : List Reply) (old new : CoreValue S) : Type 0 where
    pub each : AfterEach events answers old new
    pub whole : (frames : ℕ) (free : List S) (starts : List Start) → MachineBegins frames free starts old → honest
        → (number : ℕ) (start : Start) → slice_get starts number ≡ Some start → ShowsRun held number start events answers new.processes
