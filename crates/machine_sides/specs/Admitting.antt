-- A page is admitted to a frame, and the admission taken back where the page does not come in.
use Rattle.std.specs.Prelude.{◌≡◌, ℕ, ◌^◌, ◌++◌, [], ◌∷◌, Bool, true, false, is_some, nat_lt, length, Option, Some, None, option_map, if◌then◌else◌}
use Rattle.clock_policy.specs.declared.key.Key.{Key}
use Rattle.clock_policy.specs.ClockPro.{ClockState, kind_of, withdrawn}
use Rattle.clock_policy.specs.Lawful.{Lawful}
use Rattle.frame_pool.specs.FrameValue.{FrameValue}
use Rattle.page_store.specs.declared.state.PageState.{PageState}
use Rattle.paged_memory.specs.moves.Stages.{is_absent_stage, is_resident_stage}
use Rattle.paged_memory.specs.Whole.{stage_in}
use Rattle.pager_core.specs.declared.refusal.AdmitRefusal.{AdmitRefusal}
use Rattle.pager_core.specs.declared.refusal.AdmitRefusal.TheVariants as pager
use Rattle.pager_core.specs.Pager.{PagerState, admission_refused, admitted_with}
use Rattle.space_core.specs.StandsFor.{SpaceValue}
use Rattle.machine_sides.specs.Sides.{PagerSideValue}
use Rattle.machine_sides.specs.declared.admission.NotAdmitted.{NotAdmitted}
use Rattle.machine_sides.specs.declared.admission.NotAdmitted.TheVariants.{Ended, NotAbsent, AlreadyResident, NoFrame, NoMemory}

-- a page that was admitted and is not yet mapped, with the frame that it is to have
pub record AdmissionValue : Type 0 where
  pub key : Key
  pub frame : FrameValue

-- why the pager does not admit a page
abbrev pub pager_refusal : AdmitRefusal → NotAdmitted
pager_refusal pager.AlreadyResident = AlreadyResident
pager_refusal pager.NoFrame = NoFrame
pager_refusal pager.NoMemory = NoMemory

-- the first reason, of the process's and the pager's
abbrev pub bars_from : Option NotAdmitted → Option AdmitRefusal → Option NotAdmitted
bars_from (Some reason) refusal = Some reason
bars_from None refusal = option_map pager_refusal refusal

-- the reason that a refusal reports: a lack of memory counts as none
abbrev pub told_by : NotAdmitted → Option NotAdmitted
told_by Ended = Some Ended
told_by NotAbsent = Some NotAbsent
told_by AlreadyResident = Some AlreadyResident
told_by NoFrame = Some NoFrame
told_by NoMemory = None

module _ {S : Type 0} where
  -- where the page of a number is, whatever the number
  abbrev pub stage_at : SpaceValue S → ℕ → Option PageState
  stage_at space vpn = if nat_lt vpn (2 ^ 20) then stage_in space.memory vpn else None

  abbrev pub is_absent_at : SpaceValue S → ℕ → Bool
  is_absent_at space vpn = is_absent_stage (stage_at space vpn)

  abbrev pub is_resident_at : SpaceValue S → ℕ → Bool
  is_resident_at space vpn = is_resident_stage (stage_at space vpn)

  -- why a page of a process is not admitted, by the reasons of the process
  unfoldable pub page_bars : SpaceValue S → ℕ → Option NotAdmitted
  page_bars space vpn = if is_some space.running.ending then Some Ended else (if is_absent_at space vpn then None else Some NotAbsent)

  -- the same with the reasons of the pager, except a lack of memory: the first reason that holds
  unfoldable pub bars : Key → PagerState → SpaceValue S → Option NotAdmitted
  bars key state space = bars_from (page_bars space key.vpn) (admission_refused key state)

  -- the page is listed, and the frame taken, whole
  pub record Admits (key : Key) (old new : PagerSideValue) (space : SpaceValue S) (admission : AdmissionValue) : Type 0 where
    pub allowed : bars key old.pager space ≡ None
    pub key_is : admission.key ≡ key
    pub taken : old.pager.free ≡ new.pager.free ++ admission.frame ∷ []
    pub whole : length admission.frame.bytes ≡ 4096
    pub pager_is : new ≡ record old { pager = admitted_with key new.pager.free old.pager }
    pub lawful : Lawful new.pager.list

  -- it is refused for the first reason that holds, or, where none does and the list has no entry of the page, for want of memory
  -- for that entry
  pub record DoesNotAdmit (key : Key) (old new : PagerSideValue) (space : SpaceValue S) (refusal : NotAdmitted) : Type 0 where
    pub why : bars key old.pager space ≡ told_by refusal
    pub grows : refusal ≡ NoMemory → kind_of key old.pager.list.entries ≡ None
    pub stays : new ≡ old

-- the list once an admission was taken back: a page that came in by another way stays
abbrev pub taken_back : Bool → Key → ClockState → ClockState
taken_back true key list = list
taken_back false key list = (withdrawn key list).0
