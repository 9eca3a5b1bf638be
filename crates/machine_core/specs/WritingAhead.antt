-- A page is written ahead: between the copy that is taken of it and the copy's return as one that backs the page, no instruction stores
-- to the page.
use Rattle.std.specs.Prelude.{◌≡◌, ◌≢◌, ℕ, true, List, Some, slice_get, All, Contains}
use Rattle.clock_policy.specs.declared.key.Key.{Key}
use Rattle.space_core.specs.Next.{next_stores}
use Rattle.space_core.specs.Slicing.{shown_process}
use Rattle.space_core.specs.StandsFor.{SpaceValue}
use Rattle.machine_core.specs.Applying.{Applies, Runs}
use Rattle.machine_core.specs.Headline.{has_run}
use Rattle.machine_core.specs.Machine.{CoreValue}
use Rattle.machine_core.specs.declared.event.Event.{Event}
use Rattle.machine_core.specs.declared.event.Event.TheVariants as event
use Rattle.machine_core.specs.declared.event.Reply.{Reply}
use Rattle.machine_core.specs.declared.event.Reply.TheVariants as reply

module _ {S : Type 0} (held : S → List ℕ) (honest : Type 0) (failures : S → ℕ) (key : Key) where
  -- some events lead from one machine to the other, of which none is the return of a copy of the page
  pub record LeadsMeanwhile (old new : CoreValue S) : Type 0 where
    pub events : List Event
    pub replies : List Reply
    pub runs : Runs held honest failures events replies old new
    pub none_back : All (λ happened. happened ≢ event.Cleaned key) events

  -- an instruction runs that stores to the page
  pub record StoresTo (old new : CoreValue S) : Type 0 where
    pub hart : ℕ
    pub answer : Reply
    pub steps : Applies held honest failures (event.Step key.process hart) old new answer
    pub ran : has_run answer ≡ true
    pub process : SpaceValue S
    pub found : slice_get old.processes key.process ≡ Some process
    pub stores : Contains (next_stores hart (shown_process held process)) key.vpn

  -- one does between the copy that is taken of the page and its return as one that backs the page
  pub record StoresBetween (before copied stepping stepped returning after : CoreValue S) : Type 0 where
    pub goes_out : Applies held honest failures (event.Copy key) before copied reply.Copied
    pub first : LeadsMeanwhile copied stepping
    pub stores : StoresTo stepping stepped
    pub later : LeadsMeanwhile stepped returning
    pub comes_back : Applies held honest failures (event.Cleaned key) returning after reply.Cleaned
