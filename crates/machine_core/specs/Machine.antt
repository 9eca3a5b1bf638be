-- The whole machine: the pager, the free slots, the processes by their numbers, and the saves and the copies that are out.
use Rattle.std.specs.Prelude.{◌≡◌, ℕ, zero, suc, ◌+◌, ◌^◌, ◌<◌, ◌≤◌, Bool, true, cond, Some, slice_get, length, List, [], ◌∷◌, All}
use Rattle.clock_policy.specs.declared.key.Key.{Key}
use Rattle.clock_policy.specs.Lawful.{Lawful}
use Rattle.clock_policy.specs.Residents.{residents}
use Rattle.frame_pool.specs.FrameValue.{FrameValue}
use Rattle.machine_limits.specs.Limits.{most_processes}
use Rattle.page_store.specs.JobValue.{JobValue}
use Rattle.paged_memory.specs.cleaning.Copies.{CopyStands}
use Rattle.paged_memory.specs.moves.Stages.{is_saving_stage}
use Rattle.paged_memory.specs.Whole.{stage_in, frame_in, slots_within}
use Rattle.swap_slots.specs.PoolValue.{PoolValue}
use Rattle.machine_sides.specs.Sides.{PagerSideValue}
use Rattle.machine_sides.specs.Together.{frames_where, residents_in, savings_in, copies_in, frames_in, key_of}
use Rattle.space_core.specs.StandsFor.{SpaceValue}

pub record CoreValue (S : Type 0) : Type 0 where
  pub pager : PagerSideValue
  pub slots : PoolValue S
  pub processes : List (SpaceValue S)
  pub jobs : List (JobValue S)
  pub copies : List (JobValue S)

-- the sum of a number over all of a list
unfoldable pub total : {A : Type 0} → (A → ℕ) → List A → ℕ
total f [] = 0
total f (x ∷ xs) = f x + total f xs

-- how many numbers below a bound pass
unfoldable pub numbers_below : ℕ → (ℕ → Bool) → ℕ
numbers_below zero test = 0
numbers_below (suc n) test = cond (test n) 1 0 + numbers_below n test

module _ {S : Type 0} where
  -- how many of the saves that are out are of pages whose keys pass
  unfoldable pub jobs_where : (Key → Bool) → List (JobValue S) → ℕ
  jobs_where test jobs = total (λ job. cond (test (key_of job.process job.vpn)) 1 0) jobs

  -- a save's page is being saved, in a frame that holds what was copied
  pub record IsSaveOut (processes : List (SpaceValue S)) (job : JobValue S) : Type 0 where
    pub process : SpaceValue S
    pub frame : FrameValue
    pub small : job.vpn < 2 ^ 20
    pub found : slice_get processes job.process ≡ Some process
    pub saving : is_saving_stage (stage_in process.memory job.vpn) ≡ true
    pub framed : frame_in process.memory job.vpn ≡ Some frame
    pub same : frame.bytes ≡ job.copy

  -- a copy that is out represents its page: unless the page's dirty bit shows a later store, its frame holds what was copied
  pub record IsCopyOut (processes : List (SpaceValue S)) (job : JobValue S) : Type 0 where
    pub process : SpaceValue S
    pub small : job.vpn < 2 ^ 20
    pub found : slice_get processes job.process ≡ Some process
    pub stands : CopyStands job.vpn job.copy process.memory

  -- The list's resident entries are the processes' resident pages. Each frame's number occurs once, among the free frames or in
  -- one page. The saves that are out are of the pages that are being saved. The copies are of the pages of which one is out. No
  -- slot is lost.
  pub record IsMachine (core : CoreValue S) : Type 0 where
    pub lawful : Lawful core.pager.pager.list
    pub frames : core.pager.pager.list.frames ≡ core.pager.pager.size
    pub numbered : (number : ℕ) (process : SpaceValue S) → slice_get core.processes number ≡ Some process → process.memory.process ≡ number
    pub few : length core.processes ≤ most_processes
    pub listed : (test : Key → Bool) → residents core.pager.pager.list test ≡ total (λ (process : SpaceValue S). residents_in process test) core.processes
    pub framed : (test : ℕ → Bool) → frames_where test core.pager.pager.free + total (λ (process : SpaceValue S). frames_in process test) core.processes ≡ numbers_below core.pager.pager.size test
    pub saved : (test : Key → Bool) → jobs_where test core.jobs ≡ total (λ (process : SpaceValue S). savings_in process test) core.processes
    pub out : All (IsSaveOut core.processes) core.jobs
    pub copied : (test : Key → Bool) → jobs_where test core.copies ≡ total (λ (process : SpaceValue S). copies_in process test) core.processes
    pub copies_out : All (IsCopyOut core.processes) core.copies
    pub slotted : length core.slots.free + (total (λ (process : SpaceValue S). slots_within process.memory) core.processes + (length core.jobs + length core.copies)) ≡ core.slots.size
