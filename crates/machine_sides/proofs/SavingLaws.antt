-- A save that comes back keeps list, pages and frames together.
use Rattle.std.proofs.Common.{◌≡◌, ℕ, ◌+◌, Bool, false, cond, List, [], ◌∷◌, ◌++◌, refl, sym, ap, ◌∙◌, arith, subst}
use Rattle.clock_policy.specs.declared.key.Key.{Key}
use Rattle.clock_policy.specs.Lawful.{Lawful}
use Rattle.clock_policy.specs.Residents.{residents}
use Rattle.frame_pool.specs.FrameValue.{FrameValue}
use Rattle.page_store.specs.JobValue.{SavedValue}
use Rattle.paged_memory.proofs.move_laws.LeaveLaws.{returned}
use Rattle.paged_memory.specs.cleaning.Copies.{LeavesCopies}
use Rattle.paged_memory.proofs.cleaning_laws.CopiesToldLaws.{leaves_on}
use Rattle.paged_memory.specs.moves.Moving.{SamePage}
use Rattle.paged_memory.proofs.move_laws.SaveLaws.{gone_away, leaving_again}
use Rattle.paged_memory.specs.moves.Stages.{is_saving_stage}
use Rattle.paged_memory.specs.Whole.{stage_in, slots_within}
use Rattle.pager_core.specs.Pager.{PagerState}
use Rattle.space_core.specs.StandsFor.{SpaceValue}
use Rattle.machine_sides.specs.declared.saving_back.SaveFailure.{SaveFailure}
use Rattle.machine_sides.proofs.ReturnLaws.{returned_rest, listed_frames, back_together}
use Rattle.machine_sides.specs.SavingBack.{LeavesAgain, ShowsFailure, IsFreed, FailsAndReturns}
use Rattle.machine_sides.specs.Sides.{PagerSideValue, MovesMemory}
use Rattle.machine_sides.specs.Together.{Together, savings_in, frames_where, key_of}
use Rattle.machine_sides.proofs.TogetherLaws.{residents_same, savings_fewer, frames_same, frames_fewer}

-- a frame more that is free
pub one_more_free : (test : ℕ → Bool) (free : List FrameValue) (frame : FrameValue) → frames_where test (free ++ frame ∷ []) ≡ frames_where test free + cond (test frame.number) 1 0
unfolding frames_where
one_more_free test [] frame = omega arith
one_more_free test (other ∷ free) frame = omega (arith, one_more_free test free frame)

module _ {S : Type 0} where
  -- what the end of a save does to the counts: its page is saved no more, and has its slot
  pub record SaveEnds (vpn : ℕ) (pager pager' : PagerState) (old new : SpaceValue S) : Type 0 where
    pub together : Together pager pager' old new
    pub savings : (test : Key → Bool) → savings_in new test + cond (test (key_of old.memory.process vpn)) 1 0 ≡ savings_in old test
    pub slots : slots_within new.memory ≡ slots_within old.memory + 1
    pub stay : (v : ℕ) → (v ≡ vpn → ⊥) → SamePage old.memory new.memory v
    pub copies : LeavesCopies old.memory new.memory
    pub ended : is_saving_stage (stage_in new.memory vpn) ≡ false
    pub frames : pager'.list.frames ≡ pager.list.frames
    pub lawful : Lawful pager.list → Lawful pager'.list

  module _ (job : SavedValue S) (pager pager' : PagerSideValue) (process process' : SpaceValue S) where
    -- the page is in its slot, and its frame is free
    pub freed_ends : IsFreed job pager pager' process process' → SaveEnds job.vpn pager.pager pager'.pager process process'
    freed_ends freed =
        let told = gone_away job freed.frame process.memory process'.memory freed.settles.moves in
        let list : pager'.pager.list ≡ pager.pager.list = ap (λ (p : PagerSideValue). p.pager.list) freed.frees in
        record {
          together = record {
            listed = λ test.
                let pages = residents_same process process' told.keeps.process test told.residents in
                let listed : residents pager'.pager.list test ≡ residents pager.pager.list test = ap (λ l. residents l test) list in
                omega (arith, pages, listed);
            framed = λ test.
                let pages = frames_fewer process process' freed.frame.number told.frames test in
                let free : frames_where test pager'.pager.free ≡ frames_where test pager.pager.free + cond (test freed.frame.number) 1 0 = ap (λ (p : PagerSideValue). frames_where test p.pager.free) freed.frees ∙ one_more_free test pager.pager.free freed.frame in
                omega (arith, pages, free);
            size = ap (λ (p : PagerSideValue). p.pager.size) freed.frees;
            process = told.keeps.process;
          };
          savings = λ test. savings_fewer process process' told.keeps.process test job.vpn told.savings;
          slots = told.slots;
          stay = told.keeps.others;
          copies = told.copies;
          ended = ap is_saving_stage told.is;
          frames = ap (λ l. l.frames) list;
          lawful = λ lawful. subst Lawful (sym list) lawful;
        }

    -- the page is leaving again, and the pager is as it was
    failed_ends : (failure : SaveFailure) → MovesMemory (LeavesAgain failure job) process process' → pager' ≡ pager → SaveEnds job.vpn pager.pager pager'.pager process process'
    failed_ends failure settles stays =
        let told = leaving_again (ShowsFailure failure job) job process.memory process'.memory settles.moves in
        record {
          together = record {
            listed = λ test.
                let pages = residents_same process process' told.keeps.process test told.residents in
                let listed : residents pager'.pager.list test ≡ residents pager.pager.list test = ap (λ (p : PagerSideValue). residents p.pager.list test) stays in
                omega (arith, pages, listed);
            framed = λ test.
                let pages = frames_same process process' told.frames test in
                let free : frames_where test pager'.pager.free ≡ frames_where test pager.pager.free = ap (λ (p : PagerSideValue). frames_where test p.pager.free) stays in
                omega (arith, pages, free);
            size = ap (λ (p : PagerSideValue). p.pager.size) stays;
            process = told.keeps.process;
          };
          savings = λ test. savings_fewer process process' told.keeps.process test job.vpn told.savings;
          slots = told.slots;
          stay = told.keeps.others;
          copies = told.copies;
          ended = ap is_saving_stage told.is;
          frames = ap (λ (p : PagerSideValue). p.pager.list.frames) stays;
          lawful = λ lawful. subst (λ (p : PagerSideValue). Lawful p.pager.list) (sym stays) lawful;
        }

  -- the save failed, and the page is resident again
  module _ (job : SavedValue S) (pager pager' : PagerSideValue) (process process' : SpaceValue S) where
    pub returned_ends : (failure : SaveFailure) → FailsAndReturns job pager pager' process process' failure → SaveEnds job.vpn pager.pager pager'.pager process process'
    returned_ends failure fails =
        let first = failed_ends job pager pager process fails.between failure fails.settles refl in
        let told = returned job.vpn fails.between.memory process'.memory fails.returns.mapped.moves in
        let second = back_together job.vpn pager pager' fails.between process' fails.returns in
        let rest = returned_rest job.vpn fails.between process' fails.returns.mapped in
        record {
          together = record {
            listed = λ test. let a = first.together.listed test in let b = second.listed test in omega (arith, a, b);
            framed = λ test. let a = first.together.framed test in let b = second.framed test in omega (arith, a, b);
            size = second.size;
            process = second.process ∙ first.together.process;
          };
          savings = λ test. let a = first.savings test in let b = rest.savings test in omega (arith, a, b);
          slots = let a = first.slots in let b = rest.slots in omega (arith, a, b);
          stay = λ v apart. told.keeps.others v apart ∙ first.stay v apart;
          copies = leaves_on process.memory fails.between.memory process'.memory first.copies told.copies;
          ended = ap is_saving_stage told.is;
          frames = listed_frames (key_of fails.between.memory.process job.vpn) pager pager' fails.returns.listed;
          lawful = λ lawful. fails.returns.listed.lawful;
        }
