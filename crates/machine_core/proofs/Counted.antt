-- What the machine's counts tell of a page that holds a frame and is not resident: a frame is missing, a save has room, and the list takes the page back.
use Rattle.std.proofs.Common.{◌≡◌, ℕ, zero, suc, ◌+◌, ◌≤◌, ◌<◌, ◌^◌, true, false, cond, List, [], ◌∷◌, length, Some, Ok, Err, Result, slice_get, inl, inr, refl, sym, ap, ◌∙◌, arith}
use Rattle.std.specs.Prelude.{is_ok}
use Rattle.clock_policy.specs.declared.refusal.Refusal.{Refusal}
use Rattle.clock_policy.proofs.AdmitLaws.{restored_barred, key_residents}
use Rattle.clock_policy.specs.ClockPro.{restored}
use Rattle.clock_policy.specs.Residents.{residents, is_key, has_resident}
use Rattle.frame_pool.specs.FrameValue.{FrameValue}
use Rattle.page_store.specs.JobValue.{JobValue}
use Rattle.paged_memory.proofs.access_laws.AmongLaws.{residents_framed as among_framed, savings_framed as saved_framed, one_resident_less, one_saving_less}
use Rattle.paged_memory.proofs.cleaning_laws.CleanBarLaws.{copies_framed as copied_framed, one_copy_less}
use Rattle.paged_memory.specs.cleaning.Cleaning.{is_cleaning_in}
use Rattle.paged_memory.specs.moves.Stages.{is_resident_stage, is_saving_stage, has_frame_stage}
use Rattle.paged_memory.specs.Whole.{stage_in}
use Rattle.pager_core.specs.Pager.{takes_back}
use Rattle.machine_sides.specs.Returning.{CanReturn}
use Rattle.space_core.specs.StandsFor.{SpaceValue}
use Rattle.machine_core.specs.Machine.{CoreValue, IsMachine, total, numbers_below, jobs_where}
use Rattle.machine_sides.specs.Together.{residents_in, savings_in, copies_in, frames_in, frames_where, key_of}
use Rattle.machine_core.proofs.Finding.{total_some, has_resident as resident_of}

module _ {A : Type 0} (few many : A → ℕ) (all : (x : A) → few x ≤ many x) where
  pub fewer_total : (xs : List A) → total few xs ≤ total many xs
  unfolding total
  fewer_total [] = omega arith
  fewer_total (x ∷ xs) = omega (arith, all x, fewer_total xs)

  pub one_fewer_total : (xs : List A) (i : ℕ) (x : A) → slice_get xs i ≡ Some x → few x + 1 ≤ many x → total few xs + 1 ≤ total many xs
  unfolding total
  one_fewer_total [] i x at less = cc
  one_fewer_total (y ∷ ys) zero x at less =
      let same : y ≡ x = cc in
      let one : few y ≡ few x = ap few same in
      let other : many y ≡ many x = ap many same in
      omega (arith, one, other, fewer_total ys)
  one_fewer_total (y ∷ ys) (suc i) x at less = omega (arith, all y, one_fewer_total ys i x at less)

-- ---- all of a list

pub all_frames : (frames : List FrameValue) → frames_where (λ _. true) frames ≡ length frames
unfolding frames_where
all_frames [] = refl
all_frames (frame ∷ frames) = omega (arith, all_frames frames)

pub all_numbers : (n : ℕ) → numbers_below n (λ _. true) ≡ n
unfolding numbers_below
all_numbers zero = refl
all_numbers (suc n) = omega (arith, all_numbers n)

pub all_jobs : {S : Type 0} (jobs : List (JobValue S)) → jobs_where (λ _. true) jobs ≡ length jobs
unfolding jobs_where total
all_jobs [] = refl
all_jobs (job ∷ jobs) = omega (arith, all_jobs jobs)

-- ---- the machine's counts

module _ {S : Type 0} where
  -- a page holds a frame where it is resident or is being saved
  pub residents_framed : (q : SpaceValue S) → residents_in q (λ _. true) ≤ frames_in q (λ _. true)
  unfolding residents_in frames_in
  residents_framed q = among_framed q.memory

  pub savings_framed : (q : SpaceValue S) → savings_in q (λ _. true) ≤ frames_in q (λ _. true)
  unfolding savings_in frames_in
  savings_framed q = saved_framed q.memory

  -- a page that holds a frame and is not resident
  pub record HoldsFrame (space : SpaceValue S) (vpn : ℕ) : Type 0 where
    pub small : vpn < 2 ^ 20
    pub framed : has_frame_stage (stage_in space.memory vpn) ≡ true
    pub apart : is_resident_stage (stage_in space.memory vpn) ≡ false

  one_resident_fewer_in : (space : SpaceValue S) (vpn : ℕ) → HoldsFrame space vpn → residents_in space (λ _. true) + 1 ≤ frames_in space (λ _. true)
  unfolding residents_in frames_in
  one_resident_fewer_in space vpn holds = one_resident_less space.memory vpn holds.small holds.framed holds.apart

  one_saving_fewer_in : (space : SpaceValue S) (vpn : ℕ) → HoldsFrame space vpn → is_saving_stage (stage_in space.memory vpn) ≡ false → savings_in space (λ _. true) + 1 ≤ frames_in space (λ _. true)
  unfolding savings_in frames_in
  one_saving_fewer_in space vpn holds unsaved = one_saving_less space.memory vpn holds.small holds.framed unsaved

  module _ (core : CoreValue S) (p : ℕ) (q : SpaceValue S) (vpn : ℕ) (machine : IsMachine core) (found : slice_get core.processes p ≡ Some q) (holds : HoldsFrame q vpn) where
    -- as many frames are in pages as are not free
    frames_in_pages : length core.pager.pager.free + total (λ (r : SpaceValue S). frames_in r (λ _. true)) core.processes ≡ core.pager.pager.size
    frames_in_pages = let framed = machine.framed (λ _. true) in omega (arith, framed, all_frames core.pager.pager.free, all_numbers core.pager.pager.size)

    one_resident_fewer : total (λ (r : SpaceValue S). residents_in r (λ _. true)) core.processes + 1 ≤ total (λ (r : SpaceValue S). frames_in r (λ _. true)) core.processes
    one_resident_fewer = one_fewer_total _ _ residents_framed core.processes p q found (one_resident_fewer_in q vpn holds)

    -- a save of the page has room
    pub job_fits : is_saving_stage (stage_in q.memory vpn) ≡ false → length core.jobs < core.pager.pager.size
    job_fits unsaved =
        let fewer : total (λ (r : SpaceValue S). savings_in r (λ _. true)) core.processes + 1 ≤ total (λ (r : SpaceValue S). frames_in r (λ _. true)) core.processes = one_fewer_total _ _ savings_framed core.processes p q found (one_saving_fewer_in q vpn holds unsaved) in
        let saved = machine.saved (λ _. true) in
        omega (arith, frames_in_pages, fewer, saved, all_jobs core.jobs)

    -- the list is not full
    not_full : residents core.pager.pager.list (λ _. true) ≡ core.pager.pager.list.frames → ⊥
    not_full full =
        let listed = machine.listed (λ _. true) in
        let frames = machine.frames in
        omega (arith, full, listed, frames, frames_in_pages, one_resident_fewer)

    -- and has not the page
    not_listed : q.memory.process ≡ p → has_resident (key_of p vpn) core.pager.pager.list ≡ true → ⊥
    not_listed number is =
        let key = key_of p vpn in
        let once : residents core.pager.pager.list (is_key key) ≡ 1 = key_residents key core.pager.pager.list machine.lawful ∙ ap (λ b. cond {A = ℕ} b 1 0) is in
        let listed = machine.listed (is_key key) in
        let one = total_some (λ (r : SpaceValue S). residents_in r (is_key key)) core.processes (omega (arith, once, listed)) in
        let there = resident_of one.item key one.some in
        let place : one.place ≡ p = sym (machine.numbered one.place one.item one.found) ∙ there.of_process in
        let same : one.item ≡ q = let a = one.found in let b = found in let c = place in cc in
        let yes : is_resident_stage (stage_in q.memory vpn) ≡ true = ap (λ (r : SpaceValue S). is_resident_stage (stage_in r.memory vpn)) (sym same) ∙ there.resident in
        let no = holds.apart in
        cc

    barred : (refusal : Refusal) → (restored (key_of q.memory.process vpn) core.pager.pager.list).1 ≡ Err refusal → ⊥
    barred refusal why =
        let number = machine.numbered p q found in
        elim (restored_barred (key_of p vpn) core.pager.pager.list refusal (ap (λ n. (restored (key_of n vpn) core.pager.pager.list).1) (sym number) ∙ why)) [
          | inl listed ↦ not_listed number listed.1
          | inr full ↦ not_full full.2
        ]

    answered : (answer : Result (Unit {0}) Refusal) → (restored (key_of q.memory.process vpn) core.pager.pager.list).1 ≡ answer → is_ok answer ≡ true
    answered (Ok done) is = refl
    answered (Err refusal) is = absurd (barred refusal is)

    -- so it takes the page back
    pub can_return : CanReturn vpn core.pager q
    unfolding takes_back
    can_return = answered (restored (key_of q.memory.process vpn) core.pager.pager.list).1 refl

  -- ---- a page of which a copy is out holds a frame

  copies_framed : (q : SpaceValue S) → copies_in q (λ _. true) ≤ frames_in q (λ _. true)
  unfolding copies_in frames_in
  copies_framed q = copied_framed q.memory

  one_copy_fewer_in : (space : SpaceValue S) (vpn : ℕ) → vpn < 2 ^ 20 → is_cleaning_in space.memory vpn ≡ true → copies_in space (λ _. true) + 1 ≤ frames_in space (λ _. true)
  unfolding copies_in frames_in
  one_copy_fewer_in space vpn small cleaning = one_copy_less space.memory vpn small cleaning

  -- a copy of a page that is being cleaned has room
  pub copy_fits : (core : CoreValue S) (p : ℕ) (q : SpaceValue S) (vpn : ℕ) → IsMachine core → slice_get core.processes p ≡ Some q → vpn < 2 ^ 20 → is_cleaning_in q.memory vpn ≡ true → length core.copies < core.pager.pager.size
  copy_fits core p q vpn machine found small cleaning =
      let framed = machine.framed (λ _. true) in
      let fewer : total (λ (r : SpaceValue S). copies_in r (λ _. true)) core.processes + 1 ≤ total (λ (r : SpaceValue S). frames_in r (λ _. true)) core.processes = one_fewer_total _ _ copies_framed core.processes p q found (one_copy_fewer_in q vpn small cleaning) in
      let copied = machine.copied (λ _. true) in
      omega (arith, framed, fewer, copied, all_jobs core.copies, all_numbers core.pager.pager.size)
