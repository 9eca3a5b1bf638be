-- A machine that begins is one: no page is in a frame or being saved, so each frame is free and each slot.
use Rattle.std.proofs.Common.{◌≡◌, ℕ, zero, suc, ◌+◌, ◌<◌, ◌≤◌, ◌++◌, ◌==◌, Bool, true, false, cond, List, [], ◌∷◌, length, map, Some, slice_get, ◌⊎◌, inl, inr, refl, sym, ap, ◌∙◌, arith, subst, length-append}
use Rattle.std.specs.Prelude.{All}
use Rattle.std.specs.List.{range_with_len}
use Rattle.std.proofs.lemmas.Bool.Decides.{eqb_tells}
use Rattle.std.proofs.lemmas.List.{map-append}
use Rattle.std.proofs.lemmas.List.Elements.{All-nil}
use Rattle.std.proofs.lemmas.Option.{slice_get_within}
use Rattle.clock_policy.specs.declared.key.Key.{Key}
use Rattle.clock_policy.proofs.ClockLaws.{opening_lawful}
use Rattle.clock_policy.specs.ClockPro.{opening_state}
use Rattle.clock_policy.specs.Lawful.{Lawful}
use Rattle.clock_policy.specs.Residents.{residents}
use Rattle.flat_machine.specs.Process.{opening_pages}
use Rattle.frame_pool.specs.FrameValue.{zero_frame}
use Rattle.machine_limits.specs.Limits.{most_processes}
use Rattle.page_memory.specs.Pages.{Page}
use Rattle.page_store.specs.JobValue.{JobValue}
use Rattle.paged_memory.proofs.access_laws.AmongLaws.{fresh_residents, fresh_savings, fresh_copies, fresh_frames, fresh_slots}
use Rattle.paged_memory.specs.Whole.{slots_within}
use Rattle.pager_core.specs.Pager.{full_pager}
use Rattle.swap_slots.specs.PoolValue.{PoolValue}
use Rattle.machine_core.specs.Machine.{CoreValue, IsMachine, IsSaveOut, IsCopyOut, total, jobs_where, numbers_below}
use Rattle.elf_image.specs.Start.{Start}
use Rattle.machine_sides.specs.Starting.{Begins}
use Rattle.machine_core.specs.Opening.{BeginsAt, AllBegin, MachineBegins}
use Rattle.machine_sides.specs.Sides.{PagerSideValue}
use Rattle.machine_sides.specs.Together.{frames_where, residents_in, savings_in, copies_in, frames_in, key_of}
use Rattle.space_core.specs.StandsFor.{SpaceValue}

total_none : {A : Type 0} (f : A → ℕ) (xs : List A) → ((i : ℕ) (x : A) → slice_get xs i ≡ Some x → f x ≡ 0) → total f xs ≡ 0
unfolding total
total_none f [] none = refl
total_none f (x ∷ xs) none =
    let here = none 0 x refl in
    let rest = total_none f xs (λ i y at. none (suc i) y at) in
    omega (arith, here, rest)

-- the frames of a new pool are numbered from 0
frames_numbered : (test : ℕ → Bool) (first count : ℕ) → numbers_below first test + frames_where test (map zero_frame (range_with_len first count)) ≡ numbers_below (first + count) test
unfolding frames_where numbers_below
frames_numbered test first zero = let none : first + 0 ≡ first = omega arith in let same : numbers_below (first + 0) test ≡ numbers_below first test = ap (λ n. numbers_below n test) none in omega (arith, same)
frames_numbered test first (suc count) =
    let next : first + 1 ≡ suc first = omega arith in
    let this : numbers_below (first + 1) test ≡ cond (test first) 1 0 + numbers_below first test = ap (λ n. numbers_below n test) next in
    let all : first + 1 + count ≡ first + suc count = omega arith in
    let same : numbers_below (first + 1 + count) test ≡ numbers_below (first + suc count) test = ap (λ n. numbers_below n test) all in
    let rest = frames_numbered test (first + 1) count in
    omega (arith, this, same, rest)

get_front : {A : Type 0} (xs : List A) (y : A) (i : ℕ) (x : A) → slice_get xs i ≡ Some x → slice_get (xs ++ y ∷ []) i ≡ Some x
get_front [] y i x h = cc
get_front (z ∷ zs) y zero x h = h
get_front (z ∷ zs) y (suc i) x h = get_front zs y i x h

get_last : {A : Type 0} (xs : List A) (y : A) → slice_get (xs ++ y ∷ []) (length xs) ≡ Some y
get_last [] y = refl
get_last (z ∷ zs) y = get_last zs y

module _ {S : Type 0} where
  -- a process that begins counts nowhere
  module _ (number : ℕ) (start : Start) (process : SpaceValue S) (begins : Begins number start process) where
    abbrev mapped : List (ℕ × Page)
    mapped = opening_pages start.image.pages

    no_residents : (test : Key → Bool) → residents_in process test ≡ 0
    unfolding residents_in
    no_residents test = fresh_residents mapped process.memory begins.pages (λ vpn. test (key_of process.memory.process vpn))

    no_savings : (test : Key → Bool) → savings_in process test ≡ 0
    unfolding savings_in
    no_savings test = fresh_savings mapped process.memory begins.pages (λ vpn. test (key_of process.memory.process vpn))

    no_copies : (test : Key → Bool) → copies_in process test ≡ 0
    unfolding copies_in
    no_copies test = fresh_copies mapped process.memory begins.pages (λ vpn. test (key_of process.memory.process vpn))

    no_frames : (test : ℕ → Bool) → frames_in process test ≡ 0
    unfolding frames_in
    no_frames test = fresh_frames mapped process.memory begins.pages test

    no_slots : slots_within process.memory ≡ 0
    no_slots = fresh_slots mapped process.memory begins.pages

  -- the process of a number that is there begins
  begins_there : (starts : List Start) (processes : List (SpaceValue S)) (number : ℕ) (process : SpaceValue S) → AllBegin starts processes → slice_get processes number ≡ Some process → (start : Start) × Begins number start process
  begins_there starts processes number process all at =
      let within = slice_get_within processes number process at in
      let many = all.many in
      let here = all.each number (omega (arith, within, many)) in
      let same : here.process ≡ process = let a = here.found in let b = at in cc in
      (here.start, subst (Begins number here.start) same here.begins)

  -- one more process begins
  pub one_more_begins : {X : Type 0} (f : X → Start) (xs : List X) (x : X) (sides new : List (SpaceValue S)) (number : ℕ) (side : SpaceValue S) → AllBegin (map f xs) sides → number ≡ length sides
      → new ≡ sides ++ side ∷ [] → Begins number (f x) side → AllBegin (map f (xs ++ x ∷ [])) new
  one_more_begins f xs x sides new number side all counted is begins =
      subst (λ l. AllBegin l new) (sym (map-append f xs (x ∷ []))) (subst (AllBegin (map f xs ++ f x ∷ [])) (sym is) (record {
        many = let many = all.many in omega (arith, many, length-append sides (side ∷ []), length-append (map f xs) (f x ∷ []));
        each = λ n within. by_place n within (eqb_tells n (length (map f xs)));
      }))
    where
      by_place : (n : ℕ) → n < length (map f xs ++ f x ∷ []) → (((n == length (map f xs)) ≡ true) × (n ≡ length (map f xs))) ⊎ (((n == length (map f xs)) ≡ false) × ((n ≡ length (map f xs)) → ⊥)) → BeginsAt (map f xs ++ f x ∷ []) (sides ++ side ∷ []) n
      by_place n within (inl at) = record {
        start = f x;
        process = side;
        given = ap (slice_get (map f xs ++ f x ∷ [])) at.1 ∙ get_last (map f xs) (f x);
        found = ap (slice_get (sides ++ side ∷ [])) (at.1 ∙ sym all.many) ∙ get_last sides side;
        begins = subst (λ m. Begins m (f x) side) (counted ∙ all.many ∙ sym at.1) begins;
      }
      by_place n within (inr apart) =
          let other = apart.1 in
          let here = all.each n (omega (arith, within, other, length-append (map f xs) (f x ∷ []))) in
          record {
            start = here.start;
            process = here.process;
            given = get_front (map f xs) (f x) n here.start here.given;
            found = get_front sides side n here.process here.found;
            begins = here.begins;
          }

  none_counts : (starts : List Start) (processes : List (SpaceValue S)) → AllBegin starts processes → (f : SpaceValue S → ℕ)
      → ((number : ℕ) (start : Start) (process : SpaceValue S) → Begins number start process → f process ≡ 0) → total f processes ≡ 0
  none_counts starts processes all f none =
      total_none f processes (λ number process at. let b = begins_there starts processes number process all at in none number b.0 process b.1)

  pool_of : (pool : PoolValue S) (free : List S) → pool.free ≡ free → pool.size ≡ length free → pool ≡ record { free = free; size = length free }
  pool_of pool free is size =
      let one : List S → PoolValue S = λ l. record { free = l; size = pool.size } in
      let other : ℕ → PoolValue S = λ n. record { free = free; size = n } in
      ap one is ∙ ap other size

  -- the parts of a machine before its first event
  pub begun : {X : Type 0} (f : X → Start) (frames : ℕ) (free : List S) (xs : List X) (pager : PagerSideValue) (slots : PoolValue S) (processes : List (SpaceValue S)) (jobs copies : List (JobValue S))
      → pager ≡ record { pager = full_pager frames; saves = 0; drops = 0 } → slots.free ≡ free → slots.size ≡ length free → AllBegin (map f xs) processes → jobs ≡ [] → copies ≡ []
      → MachineBegins frames free (map f xs) (record { pager = pager; slots = slots; processes = processes; jobs = jobs; copies = copies })
  begun f frames free xs pager slots processes jobs copies full is size all none alone = record { pager = full; slots = pool_of slots free is size; processes = all; jobs = none; copies = alone }

  pub machine_begins : (frames : ℕ) (free : List S) (starts : List Start) (core : CoreValue S) → 4 ≤ frames → frames ≤ 4096 → length starts ≤ most_processes → MachineBegins frames free starts core → IsMachine core
  unfolding opening_state residents frames_where jobs_where total numbers_below
  machine_begins frames free starts core least most few begins = record {
    lawful = subst (λ (p : PagerSideValue). Lawful p.pager.list) (sym begins.pager) (opening_lawful frames least most);
    frames = ap (λ (p : PagerSideValue). p.pager.list.frames) begins.pager ∙ sym (ap (λ (p : PagerSideValue). p.pager.size) begins.pager);
    numbered = λ number process at. (begins_there starts core.processes number process begins.processes at).1.numbered;
    few = let many = begins.processes.many in omega (arith, many, few);
    listed = λ test.
        ap (λ (p : PagerSideValue). residents p.pager.list test) begins.pager
        ∙ sym (none_counts starts core.processes begins.processes (λ (process : SpaceValue S). residents_in process test) (λ number start process b. no_residents number start process b test));
    framed = λ test.
        let none = none_counts starts core.processes begins.processes (λ (process : SpaceValue S). frames_in process test) (λ number start process b. no_frames number start process b test) in
        let free : frames_where test core.pager.pager.free ≡ frames_where test (map zero_frame (range_with_len 0 frames)) = ap (λ (p : PagerSideValue). frames_where test p.pager.free) begins.pager in
        let size : numbers_below core.pager.pager.size test ≡ numbers_below frames test = ap (λ (p : PagerSideValue). numbers_below p.pager.size test) begins.pager in
        let zero_first : 0 + frames ≡ frames = omega arith in
        let counted : numbers_below (0 + frames) test ≡ numbers_below frames test = ap (λ n. numbers_below n test) zero_first in
        let numbered = frames_numbered test 0 frames in
        omega (arith, none, free, size, counted, numbered);
    saved = λ test.
        ap (jobs_where test) begins.jobs
        ∙ sym (none_counts starts core.processes begins.processes (λ (process : SpaceValue S). savings_in process test) (λ number start process b. no_savings number start process b test));
    out = subst (All (IsSaveOut core.processes)) (sym begins.jobs) (All-nil _);
    copied = λ test.
        ap (jobs_where test) begins.copies
        ∙ sym (none_counts starts core.processes begins.processes (λ (process : SpaceValue S). copies_in process test) (λ number start process b. no_copies number start process b test));
    copies_out = subst (All (IsCopyOut core.processes)) (sym begins.copies) (All-nil _);
    slotted =
        let none = none_counts starts core.processes begins.processes (λ (process : SpaceValue S). slots_within process.memory) (λ number start process b. no_slots number start process b) in
        let jobs : length core.jobs ≡ 0 = ap length begins.jobs in
        let copies : length core.copies ≡ 0 = ap length begins.copies in
        let same : length core.slots.free ≡ core.slots.size = ap (λ (p : PoolValue S). length p.free) begins.slots ∙ sym (ap (λ (p : PoolValue S). p.size) begins.slots) in
        omega (arith, none, jobs, copies, same);
  }
