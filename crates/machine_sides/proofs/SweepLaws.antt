-- A sweep keeps list and pages together, where the page of the question is resident.
use Rattle.std.proofs.Common.{◌≡◌, ℕ, ◌+◌, ◌^◌, ◌<◌, Bool, false, ◌&&◌, cond, Ok, refl, sym, ap, ◌∙◌, arith}
use Rattle.clock_policy.specs.declared.key.Key.{Key}
use Rattle.clock_policy.specs.declared.answer.Bit.{Bit}
use Rattle.clock_policy.specs.declared.answer.Bit.TheVariants.{Zero, One, Gone}
use Rattle.clock_policy.specs.declared.answer.Verdict.{Verdict}
use Rattle.clock_policy.specs.declared.answer.Verdict.TheVariants.{GoOn, Victim}
use Rattle.clock_policy.proofs.AdmitLaws.{one_key}
use Rattle.clock_policy.specs.ClockPro.{answered}
use Rattle.clock_policy.specs.Lawful.{Lawful}
use Rattle.clock_policy.specs.Residents.{residents, is_gone, takes}
use Rattle.clock_policy.proofs.ResidentLaws.{answered_residents}
use Rattle.paged_memory.proofs.cleaning_laws.CopiesToldLaws.{leaves_on}
use Rattle.paged_memory.proofs.access_laws.AlikeLaws.{CountsAlike, same_memory, stay_on}
use Rattle.paged_memory.proofs.move_laws.LeaveLaws.{forgets_alike, HasBegun, begun}
use Rattle.pager_core.specs.Pager.{PagerState, pager_answered}
use Rattle.space_core.specs.StandsFor.{SpaceValue}
use Rattle.machine_sides.specs.Sides.{PagerSideValue}
use Rattle.machine_sides.specs.Sweeping.{ReadsBit, HeedsVerdict, Evicts, AnswersQuestion}
use Rattle.machine_sides.specs.Together.{Together, residents_in, frames_in, frames_where, key_of}
use Rattle.machine_sides.proofs.TogetherLaws.{LeavesRest, residents_fewer, savings_same, frames_same, alike_rest, alike_residents, alike_frames}

module _ {S : Type 0} where
  -- a bit that is read leaves the counts
  pub read_alike : (bit : Bit) (vpn : ℕ) (old new : SpaceValue S) → ReadsBit bit vpn old new → CountsAlike old.memory new.memory
  read_alike Gone vpn old new h = same_memory old.memory new.memory (ap (λ (s : SpaceValue S). s.memory) h)
  read_alike Zero vpn old new h = forgets_alike vpn old.memory new.memory h.moves
  read_alike One vpn old new h = forgets_alike vpn old.memory new.memory h.moves

  evicted : (vpn : ℕ) (old new : SpaceValue S) → vpn < 2 ^ 20 → Evicts vpn old new → HasBegun vpn old.memory new.memory
  evicted vpn old new small evicts = begun vpn old.memory new.memory small evicts.moves

  evicted_residents : (vpn : ℕ) (old new : SpaceValue S) (test : Key → Bool) → vpn < 2 ^ 20 → Evicts vpn old new → residents_in new test + cond (test (key_of old.memory.process vpn)) 1 0 ≡ residents_in old test
  evicted_residents vpn old new test small evicts = let told = evicted vpn old new small evicts in residents_fewer old new told.keeps.process test vpn told.residents

  evicted_frames : (vpn : ℕ) (old new : SpaceValue S) (test : ℕ → Bool) → vpn < 2 ^ 20 → Evicts vpn old new → frames_in new test ≡ frames_in old test
  evicted_frames vpn old new test small evicts = frames_same old new (evicted vpn old new small evicts).frames test

  -- what the space loses the list does
  heeded_residents : (verdict : Verdict) (bit : Bit) (key : Key) (old new : SpaceValue S) (test : Key → Bool) → key.vpn < 2 ^ 20 → key.process ≡ old.memory.process → is_gone bit ≡ false
      → HeedsVerdict verdict key.vpn old new → residents_in new test + cond (takes bit (Ok verdict) && test key) 1 0 ≡ residents_in old test
  heeded_residents GoOn bit key old new test small of_process there h =
      let same : residents_in new test ≡ residents_in old test = ap (λ (s : SpaceValue S). residents_in s test) h in
      let none : cond {A = ℕ} (is_gone bit && test key) 1 0 ≡ 0 = ap (λ b. cond (b && test key) 1 0) there in
      omega (arith, same, none)
  heeded_residents (Victim k) bit key old new test small of_process there h =
      let this : key_of old.memory.process key.vpn ≡ key = one_key _ key (sym of_process) refl in
      let counts : cond {A = ℕ} (test (key_of old.memory.process key.vpn)) 1 0 ≡ cond (test key) 1 0 = ap (λ q. cond (test q) 1 0) this in
      let e = evicted_residents key.vpn old new test small h in
      omega (arith, counts, e)

  heeded_frames : (verdict : Verdict) (vpn : ℕ) (old new : SpaceValue S) (test : ℕ → Bool) → vpn < 2 ^ 20 → HeedsVerdict verdict vpn old new → frames_in new test ≡ frames_in old test
  heeded_frames GoOn vpn old new test small h = ap (λ (s : SpaceValue S). frames_in s test) h
  heeded_frames (Victim k) vpn old new test small h = evicted_frames vpn old new test small h

  heeded_process : (verdict : Verdict) (vpn : ℕ) (old new : SpaceValue S) → HeedsVerdict verdict vpn old new → new.memory.process ≡ old.memory.process
  heeded_process GoOn vpn old new h = ap (λ (s : SpaceValue S). s.memory.process) h
  heeded_process (Victim k) vpn old new h = h.moves.process

  -- an answer for a page that is resident keeps list and pages together
  pub answers_together : (pager pager' : PagerSideValue) (process process' : SpaceValue S) (key : Key) (bit : Bit) (verdict : Verdict) → Lawful pager.pager.list
      → key.vpn < 2 ^ 20 → key.process ≡ process.memory.process → is_gone bit ≡ false → AnswersQuestion pager pager' process process' key bit verdict
      → Together pager.pager pager'.pager process process'
  unfolding pager_answered
  answers_together pager pager' process process' key bit verdict lawful small of_process there answers =
      let same = read_alike bit key.vpn process answers.between answers.read in
      let between_is : key.process ≡ answers.between.memory.process = of_process ∙ sym same.process in
      let now : pager'.pager ≡ pager_answered bit pager.pager = ap (λ (p : PagerSideValue). p.pager) answers.pager_is in
      record {
        listed = λ test.
            let list : residents pager'.pager.list test ≡ residents (answered bit pager.pager.list).0 test = ap (λ (p : PagerState). residents p.list test) now in
            let taken : cond {A = ℕ} (takes bit (answered bit pager.pager.list).1 && test key) 1 0 ≡ cond (takes bit (Ok verdict) && test key) 1 0 = ap (λ v. cond (takes bit v && test key) 1 0) answers.told in
            let a = answered_residents test bit pager.pager.list key lawful answers.question in
            let b = heeded_residents verdict bit key answers.between process' test small between_is there answers.heeded in
            let c = alike_residents process answers.between same test in
            omega (arith, list, taken, a, b, c);
        framed = λ test.
            let free : frames_where test pager'.pager.free ≡ frames_where test pager.pager.free = ap (λ (p : PagerState). frames_where test p.free) now in
            let b = heeded_frames verdict key.vpn answers.between process' test small answers.heeded in
            let c = alike_frames process answers.between same test in
            omega (arith, free, b, c);
        size = ap (λ (p : PagerState). p.size) now;
        process = heeded_process verdict key.vpn answers.between process' answers.heeded ∙ same.process;
      }

  -- ---- what a sweep leaves of a process, beside which pages are resident

  evicted_rest : (vpn : ℕ) (old new : SpaceValue S) → vpn < 2 ^ 20 → Evicts vpn old new → LeavesRest old new
  evicted_rest vpn old new small evicts =
      let told = evicted vpn old new small evicts in
      record { savings = λ test. savings_same old new told.keeps.process test told.savings; slots = told.slots; stay = told.stay; copies = told.copies }

  heeded_rest : (verdict : Verdict) (vpn : ℕ) (old new : SpaceValue S) → vpn < 2 ^ 20 → HeedsVerdict verdict vpn old new → LeavesRest old new
  heeded_rest GoOn vpn old new small h = alike_rest old new (same_memory old.memory new.memory (ap (λ (s : SpaceValue S). s.memory) h))
  heeded_rest (Victim k) vpn old new small h = evicted_rest vpn old new small h

  pub answers_rest : (pager pager' : PagerSideValue) (process process' : SpaceValue S) (key : Key) (bit : Bit) (verdict : Verdict) → key.vpn < 2 ^ 20
      → AnswersQuestion pager pager' process process' key bit verdict → LeavesRest process process'
  answers_rest pager pager' process process' key bit verdict small answers =
      let first = alike_rest process answers.between (read_alike bit key.vpn process answers.between answers.read) in
      let second = heeded_rest verdict key.vpn answers.between process' small answers.heeded in
      record {
        savings = λ test. second.savings test ∙ first.savings test;
        slots = second.slots ∙ first.slots;
        stay = stay_on process.memory answers.between.memory process'.memory first.stay second.stay;
        copies = leaves_on process.memory answers.between.memory process'.memory first.copies second.copies;
      }
