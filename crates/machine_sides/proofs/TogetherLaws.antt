-- Counts of a process's pages by their keys are counts by their numbers.
use Rattle.std.proofs.Common.{◌≡◌, ℕ, ◌+◌, Bool, cond, ap, ◌∙◌}
use Rattle.clock_policy.specs.declared.key.Key.{Key}
use Rattle.paged_memory.proofs.access_laws.AlikeLaws.{SavingsStay, CountsAlike}
use Rattle.paged_memory.specs.cleaning.Copies.{LeavesCopies, copies_among}
use Rattle.paged_memory.proofs.cleaning_laws.CopiesMoveLaws.{leaves_among}
use Rattle.paged_memory.specs.Whole.{residents_among, savings_among, frames_among, slots_within}
use Rattle.space_core.specs.StandsFor.{SpaceValue}
use Rattle.machine_sides.specs.Together.{residents_in, savings_in, copies_in, frames_in, key_of}

module _ {S : Type 0} (old new : SpaceValue S) where
  module _ (process : new.memory.process ≡ old.memory.process) (test : Key → Bool) where
    abbrev numbered : ℕ → Bool
    numbered vpn = test (key_of old.memory.process vpn)

    residents_named : residents_in new test ≡ residents_among new.memory numbered
    unfolding residents_in
    residents_named = ap (λ n. residents_among new.memory (λ vpn. test (key_of n vpn))) process

    savings_named : savings_in new test ≡ savings_among new.memory numbered
    unfolding savings_in
    savings_named = ap (λ n. savings_among new.memory (λ vpn. test (key_of n vpn))) process

    copies_named : copies_in new test ≡ copies_among new.memory numbered
    unfolding copies_in
    copies_named = ap (λ n. copies_among new.memory (λ vpn. test (key_of n vpn))) process

    -- as many are resident; one more is; one fewer is
    pub residents_same : ((numbers : ℕ → Bool) → residents_among new.memory numbers ≡ residents_among old.memory numbers) → residents_in new test ≡ residents_in old test
    unfolding residents_in
    residents_same same = residents_named ∙ same numbered

    pub residents_more : (vpn : ℕ) → ((numbers : ℕ → Bool) → residents_among new.memory numbers ≡ residents_among old.memory numbers + cond (numbers vpn) 1 0) → residents_in new test ≡ residents_in old test + cond (test (key_of old.memory.process vpn)) 1 0
    unfolding residents_in
    residents_more vpn more = residents_named ∙ more numbered

    pub residents_fewer : (vpn : ℕ) → ((numbers : ℕ → Bool) → residents_among new.memory numbers + cond (numbers vpn) 1 0 ≡ residents_among old.memory numbers) → residents_in new test + cond (test (key_of old.memory.process vpn)) 1 0 ≡ residents_in old test
    unfolding residents_in
    residents_fewer vpn fewer = ap (λ n. n + cond (test (key_of old.memory.process vpn)) 1 0) residents_named ∙ fewer numbered

    -- the same of those that are being saved
    pub savings_same : ((numbers : ℕ → Bool) → savings_among new.memory numbers ≡ savings_among old.memory numbers) → savings_in new test ≡ savings_in old test
    unfolding savings_in
    savings_same same = savings_named ∙ same numbered

    pub savings_more : (vpn : ℕ) → ((numbers : ℕ → Bool) → savings_among new.memory numbers ≡ savings_among old.memory numbers + cond (numbers vpn) 1 0) → savings_in new test ≡ savings_in old test + cond (test (key_of old.memory.process vpn)) 1 0
    unfolding savings_in
    savings_more vpn more = savings_named ∙ more numbered

    pub savings_fewer : (vpn : ℕ) → ((numbers : ℕ → Bool) → savings_among new.memory numbers + cond (numbers vpn) 1 0 ≡ savings_among old.memory numbers) → savings_in new test + cond (test (key_of old.memory.process vpn)) 1 0 ≡ savings_in old test
    unfolding savings_in
    savings_fewer vpn fewer = ap (λ n. n + cond (test (key_of old.memory.process vpn)) 1 0) savings_named ∙ fewer numbered

    -- and of those of which a copy is out
    pub copies_same : LeavesCopies old.memory new.memory → copies_in new test ≡ copies_in old test
    unfolding copies_in
    copies_same leaves = copies_named ∙ leaves_among old.memory new.memory leaves numbered

    pub copies_more : (vpn : ℕ) → ((numbers : ℕ → Bool) → copies_among new.memory numbers ≡ copies_among old.memory numbers + cond (numbers vpn) 1 0) → copies_in new test ≡ copies_in old test + cond (test (key_of old.memory.process vpn)) 1 0
    unfolding copies_in
    copies_more vpn more = copies_named ∙ more numbered

    pub copies_fewer : (vpn : ℕ) → ((numbers : ℕ → Bool) → copies_among new.memory numbers + cond (numbers vpn) 1 0 ≡ copies_among old.memory numbers) → copies_in new test + cond (test (key_of old.memory.process vpn)) 1 0 ≡ copies_in old test
    unfolding copies_in
    copies_fewer vpn fewer = ap (λ n. n + cond (test (key_of old.memory.process vpn)) 1 0) copies_named ∙ fewer numbered

  -- pages that hold a frame: as many do; one fewer does
  pub frames_same : ((test : ℕ → Bool) → frames_among new.memory test ≡ frames_among old.memory test) → (test : ℕ → Bool) → frames_in new test ≡ frames_in old test
  unfolding frames_in
  frames_same same test = same test

  pub frames_fewer : (number : ℕ) → ((test : ℕ → Bool) → frames_among new.memory test + cond (test number) 1 0 ≡ frames_among old.memory test) → (test : ℕ → Bool) → frames_in new test + cond (test number) 1 0 ≡ frames_in old test
  unfolding frames_in
  frames_fewer number fewer test = fewer test

  -- what a call leaves of a process, beside which pages are resident, and which hold frames
  pub record LeavesRest : Type 0 where
    pub savings : (test : Key → Bool) → savings_in new test ≡ savings_in old test
    pub slots : slots_within new.memory ≡ slots_within old.memory
    pub stay : SavingsStay old.memory new.memory
    pub copies : LeavesCopies old.memory new.memory

  pub alike_rest : CountsAlike old.memory new.memory → LeavesRest
  alike_rest alike = record { savings = λ test. savings_same alike.process test alike.savings; slots = alike.slots; stay = alike.stay; copies = alike.copies }

  pub alike_residents : CountsAlike old.memory new.memory → (test : Key → Bool) → residents_in new test ≡ residents_in old test
  alike_residents alike test = residents_same alike.process test alike.residents

  pub alike_frames : CountsAlike old.memory new.memory → (test : ℕ → Bool) → frames_in new test ≡ frames_in old test
  alike_frames alike test = frames_same alike.frames test
