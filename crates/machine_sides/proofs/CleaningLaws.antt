-- A process counts as before where a page's cleaning begins, a copy goes out or comes back, but for the copies that are out and the slots.
use Rattle.std.proofs.Common.{◌≡◌, ℕ, ◌+◌, ◌<◌, ◌^◌, Bool, cond, length, is_some, refl, ap, ◌∙◌, arith}
use Rattle.clock_policy.specs.declared.key.Key.{Key}
use Rattle.page_store.specs.JobValue.{JobValue, SavedValue}
use Rattle.page_store.specs.declared.answer.CleanCopy.{CleanCopy}
use Rattle.page_store.specs.declared.answer.CleanCopy.TheVariants as copied
use Rattle.paged_memory.proofs.access_laws.AlikeLaws.{CountsAlike}
use Rattle.paged_memory.proofs.cleaning_laws.CleanLaws.{StaysInPlace, HasCopied, HasCleaned, CopyComesTo, begins_alike, copy_comes_to}
use Rattle.paged_memory.specs.moves.Moving.{slot_in}
use Rattle.paged_memory.specs.Whole.{slots_within}
use Rattle.pager_core.specs.Pager.{PagerState}
use Rattle.space_core.specs.StandsFor.{SpaceValue}
use Rattle.swap_slots.specs.PoolValue.{PoolValue}
use Rattle.machine_sides.specs.Cleaning.{StartsCleaning, PageCopied}
use Rattle.machine_sides.proofs.CollectLaws.{slot_taken}
use Rattle.machine_sides.specs.Together.{Together, savings_in, copies_in, key_of}
use Rattle.machine_sides.proofs.TogetherLaws.{residents_same, savings_same, copies_more, copies_fewer, frames_same}

module _ {S : Type 0} where
  pub starts_alike : (vpn : ℕ) (old new : SpaceValue S) → StartsCleaning vpn old new → CountsAlike old.memory new.memory
  starts_alike vpn old new starts = begins_alike (is_some old.running.ending) vpn old.memory new.memory starts.small starts.moves

  -- ---- a page stays in its frame

  module _ (old new : SpaceValue S) (vpn : ℕ) (stays : StaysInPlace vpn old.memory new.memory) where
    pub in_place_together : (pager : PagerState) → Together pager pager old new
    in_place_together pager = record {
      listed = λ test. let a = residents_same old new stays.keeps.process test stays.residents in omega (arith, a);
      framed = λ test. let a = frames_same old new stays.frames test in omega (arith, a);
      size = refl;
      process = stays.keeps.process;
    }

    pub in_place_savings : (test : Key → Bool) → savings_in new test ≡ savings_in old test
    in_place_savings test = savings_same old new stays.keeps.process test stays.savings

  -- ---- a copy goes out

  module _ (vpn : ℕ) (old new : SpaceValue S) (slots slots' : PoolValue S) where
    -- what the answer comes to
    pub copied_to : (a : CleanCopy S) (made : PageCopied vpn a old new slots slots') → CopyComesTo vpn made.spare made.spare' old.memory new.memory a
    copied_to a made = copy_comes_to vpn made.spare made.spare' a old.memory new.memory made.lends.small made.lends.only made.lends.page

    module _ (job : JobValue S) (made : PageCopied vpn (copied.Copied job) old new slots slots') where
      pub has_copied : HasCopied vpn job made.spare made.spare' old.memory new.memory
      has_copied = copied_to (copied.Copied job) made

      pub gone_copies : (test : Key → Bool) → copies_in new test ≡ copies_in old test + cond (test (key_of old.memory.process vpn)) 1 0
      gone_copies test = copies_more old new has_copied.stays.keeps.process test vpn has_copied.copies

      -- the slot of the copy is one fewer of the page's and the free ones
      pub gone_slots : length slots'.free + slots_within new.memory + 1 ≡ length slots.free + slots_within old.memory
      gone_slots =
          let own = has_copied.slots in
          let taken = slot_taken (slot_in old.memory vpn) job.slot slots.free slots'.free made.slots_after.0 in
          omega (arith, own, taken)

  -- ---- a copy comes back

  module _ (job : SavedValue S) (old new : SpaceValue S) (has : HasCleaned job old.memory new.memory) where
    pub back_copies : (test : Key → Bool) → copies_in new test + cond (test (key_of old.memory.process job.vpn)) 1 0 ≡ copies_in old test
    back_copies test = copies_fewer old new has.stays.keeps.process test job.vpn has.copies
