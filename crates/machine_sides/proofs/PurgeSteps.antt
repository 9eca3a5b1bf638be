-- Pages give back what they have, one after another.
use Rattle.std.proofs.Common.{◌≡◌, ℕ, ◌+◌, ◌++◌, ◌^◌, ◌<◌, ◌≤◌, Bool, true, cond, List, [], length, Option, Some, None, is_some, IsSome, refl, sym, ap, ◌∙◌, arith, subst}
use Rattle.std.proofs.lemmas.List.{append-nil, append_assoc, length-append}
use Rattle.flat_machine.specs.declared.end.End.{End}
use Rattle.frame_pool.specs.FrameValue.{FrameValue}
use Rattle.swap_slots.specs.PoolValue.{PoolValue}
use Rattle.paged_memory.specs.Counting.{frame_passes}
use Rattle.paged_memory.proofs.move_laws.GivenLaws.{has_given, none_given, then_given, all_pages, all_entries}
use Rattle.paged_memory.specs.moves.Moving.{GivesBelow, GivesIn, HasNothingBelow, EmptiesCaches, SameCaches, SameTablesIn, with_given}
use Rattle.paged_memory.proofs.NoticesLaws.{empties_as}
use Rattle.paged_memory.specs.Paged.{PagedValue}
use Rattle.paged_memory.proofs.move_laws.SlotsLaws.{none_gives_below, one_gives_below, all_frames_below, all_slots_below}
use Rattle.paged_memory.specs.Whole.{harts_in, slots_within}
use Rattle.pager_core.specs.Pager.{PagerState}
use Rattle.space_core.specs.Caches.{if_ended, emptied}
use Rattle.space_core.specs.StandsFor.{SpaceValue}
use Rattle.machine_sides.specs.Together.{frames_where, frames_in}
use Rattle.machine_sides.proofs.PurgeLaws.{frames_where-append}
use Rattle.machine_sides.specs.Purging.{HasRoom}
use Rattle.machine_sides.specs.Giving.{as_list, FreesAnyFrame, PoolsAnySlot, GivesSome, GivesToPools}

frames_where-as_list : (test : ℕ → Bool) (o : Option FrameValue) → frames_where test (as_list o) ≡ cond (frame_passes test o) 1 0
unfolding frames_where
frames_where-as_list test None = refl
frames_where-as_list test (Some frame) = omega arith

length-as_list : {A : Type 0} (o : Option A) → length (as_list o) ≡ cond (is_some o) 1 0
length-as_list None = refl
length-as_list (Some a) = refl

-- the free frames once one more came free
frees_more : (pager between pager' : PagerState) (frames : List FrameValue) (given : Option FrameValue) → between ≡ record pager { free = pager.free ++ frames } → FreesAnyFrame given between pager' → pager' ≡ record pager { free = pager.free ++ (frames ++ as_list given) }
frees_more pager between pager' frames given was frees =
    frees ∙ ap (λ (p : PagerState). record p { free = p.free ++ as_list given }) was ∙ ap (λ l. record pager { free = l }) (append_assoc pager.free frames (as_list given))

append_given : {A : Type 0} (all : List A) (given : Option A) → all ++ as_list given ≡ with_given all given
append_given all None = append-nil all
append_given all (Some a) = refl

some_is : {A : Type 0} (o : Option A) → IsSome o → is_some o ≡ true
some_is None h = cc
some_is (Some a) h = refl

module _ {S : Type 0} where
  -- the pool once one more slot came into it
  pools_more : (pool between pool' : PoolValue S) (slots : List S) (given : Option S) → between ≡ record pool { free = pool.free ++ slots } → PoolsAnySlot given between pool' → pool' ≡ record pool { free = pool.free ++ (slots ++ as_list given) }
  pools_more pool between pool' slots given was pools =
      pools ∙ ap (λ (p : PoolValue S). record p { free = p.free ++ as_list given }) was ∙ ap (λ l. record pool { free = l }) (append_assoc pool.free slots (as_list given))

  -- no page has given anything back
  pub none_gave : (pager : PagerState) (pool : PoolValue S) (space : SpaceValue S) → GivesSome pager pager pool pool space space
  unfolding frames_where
  none_gave pager pool space = record {
    frames = [];
    slots = [];
    pager_is = ap (λ l. record pager { free = l }) (sym (append-nil pager.free));
    pool_is = ap (λ l. record pool { free = l }) (sym (append-nil pool.free));
    framed = λ test. omega arith;
    slotted = omega arith;
    named = none_gives_below space.memory;
    tabled = λ page small. refl;
    reserved = refl;
    stays = refl;
    process = refl;
    each = λ number small. none_given space.memory number;
  }

  -- the slot that a page gave has room in the pool
  pub slot_fits : (given : Option FrameValue × Option S) (pager between : PagerState) (pool amid : PoolValue S) (old mid new : SpaceValue S)
      → GivesSome pager between pool amid old mid → GivesIn given mid.memory new.memory → HasRoom old pool → IsSome given.1 → length amid.free < amid.size
  slot_fits given pager between pool amid old mid new gave one room some =
      let told = (has_given given mid.memory new.memory one).slots in
      let counted : cond {A = ℕ} (is_some given.1) 1 0 ≡ 1 = ap (λ b. cond {A = ℕ} b 1 0) (some_is given.1 some) in
      let free : length amid.free ≡ length (pool.free ++ gave.slots) = ap (λ (p : PoolValue S). length p.free) gave.pool_is in
      let size : amid.size ≡ pool.size = ap (λ (p : PoolValue S). p.size) gave.pool_is in
      let slotted = gave.slotted in
      let fits : length pool.free + slots_within old.memory ≤ pool.size = room in
      omega (arith, told, counted, free, size, slotted, fits, length-append pool.free gave.slots)

  -- one page more gives back
  pub one_more_gave : (given : Option FrameValue × Option S) (pager between pager' : PagerState) (pool amid pool' : PoolValue S) (old mid new : SpaceValue S)
      → GivesSome pager between pool amid old mid
      → GivesIn given mid.memory new.memory → new ≡ record mid { memory = new.memory } → new.memory.process ≡ mid.memory.process → SameTablesIn mid.memory new.memory × (new.memory.reserved ≡ mid.memory.reserved)
      → FreesAnyFrame given.0 between pager' → PoolsAnySlot given.1 amid pool'
      → GivesSome pager pager' pool pool' old new
  unfolding frames_in
  one_more_gave given pager between pager' pool amid pool' old mid new gave one stays process rest frees pools =
      let told = has_given given mid.memory new.memory one in
      record {
        frames = gave.frames ++ as_list given.0;
        slots = gave.slots ++ as_list given.1;
        pager_is = frees_more pager between pager' gave.frames given.0 gave.pager_is frees;
        pool_is = pools_more pool amid pool' gave.slots given.1 gave.pool_is pools;
        framed = λ test.
            let a = gave.framed test in
            let c = told.frames test in
            omega (arith, a, c, frames_where-append test gave.frames (as_list given.0), frames_where-as_list test given.0);
        slotted =
            let a = gave.slotted in
            let c = told.slots in
            omega (arith, a, c, length-append gave.slots (as_list given.1), length-as_list given.1);
        named = subst (λ f. GivesBelow f (gave.slots ++ as_list given.1) old.memory new.memory) (sym (append_given gave.frames given.0))
            (subst (λ l. GivesBelow (with_given gave.frames given.0) l old.memory new.memory) (sym (append_given gave.slots given.1)) (one_gives_below gave.frames gave.slots given old.memory mid.memory new.memory gave.named one));
        tabled = λ page small. rest.0 page small ∙ gave.tabled page small;
        reserved = rest.1 ∙ gave.reserved;
        stays = stays ∙ ap (λ (s : SpaceValue S). record s { memory = new.memory }) gave.stays;
        process = process ∙ gave.process;
        each = λ number small. then_given old.memory mid.memory new.memory number (gave.each number small) (told.each number small);
      }

  -- a call on a process that has ended empties its caches
  ended_caches : (o : Option End) (memory : PagedValue S) → IsSome o → EmptiesCaches memory (if_ended o memory)
  ended_caches None memory h = cc
  ended_caches (Some end) memory h = refl

  -- the process has ended all along
  pub ended_still : (pager pager' : PagerState) (pool pool' : PoolValue S) (old new : SpaceValue S) → GivesSome pager pager' pool pool' old new → IsSome old.running.ending → IsSome new.running.ending
  ended_still pager pager' pool pool' old new gave ended = subst (λ (s : SpaceValue S). IsSome s.running.ending) (sym gave.stays) ended

  -- no page has anything left
  pub all_gave : (pager pager' : PagerState) (pool pool' : PoolValue S) (old mid new : SpaceValue S)
      → GivesSome pager pager' pool pool' old mid → IsSome mid.running.ending → harts_in mid.memory ≡ harts_in old.memory
      → new ≡ record mid { memory = if_ended mid.running.ending mid.memory }
      → HasNothingBelow (2 ^ 20) mid.memory → GivesToPools pager pager' pool pool' old new
  unfolding frames_in
  all_gave pager pager' pool pool' old mid new gave ended harts left none = subst (λ (s : SpaceValue S). GivesToPools pager pager' pool pool' old s) (sym (left ∙ emptied_all)) (record {
    frames = gave.frames;
    slots = gave.slots;
    pager_is = gave.pager_is;
    pool_is = gave.pool_is;
    framed = λ test. let a = gave.framed test in omega (arith, a);
    slotted = let a = gave.slotted in omega (arith, a);
    frames_named = all_frames_below gave.frames gave.slots old.memory mid.memory gave.named none;
    named = all_slots_below gave.frames gave.slots old.memory mid.memory gave.named none;
    gives = record {
      moves = record {
        process = gave.process;
        pages = all_pages old.memory mid.memory none gave.each;
        entries = all_entries old.memory mid.memory none gave.each;
        caches = empties_as old.memory mid.memory (emptied mid.memory) harts refl;
        tabled = gave.tabled;
        reserved = gave.reserved;
      };
      stays = ap (λ (s : SpaceValue S). record s { memory = emptied mid.memory }) gave.stays;
    };
  })
    where
      by_end : (o : Option End) → IsSome o → if_ended o mid.memory ≡ emptied mid.memory
      by_end None h = cc
      by_end (Some end) h = refl

      emptied_all : record mid { memory = if_ended mid.running.ending mid.memory } ≡ record mid { memory = emptied mid.memory }
      emptied_all = ap (λ m. record mid { memory = m }) (by_end mid.running.ending ended)

  -- a call that gave one empties the caches
  pub caches_now : (old mid new : SpaceValue S) → IsSome mid.running.ending → harts_in mid.memory ≡ harts_in old.memory → SameCaches (if_ended mid.running.ending mid.memory) new.memory → EmptiesCaches old.memory new.memory
  caches_now old mid new ended harts same = empties_as old.memory mid.memory new.memory harts (same ∙ ended_caches mid.running.ending mid.memory ended)
