-- A page that comes in, or goes back, on the machine, which stays one.
use Rattle.std.proofs.Common.{◌≡◌, ℕ, ◌+◌, ◌≤◌, ◌<◌, ◌^◌, ◌&&◌, ◌++◌, Bool, true, false, cond, List, [], ◌∷◌, Some, slice_get, refl, sym, ap, ◌∙◌, arith, subst}
use Rattle.std.specs.Prelude.{slice_set}
use Rattle.std.proofs.lemmas.Bool.Decides.{nat_tests}
use Rattle.clock_policy.specs.declared.key.Key.{Key}
use Rattle.clock_policy.proofs.AdmitLaws.{one_key, admitted_residents, withdrawn_residents, key_residents}
use Rattle.clock_policy.proofs.ClockLaws.{withdrawn_lawful}
use Rattle.clock_policy.specs.ClockPro.{ClockState, admitted, withdrawn}
use Rattle.clock_policy.proofs.KeptLaws.{admitted_frames, withdrawn_frames}
use Rattle.clock_policy.specs.Lawful.{Lawful}
use Rattle.clock_policy.specs.Residents.{residents, is_key, has_resident}
use Rattle.frame_pool.specs.FrameValue.{FrameValue}
use Rattle.pager_core.specs.Pager.{admitted_with}
use Rattle.paged_memory.proofs.access_laws.AlikeLaws.{CountsAlike}
use Rattle.paged_memory.proofs.move_laws.ComeLaws.{HasCome, come, refused_alike}
use Rattle.paged_memory.proofs.move_laws.StillLaws.{refused_number}
use Rattle.space_core.specs.StandsFor.{SpaceValue}
use Rattle.machine_sides.specs.Admitting.{AdmissionValue, Admits}
use Rattle.machine_core.specs.declared.event.Reply.{Reply}
use Rattle.machine_core.specs.Machine.{CoreValue, IsMachine}
use Rattle.machine_core.specs.PagingIn.{ComesIn, GoesBack}
use Rattle.machine_sides.specs.Sides.{PagerSideValue}
use Rattle.machine_sides.specs.Together.{frames_where, residents_in, savings_in, frames_in, key_of}
use Rattle.machine_sides.proofs.TogetherLaws.{residents_more, savings_same, alike_residents, alike_frames, alike_rest}
use Rattle.machine_core.proofs.Kept.{Moves, moved_machine, out_stays, copies_stay, copies_even}
use Rattle.machine_core.proofs.PageInReasons.{Unbarred, unbarred}

frames-append : (test : ℕ → Bool) (frames : List FrameValue) (frame : FrameValue) → frames_where test (frames ++ frame ∷ []) ≡ frames_where test frames + cond (test frame.number) 1 0
unfolding frames_where
frames-append test [] frame = omega arith
frames-append test (f ∷ frames) frame = omega (arith, frames-append test frames frame)

same_key : (key : Key) → is_key key key ≡ true
same_key key = grind (arith, nat_tests)

is_true : (b : Bool) → 1 ≤ cond b 1 0 → b ≡ true
is_true true h = refl
is_true false h = absurd (omega arith)

module _ {S : Type 0} where
  -- ---- an admission

  module _ (key : Key) (old new : PagerSideValue) (space : SpaceValue S) (admission : AdmissionValue) (admits : Admits key old new space admission) where
    free_of_bars : Unbarred key old.pager space
    free_of_bars = unbarred key old.pager space admits.allowed

    pub listed_now : new.pager.list ≡ (admitted key old.pager.list).0
    unfolding admitted_with
    listed_now = ap (λ (p : PagerSideValue). p.pager.list) admits.pager_is

    pub same_size : new.pager.size ≡ old.pager.size
    unfolding admitted_with
    same_size = ap (λ (p : PagerSideValue). p.pager.size) admits.pager_is

    -- the page is one more
    pub one_listed : (test : Key → Bool) → residents new.pager.list test ≡ residents old.pager.list test + cond (test key) 1 0
    one_listed test =
        ap (λ list. residents list test) listed_now
        ∙ admitted_residents test key old.pager.list
        ∙ ap (λ b. residents old.pager.list test + cond (b && test key) 1 0) free_of_bars.lists

    -- and its frame one fewer
    pub one_taken : (test : ℕ → Bool) → frames_where test old.pager.free ≡ frames_where test new.pager.free + cond (test admission.frame.number) 1 0
    one_taken test = ap (frames_where test) admits.taken ∙ frames-append test new.pager.free admission.frame

    pub list_frames : new.pager.list.frames ≡ old.pager.list.frames
    list_frames = ap (λ (list : ClockState). list.frames) listed_now ∙ admitted_frames key old.pager.list

    -- the list has the page as a resident one
    pub has_it : has_resident key new.pager.list ≡ true
    has_it =
        let counts : residents new.pager.list (is_key key) ≡ cond (has_resident key new.pager.list) 1 0 = key_residents key new.pager.list admits.lawful in
        let more = one_listed (is_key key) in
        let one : cond {A = ℕ} (is_key key key) 1 0 ≡ 1 = ap (λ b. cond {A = ℕ} b 1 0) (same_key key) in
        is_true (has_resident key new.pager.list) (omega (arith, counts, more, one))

  -- ---- the page comes in

  module _ (held : S → List ℕ) (honest : Type 0) (failures : S → ℕ) (core : CoreValue S) (key : Key) (pager' : PagerSideValue) (q q' : SpaceValue S) (reply : Reply) (machine : IsMachine core) (found : slice_get core.processes key.process ≡ Some q) where
    abbrev pub next : CoreValue S
    next = record core { pager = pager'; processes = slice_set core.processes key.process q' }

    named : key_of q.memory.process key.vpn ≡ key
    named = one_key _ key (machine.numbered key.process q found) refl

    module _ (comes : ComesIn held honest failures key core.pager pager' q q' reply) where
      -- the page that was loaded is the one that was admitted
      vpn_is : comes.admission.key.vpn ≡ key.vpn
      vpn_is = ap (λ (k : Key). k.vpn) comes.admits.key_is

      come_at : HasCome comes.admission.frame comes.admission.key.vpn q.memory q'.memory
      come_at = come held honest comes.admission.frame comes.admission.key.vpn q.memory q'.memory comes.loads.moves

      resident_more : (test : Key → Bool) → residents_in q' test ≡ residents_in q test + cond (test key) 1 0
      resident_more test =
          let more = residents_more q q' comes.loads.moves.process test comes.admission.key.vpn come_at.residents in
          let this : cond {A = ℕ} (test (key_of q.memory.process comes.admission.key.vpn)) 1 0 ≡ cond (test key) 1 0 = ap (λ v. cond {A = ℕ} (test (key_of q.memory.process v)) 1 0) vpn_is ∙ ap (λ k. cond {A = ℕ} (test k) 1 0) named in
          omega (arith, more, this)

      frame_more : (test : ℕ → Bool) → frames_in q' test ≡ frames_in q test + cond (test comes.admission.frame.number) 1 0
      unfolding frames_in
      frame_more test = come_at.frames test

      saved_same : (test : Key → Bool) → savings_in q' test ≡ savings_in q test
      saved_same test = savings_same q q' comes.loads.moves.process test come_at.savings

      pub come_size : pager'.pager.size ≡ core.pager.pager.size
      come_size = same_size key core.pager pager' q comes.admission comes.admits

      come_moves : Moves core next key.process q q'
      come_moves = record {
        found = found;
        processes = refl;
        together = record {
          listed = λ test. let list = one_listed key core.pager pager' q comes.admission comes.admits test in let pages = resident_more test in omega (arith, list, pages);
          framed = λ test. let free = one_taken key core.pager pager' q comes.admission comes.admits test in let pages = frame_more test in omega (arith, free, pages);
          size = come_size;
          process = comes.loads.moves.process;
        };
        lawful = comes.admits.lawful;
        frames = list_frames key core.pager pager' q comes.admission comes.admits ∙ machine.frames ∙ sym come_size;
        saved = λ test. let s = saved_same test in omega (arith, s);
        slotted = let s = come_at.slots in omega (arith, s);
        slots = refl;
        out = out_stays core.processes key.process q q' core.jobs found come_at.stay machine.out;
        copied = copies_even q q' core.copies comes.loads.moves.process come_at.copies;
        copies_out = copies_stay core.processes key.process q q' core.copies found come_at.copies.stand machine.copies_out;
      }

      pub come_machine : IsMachine next
      come_machine = moved_machine core next key.process q q' machine come_moves

    -- ---- the page goes back

    module _ (goes : GoesBack held honest failures key core.pager pager' q q' reply) where
      small : key.vpn < 2 ^ 20
      small = (unbarred key core.pager.pager q goes.admits.allowed).there.small

      goes_alike : CountsAlike q.memory q'.memory
      goes_alike = refused_alike held honest q.memory q'.memory goes.rest.process goes.unmapped key.vpn small failures goes.admission.frame goes.back goes.fault goes.why

      number_same : goes.back.number ≡ goes.admission.frame.number
      number_same = refused_number held honest failures goes.admission.frame key.vpn goes.back q.memory q'.memory goes.fault goes.why

      list_now : pager'.pager.list ≡ (withdrawn key goes.between.pager.list).0
      list_now = ap (λ (p : PagerSideValue). p.pager.list) goes.withdraws

      pub back_size : pager'.pager.size ≡ core.pager.pager.size
      back_size = ap (λ (p : PagerSideValue). p.pager.size) goes.withdraws ∙ same_size key core.pager goes.between q goes.admission goes.admits

      list_same : (test : Key → Bool) → residents pager'.pager.list test ≡ residents core.pager.pager.list test
      list_same test =
          let now : residents pager'.pager.list test ≡ residents (withdrawn key goes.between.pager.list).0 test = ap (λ list. residents list test) list_now in
          let more = one_listed key core.pager goes.between q goes.admission goes.admits test in
          let fewer = withdrawn_residents test key goes.between.pager.list in
          let this : cond {A = ℕ} (has_resident key goes.between.pager.list && test key) 1 0 ≡ cond (test key) 1 0 = ap (λ b. cond {A = ℕ} (b && test key) 1 0) (has_it key core.pager goes.between q goes.admission goes.admits) in
          omega (arith, now, more, fewer, this)

      frames_same : (test : ℕ → Bool) → frames_where test pager'.pager.free ≡ frames_where test core.pager.pager.free
      frames_same test =
          let now : frames_where test pager'.pager.free ≡ frames_where test (goes.between.pager.free ++ goes.back ∷ []) = ap (λ (p : PagerSideValue). frames_where test p.pager.free) goes.withdraws in
          let more = frames-append test goes.between.pager.free goes.back in
          let taken = one_taken key core.pager goes.between q goes.admission goes.admits test in
          let this : cond {A = ℕ} (test goes.back.number) 1 0 ≡ cond (test goes.admission.frame.number) 1 0 = ap (λ n. cond {A = ℕ} (test n) 1 0) number_same in
          omega (arith, now, more, taken, this)

      go_moves : Moves core next key.process q q'
      go_moves = record {
        found = found;
        processes = refl;
        together = record {
          listed = λ test. let list = list_same test in let pages = alike_residents q q' goes_alike test in omega (arith, list, pages);
          framed = λ test. let free = frames_same test in let pages = alike_frames q q' goes_alike test in omega (arith, free, pages);
          size = back_size;
          process = goes_alike.process;
        };
        lawful = subst Lawful (sym list_now) (withdrawn_lawful key goes.between.pager.list goes.admits.lawful);
        frames = ap (λ (list : ClockState). list.frames) list_now ∙ withdrawn_frames key goes.between.pager.list ∙ list_frames key core.pager goes.between q goes.admission goes.admits ∙ machine.frames ∙ sym back_size;
        saved = λ test. let s = (alike_rest q q' goes_alike).savings test in omega (arith, s);
        slotted = let s = goes_alike.slots in omega (arith, s);
        slots = refl;
        out = out_stays core.processes key.process q q' core.jobs found goes_alike.stay machine.out;
        copied = copies_even q q' core.copies goes_alike.process goes_alike.copies;
        copies_out = copies_stay core.processes key.process q q' core.copies found goes_alike.copies.stand machine.copies_out;
      }

      pub go_machine : IsMachine next
      go_machine = moved_machine core next key.process q q' machine go_moves
