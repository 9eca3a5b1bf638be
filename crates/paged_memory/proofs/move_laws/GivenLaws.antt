-- What it does to a memory that a page gives back its frame and its slot, and that all of them do.
use Rattle.std.proofs.Common.{◌≡◌, ℕ, ◌+◌, ◌^◌, ◌<◌, ◌==◌, Bool, true, false, ◌&&◌, cond, List, Option, Some, None, option_map, is_some, inl, inr, refl, sym, ap, ◌∙◌, arith}
use Rattle.std.specs.Prelude.{◌⊎◌, if◌then◌else◌}
use Rattle.std.proofs.lemmas.Bool.Decides.{eqb_tells}
use Rattle.std.proofs.lemmas.Option.{same_Some}
use Rattle.frame_pool.specs.FrameValue.{FrameValue}
use Rattle.page_store.specs.Moves.{given_back, given_framed}
use Rattle.page_store.specs.PageValue.{PageValue, Place, Fresh, Resident, Leaving, Saving, Away, Purged, frame_of, slot_of, page_state_of, is_out}
use Rattle.page_store.specs.Keeping.{Keeping, NoSlot, Saved, Unbacked, Cleaning, CopyOut}
use Rattle.sv32_table.specs.Entry.{Entry, blank}
use Rattle.sv32_table.specs.EntryAt.{entry_at}
use Rattle.paged_memory.proofs.access_laws.AlikeLaws.{SavingsStay, same_stay}
use Rattle.paged_memory.specs.cleaning.Copies.{LeavesCopies, if_out, told_of_place, told_of_page}
use Rattle.paged_memory.proofs.cleaning_laws.CopiesMoveLaws.{other_bits, moved_copies}
use Rattle.paged_memory.proofs.cleaning_laws.CopiesToldLaws.{leaves_told}
use Rattle.paged_memory.specs.Counting.{page_passes, pages_where, is_resident_place, is_saving_place, frame_passes, is_kept}
use Rattle.paged_memory.proofs.CountingLaws.{pages_changed, none_where_pass, same_where_pass}
use Rattle.paged_memory.specs.moves.GivingBack.{GivesBack, GivesNothing}
use Rattle.paged_memory.proofs.move_laws.MoveLaws.{moved_stay, moved_savings, moved_frames, moved_slots}
use Rattle.paged_memory.specs.moves.Moving.{has_to_give, has_to_give_in, unless_out, place_given, page_given, PageGiven, IsGiven, IsLeft, GivesIn, GivesAll, HasNothingBelow}
use Rattle.paged_memory.specs.Paged.{PagedValue, page_at}
use Rattle.paged_memory.specs.moves.Stages.{is_saving_stage}
use Rattle.paged_memory.specs.Whole.{is_out_in, residents_among, savings_among, frames_among, slots_within}

module _ {S : Type 0} where
  -- how many pages have something to give back
  unfoldable pub giving_within : PagedValue S → ℕ
  giving_within memory = pages_where (λ number page. is_some (given_back page.place)) memory.pages

  -- one page fewer has something; each other is as it was
  pub record HasGiven (given : Option FrameValue × Option S) (old new : PagedValue S) : Type 0 where
    pub frames : (test : ℕ → Bool) → frames_among new test + cond (frame_passes test given.0) 1 0 ≡ frames_among old test
    pub slots : slots_within new + cond (is_some given.1) 1 0 ≡ slots_within old
    pub savings : (test : ℕ → Bool) → savings_among new test ≡ savings_among old test
    pub stay : SavingsStay old new
    pub copies : LeavesCopies old new
    pub fewer : giving_within new + 1 ≡ giving_within old
    pub each : (number : ℕ) → number < 2 ^ 20 → IsGiven old new number ⊎ IsLeft old new number

  -- a place that gives this back
  record GivesAt (given : Option FrameValue × Option S) (place : Place S) : Type 0 where
    pub frame : frame_of place ≡ given.0
    pub slot : is_kept (slot_of place) ≡ is_some given.1
    pub unsaved : is_saving_place place ≡ false
    pub given_up : place_given place ≡ Purged
    pub untold : (dirty : Bool) → told_of_place dirty place ≡ None

  -- what is given with a frame
  record GivesFramed (given : Option FrameValue × Option S) (frame : FrameValue) (slot : Keeping S) : Type 0 where
    pub frame_is : Some frame ≡ given.0
    pub slot_is : is_kept slot ≡ is_some given.1
    pub given_up : (place : Place S) → unless_out slot place ≡ Purged
    pub untold : (told : Bool × List ℕ) → if_out slot told ≡ None

  gives_framed : (given : Option FrameValue × Option S) (frame : FrameValue) (slot : Keeping S) → given_framed frame slot ≡ Some given → GivesFramed given frame slot
  gives_framed given frame NoSlot h =
      let e = same_Some _ _ h in record { frame_is = ap (λ (g : Option FrameValue × Option S). g.0) e; slot_is = ap (λ (g : Option FrameValue × Option S). is_some g.1) e; given_up = λ place. refl; untold = λ told. refl }
  gives_framed given frame (Saved copy) h =
      let e = same_Some _ _ h in record { frame_is = ap (λ (g : Option FrameValue × Option S). g.0) e; slot_is = ap (λ (g : Option FrameValue × Option S). is_some g.1) e; given_up = λ place. refl; untold = λ told. refl }
  gives_framed given frame (Unbacked own) h =
      let e = same_Some _ _ h in record { frame_is = ap (λ (g : Option FrameValue × Option S). g.0) e; slot_is = ap (λ (g : Option FrameValue × Option S). is_some g.1) e; given_up = λ place. refl; untold = λ told. refl }
  gives_framed given frame (Cleaning own) h =
      let e = same_Some _ _ h in record { frame_is = ap (λ (g : Option FrameValue × Option S). g.0) e; slot_is = ap (λ (g : Option FrameValue × Option S). is_some g.1) e; given_up = λ place. refl; untold = λ told. refl }
  gives_framed given frame CopyOut h = cc

  gives_at : (given : Option FrameValue × Option S) (place : Place S) → given_back place ≡ Some given → GivesAt given place
  gives_at given Fresh h = cc
  gives_at given (Resident frame slot) h =
      let gives = gives_framed given frame slot h in record { frame = gives.frame_is; slot = gives.slot_is; unsaved = refl; given_up = gives.given_up (Resident frame slot); untold = λ dirty. gives.untold (dirty, frame.bytes) }
  gives_at given (Leaving frame slot mark) h =
      let gives = gives_framed given frame slot h in record { frame = gives.frame_is; slot = gives.slot_is; unsaved = refl; given_up = gives.given_up (Leaving frame slot mark); untold = λ dirty. gives.untold (mark, frame.bytes) }
  gives_at given (Saving frame mark) h = cc
  gives_at given (Away copy) h = record {
    frame = let e : ◌≡◌ {A = Option FrameValue × Option S} (None, Some copy.slot) given = cc in ap (λ (g : Option FrameValue × Option S). g.0) e;
    slot = let e : ◌≡◌ {A = Option FrameValue × Option S} (None, Some copy.slot) given = cc in ap (λ (g : Option FrameValue × Option S). is_some g.1) e;
    unsaved = refl;
    given_up = refl;
    untold = λ dirty. refl;
  }
  gives_at given Purged h = cc

  module _ (given : Option FrameValue × Option S) (old new : PagedValue S) (one : GivesIn given old new) where
    at : GivesAt given one.pages.page.place
    at = gives_at given one.pages.page.place one.pages.how.0

    is_purged : one.pages.page'.place ≡ Purged
    is_purged = ap (λ (p : PageValue S). p.place) one.pages.how.1

    one_given : (number : ℕ) → number < 2 ^ 20 → IsGiven old new number ⊎ IsLeft old new number
    one_given number small = by_number (eqb_tells number one.number)
      where
        by_number : (((number == one.number) ≡ true) × (number ≡ one.number)) ⊎ (((number == one.number) ≡ false) × ((number ≡ one.number) → ⊥)) → IsGiven old new number ⊎ IsLeft old new number
        by_number (inl same) =
            let found : page_at old.pages number ≡ Some one.pages.page = ap (page_at old.pages) same.1 ∙ one.pages.found in
            let is : one.pages.page' ≡ page_given one.pages.page = one.pages.how.1 ∙ ap {B = PageValue S} (λ p. record one.pages.page { place = p }) (sym at.given_up) in
            inl (record {
              had = ap has_to_give found ∙ ap is_some one.pages.how.0;
              page = one.pages.changes.pages number ∙ ap (λ b. if b then Some one.pages.page' else page_at old.pages number) same.0 ∙ ap {B = Option (PageValue S)} (λ p. Some p) is ∙ sym (ap (option_map page_given) found);
              entry = one.entries number small ∙ ap (λ b. if b then blank else entry_at old.tables number) same.0;
            })
        by_number (inr apart) =
            inr (record {
              page = one.pages.changes.pages number ∙ ap (λ b. if b then Some one.pages.page' else page_at old.pages number) apart.0;
              entry = one.entries number small ∙ ap (λ b. if b then blank else entry_at old.tables number) apart.0;
            })

    fewer_give : giving_within new + 1 ≡ giving_within old
    unfolding giving_within
    fewer_give =
        let before : cond {A = ℕ} (is_some (given_back one.pages.page.place)) 1 0 ≡ 1 = ap (λ o. cond (is_some o) 1 0) one.pages.how.0 in
        let after : cond {A = ℕ} (is_some (given_back one.pages.page'.place)) 1 0 ≡ 0 = ap (λ p. cond (is_some (given_back p)) 1 0) is_purged in
        let changed = pages_changed (λ number page. is_some (given_back page.place)) old.pages new.pages one.number one.pages.page one.pages.page' one.pages.found one.pages.changes one.small in
        omega (arith, before, after, changed)

    pub has_given : HasGiven given old new
    has_given = record {
      frames = λ test.
          let before : cond {A = ℕ} (frame_passes test (frame_of one.pages.page.place)) 1 0 ≡ cond (frame_passes test given.0) 1 0 = ap (λ f. cond {A = ℕ} (frame_passes test f) 1 0) at.frame in
          let moved : frames_among new test + cond (frame_passes test (frame_of one.pages.page.place)) 1 0 ≡ frames_among old test + 0 = moved_frames (GivesBack given) old new one.number one.pages _ Purged refl is_purged one.small test in
          omega (arith, before, moved);
      slots =
          let before : cond {A = ℕ} (is_kept (slot_of one.pages.page.place)) 1 0 ≡ cond (is_some given.1) 1 0 = ap (λ b. cond {A = ℕ} b 1 0) at.slot in
          let moved : slots_within new + cond (is_kept (slot_of one.pages.page.place)) 1 0 ≡ slots_within old + 0 = moved_slots (GivesBack given) old new one.number one.pages _ Purged refl is_purged one.small in
          omega (arith, before, moved);
      savings = λ test.
          let before : cond {A = ℕ} (is_saving_place one.pages.page.place && test one.number) 1 0 ≡ 0 = ap (λ b. cond {A = ℕ} (b && test one.number) 1 0) at.unsaved in
          let moved : savings_among new test + cond (is_saving_place one.pages.page.place && test one.number) 1 0 ≡ savings_among old test + 0 = moved_savings (GivesBack given) old new one.number one.pages _ Purged refl is_purged one.small test in
          omega (arith, before, moved);
      stay = moved_stay (GivesBack given) old new one.number one.pages _ Purged refl is_purged at.unsaved;
      copies =
          moved_copies (GivesBack given) old new one.number one.pages (other_bits one.number blank old.tables new.tables one.entries) _ Purged refl is_purged
          (sym (at.untold (entry_at old.tables one.number).dirty));
      fewer = fewer_give;
      each = one_given;
    }

  -- ---- pages one after another

  -- none has given anything
  pub none_given : (memory : PagedValue S) (number : ℕ) → IsGiven memory memory number ⊎ IsLeft memory memory number
  none_given memory number = inr (record { page = refl; entry = refl })

  twice_place : (place : Place S) → place_given (place_given place) ≡ place_given place
  twice_place Fresh = refl
  twice_place (Resident frame NoSlot) = refl
  twice_place (Resident frame (Saved copy)) = refl
  twice_place (Resident frame (Unbacked held)) = refl
  twice_place (Resident frame (Cleaning held)) = refl
  twice_place (Resident frame CopyOut) = refl
  twice_place (Leaving frame NoSlot mark) = refl
  twice_place (Leaving frame (Saved copy) mark) = refl
  twice_place (Leaving frame (Unbacked held) mark) = refl
  twice_place (Leaving frame (Cleaning held) mark) = refl
  twice_place (Leaving frame CopyOut mark) = refl
  twice_place (Saving frame mark) = refl
  twice_place (Away slot) = refl
  twice_place Purged = refl

  twice : (o : Option (PageValue S)) → option_map page_given (option_map page_given o) ≡ option_map page_given o
  twice None = refl
  twice (Some page) = ap (λ p. Some (record page { place = p })) (twice_place page.place)

  pub then_given : (old between new : PagedValue S) (number : ℕ) → IsGiven old between number ⊎ IsLeft old between number → IsGiven between new number ⊎ IsLeft between new number → IsGiven old new number ⊎ IsLeft old new number
  then_given old between new number (inl first) (inl second) = inl (record {
    had = first.had;
    page = second.page ∙ ap (option_map page_given) first.page ∙ twice (page_at old.pages number);
    entry = second.entry;
  })
  then_given old between new number (inl first) (inr second) = inl (record { had = first.had; page = second.page ∙ first.page; entry = second.entry ∙ first.entry })
  then_given old between new number (inr first) (inl second) = inl (record {
    had = ap has_to_give (sym first.page) ∙ second.had;
    page = second.page ∙ ap (option_map page_given) first.page;
    entry = second.entry;
  })
  then_given old between new number (inr first) (inr second) = inr (record { page = second.page ∙ first.page; entry = second.entry ∙ first.entry })

  abbrev at_place : PageValue S → Place S → PageValue S
  at_place page place = record page { place = place }

  stays_given : (o : Option (PageValue S)) → has_to_give o ≡ false → option_map page_given o ≡ o
  stays_given None h = refl
  stays_given (Some page) h = by_place page.place h
    where
      by_place : (place : Place S) → is_some (given_back place) ≡ false → option_map page_given (Some (at_place page place)) ≡ Some (at_place page place)
      by_place Fresh h = refl
      by_place (Resident frame NoSlot) h = cc
      by_place (Resident frame (Saved copy)) h = cc
      by_place (Resident frame (Unbacked held)) h = cc
      by_place (Resident frame (Cleaning held)) h = cc
      by_place (Resident frame CopyOut) h = refl
      by_place (Leaving frame NoSlot mark) h = cc
      by_place (Leaving frame (Saved copy) mark) h = cc
      by_place (Leaving frame (Unbacked held) mark) h = cc
      by_place (Leaving frame (Cleaning held) mark) h = cc
      by_place (Leaving frame CopyOut mark) h = refl
      by_place (Saving frame mark) h = refl
      by_place (Away slot) h = cc
      by_place Purged h = refl

  nothing_gives : (o : Option (PageValue S)) → GivesNothing o → has_to_give o ≡ false
  nothing_gives None h = refl
  nothing_gives (Some page) h = ap is_some h

  -- where no page has anything left, each has given what it had
  module _ (old new : PagedValue S) (none : HasNothingBelow (2 ^ 20) new) (each : (number : ℕ) → number < 2 ^ 20 → IsGiven old new number ⊎ IsLeft old new number) where
    pub all_pages : (number : ℕ) → number < 2 ^ 20 → PageGiven old new number
    all_pages number small = by_page (each number small)
      where
        by_page : IsGiven old new number ⊎ IsLeft old new number → PageGiven old new number
        by_page (inl given) = given.page
        by_page (inr left) = left.page ∙ sym (stays_given (page_at old.pages number) (ap has_to_give (sym left.page) ∙ nothing_gives (page_at new.pages number) (none number small)))

    pub all_entries : (number : ℕ) → number < 2 ^ 20 → entry_at new.tables number ≡ (if has_to_give_in old number then blank else entry_at old.tables number)
    all_entries number small = by_page (each number small)
      where
        by_page : IsGiven old new number ⊎ IsLeft old new number → entry_at new.tables number ≡ (if has_to_give_in old number then blank else entry_at old.tables number)
        by_page (inl given) = given.entry ∙ sym (ap (λ b. if b then blank else entry_at old.tables number) given.had)
        by_page (inr left) =
            let nothing : has_to_give_in old number ≡ false = ap has_to_give (sym left.page) ∙ nothing_gives (page_at new.pages number) (none number small) in
            left.entry ∙ sym (ap (λ b. if b then blank else entry_at old.tables number) nothing)

  -- ---- all pages

  -- a page that gave everything back, and of which nothing was out, holds nothing
  record Bare (o : Option (PageValue S)) : Type 0 where
    pub resident : (test : Bool) → page_passes (λ page. is_resident_place page.place && test) (option_map page_given o) ≡ false
    pub frame : (test : ℕ → Bool) → page_passes (λ page. frame_passes test (frame_of page.place)) (option_map page_given o) ≡ false
    pub slot : page_passes (λ page. is_kept (slot_of page.place)) (option_map page_given o) ≡ false

  bare : (o : Option (PageValue S)) → page_passes (λ (page : PageValue S). is_out page.place) o ≡ false → Bare o
  bare None h = record { resident = λ test. refl; frame = λ test. refl; slot = refl }
  bare (Some page) h = by_place page.place h
    where
      by_place : (place : Place S) → is_out place ≡ false → Bare (Some (at_place page place))
      by_place Fresh h = record { resident = λ test. refl; frame = λ test. refl; slot = refl }
      by_place (Resident frame NoSlot) h = record { resident = λ test. refl; frame = λ test. refl; slot = refl }
      by_place (Resident frame (Saved copy)) h = record { resident = λ test. refl; frame = λ test. refl; slot = refl }
      by_place (Resident frame (Unbacked held)) h = record { resident = λ test. refl; frame = λ test. refl; slot = refl }
      by_place (Resident frame (Cleaning held)) h = record { resident = λ test. refl; frame = λ test. refl; slot = refl }
      by_place (Resident frame CopyOut) h = cc
      by_place (Leaving frame NoSlot mark) h = record { resident = λ test. refl; frame = λ test. refl; slot = refl }
      by_place (Leaving frame (Saved copy) mark) h = record { resident = λ test. refl; frame = λ test. refl; slot = refl }
      by_place (Leaving frame (Unbacked held) mark) h = record { resident = λ test. refl; frame = λ test. refl; slot = refl }
      by_place (Leaving frame (Cleaning held) mark) h = record { resident = λ test. refl; frame = λ test. refl; slot = refl }
      by_place (Leaving frame CopyOut mark) h = cc
      by_place (Saving frame mark) h = cc
      by_place (Away slot) h = record { resident = λ test. refl; frame = λ test. refl; slot = refl }
      by_place Purged h = record { resident = λ test. refl; frame = λ test. refl; slot = refl }

  -- where nothing of any page is out, none holds anything
  pub record HoldsNothing (memory : PagedValue S) : Type 0 where
    pub residents : (test : ℕ → Bool) → residents_among memory test ≡ 0
    pub frames : (test : ℕ → Bool) → frames_among memory test ≡ 0
    pub slots : slots_within memory ≡ 0

  module _ (old new : PagedValue S) (gives : GivesAll old new) where
    pub bare_all : ((number : ℕ) → number < 2 ^ 20 → is_out_in old number ≡ false) → HoldsNothing new
    bare_all quiet = record {
      residents = λ test.
          none_where_pass (λ number page. is_resident_place page.place && test number) new.pages
          (λ number small. ap (page_passes (λ page. is_resident_place page.place && test number)) (gives.pages number small) ∙ (bare (page_at old.pages number) (quiet number small)).resident (test number));
      frames = λ test.
          none_where_pass (λ number page. frame_passes test (frame_of page.place)) new.pages
          (λ number small. ap (page_passes (λ page. frame_passes test (frame_of page.place))) (gives.pages number small) ∙ (bare (page_at old.pages number) (quiet number small)).frame test);
      slots =
          none_where_pass (λ number page. is_kept (slot_of page.place)) new.pages
          (λ number small. ap (page_passes (λ page. is_kept (slot_of page.place))) (gives.pages number small) ∙ (bare (page_at old.pages number) (quiet number small)).slot);
    }

    -- as many pages are being saved
    same_saving : (test : Bool) (o : Option (PageValue S)) → page_passes (λ page. is_saving_place page.place && test) (option_map page_given o) ≡ page_passes (λ page. is_saving_place page.place && test) o
    same_saving test None = refl
    same_saving test (Some page) = ap (λ b. b && test) (by_place page.place)
      where
        by_place : (place : Place S) → is_saving_place (place_given place) ≡ is_saving_place place
        by_place Fresh = refl
        by_place (Resident frame NoSlot) = refl
        by_place (Resident frame (Saved copy)) = refl
        by_place (Resident frame (Unbacked held)) = refl
        by_place (Resident frame (Cleaning held)) = refl
        by_place (Resident frame CopyOut) = refl
        by_place (Leaving frame NoSlot mark) = refl
        by_place (Leaving frame (Saved copy) mark) = refl
        by_place (Leaving frame (Unbacked held) mark) = refl
        by_place (Leaving frame (Cleaning held) mark) = refl
        by_place (Leaving frame CopyOut mark) = refl
        by_place (Saving frame mark) = refl
        by_place (Away slot) = refl
        by_place Purged = refl

    pub all_savings : (test : ℕ → Bool) → savings_among new test ≡ savings_among old test
    all_savings test =
        same_where_pass (λ number page. is_saving_place page.place && test number) old.pages new.pages
        (λ number small. ap (page_passes (λ page. is_saving_place page.place && test number)) (gives.pages number small) ∙ same_saving (test number) (page_at old.pages number))

    -- and the same copies are out
    given_told : (o : Option (PageValue S)) (e e' : Entry) → e' ≡ (if has_to_give o then blank else e) → told_of_page e'.dirty (option_map page_given o) ≡ told_of_page e.dirty o
    given_told None e e' is = refl
    given_told (Some page) e e' is = by_place page.place is
      where
        by_place : (place : Place S) → e' ≡ (if is_some (given_back place) then blank else e) → told_of_place e'.dirty (place_given place) ≡ told_of_place e.dirty place
        by_place Fresh is = refl
        by_place (Resident frame NoSlot) is = refl
        by_place (Resident frame (Saved copy)) is = refl
        by_place (Resident frame (Unbacked held)) is = refl
        by_place (Resident frame (Cleaning held)) is = refl
        by_place (Resident frame CopyOut) is = ap {B = Option (Bool × List ℕ)} (λ (entry : Entry). Some (entry.dirty, frame.bytes)) is
        by_place (Leaving frame NoSlot mark) is = refl
        by_place (Leaving frame (Saved copy) mark) is = refl
        by_place (Leaving frame (Unbacked held) mark) is = refl
        by_place (Leaving frame (Cleaning held) mark) is = refl
        by_place (Leaving frame CopyOut mark) is = refl
        by_place (Saving frame mark) is = refl
        by_place (Away slot) is = refl
        by_place Purged is = refl

    pub all_copies : LeavesCopies old new
    all_copies =
        leaves_told old new
        (λ number small. ap (told_of_page (entry_at new.tables number).dirty) (gives.pages number small) ∙ given_told (page_at old.pages number) (entry_at old.tables number) (entry_at new.tables number) (gives.entries number small))

    saved_page : (o : Option (PageValue S)) → is_saving_stage (option_map (λ (page : PageValue S). page_state_of page.place) o) ≡ true → option_map page_given o ≡ o
    saved_page None h = refl
    saved_page (Some page) h = by_place page.place h
      where
        by_place : (place : Place S) → is_saving_stage (Some (page_state_of place)) ≡ true → option_map page_given (Some (at_place page place)) ≡ Some (at_place page place)
        by_place Fresh h = cc
        by_place (Resident frame slot) h = cc
        by_place (Leaving frame slot mark) h = cc
        by_place (Saving frame mark) h = refl
        by_place (Away slot) h = cc
        by_place Purged h = cc

    pub all_stay : SavingsStay old new
    all_stay = same_stay old new (λ number small is. gives.pages number small ∙ saved_page (page_at old.pages number) is)
