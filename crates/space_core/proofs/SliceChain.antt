-- A slice is the slices of its instructions, one after another: what they say together.
use Rattle.std.proofs.Common.{◌≡◌, ◌≢◌, inl, inr, ℕ, zero, suc, true, false, is_some, IsSome, IfSome, IfNone, unwrap_or, option_map, ◌-◌, ◌+◌, ◌++◌, ◌≤◌, ◌<◌, true≢false, List, replicate, Option, Some, None, refl, sym, ap, ◌∙◌, subst, arith, append_assoc, append-nil}
use Rattle.std.specs.Prelude.{All}
use Rattle.std.proofs.lemmas.Bool.Decides.{eqb_tells}
use Rattle.std.proofs.lemmas.Option.{none-some, same_Some}
use Rattle.std.proofs.lemmas.List.{replicate-append-replicate}
use Rattle.rv_exec.specs.Outcomes.{Used}
use Rattle.flat_machine.specs.Process.{Process, is_live, may_step, flat_run}
use Rattle.flat_machine.proofs.RunLaws.{flat_run_none, flat_run_append}
use Rattle.flat_machine.specs.Schedule.{written_out, room}
use Rattle.flat_machine.proofs.StepLaws.{both, has_no_ending}
use Rattle.paged_memory.proofs.cleaning_laws.CopiesLaws.{copies_itself, copies_on}
use Rattle.paged_memory.specs.access.HartMemory.{MarksSince}
use Rattle.paged_memory.specs.access.Missing.{TakesIn}
use Rattle.paged_memory.proofs.access_laws.MissingLaws.{takes_with}
use Rattle.paged_memory.specs.Paged.{PagedValue}
use Rattle.space_core.specs.declared.progress.Slice.{Slice}
use Rattle.space_core.specs.declared.progress.SliceStop.{SliceStop}
use Rattle.space_core.specs.declared.progress.SliceStop.TheVariants.{Budget, Absent, Yield, HartDone, Ended, NoHart, ScheduleFull, NoMemory}
use Rattle.space_core.specs.declared.progress.Progress.{Progress}
use Rattle.space_core.specs.declared.progress.Progress.TheVariants as progress
use Rattle.paged_memory.specs.Coheres.{Coheres}
use Rattle.space_core.specs.Next.{next_pages, next_stores, answered, begun}
use Rattle.space_core.specs.Slices.{EachStep, BoundsEach, PassesOn, EndsWith, StopsShort, StopsRecorded}
use Rattle.space_core.specs.Slicing.{shown_process, OthersStay, LeavesCaches, KeepsSpace}
use Rattle.space_core.specs.StandsFor.{SpaceValue, StandsFor, IsSpace}
use Rattle.space_core.specs.StepByStep.{SlicesOne, StepsOn, StepsEach, SlicesEach, SliceEnds}
use Rattle.space_core.proofs.Bounding.{bound_none, bound_then, bound_as}
use Rattle.space_core.proofs.SliceMoves.{each_none, each_append, used_on}
use Rattle.paged_memory.specs.access.Using.{cache_in, HasIn, LacksIn, MarkedIn}
use Rattle.paged_memory.proofs.access_laws.HartMemoryLaws.{served_before}
use Rattle.paged_memory.proofs.access_laws.UsingLaws.{goes_itself_in, goes_on_in, kept_itself, kept_on, lacked_in, resident_in}

-- ---- so many, and then more

run_then : (hart n m : ℕ) (before between after : Process) → flat_run (replicate n hart) before ≡ Some between → flat_run (replicate m hart) between ≡ Some after
    → flat_run (replicate (n + m) hart) before ≡ Some after
run_then hart n m before between after first rest =
    ap (λ l. flat_run l before) (sym (replicate-append-replicate n m hart)) ∙ flat_run_append (replicate n hart) (replicate m hart) before between first ∙ rest

written_then : (out now after : List ℕ) (n m hart : ℕ) → now ≡ out ++ replicate n hart → after ≡ now ++ replicate m hart → after ≡ out ++ replicate (n + m) hart
written_then out now after n m hart before more =
    more ∙ ap (λ l. l ++ replicate m hart) before ∙ append_assoc out (replicate n hart) (replicate m hart) ∙ ap (λ l. out ++ l) (replicate-append-replicate n m hart)

-- ---- why a slice stops, where its last instruction does

-- what is so before and after so many that went on
record WentOn (lacks lacked : ℕ → Type 0) (hart n room room' : ℕ) (before between : Process) : Type 0 where
  ran : flat_run (replicate n hart) before ≡ Some between
  may : 0 < n → may_step hart between ≡ true
  on : EachStep (PassesOn hart) hart n before
  room_left : room' + n ≡ room
  backwards : (page : ℕ) → lacked page → lacks page

module _ (lacks lacked : ℕ → Type 0) (hart n room room' : ℕ) (before between : Process) (went : WentOn lacks lacked hart n room room' before between) where
  short_then : (ran : ℕ) (after : Process) → StopsShort hart 1 between ran after → StopsShort hart (n + 1) before (n + ran) after
  short_then ran after short = record {
    fewer = (let fewer = short.fewer in omega (arith, fewer));
    on = each_append (PassesOn hart) hart n ran before between went.on went.ran short.on;
    may = short.may;
  }

  ends_then : (what : Progress) (ran : ℕ) → EndsWith hart between what ran → EndsWith hart before what (n + ran)
  ends_then what ran ends = record {
    earlier = n + ends.earlier;
    last = ends.last;
    count = (let count = ends.count in omega (arith, count));
    on = each_append (PassesOn hart) hart n ends.earlier before between went.on went.ran ends.on;
    reached = run_then hart n ends.earlier before between ends.last went.ran ends.reached;
    was = ends.was;
  }

  -- a process that may not step was there at first
  none_before : (n ≡ 0) → between ≡ before
  none_before none = ap (λ o. unwrap_or o between) (sym went.ran ∙ ap (λ k. flat_run (replicate k hart) before) none ∙ flat_run_none before)

  none_on : (may_step hart between ≢ true) → n ≡ 0
  none_on never = elim (eqb_tells n 0) [ inl same ↦ same.1 | inr other ↦ absurd (never (went.may (let some = other.1 in omega (arith, some)))) ]

  stops_then : (why : SliceStop) (ran : ℕ) (after : Process) → StopsRecorded lacked hart 1 room' between why ran after → StopsRecorded lacks hart (n + 1) room before why (n + ran) after
  stops_then Budget ran after stops =
      ((let all = stops.0 in omega (arith, all)), (λ _. stops.1 (let all = stops.0 in omega (arith, all))), each_append (PassesOn hart) hart n ran before between went.on went.ran stops.2)
  stops_then (Absent page) ran after stops =
      ((let fits = stops.0 in let left = went.room_left in omega (arith, fits, left)), (short_then ran after stops.1.0, stops.1.1, went.backwards page stops.1.2))
  stops_then Yield ran after stops = ends_then progress.Yielded ran stops
  stops_then HartDone ran after stops = ends_then progress.HartDone ran stops
  stops_then Ended ran after (inl ended) =
      let none = none_on (λ may. true≢false (sym ended.2 ∙ ap is_some (has_no_ending hart between may))) in
      inl ((let no = ended.0 in omega (arith, none, no)), omega arith, subst (λ p. IsSome p.ending) (none_before none) ended.2)
  stops_then Ended ran after (inr ends) = inr (ends_then progress.Ended ran ends)
  stops_then NoHart ran after stops =
      let none = none_on (λ may. true≢false (sym (both _ (is_live hart between) may).1 ∙ stops.3)) in
      let same = none_before none in
      ((let no = stops.0 in omega (arith, none, no)), omega arith, subst (λ p. p.ending ≡ None) same stops.2, subst (λ p. is_live hart p ≡ false) same stops.3)
  stops_then ScheduleFull ran after stops = ((let full = stops.0 in let left = went.room_left in omega (arith, full, left)), short_then ran after stops.1)
  stops_then NoMemory ran after stops = ((let fits = stops.0 in let left = went.room_left in omega (arith, fits, left)), (short_then ran after stops.1.0, stops.1.1))

-- of more that were allowed
short_wide : (hart n budget : ℕ) (before : Process) (ran : ℕ) (after : Process) → n ≤ budget → StopsShort hart n before ran after → StopsShort hart budget before ran after
short_wide hart n budget before ran after within short = record { fewer = (let fewer = short.fewer in omega (arith, fewer, within)); on = short.on; may = short.may }

stops_wide : (lacks : ℕ → Type 0) (hart n budget room : ℕ) (before : Process) (why : SliceStop) (ran : ℕ) (after : Process) → n ≤ budget → why ≢ Budget
    → StopsRecorded lacks hart n room before why ran after → StopsRecorded lacks hart budget room before why ran after
stops_wide lacks hart n budget room before Budget ran after within other stops = absurd (other refl)
stops_wide lacks hart n budget room before (Absent page) ran after within other stops = (stops.0, (short_wide hart n budget before ran after within stops.1.0, stops.1.1, stops.1.2))
stops_wide lacks hart n budget room before Yield ran after within other stops = stops
stops_wide lacks hart n budget room before HartDone ran after within other stops = stops
stops_wide lacks hart n budget room before Ended ran after within other (inl ended) = inl (ended.0, (let some = ended.1 in omega (arith, some, within)), ended.2)
stops_wide lacks hart n budget room before Ended ran after within other (inr ends) = inr ends
stops_wide lacks hart n budget room before NoHart ran after within other stops = (stops.0, (let some = stops.1 in omega (arith, some, within)), stops.2, stops.3)
stops_wide lacks hart n budget room before ScheduleFull ran after within other stops = (stops.0, short_wide hart n budget before ran after within stops.1)
stops_wide lacks hart n budget room before NoMemory ran after within other stops = (stops.0, (short_wide hart n budget before ran after within stops.1.0, stops.1.1))

answered_then : (why : SliceStop) (n ran : ℕ) → n + answered why ran ≡ answered why (n + ran)
answered_then Budget n ran = refl
answered_then (Absent page) n ran = refl
answered_then Yield n ran = refl
answered_then HartDone n ran = refl
answered_then Ended n ran = refl
answered_then NoHart n ran = refl
answered_then ScheduleFull n ran = refl
answered_then NoMemory n ran = omega arith

begun_then : (why : SliceStop) (n ran : ℕ) → n + begun why ran ≡ begun why (n + ran)
begun_then Budget n ran = refl
begun_then (Absent page) n ran = omega arith
begun_then Yield n ran = refl
begun_then HartDone n ran = refl
begun_then Ended n ran = refl
begun_then NoHart n ran = refl
begun_then ScheduleFull n ran = refl
begun_then NoMemory n ran = omega arith

module _ {S : Type 0} (held : S → List ℕ) (honest : Type 0) (hart : ℕ) where
  -- ---- what stays

  had_then : (old between : SpaceValue S) → KeepsSpace hart Budget old between → (page : ℕ) → HasIn between.memory hart page
      → HasIn old.memory hart page
  had_then old between kept page (inl resident) = inl (resident_in old.memory between.memory page kept.pages resident)
  had_then old between kept page (inr holds) = kept.caches.1.held page holds

  others_then : (old between new : PagedValue S) → LeavesCaches Budget hart old between → OthersStay hart between new → OthersStay hart old new
  others_then old between new first others = λ h other. others h other ∙ first.0 h other

  caches_then : (why : SliceStop) (old between new : SpaceValue S) → KeepsSpace hart Budget old between → LeavesCaches why hart between.memory new.memory → LeavesCaches why hart old.memory new.memory
  caches_then Budget old between new kept left = (
    others_then old.memory between.memory new.memory kept.caches left.0,
    record {
      held = λ page is. had_then old between kept page (left.1.held page is);
      goes = goes_on_in hart old.memory between.memory new.memory kept.caches.1.goes left.1.goes;
    },
  )
  caches_then Ended old between new kept left = left
  caches_then (Absent page) old between new kept left = (others_then old.memory between.memory new.memory kept.caches left.0, left.1)
  caches_then Yield old between new kept left = (others_then old.memory between.memory new.memory kept.caches left.0, left.1)
  caches_then HartDone old between new kept left = (others_then old.memory between.memory new.memory kept.caches left.0, left.1)
  caches_then NoHart old between new kept left = (others_then old.memory between.memory new.memory kept.caches left.0, left.1)
  caches_then ScheduleFull old between new kept left = (others_then old.memory between.memory new.memory kept.caches left.0, left.1)
  caches_then NoMemory old between new kept left = (others_then old.memory between.memory new.memory kept.caches left.0, left.1)

  kept_then : (why : SliceStop) (old between new : SpaceValue S) → KeepsSpace hart Budget old between → KeepsSpace hart why between new → KeepsSpace hart why old new
  kept_then why old between new first second = record {
    image = second.image ∙ first.image;
    input = second.input ∙ first.input;
    purged = second.purged ∙ first.purged;
    process = second.process ∙ first.process;
    pages = kept_on old.memory between.memory new.memory first.pages second.pages;
    tabled = λ page small. second.tabled page small ∙ first.tabled page small;
    used = λ page small is. second.used page small (first.used page small is);
    changed = λ page small is. second.changed page small (first.changed page small is);
    copies = copies_on old.memory between.memory new.memory first.copies second.copies;
    harts = second.harts;
    caches = caches_then why old between new first second.caches;
  }

  -- ---- together

  -- what a slice of several says
  pub record Together (budget ran : ℕ) (why : SliceStop) (old new : SpaceValue S) : Type 0 where
    pub ran_is : flat_run (replicate ran hart) (shown_process held old) ≡ Some (shown_process held new)
    pub recorded : written_out new.schedule ≡ written_out old.schedule ++ replicate ran hart
    pub left : room new.schedule hart + ran ≡ room old.schedule hart
    pub within : ran ≤ budget
    pub stops : StopsRecorded (LacksIn old.memory) hart budget (room old.schedule hart) (shown_process held old) why ran (shown_process held new)
    pub pages : EachStep (λ at. Used (HasIn old.memory hart) (MarksSince new.memory (cache_in old.memory hart)) (next_pages hart at)) hart (answered why ran) (shown_process held old)
    pub bound : BoundsEach (MarkedIn old.memory) (MarkedIn new.memory) hart (begun why ran) (shown_process held old)
    pub takes : EachStep (λ at. All (TakesIn new.memory) (next_stores hart at)) hart (answered why ran) (shown_process held old)
    pub kept : KeepsSpace hart why old new
    pub stands : honest → StandsFor held new
    pub coheres : Coheres held honest new.memory

  none_yet : (space : SpaceValue S) → IsSpace held honest space → Coheres held honest space.memory → Together 0 0 Budget space space
  none_yet space is coheres = record {
    ran_is = flat_run_none (shown_process held space);
    recorded = sym (append-nil (written_out space.schedule));
    left = omega arith;
    within = omega arith;
    stops = (refl, (λ none. absurd (omega (arith, none))), each_none (PassesOn hart) hart (shown_process held space));
    pages = each_none _ hart (shown_process held space);
    bound = bound_none (MarkedIn space.memory) hart 0 (shown_process held space);
    takes = each_none _ hart (shown_process held space);
    kept = record {
      image = refl;
      input = refl;
      purged = refl;
      process = refl;
      pages = kept_itself space.memory;
      tabled = λ page small. refl;
      used = λ page small was. was;
      changed = λ page small was. was;
      copies = copies_itself space.memory;
      harts = is.cached;
      caches = ((λ h other. refl), record { held = λ page was. inr was; goes = goes_itself_in hart space.memory });
    };
    stands = is.stands;
    coheres = coheres;
  }

  one_more : (n ran : ℕ) (why : SliceStop) (old between new : SpaceValue S) → Together n n Budget old between → SlicesOne held honest hart ran why between new → Together (n + 1) (n + ran) why old new
  one_more n ran why old between new all one =
      let before = shown_process held old in
      let opening = cache_in old.memory hart in
      record {
        ran_is = run_then hart n ran before (shown_process held between) (shown_process held new) all.ran_is one.ran_is;
        recorded = written_then (written_out old.schedule) (written_out between.schedule) (written_out new.schedule) n ran hart all.recorded one.recorded;
        left = (let first = all.left in let rest = one.left in omega (arith, first, rest));
        within = (let within = one.within in omega (arith, within));
        stops = stops_then (LacksIn old.memory) (LacksIn between.memory) hart n (room old.schedule hart) (room between.schedule hart) before (shown_process held between)
            (record {
              ran = all.ran_is;
              may = all.stops.1;
              on = all.stops.2;
              room_left = all.left;
              backwards = λ page lacks. lacked_in old.memory between.memory page all.kept.pages lacks;
            }) why ran (shown_process held new) one.stops;
        pages = subst (λ k. EachStep (λ at. Used (HasIn old.memory hart) (MarksSince new.memory opening) (next_pages hart at)) hart k before) (answered_then why n ran)
            (each_append (λ at. Used (HasIn old.memory hart) (MarksSince new.memory opening) (next_pages hart at)) hart n (answered why ran) before (shown_process held between)
            (λ done at h e. used_on (HasIn old.memory hart) (MarksSince between.memory opening) (HasIn old.memory hart) (MarksSince new.memory opening) (next_pages hart at) (λ _ had. had) marks_on (all.pages done at h e))
            all.ran_is
            (λ done at h e. used_on (HasIn between.memory hart) (MarksSince new.memory (cache_in between.memory hart)) (HasIn old.memory hart) (MarksSince new.memory opening) (next_pages hart at)
            (λ page has. had_then old between all.kept page has) marks_back (one.pages done at h e)));
        bound = bound_as (MarkedIn old.memory) (MarkedIn new.memory) hart (n + begun why ran) (begun why (n + ran)) before (begun_then why n ran)
            (bound_then (MarkedIn old.memory) (MarkedIn between.memory) (MarkedIn new.memory) hart n (begun why ran) before (shown_process held between) all.ran_is all.bound one.bound);
        takes = subst (λ k. EachStep (λ at. All (TakesIn new.memory) (next_stores hart at)) hart k before) (answered_then why n ran)
            (each_append (λ at. All (TakesIn new.memory) (next_stores hart at)) hart n (answered why ran) before (shown_process held between)
            (λ done at h e k d w. takes_with _ between.memory new.memory one.kept.pages one.kept.changed (all.takes done at h e k d w)) all.ran_is (λ done at h e k d w. (one.takes done at h e k d w).0));
        kept = kept_then why old between new all.kept one.kept;
        stands = one.stands;
        coheres = one.coheres;
      }
    where
      marks_on : (page : ℕ) → MarksSince between.memory (cache_in old.memory hart) page → MarksSince new.memory (cache_in old.memory hart) page
      marks_on page (small, inl used) = (small, inl (one.kept.used page small used))
      marks_on page (small, inr doomed) = (small, inr doomed)

      marks_back : (page : ℕ) → MarksSince new.memory (cache_in between.memory hart) page → MarksSince new.memory (cache_in old.memory hart) page
      marks_back page (small, inl used) = (small, inl used)
      marks_back page (small, inr served) = (small, inr (served_before page (cache_in between.memory hart) (cache_in old.memory hart) all.kept.caches.1.goes.doomed served))

  all_on : (n : ℕ) (old new : SpaceValue S) → Together 0 0 Budget old old → StepsOn held honest hart n old new → Together n n Budget old new
  unfolding StepsOn
  all_on zero old new none on = subst (Together 0 0 Budget old) (sym on) none
  all_on (suc n) old new none on =
      let next : n + 1 ≡ suc n = omega arith in
      subst (λ k. Together k k Budget old new) next (one_more n 1 Budget old on.0 new (all_on n old on.0 none on.1.0) on.1.1)

  of_more : (n budget ran : ℕ) (why : SliceStop) (old new : SpaceValue S) → n ≤ budget → why ≢ Budget → Together n ran why old new → Together budget ran why old new
  of_more n budget ran why old new fits other all = record {
    ran_is = all.ran_is;
    recorded = all.recorded;
    left = all.left;
    within = (let within = all.within in omega (arith, within, fits));
    stops = stops_wide (LacksIn old.memory) hart n budget (room old.schedule hart) (shown_process held old) why ran (shown_process held new) fits other all.stops;
    pages = all.pages;
    bound = all.bound;
    takes = all.takes;
    kept = all.kept;
    stands = all.stands;
    coheres = all.coheres;
  }

  -- a slice of several, by those of its instructions
  pub together : (budget ran : ℕ) (why : SliceStop) (old new : SpaceValue S) → IsSpace held honest old → Coheres held honest old.memory → SlicesEach held honest hart budget ran why old new → Together budget ran why old new
  together budget ran why old new is coheres slices = by_last slices.last slices.each slices.ends
    where
      by_last : (last : Option (ℕ × SliceStop)) → StepsEach held honest hart slices.on last old new → SliceEnds held honest hart budget slices.on last ran why → Together budget ran why old new
      by_last None each ends =
          let all = all_on slices.on old each.between (none_yet old is coheres) each.on in
          let reached = subst (Together slices.on slices.on Budget old) (sym each.at_last) all in
          let counted = subst (λ k. Together budget k Budget old new) (sym ends.1) (subst (λ k. Together k slices.on Budget old new) ends.0 reached) in
          subst (λ s. Together budget ran s old new) (sym ends.2) counted
      by_last (Some last) each ends =
          let all = one_more slices.on last.0 last.1 old each.between new (all_on slices.on old each.between (none_yet old is coheres) each.on) each.at_last in
          let counted = subst (λ k. Together (slices.on + 1) k last.1 old new) (sym ends.1) all in
          of_more (slices.on + 1) budget ran why old new (let fewer = ends.0 in omega (arith, fewer)) ends.3 (subst (λ s. Together (slices.on + 1) ran s old new) (sym ends.2) counted)

  -- ---- so many in a row, and then so many more

  pub on_then : (n m : ℕ) (old between new : SpaceValue S) → StepsOn held honest hart n old between → StepsOn held honest hart m between new → StepsOn held honest hart (n + m) old new
  unfolding StepsOn
  on_then n zero old between new first rest =
      let same : n ≡ n + 0 = omega arith in
      subst (λ k. StepsOn held honest hart k old new) same (subst (StepsOn held honest hart n old) (sym rest) first)
  on_then n (suc m) old between new first rest =
      let all : StepsOn held honest hart (suc (n + m)) old new = (rest.0, (on_then n m old between rest.0 first rest.1.0, rest.1.1)) in
      let same : suc (n + m) ≡ n + suc m = omega arith in
      subst (λ k. StepsOn held honest hart k old new) same all

  -- steps behind so many that went on

  pub all_went : (n m budget : ℕ) (last : Option Slice) (old between new : SpaceValue S) → n ≤ budget → last ≡ None → IfNone last (m ≡ budget - n) → StepsOn held honest hart n old between
      → StepsEach held honest hart m (option_map (λ slice. (slice.ran, slice.stop)) last) between new → SlicesEach held honest hart budget (n + m) Budget old new
  all_went n m budget (Some slice) old between new fits none whole on each = absurd (none-some _ (sym none))
  all_went n m budget None old between new fits none whole on each = record {
    on = n + m;
    last = None;
    each = record { between = each.between; on = on_then n m old between each.between on each.on; at_last = each.at_last };
    ends = (omega (arith, whole, fits), refl, refl);
  }

  pub one_stopped : (n m budget : ℕ) (last : Option Slice) (slice : Slice) (old between new : SpaceValue S) → n ≤ budget → last ≡ Some slice → IfSome last (λ _. m < budget - n) → slice.stop ≢ Budget
      → StepsOn held honest hart n old between → StepsEach held honest hart m (option_map (λ slice. (slice.ran, slice.stop)) last) between new
      → SlicesEach held honest hart budget (n + m + slice.ran) slice.stop old new
  one_stopped n m budget None slice old between new fits some fewer other on each = absurd (none-some _ some)
  one_stopped n m budget (Some last) slice old between new fits some fewer other on each =
      let same : last ≡ slice = same_Some _ _ some in
      subst (λ (s : Slice). SlicesEach held honest hart budget (n + m + s.ran) s.stop old new) same (record {
        on = n + m;
        last = Some (last.ran, last.stop);
        each = record { between = each.between; on = on_then n m old between each.between on each.on; at_last = each.at_last };
        ends = (omega (arith, fewer, fits), refl, refl, subst (λ (s : Slice). s.stop ≢ Budget) (sym same) other);
      })

  -- the last of them went on too
  pub one_went : (n m budget : ℕ) (last : Option Slice) (slice : Slice) (old between new : SpaceValue S) → n ≤ budget → last ≡ Some slice → IfSome last (λ _. m < budget - n) → slice.stop ≡ Budget
      → StepsOn held honest hart n old between → StepsEach held honest hart m (option_map (λ slice. (slice.ran, slice.stop)) last) between new
      → StepsOn held honest hart (n + m + slice.ran) old new × (slice.ran ≡ 1) × (n + m + slice.ran ≤ budget)
  unfolding StepsOn
  one_went n m budget None slice old between new fits some fewer on_budget on each = absurd (none-some _ some)
  one_went n m budget (Some last) slice old between new fits some fewer on_budget on each =
      let same : last ≡ slice = same_Some _ _ some in
      let stopped : last.stop ≡ Budget = ap (λ (s : Slice). s.stop) same ∙ on_budget in
      let went = subst (λ why. SlicesOne held honest hart last.ran why each.between new) stopped each.at_last in
      let single : last.ran ≡ 1 = went.stops.0 in
      let all = on_then n m old between each.between on each.on in
      let more : StepsOn held honest hart (suc (n + m)) old new = (each.between, (all, subst (λ k. SlicesOne held honest hart k Budget each.between new) single went)) in
      let count : suc (n + m) ≡ n + m + last.ran = omega (arith, single) in
      subst (λ (s : Slice). StepsOn held honest hart (n + m + s.ran) old new × (s.ran ≡ 1) × (n + m + s.ran ≤ budget)) same
      (subst (λ k. StepsOn held honest hart k old new) count more, single, omega (arith, single, fewer, fits))
