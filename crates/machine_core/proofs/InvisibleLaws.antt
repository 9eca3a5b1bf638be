-- Each event of a run leaves paging invisible, and so does the run.
use Rattle.std.proofs.Common.{◌≡◌, ℕ, List, [], ◌∷◌, ◌++◌, Some, slice_get, inl, inr, refl, sym, ap, ◌∙◌, subst, append_assoc}
use Rattle.flat_machine.specs.Schedule.{written_out}
use Rattle.machine_core.specs.Applying.{ServesEvent, Applies, Runs}
use Rattle.machine_core.specs.Coherent.{EachCoherent}
use Rattle.machine_core.specs.Faithful.{IsFaithful}
use Rattle.machine_core.specs.Headline.{adds, order_of, Remains, ShowsFlatRun, ShowsRun, IsInvisible, AfterEach, PagingIsInvisible}
use Rattle.machine_core.specs.Machine.{CoreValue}
use Rattle.elf_image.specs.Start.{Start}
use Rattle.machine_sides.specs.Starting.{Begins}
use Rattle.elf_image.specs.Image.{ImageContent}
use Rattle.flat_machine.specs.Process.{opening, flat_run}
use Rattle.std.proofs.lemmas.Option.{slice_get_within}
use Rattle.machine_core.specs.declared.event.Event.{Event}
use Rattle.machine_core.specs.declared.event.Event.TheVariants.{Step, Notice, Sweep, Collect, Saved, PageIn, Kill, Purge, Clean, Copy, Cleaned}
use Rattle.machine_core.specs.declared.event.Reply.{Reply}
use Rattle.space_core.specs.StandsFor.{SpaceValue, StandsFor, flat_with}
use Rattle.machine_core.proofs.CleaningOrderLaws.{clean_tells, copy_tells, cleaned_tells}
use Rattle.machine_core.proofs.LeavingOrderLaws.{collect_tells, saved_tells, purge_tells}
use Rattle.machine_core.proofs.OrderLaws.{Tells, still_remains, refused_tells}
use Rattle.machine_core.proofs.EventOrderLaws.{page_in_tells, step_tells, notice_tells, kill_tells, sweep_tells}

module _ {S : Type 0} where
  module _ (held : S → List ℕ) (honest : Type 0) (failures : S → ℕ) where
    serves_tells : (event : Event) (old new : CoreValue S) (answer : Reply) → ServesEvent held honest failures event old new answer → Tells event answer old new
    serves_tells (Step p hart) old new answer serves = elim serves [ inl refuses ↦ refused_tells _ _ old new answer refuses | inr steps ↦ step_tells held honest p hart old new answer steps ]
    serves_tells (Notice p hart) old new answer serves = elim serves [ inl refuses ↦ refused_tells _ _ old new answer refuses | inr notices ↦ notice_tells p hart old new answer notices ]
    serves_tells Sweep old new answer serves = elim serves [ inl refuses ↦ refused_tells _ _ old new answer refuses | inr sweeps ↦ sweep_tells old new answer sweeps ]
    serves_tells (Collect key) old new answer serves = elim serves [ inl refuses ↦ refused_tells _ _ old new answer refuses | inr once ↦ collect_tells held honest key old new answer once ]
    serves_tells (Saved key) old new answer serves = elim serves [ inl refuses ↦ refused_tells _ _ old new answer refuses | inr once ↦ saved_tells held honest failures key old new answer once ]
    serves_tells (PageIn key) old new answer serves = elim serves [ inl refuses ↦ refused_tells _ _ old new answer refuses | inr once ↦ page_in_tells held honest failures key old new answer once ]
    serves_tells (Kill p cause) old new answer serves = elim serves [ inl refuses ↦ refused_tells _ _ old new answer refuses | inr kills ↦ kill_tells p cause old new answer kills ]
    serves_tells (Purge p) old new answer serves = elim serves [ inl refuses ↦ refused_tells _ _ old new answer refuses | inr once ↦ purge_tells p old new answer once ]
    serves_tells (Clean key) old new answer serves = elim serves [ inl refuses ↦ refused_tells _ _ old new answer refuses | inr once ↦ clean_tells held key old new answer once ]
    serves_tells (Copy key) old new answer serves = elim serves [ inl refuses ↦ refused_tells _ _ old new answer refuses | inr once ↦ copy_tells held key old new answer once ]
    serves_tells (Cleaned key) old new answer serves = elim serves [ inl refuses ↦ refused_tells _ _ old new answer refuses | inr once ↦ cleaned_tells held honest failures key old new answer once ]

    -- a space that stands for a flat process shows it
    stands_shows : (image : ImageContent) (input harts : List ℕ) (space : SpaceValue S) → StandsFor held space → space.image ≡ image → space.input ≡ input → written_out space.schedule ≡ harts
        → ShowsFlatRun held image input harts space
    stands_shows image input harts space stands same_image same_input same_order = record {
      flat = flat_with space.running stands.memory;
      ran =
          subst (λ i. flat_run harts (opening i input) ≡ Some (flat_with space.running stands.memory)) same_image
          (subst (λ l. flat_run harts (opening space.image l) ≡ Some (flat_with space.running stands.memory)) same_input
          (subst (λ l. flat_run l (opening space.image space.input) ≡ Some (flat_with space.running stands.memory)) same_order stands.ran));
      registers = refl;
      environment = refl;
      ending = refl;
      mapped = λ number small. sym (stands.shows.mapped number small);
      memory = stands.shows.shown;
      reserved = sym stands.shows.reserved;
    }

    pub event_invisible : (event : Event) (old new : CoreValue S) (answer : Reply) → Applies held honest failures event old new answer → IsInvisible held honest event answer old new
    unfolding EachCoherent
    event_invisible event old new answer applies =
        let tells = serves_tells event old new answer applies.served in
        record {
          shown = λ is_honest number process at. stands_shows process.image process.input (written_out process.schedule) process ((applies.faithful.coherent number process at).stands is_honest) refl refl refl;
          recorded = tells.recorded;
          listed = applies.faithful.machine.listed;
          victim = tells.victim;
        }

    run_each : (events : List Event) (answers : List Reply) (old new : CoreValue S) → Runs held honest failures events answers old new → AfterEach held honest failures events answers old new
    unfolding Runs AfterEach
    run_each [] [] old new run = run
    run_each [] (r ∷ rs) old new run = absurd run
    run_each (e ∷ es) [] old new run = absurd run
    run_each (e ∷ es) (r ∷ rs) old new run = (run.0, (record { applies = run.1.0; invisible = event_invisible e old run.0 r run.1.0 }, run_each es rs run.0 new run.1.1))

    -- a process's recorded order grows by its steps that ran
    order_grows : (events : List Event) (answers : List Reply) (old new : CoreValue S) → AfterEach held honest failures events answers old new → (number : ℕ) (process : SpaceValue S)
        → slice_get old.processes number ≡ Some process → Remains number (order_of number events answers) new.processes process
    unfolding AfterEach order_of
    order_grows [] [] old new each number process at = still_remains old.processes new.processes (ap (λ (c : CoreValue S). c.processes) each) number process at
    order_grows [] (r ∷ rs) old new each number process at = absurd each
    order_grows (e ∷ es) [] old new each number process at = absurd each
    order_grows (e ∷ es) (r ∷ rs) old new each number process at =
        let first = each.1.0.invisible.recorded number process at in
        let rest = order_grows es rs each.0 new each.1.1 number first.process first.found in
        record {
          process = rest.process;
          found = rest.found;
          goes_on = record {
            image = rest.goes_on.image ∙ first.goes_on.image;
            input = rest.goes_on.input ∙ first.goes_on.input;
            recorded =
                rest.goes_on.recorded ∙ ap (λ l. l ++ order_of number es rs) first.goes_on.recorded
                ∙ append_assoc (written_out process.schedule) (adds number e r) (order_of number es rs);
          };
        }

    -- a process that began shows the steps that ran
    begun_shows : (number : ℕ) (start : Start) (order : List ℕ) (old new : List (SpaceValue S)) (began : SpaceValue S) → Begins number start began → (remains : Remains number order new began)
        → StandsFor held remains.process → (written_out remains.process.schedule ≡ order) × ShowsFlatRun held start.image start.input order remains.process
    begun_shows number start order old new began begins remains stands =
        let recorded : written_out remains.process.schedule ≡ order = remains.goes_on.recorded ∙ ap (λ s. written_out s ++ order) begins.schedule in
        (recorded, stands_shows start.image start.input order remains.process stands (remains.goes_on.image ∙ begins.image) (remains.goes_on.input ∙ begins.input) recorded)

    -- paging is invisible in every run
    pub run_invisible : (events : List Event) (answers : List Reply) (old new : CoreValue S) → Runs held honest failures events answers old new → IsFaithful held honest new
        → PagingIsInvisible held honest failures events answers old new
    unfolding EachCoherent
    run_invisible events answers old new run faithful =
        let each = run_each events answers old new run in
        record {
          each = each;
          whole = λ frames free starts begins is_honest number start given.
              let began = begins.processes.each number (slice_get_within starts number start given) in
              let same : began.start ≡ start = let a = began.given in cc in
              let remains = order_grows events answers old new each number began.process began.found in
              let shows = begun_shows number began.start (order_of number events answers) old.processes new.processes began.process began.begins remains ((faithful.coherent number remains.process remains.found).stands is_honest) in
              subst (λ (s : Start). ShowsRun held number s events answers new.processes) same
              (record { process = remains.process; found = remains.found; recorded = shows.0; shows = shows.1 });
        }
