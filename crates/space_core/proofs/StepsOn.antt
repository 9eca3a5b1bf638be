-- A hart's instructions one at a time are slices of one instruction, one after another.
use Rattle.std.proofs.Common.{◌≡◌, ◌+◌, ◌++◌, ◌≤◌, ◌<◌, ℕ, zero, suc, true, ◌⊎◌, inl, inr, min, IfNone, IfSome, List, length, replicate, slice_set, slice_index_or, Option, Some, None, option_map, refl, sym, ap, ◌∙◌, subst, arith, append_assoc, append-nil, length-set}
use Rattle.std.specs.Prelude.{All}
use Rattle.std.proofs.lemmas.Bool.Decides.{eqb_tells}
use Rattle.std.proofs.lemmas.Option.{none-some, same_Some}
use Rattle.std.proofs.lemmas.List.{set-get_or, set-set, get_or-set_same, replicate-append-replicate}
use Rattle.page_memory.specs.Memory.{Memory}
use Rattle.rv_exec.specs.declared.outcome.Outcome.{Outcome}
use Rattle.rv_exec.specs.declared.outcome.Outcome.TheVariants.{Done, Ecall, Trap, Absent}
use Rattle.rv_exec.specs.Outcomes.{Used}
use Rattle.rv_exec.specs.Registers.{Registers}
use Rattle.flat_machine.specs.declared.schedule.Turn.{Turn}
use Rattle.flat_machine.specs.Process.{Process, IsWhole, may_step, flat_run}
use Rattle.flat_machine.proofs.PlainRunLaws.{next_is}
use Rattle.flat_machine.proofs.RunLaws.{flat_run_none}
use Rattle.flat_machine.specs.Schedule.{written_out, room}
use Rattle.flat_machine.proofs.StepLaws.{started}
use Rattle.flat_machine.proofs.TurnsLaws.{one_more}
use Rattle.paged_memory.specs.Coheres.{Coheres}
use Rattle.paged_memory.specs.cleaning.Copies.{KeepsCopies}
use Rattle.paged_memory.specs.access.HartMemory.{MarksSince, UsedSince, WasShown}
use Rattle.paged_memory.proofs.access_laws.HartMemoryLaws.{access_itself}
use Rattle.paged_memory.specs.access.Missing.{TakesSince}
use Rattle.paged_memory.specs.moves.Moving.{OnlyCaches, SameTablesIn}
use Rattle.paged_memory.specs.Paged.{PagedValue, memory_of}
use Rattle.paged_memory.proofs.ShowingLaws.{used_given_up}
use Rattle.paged_memory.specs.access.Using.{cache_in, HasIn, LacksIn, MarkedIn, KeepsIn}
use Rattle.paged_memory.proofs.access_laws.UsingLaws.{caches_shown, caches_marks, same_marks}
use Rattle.paged_memory.specs.Whole.{is_used_in, is_dirty_in, harts_in}
use Rattle.space_core.specs.declared.progress.Slice.{Slice}
use Rattle.space_core.specs.declared.progress.SliceStop.{SliceStop}
use Rattle.space_core.specs.declared.progress.SliceStop.TheVariants.{Budget}
use Rattle.space_core.specs.Endings.{LeftBy, EndsOne, RunsRecorded, RefusesAll}
use Rattle.space_core.specs.HartLoop.{RunsTo, RunsEach, RunsShort, RunsUntil, HartRuns}
use Rattle.space_core.specs.FromBelow.{MissesNext}
use Rattle.space_core.specs.Next.{next_pages, next_stores, answered, begun}
use Rattle.space_core.specs.RunningValue.{RunningValue, RecordedValue, with_memory}
use Rattle.space_core.specs.Slices.{EachStep, BoundsEach, StopsRecorded}
use Rattle.space_core.specs.Slicing.{shown_process, SettlesCaches}
use Rattle.space_core.specs.StandsFor.{SpaceValue, StandsFor, IsSpace}
use Rattle.space_core.specs.StepByStep.{SlicesOne, StepsOn, StepsEach}
use Rattle.space_core.proofs.SliceLaws.{harts_run, settled}
use Rattle.space_core.proofs.Bounding.{bound_none}
use Rattle.space_core.proofs.FromBelowLaws.{at_absent, misses_settled, none_absent, takes_settled}
use Rattle.space_core.proofs.SliceMoves.{each_none, used_on}
use Rattle.space_core.proofs.Standing.{stands_sliced}
use Rattle.space_core.proofs.StepEnds.{done_one}
use Rattle.space_core.proofs.StepMoves.{whole_set}

-- a schedule with so many more instructions of a hart
record More (n : ℕ) (turns : List Turn) (hart : ℕ) : Type 0 where
  after : List Turn
  recorded : written_out after ≡ written_out turns ++ replicate n hart
  left : room after hart + n ≡ room turns hart
  none : n ≡ 0 → after ≡ turns

-- one more written out than so many
written_more : (out now after : List ℕ) (n hart : ℕ) → now ≡ out ++ replicate n hart → after ≡ now ++ replicate 1 hart → after ≡ out ++ replicate (suc n) hart
written_more out now after n hart before more =
    more ∙ ap (λ l. l ++ replicate 1 hart) before ∙ append_assoc out (replicate n hart) (replicate 1 hart)
    ∙ ap (λ l. out ++ l) (replicate-append-replicate n 1 hart) ∙ ap (λ k. out ++ replicate k hart) (sym (next_is n))

written_last : (out now after : List ℕ) (n hart : ℕ) → now ≡ out ++ replicate n hart → after ≡ out ++ replicate (suc n) hart → after ≡ now ++ replicate 1 hart
written_last out now after n hart before all =
    all ∙ ap (λ k. out ++ replicate k hart) (next_is n) ∙ ap (λ l. out ++ l) (sym (replicate-append-replicate n 1 hart))
    ∙ sym (append_assoc out (replicate n hart) (replicate 1 hart)) ∙ ap (λ l. l ++ replicate 1 hart) (sym before)

so_many_more : (n : ℕ) (turns : List Turn) (hart : ℕ) → n ≤ room turns hart → More n turns hart
so_many_more zero turns hart fit = record { after = turns; recorded = sym (append_nil_of turns hart); left = omega arith; none = λ _. refl }
  where
    append_nil_of : (turns : List Turn) (hart : ℕ) → written_out turns ++ replicate 0 hart ≡ written_out turns
    append_nil_of turns hart = append-nil (written_out turns)
so_many_more (suc n) turns hart fit =
    let before = so_many_more n turns hart (omega arith) in
    let fits = before.left in
    let more = one_more before.after hart (omega (arith, fits, fit)) in
    let less = more.left in
    record {
      after = more.after;
      recorded = written_more (written_out turns) (written_out before.after) (written_out more.after) n hart before.recorded more.recorded;
      left = omega (arith, fits, less);
      none = λ e. absurd (omega (arith, e));
    }

-- ---- in the loop

-- an instruction that was done, behind others
pub each_done : {S : Type 0} (held : S → List ℕ) (honest : Type 0) (hart n : ℕ) (regs : Registers) (old : PagedValue S) (at : Registers) (between : PagedValue S) (regs' : Registers) (new : PagedValue S)
    → RunsEach held honest hart n regs old at between → RunsTo held honest hart Done at between regs' new → RunsEach held honest hart (n + 1) regs old regs' new
unfolding RunsEach
each_done held honest hart n regs old at between regs' new each one =
    subst (λ k. RunsEach held honest hart k regs old regs' new) (next_is n) ((at, between), (each, one))

pub none_done : {S : Type 0} (held : S → List ℕ) (honest : Type 0) (hart : ℕ) (regs : Registers) (old : PagedValue S) → RunsEach held honest hart 0 regs old regs old
unfolding RunsEach
none_done held honest hart regs old = (refl, refl)

-- one that came to something else
pub is_short : {S : Type 0} (held : S → List ℕ) (honest : Type 0) (hart most n : ℕ) (o : Outcome) (regs : Registers) (old : PagedValue S) (regs' : Registers) (new : PagedValue S)
    → (o ≡ Done → ⊥) → RunsUntil held honest hart most n o regs old regs' new → RunsShort held honest hart most n o regs old regs' new
is_short held honest hart most n Done regs old regs' new other until = absurd (other refl)
is_short held honest hart most n Ecall regs old regs' new other until = until
is_short held honest hart most n (Trap cause value) regs old regs' new other until = until
is_short held honest hart most n (Absent page) regs old regs' new other until = until

-- a hart whose registers go on so
pub hart_runs : (hart : ℕ) (how : Registers → Registers → Type 0) (inside now : RunningValue) (regs regs' : Registers) → inside ≡ now → regs ≡ slice_index_or inside.harts hart regs → how regs regs'
    → ((memory : Memory) → IsWhole (with_memory inside memory)) → HartRuns hart how now (record inside { harts = slice_set inside.harts hart regs' })
hart_runs hart how inside now regs regs' same are runs whole =
    subst (λ (v : RunningValue). HartRuns hart how v (record inside { harts = slice_set inside.harts hart regs' })) same
    (record { regs = regs; regs' = regs'; first = are; left = refl; runs = runs; whole = whole })

pub runs_as : (hart : ℕ) (how how' : Registers → Registers → Type 0) (old new : RunningValue) → (r : HartRuns hart how old new) → how' r.regs r.regs' → HartRuns hart how' old new
runs_as hart how how' old new r runs = record { regs = r.regs; regs' = r.regs'; first = r.first; left = r.left; runs = runs; whole = r.whole }

module _ {S : Type 0} (held : S → List ℕ) (honest : Type 0) (hart : ℕ) where
  each_harts : (n : ℕ) (regs : Registers) (old : PagedValue S) (regs' : Registers) (new : PagedValue S) → RunsEach held honest hart n regs old regs' new → harts_in new ≡ harts_in old
  unfolding RunsEach
  each_harts zero regs old regs' new each = ap harts_in each.1
  each_harts (suc n) regs old regs' new each = each.1.1.kept.harts ∙ each_harts n regs old each.0.0 each.0.1 each.1.0

  -- ---- recorded

  -- what there is before the last instruction ends
  pub record BeforeLast (most n : ℕ) (o : Outcome) (old new : RunningValue) (memory memory' : PagedValue S) : Type 0 where
    pub may : may_step hart (with_memory new (memory_of held memory')) ≡ true
    pub cached : harts_in memory' ≡ length new.harts
    pub fewer : n < most
    pub left : LeftBy held honest hart o new memory'
    pub each : HartRuns hart (λ regs regs'. RunsEach held honest hart n regs memory regs' left.before) old new

  pub before_last : (most n : ℕ) (o : Outcome) (inside now : RecordedValue) (new : RunningValue) (memory memory' : PagedValue S) → inside ≡ now → may_step hart (with_memory now.running (memory_of held memory)) ≡ true
      → harts_in memory ≡ length now.running.harts → harts_in memory' ≡ harts_in memory → (o ≡ Done → ⊥)
      → HartRuns hart (λ regs regs'. RunsUntil held honest hart most n o regs memory regs' memory') inside.running new → BeforeLast most n o now.running new memory memory'
  before_last most n o inside now new memory memory' same may cached harts other runs =
      subst (λ (r : RecordedValue). BeforeLast most n o r.running new memory memory') same
      (record {
        may = subst (λ (v : RunningValue). may_step hart (with_memory v (memory_of held memory')) ≡ true) (sym runs.left) may_inside;
        cached = harts ∙ cached ∙ ap (λ (r : RecordedValue). length r.running.harts) (sym same) ∙ sym (ap (λ (v : RunningValue). length v.harts) runs.left ∙ length-set inside.running.harts hart runs.regs');
        fewer = short.fewer;
        left = record {
          before = short.between;
          regs = runs.regs';
          are = subst (λ (v : RunningValue). runs.regs' ≡ slice_index_or v.harts hart runs.regs') (sym runs.left)
              (sym (get_or-set_same inside.running.harts hart runs.regs' runs.regs' (started hart (with_memory inside.running (memory_of held memory)) (runs.whole (memory_of held memory)) may_inside)));
          runs = short.at_last;
        };
        each = runs_as hart _ (λ regs regs'. RunsEach held honest hart n regs memory regs' short.between) inside.running new runs short.each;
      })
    where
      short : RunsShort held honest hart most n o runs.regs memory runs.regs' memory'
      short = is_short held honest hart most n o runs.regs memory runs.regs' memory' other runs.runs

      may_inside : may_step hart (with_memory inside.running (memory_of held memory)) ≡ true
      may_inside = ap (λ (r : RecordedValue). may_step hart (with_memory r.running (memory_of held memory))) same ∙ may

  pub last_recorded : (most n ran : ℕ) (why : SliceStop) (o : Outcome) (inside now : RecordedValue) (new running : RunningValue) (schedule : List Turn) (memory memory' after : PagedValue S) → inside ≡ now
      → (last : BeforeLast most n o now.running new memory memory') → ((left : LeftBy held honest hart o new memory') → (fits : ℕ) → 0 < fits → EndsOne held honest hart fits ran why new left.before running after)
      → written_out schedule ≡ written_out inside.schedule ++ replicate (n + ran) hart → room schedule hart + (n + ran) ≡ room inside.schedule hart
      → RunsRecorded held honest hart n (Some (ran, why)) now (record { running = running; schedule = schedule }) memory after
  last_recorded most n ran why o inside now new running schedule memory memory' after same last ends recorded left = record {
    between = new;
    before = last.left.before;
    runs = last.each;
    at_last = λ fits some. ends last.left fits some;
    recorded = recorded ∙ ap (λ (r : RecordedValue). written_out r.schedule ++ replicate (n + ran) hart) same;
    left = left ∙ ap (λ (r : RecordedValue). room r.schedule hart) same;
  }

  pub all_recorded : (most n : ℕ) (o : Outcome) (inside now : RecordedValue) (new : RunningValue) (schedule : List Turn) (memory memory' : PagedValue S) → inside ≡ now → o ≡ Done
      → HartRuns hart (λ regs regs'. RunsUntil held honest hart most n o regs memory regs' memory') inside.running new
      → written_out schedule ≡ written_out inside.schedule ++ replicate n hart → room schedule hart + n ≡ room inside.schedule hart
      → RunsRecorded held honest hart n None now (record { running = new; schedule = schedule }) memory memory'
  all_recorded most n o inside now new schedule memory memory' same all runs recorded left =
      let until = subst (λ x. RunsUntil held honest hart most n x runs.regs memory runs.regs' memory') all runs.runs in
      subst (λ (r : RecordedValue). RunsRecorded held honest hart n None r (record { running = new; schedule = schedule }) memory memory') same
      (record {
        between = new;
        before = memory';
        runs = runs_as hart _ (λ regs regs'. RunsEach held honest hart n regs memory regs' memory') inside.running new runs until.1;
        at_last = (refl, refl);
        recorded = recorded;
        left = left;
      })

  -- ---- as slices

  -- what a slice of one instruction starts from
  pub record Ready (space : SpaceValue S) : Type 0 where
    pub whole : (memory : Memory) → IsWhole (with_memory space.running memory)
    pub may : may_step hart (shown_process held space) ≡ true
    pub cached : harts_in space.memory ≡ length space.running.harts
    pub stands : honest → StandsFor held space

  -- a process with another schedule and other parts
  abbrev pub with_parts : SpaceValue S → RunningValue → List Turn → PagedValue S → SpaceValue S
  with_parts old running schedule memory = record { image = old.image; input = old.input; running = running; schedule = schedule; memory = memory; purged = old.purged }

  -- an instruction that ended so is a slice, once it is recorded and the caches are settled
  pub slice_of : (ran : ℕ) (why : SliceStop) (old : SpaceValue S) (running : RunningValue) (schedule : List Turn) (after new : PagedValue S) → EndsOne held honest hart (room old.schedule hart) ran why old.running old.memory running after
      → (honest → StandsFor held old) → written_out schedule ≡ written_out old.schedule ++ replicate ran hart → room schedule hart + ran ≡ room old.schedule hart
      → OnlyCaches after new → SettlesCaches why hart after new → harts_in new ≡ length running.harts → Coheres held honest new → SlicesOne held honest hart ran why old (with_parts old running schedule new)
  slice_of ran why old running schedule after new ends stands recorded left only settles cached coheres =
      let p : Process = shown_process held old in
      let shown : with_memory running (memory_of held after) ≡ with_memory running (memory_of held new) = ap (with_memory running) (sym (caches_shown held after new only)) in
      let ran_is : flat_run (replicate ran hart) p ≡ Some (with_memory running (memory_of held new)) = ends.ran_is ∙ ap Some shown in
      let pages : KeepsIn old.memory new = subst (λ (m : PagedValue S). KeepsIn old.memory m) (sym only) ends.kept.pages in
      record {
        ran_is = ran_is;
        recorded = recorded;
        left = left;
        within = ends.within;
        stops = subst (StopsRecorded (LacksIn old.memory) hart 1 (room old.schedule hart) p why ran) shown ends.stops;
        pages = λ done at h e. used_on (HasIn old.memory hart) (UsedSince hart after (cache_in old.memory hart)) (HasIn old.memory hart) (MarksSince new (cache_in old.memory hart)) (next_pages hart at) (λ _ had. had)
            (λ page used. subst (λ (m : PagedValue S). MarksSince m (cache_in old.memory hart) page) (sym only) used.0) (ends.pages done at h e);
        bound = same_marks new after (λ marks. BoundsEach (MarkedIn old.memory) marks hart (begun why ran) p) (sym (caches_marks after new only)) ends.bound;
        shown = λ budget done at h e k d w.
            subst (λ c. WasShown (cache_in old.memory hart) c (slice_index_or (next_pages hart at) k d)) (sym (subst (λ stop. SettlesCaches stop hart after new) budget settles hart)) ((ends.pages done at h e).1 k d w).1;
        takes = λ done at h e. takes_settled hart old.memory after new (next_stores hart at) only (ends.takes done at h e);
        missed = at_absent why (MissesNext hart p old.memory after) (MissesNext hart p old.memory new) (λ page was. misses_settled hart p old.memory after new page only was) ends.missed;
        kept = record {
          image = refl;
          input = refl;
          purged = refl;
          process = ap (λ (m : PagedValue S). m.process) only ∙ ends.kept.process;
          pages = pages;
          tabled = subst (λ (m : PagedValue S). SameTablesIn old.memory m) (sym only) ends.kept.tabled;
          used = λ page small is. subst (λ (m : PagedValue S). is_used_in m page ≡ true) (sym only) (ends.kept.used page small is);
          changed = λ page small is. subst (λ (m : PagedValue S). is_dirty_in m page ≡ true) (sym only) (ends.kept.changed page small is);
          copies = subst (λ (m : PagedValue S). KeepsCopies old.memory m) (sym only) ends.kept.copies;
          harts = cached;
          caches = settled why hart old.memory after new ends.kept (caches_marks after new only) settles;
        };
        stands = λ h. stands_sliced held old (with_parts old running schedule new) hart ran refl refl ran_is recorded (used_given_up old.memory new pages) (stands h);
        coheres = coheres;
      }

  -- a process with other registers of the hart, another schedule and another memory
  abbrev pub ran_as : SpaceValue S → Registers → List Turn → PagedValue S → SpaceValue S
  ran_as old regs schedule memory = with_parts old (record old.running { harts = slice_set old.running.harts hart regs }) schedule memory

  record OneOn (old new : SpaceValue S) : Type 0 where
    one : SlicesOne held honest hart 1 Budget old new
    ready : Ready new

  one_on : (old : SpaceValue S) (regs regs' : Registers) (schedule : List Turn) (new : PagedValue S) → Ready old → regs ≡ slice_index_or old.running.harts hart regs
      → RunsTo held honest hart Done regs old.memory regs' new → written_out schedule ≡ written_out old.schedule ++ replicate 1 hart → room schedule hart + 1 ≡ room old.schedule hart
      → OneOn old (ran_as old regs' schedule new)
  one_on old regs regs' schedule new ready are runs recorded left =
      let ends = done_one held honest hart (room old.schedule hart) (omega (arith, left)) old.running old.memory new regs regs' (ready.whole (memory_of held old.memory)) ready.may are runs in
      let cached : harts_in new ≡ length (slice_set old.running.harts hart regs') = runs.kept.harts ∙ ready.cached ∙ sym (length-set old.running.harts hart regs') in
      let one = slice_of 1 Budget old (record old.running { harts = slice_set old.running.harts hart regs' }) schedule new new ends ready.stands recorded left refl (λ h. refl) cached runs.coheres in
      record {
        one = one;
        ready = record {
          whole = λ any. whole_set hart old.running regs' any (ready.whole any);
          may = ready.may;
          cached = cached;
          stands = one.stands;
        };
      }

  pub record EachOn (n : ℕ) (old new : SpaceValue S) : Type 0 where
    pub on : StepsOn held honest hart n old new
    pub ready : Ready new

  -- so many instructions are so many slices
  pub each_on : (n : ℕ) (old : SpaceValue S) (regs regs' : Registers) (schedule : List Turn) (new : PagedValue S) → Ready old → regs ≡ slice_index_or old.running.harts hart regs
      → RunsEach held honest hart n regs old.memory regs' new → written_out schedule ≡ written_out old.schedule ++ replicate n hart → room schedule hart + n ≡ room old.schedule hart
      → (n ≡ 0 → schedule ≡ old.schedule) → EachOn n old (ran_as old regs' schedule new)
  unfolding RunsEach StepsOn
  each_on zero old regs regs' schedule new ready are each recorded left none =
      let harts : slice_set old.running.harts hart regs' ≡ old.running.harts = ap (slice_set old.running.harts hart) (each.0 ∙ are) ∙ set-get_or old.running.harts hart regs in
      let same : ran_as old regs' schedule new ≡ old =
      λ i. record { image = old.image; input = old.input; running = record old.running { harts = harts i }; schedule = none refl i; memory = each.1 i; purged = old.purged } in
      record { on = same; ready = subst Ready (sym same) ready }
  each_on (suc n) old regs regs' schedule new ready are each recorded left none =
      let now = each.0 in
      let more = so_many_more n old.schedule hart (omega (arith, left)) in
      let fits = more.left in
      let before = each_on n old regs now.0 more.after now.1 ready are each.1.0 more.recorded more.left more.none in
      let between : SpaceValue S = ran_as old now.0 more.after now.1 in
      let within : hart < length old.running.harts = started hart (shown_process held old) (ready.whole (memory_of held old.memory)) ready.may in
      let last = one_on between now.0 regs' schedule new before.ready (sym (get_or-set_same old.running.harts hart now.0 now.0 within)) each.1.1
      (written_last (written_out old.schedule) (written_out more.after) (written_out schedule) n hart more.recorded recorded) (omega (arith, left, fits)) in
      let same : ran_as between regs' schedule new ≡ ran_as old regs' schedule new =
      ap (λ harts. record { image = old.image; input = old.input; running = record old.running { harts = harts }; schedule = schedule; memory = new; purged = old.purged }) (set-set old.running.harts hart now.0 regs') in
      record {
        on = (between, (before.on, subst (SlicesOne held honest hart 1 Budget between) same last.one));
        ready = subst Ready same last.ready;
      }

  -- ---- and so are those that were recorded by one addition

  abbrev pub recorded_of : SpaceValue S → RecordedValue
  recorded_of space = record { running = space.running; schedule = space.schedule }

  ready_for : (old : SpaceValue S) (how : Registers → Registers → Type 0) (between : RunningValue) → HartRuns hart how old.running between → may_step hart (shown_process held old) ≡ true → IsSpace held honest old → Ready old
  ready_for old how between runs may is = record { whole = runs.whole; may = may; cached = is.cached; stands = is.stands }

  -- so many that were done
  done_on : (n : ℕ) (old : SpaceValue S) (schedule : List Turn) (between : RunningValue) (before : PagedValue S) → may_step hart (shown_process held old) ≡ true → IsSpace held honest old
      → HartRuns hart (λ regs regs'. RunsEach held honest hart n regs old.memory regs' before) old.running between
      → written_out schedule ≡ written_out old.schedule ++ replicate n hart → room schedule hart + n ≡ room old.schedule hart → (n ≡ 0 → schedule ≡ old.schedule)
      → EachOn n old (with_parts old between schedule before)
  done_on n old schedule between before may is runs recorded left none =
      subst (λ (v : RunningValue). EachOn n old (with_parts old v schedule before)) (sym runs.left)
      (each_on n old runs.regs runs.regs' schedule before (ready_for old _ between runs may is) runs.first runs.runs recorded left none)

  pub record Left (n : ℕ) (last : Option (ℕ × SliceStop)) (old new : SpaceValue S) : Type 0 where
    pub each : StepsEach held honest hart n last old new
    pub is : IsSpace held honest new

  -- all were done
  pub all_left : (n most : ℕ) (o : Option Slice) (old : SpaceValue S) (recorded : RecordedValue) (memory : PagedValue S) → o ≡ None → IfNone o (n ≡ most) → 0 < most → may_step hart (shown_process held old) ≡ true → IsSpace held honest old
      → RunsRecorded held honest hart n (option_map (λ slice. (slice.ran, slice.stop)) o) (recorded_of old) recorded old.memory memory
      → Left n (option_map (λ slice. (slice.ran, slice.stop)) o) old (with_parts old recorded.running recorded.schedule memory)
  all_left n most (Some slice) old recorded memory none all some may is r = absurd (none-some _ (sym none))
  all_left n most None old recorded memory none all some may is r =
      let done = done_on n old recorded.schedule r.between r.before may is r.runs r.recorded r.left (λ e. absurd (omega (arith, e, all, some))) in
      let same : with_parts old r.between recorded.schedule r.before ≡ with_parts old recorded.running recorded.schedule memory =
      λ i. with_parts old (sym r.at_last.0 i) recorded.schedule (sym r.at_last.1 i) in
      record {
        each = record { between = with_parts old r.between recorded.schedule r.before; on = done.on; at_last = sym same };
        is = subst (IsSpace held honest) same (record { stands = done.ready.stands; cached = done.ready.cached });
      }

  -- the last one ended so
  pub last_left : (n most : ℕ) (o : Option Slice) (slice : Slice) (old : SpaceValue S) (recorded : RecordedValue) (memory new : PagedValue S) → o ≡ Some slice → IfSome o (λ _. n < most) → most ≤ room old.schedule hart → may_step hart (shown_process held old) ≡ true → IsSpace held honest old
      → RunsRecorded held honest hart n (option_map (λ slice. (slice.ran, slice.stop)) o) (recorded_of old) recorded old.memory memory
      → OnlyCaches memory new → SettlesCaches slice.stop hart memory new → harts_in new ≡ length recorded.running.harts → Coheres held honest new
      → Left n (option_map (λ slice. (slice.ran, slice.stop)) o) old (with_parts old recorded.running recorded.schedule new)
  last_left n most None slice old recorded memory new is_last fewer fits may is r only settles cached coheres = absurd (none-some _ is_last)
  last_left n most (Some last) slice old recorded memory new is_last fewer fits may is r only settles cached coheres =
      let more = so_many_more n old.schedule hart (omega (arith, fewer, fits)) in
      let room_left = more.left in
      let done = done_on n old more.after r.between r.before may is r.runs more.recorded more.left more.none in
      let between : SpaceValue S = with_parts old r.between more.after r.before in
      let written : written_out recorded.schedule ≡ written_out more.after ++ replicate last.ran hart =
      r.recorded ∙ ap (λ l. written_out old.schedule ++ l) (sym (replicate-append-replicate n last.ran hart)) ∙ sym (append_assoc (written_out old.schedule) (replicate n hart) (replicate last.ran hart))
      ∙ ap (λ l. l ++ replicate last.ran hart) (sym more.recorded) in
      let all_room = r.left in
      let one = slice_of last.ran last.stop between recorded.running recorded.schedule memory new (r.at_last (room more.after hart) (omega (arith, room_left, fewer, fits))) done.ready.stands written (omega (arith, all_room, room_left))
      only (subst (λ (s : Slice). SettlesCaches s.stop hart memory new) (sym (same_Some _ _ is_last)) settles) cached coheres in
      record {
        each = record { between = between; on = done.on; at_last = one };
        is = record { stands = one.stands; cached = cached };
      }

  -- no hart that was started goes
  pub no_fewer_harts : (n : ℕ) (o : Option Slice) (slice : Slice) (old : SpaceValue S) (recorded : RecordedValue) (memory : PagedValue S) → o ≡ Some slice → harts_in old.memory ≡ length old.running.harts
      → RunsRecorded held honest hart n (option_map (λ slice. (slice.ran, slice.stop)) o) (recorded_of old) recorded old.memory memory → harts_in memory ≤ length recorded.running.harts
  no_fewer_harts n None slice old recorded memory is_last cached r = absurd (none-some _ is_last)
  no_fewer_harts n (Some last) slice old recorded memory is_last cached r =
      let ends = r.at_last 1 (omega arith) in
      let more = harts_run (replicate last.ran hart) _ _ ends.ran_is in
      let kept = ends.kept.harts in
      let before = each_harts n r.runs.regs old.memory r.runs.regs' r.before r.runs.runs in
      let same : length r.between.harts ≡ length old.running.harts = ap (λ (v : RunningValue). length v.harts) r.runs.left ∙ length-set old.running.harts hart r.runs.regs' in
      omega (arith, more, kept, before, same, cached)

  -- ---- steps behind which one is refused

  none_on : (space : SpaceValue S) → StepsOn held honest hart 0 space space
  unfolding StepsOn
  none_on space = refl

  pub no_steps : (space : SpaceValue S) → StepsEach held honest hart 0 None space space
  no_steps space = record { between = space; on = none_on space; at_last = refl }

  on_left : (n : ℕ) (old new : SpaceValue S) → StepsOn held honest hart n old new → room new.schedule hart + n ≡ room old.schedule hart
  unfolding StepsOn
  on_left zero old new on = let same = ap (λ (s : SpaceValue S). room s.schedule hart) on in omega (arith, same)
  on_left (suc n) old new on = let first = on_left n old on.0 on.1.0 in let last = on.1.1.left in omega (arith, first, last)

  -- where fewer ran than were allowed, and all went on, the schedule is full
  pub all_or_full : (n most allowed : ℕ) (o : Option Slice) (old new : SpaceValue S) → allowed ≡ min most (room old.schedule hart) → IfNone o (n ≡ allowed)
      → StepsEach held honest hart n (option_map (λ slice. (slice.ran, slice.stop)) o) old new → IfNone o ((n ≡ most) ⊎ RefusesAll held hart new)
  all_or_full n most allowed (Some slice) old new least all each = tt
  all_or_full n most allowed None old new least all each =
      let left = on_left n old each.between each.on in
      let same = ap (λ (s : SpaceValue S). room s.schedule hart) each.at_last in
      elim (eqb_tells n most) [
        | inl is ↦ inl is.1
        | inr other ↦ inr (λ may. (let differs = other.1 in omega (arith, left, same, least, all, differs)))
      ]

  pub record LeftOne (ran : ℕ) (why : SliceStop) (old new : SpaceValue S) : Type 0 where
    pub slice : SlicesOne held honest hart ran why old new
    pub is : IsSpace held honest new

  -- an instruction that is not run, whatever it is
  pub refused_one : (why : SliceStop) (old : SpaceValue S) (new : PagedValue S) → answered why 0 ≡ 0 → begun why 0 ≡ 0
      → StopsRecorded (LacksIn old.memory) hart 1 (room old.schedule hart) (shown_process held old) why 0 (shown_process held old) → IsSpace held honest old
      → OnlyCaches old.memory new → SettlesCaches why hart old.memory new → harts_in new ≡ harts_in old.memory → Coheres held honest new → LeftOne 0 why old (record old { memory = new })
  refused_one why old new answers begins stops is only settles same coheres =
      let p : Process = shown_process held old in
      let cached = same ∙ is.cached in
      let one = slice_of 0 why old old.running old.schedule old.memory new
      (record {
        ran_is = flat_run_none p;
        within = omega arith;
        stops = stops;
        pages = subst (λ n. EachStep (λ at. Used (HasIn old.memory hart) (UsedSince hart old.memory (cache_in old.memory hart)) (next_pages hart at)) hart n p) (sym answers) (each_none _ hart p);
        bound = bound_none (MarkedIn old.memory) hart (begun why 0) p;
        takes = subst (λ n. EachStep (λ at. All (TakesSince old.memory (cache_in old.memory hart)) (next_stores hart at)) hart n p) (sym answers) (each_none _ hart p);
        missed = none_absent why (MissesNext hart p old.memory old.memory) begins;
        kept = access_itself hart old.memory;
      }) is.stands (sym (append-nil (written_out old.schedule))) (omega arith) only settles cached coheres in
      record { slice = one; is = record { stands = one.stands; cached = cached } }

  pub then_refused : (n ran : ℕ) (why : SliceStop) (o : Option Slice) (old between new : SpaceValue S) → o ≡ None → StepsEach held honest hart n (option_map (λ slice. (slice.ran, slice.stop)) o) old between
      → SlicesOne held honest hart ran why between new → StepsEach held honest hart n (Some (ran, why)) old new
  then_refused n ran why (Some slice) old between new none each one = absurd (none-some _ (sym none))
  then_refused n ran why None old between new none each one = record {
    between = each.between;
    on = each.on;
    at_last = subst (λ (s : SpaceValue S). SlicesOne held honest hart ran why s new) each.at_last one;
  }
