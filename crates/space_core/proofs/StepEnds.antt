-- How a hart's step ends, in its process and as a slice of one instruction.
use Rattle.std.proofs.Common.{◌≡◌, ◌≤◌, ◌<◌, ℕ, true, List, length, slice_set, slice_index_or, Option, Some, Result, Ok, Err, inl, inr, ap, ◌∙◌, refl, sym, subst, arith}
use Rattle.std.proofs.lemmas.Option.{same_Some, slice_get-get_or}
use Rattle.page_memory.specs.Memory.{Memory}
use Rattle.page_memory.specs.declared.words.Access.{Access}
use Rattle.rv_exec.specs.declared.outcome.Outcome.{Outcome}
use Rattle.rv_exec.specs.declared.outcome.Outcome.TheVariants as outcome
use Rattle.rv_exec.specs.Outcomes.{Used}
use Rattle.rv_exec.specs.Registers.{Registers}
use Rattle.rv_exec.specs.Leaves.{LeavesPages}
use Rattle.rv_exec.specs.Uses.{pages_stored}
use Rattle.page_memory.specs.Words.{page_number}
use Rattle.std.specs.Prelude.{All}
use Rattle.env_calls.specs.declared.served.ServeStop.{ServeStop}
use Rattle.env_calls.specs.declared.served.ServeStop.TheVariants as serve
use Rattle.env_calls.specs.declared.stepping.Stepped.{Stepped}
use Rattle.env_calls.specs.declared.stepping.Stepped.TheVariants as stepped
use Rattle.env_calls.specs.Environment.{Environment}
use Rattle.env_calls.specs.Finishing.{RestUses, CameTo, IsRest, IsStep}
use Rattle.env_calls.proofs.FinishingLaws.{step_then}
use Rattle.env_calls.specs.Leaving.{LeavesRest}
use Rattle.env_calls.proofs.LeavingLaws.{leaves_then, stores_next}
use Rattle.env_calls.specs.Serving.{UsesPages}
use Rattle.env_calls.proofs.StepLaws.{effect_next, used_next, bound_first}
use Rattle.flat_machine.specs.declared.end.End.{End}
use Rattle.flat_machine.specs.Process.{Process, IsWhole, may_step}
use Rattle.flat_machine.proofs.RunLaws.{flat_run_none, one_more_step}
use Rattle.flat_machine.specs.Settling.{harts_after, ending_after, IfSpawns}
use Rattle.flat_machine.proofs.SettlingLaws.{room_to_spawn, settled, harts_stay}
use Rattle.paged_memory.specs.access.HartMemory.{KeepsAccess, UsedSince}
use Rattle.paged_memory.proofs.access_laws.HartMemoryLaws.{access_on, served_before, used_since}
use Rattle.paged_memory.proofs.access_laws.ShownLaws.{shown_back}
use Rattle.paged_memory.specs.access.Missing.{MissesIn, TakesSince}
use Rattle.paged_memory.proofs.access_laws.MissingLaws.{since_kept}
use Rattle.paged_memory.proofs.access_laws.StoredLaws.{since_back}
use Rattle.paged_memory.specs.Paged.{PagedValue, memory_of}
use Rattle.paged_memory.specs.access.Using.{cache_in, HasIn, LacksIn, MarkedIn}
use Rattle.paged_memory.proofs.access_laws.UsingLaws.{lacked_in, had_in}
use Rattle.space_core.specs.declared.progress.Progress.{Progress}
use Rattle.space_core.specs.declared.progress.Progress.TheVariants as progress
use Rattle.space_core.specs.declared.progress.SliceStop.{SliceStop}
use Rattle.space_core.specs.declared.progress.SliceStop.TheVariants as stop
use Rattle.space_core.specs.Endings.{LeftBy, EndsStep, EndsOne}
use Rattle.space_core.specs.HartLoop.{RunsTo}
use Rattle.space_core.specs.FromBelow.{AtAbsent, MissesNext}
use Rattle.space_core.specs.Next.{next_pages, next_stores, answered, begun, progress_of_step, stop_after, stop_before}
use Rattle.space_core.specs.RunningValue.{RunningValue, with_memory}
use Rattle.space_core.specs.Slices.{EachStep, BoundsEach, PassesOn, StopsRecorded}
use Rattle.space_core.proofs.Bounding.{next_bound, bound_one}
use Rattle.space_core.proofs.FromBelowLaws.{LeavesOf, next_taken, next_not_taken, misses_next}
use Rattle.space_core.proofs.SliceMoves.{each_none, each_more, used_on, still_may}
use Rattle.space_core.proofs.StepMoves.{is_started, registers_are, whole_with, progressed, used_pages, stopped_pages, wants_memory}

-- pages that were marked stay so

uses_marked : (has marks lacks marks' : ℕ → Type 0) (pages : List ℕ) (result : Result Stepped ServeStop) → ((page : ℕ) → marks page → marks' page)
    → UsesPages has marks lacks pages result → UsesPages has marks' lacks pages result
uses_marked has marks lacks marks' pages (Ok s) marked uses = used_on has marks has marks' pages (λ _ h. h) marked uses
uses_marked has marks lacks marks' pages (Err (serve.Absent page)) marked uses = uses
uses_marked has marks lacks marks' pages (Err serve.NoMemory) marked uses = used_on has marks has marks' pages (λ _ h. h) marked uses

rest_marked : (has marks lacks marks' : ℕ → Type 0) (o : Outcome) (regs : Registers) (memory : Memory) (result : Result Stepped ServeStop) → ((page : ℕ) → marks page → marks' page)
    → RestUses has marks lacks o regs memory result → RestUses has marks' lacks o regs memory result
rest_marked has marks lacks marks' outcome.Done regs memory result marked uses = uses
rest_marked has marks lacks marks' outcome.Ecall regs memory result marked uses = uses_marked has marks lacks marks' _ result marked uses
rest_marked has marks lacks marks' (outcome.Trap cause value) regs memory result marked uses = uses
rest_marked has marks lacks marks' (outcome.Absent page) regs memory result marked uses = uses

-- what takes stores otherwise too
rest_takes : {A : Type 0} (takes takes' : ℕ → Type 0) (misses : List ℕ → Access → ℕ → Type 0) (o : Outcome) (regs : Registers) (memory : Memory) (result : Result A ServeStop) → ((page : ℕ) → takes page → takes' page)
    → LeavesRest takes misses o regs memory result → LeavesRest takes' misses o regs memory result
rest_takes takes takes' misses outcome.Done regs memory result on leaves = tt
rest_takes takes takes' misses outcome.Ecall regs memory (Ok answer) on leaves = λ k d h. on _ (leaves k d h)
rest_takes takes takes' misses outcome.Ecall regs memory (Err (serve.Absent page)) on leaves = leaves
rest_takes takes takes' misses outcome.Ecall regs memory (Err serve.NoMemory) on leaves = λ k d h. on _ (leaves k d h)
rest_takes takes takes' misses (outcome.Trap cause value) regs memory result on leaves = tt
rest_takes takes takes' misses (outcome.Absent page) regs memory result on leaves = tt

no_want : {A : Type 0} (a : A) → ◌≡◌ {A = Result A ServeStop} (Ok a) (Err serve.NoMemory) → ⊥
no_want a same = cc

module _ {S : Type 0} (held : S → List ℕ) (honest : Type 0) (hart : ℕ) where
  -- a step of a hart with these registers, on its process's memory
  abbrev pub StepOn : RunningValue → PagedValue S → PagedValue S → Registers → Result Stepped ServeStop → Registers → Environment → Type 0
  StepOn old before after r result regs env =
      IsStep (HasIn before hart) (UsedSince hart after (cache_in before hart)) (LacksIn before) (MarkedIn before) (MarkedIn after) hart r old.environment (memory_of held before) result regs env (memory_of held after)

  marks_back : (before between after : PagedValue S) → KeepsAccess hart before between → (page : ℕ) → UsedSince hart after (cache_in between hart) page → UsedSince hart after (cache_in before hart) page
  marks_back before between after kept page used = (
    (used.0.0, elim used.0.1 [ inl set ↦ inl set | inr served ↦ inr (served_before page (cache_in between hart) (cache_in before hart) kept.goes.doomed served) ]),
    shown_back (cache_in before hart) (cache_in between hart) (cache_in after hart) page kept.goes.filled used.1,
  )

  marks_on : (before between after : PagedValue S) → KeepsAccess hart between after → (page : ℕ) → UsedSince hart between (cache_in before hart) page → UsedSince hart after (cache_in before hart) page
  marks_on before between after kept page used = used_since hart page (cache_in before hart) between after kept used

  -- an instruction and the rest of its step
  pub step_of : (o : Outcome) (old : RunningValue) (between after : PagedValue S) (r : Registers) (result : Result Stepped ServeStop) (regs : Registers) (env : Environment)
      → hart < length old.harts → r ≡ slice_index_or old.harts hart r → (left : LeftBy held honest hart o old between)
      → IsRest (HasIn between hart) (UsedSince hart after (cache_in between hart)) (LacksIn between) (MarkedIn between) (MarkedIn after) hart o r old.environment (memory_of held between) result regs env (memory_of held after)
      → KeepsAccess hart between after → StepOn old left.before after r result regs env
  step_of o old between after r result regs env within are left rest kept =
      let before = left.before in
      let same : left.regs ≡ r = same_Some _ _ (ap Some left.are ∙ sym (slice_get-get_or old.harts hart left.regs within) ∙ slice_get-get_or old.harts hart r within ∙ ap Some (sym are)) in
      step_then (HasIn before hart) (UsedSince hart between (cache_in before hart)) (LacksIn before) (HasIn between hart) (UsedSince hart after (cache_in before hart)) (LacksIn between)
      (MarkedIn before) (MarkedIn between) (MarkedIn after) hart r old.environment (memory_of held before) r (memory_of held between) result regs env (memory_of held after)
      (λ page has. had_in hart page before between left.runs.kept has) (λ page lacks. lacked_in before between page left.runs.kept.pages lacks) (marks_on before between after kept) o
      (subst (λ x. CameTo (HasIn before hart) (UsedSince hart between (cache_in before hart)) (LacksIn before) (MarkedIn before) (MarkedIn between) hart o x (memory_of held before) x (memory_of held between)) same left.runs.came)
      (record {
        stepped = rest.stepped;
        regs_stay = rest.regs_stay;
        env_stays = rest.env_stays;
        memory_stays = rest.memory_stays;
        pages = rest_marked (HasIn between hart) (UsedSince hart after (cache_in between hart)) (LacksIn between) (UsedSince hart after (cache_in before hart)) o r (memory_of held between) result (marks_back before between after left.runs.kept) rest.pages;
        bound = rest.bound;
        no_memory = rest.no_memory;
      })

  -- what they leave, from below
  pub leaves_of : (o : Outcome) (old : RunningValue) (between after : PagedValue S) (r : Registers) (result : Result Stepped ServeStop) (regs : Registers) (env : Environment)
      → hart < length old.harts → r ≡ slice_index_or old.harts hart r → (left : LeftBy held honest hart o old between)
      → IsRest (HasIn between hart) (UsedSince hart after (cache_in between hart)) (LacksIn between) (MarkedIn between) (MarkedIn after) hart o r old.environment (memory_of held between) result regs env (memory_of held after)
      → LeavesRest (TakesSince after (cache_in between hart)) (MissesIn between hart) o r (memory_of held between) result → KeepsAccess hart between after
      → LeavesOf hart (with_memory old (memory_of held left.before)) r left.before after result
  leaves_of o old between after r result regs env within are left rest leaves kept =
      let before = left.before in
      let same : left.regs ≡ r = same_Some _ _ (ap Some left.are ∙ sym (slice_get-get_or old.harts hart left.regs within) ∙ slice_get-get_or old.harts hart r within ∙ ap Some (sym are)) in
      leaves_then (HasIn before hart) (UsedSince hart between (cache_in before hart)) (LacksIn before) (HasIn between hart) (UsedSince hart after (cache_in between hart)) (LacksIn between) (UsedSince hart after (cache_in before hart))
      (MarkedIn before) (MarkedIn between) (MarkedIn after) (TakesSince between (cache_in before hart)) (TakesSince after (cache_in before hart)) (MissesIn before hart) (MissesIn between hart) hart r old.environment (memory_of held before) r (memory_of held between) result regs env (memory_of held after)
      (λ page taken. since_kept hart page (cache_in before hart) between after kept taken) (marks_on before between after kept) o
      (subst (λ x. CameTo (HasIn before hart) (UsedSince hart between (cache_in before hart)) (LacksIn before) (MarkedIn before) (MarkedIn between) hart o x (memory_of held before) x (memory_of held between)) same left.runs.came)
      rest
      (subst (λ (x : Registers). LeavesPages (TakesSince between (cache_in before hart)) (UsedSince hart between (cache_in before hart)) (MissesIn before hart) (MissesIn between hart) (page_number x.pc) (pages_stored x (memory_of held before)) o) same left.runs.leaves)
      (rest_takes (TakesSince after (cache_in between hart)) (TakesSince after (cache_in before hart)) (MissesIn between hart) o r (memory_of held between) result
      (λ page taken. since_back held honest hart page before between after left.runs.kept left.runs.coheres kept taken) leaves)

  -- ---- in a process

  abbrev pub taken_to : RunningValue → Registers → Environment → Stepped → RunningValue
  taken_to old regs env s = record { harts = harts_after s (slice_set old.harts hart regs); environment = env; ending = ending_after hart regs.pc s old.ending }

  -- a step that was taken
  pub record WasTaken (s : Stepped) (old : RunningValue) (before : PagedValue S) (new : RunningValue) (after : PagedValue S) : Type 0 where
    pub ends : EndsStep held honest hart (Ok (progress_of_step s)) old before new after
    pub whole : (memory : Memory) → IsWhole (with_memory new memory)

  pub was_taken : (old : RunningValue) (before after : PagedValue S) (r : Registers) (s : Stepped) (regs : Registers) (env : Environment)
      → IsWhole (with_memory old (memory_of held before)) → may_step hart (with_memory old (memory_of held before)) ≡ true → r ≡ slice_index_or old.harts hart r
      → StepOn old before after r (Ok s) regs env → LeavesOf hart (with_memory old (memory_of held before)) r before after (Ok s) → KeepsAccess hart before after → WasTaken s old before (taken_to old regs env s) after
  was_taken old before after r s regs env whole may are step leaves kept =
      let memory = memory_of held before in
      let memory' = memory_of held after in
      let done = settled hart (with_memory old memory) (with_memory old memory) r regs env memory' s whole refl may are step.stepped step.regs_stay step.env_stays step.memory_stays in
      let now = registers_are hart old old memory r whole refl may are in
      record {
        ends = record {
          step = done.step;
          progress = progressed hart old old memory r regs env memory' s refl now step.stepped;
          pages = used_pages (HasIn before hart) (UsedSince hart after (cache_in before hart)) hart (with_memory old memory) r now step.pages;
          bound = next_bound (MarkedIn before) (MarkedIn after) hart (with_memory old memory) r now step.bound;
          leaves = next_taken hart (with_memory old memory) r before after s (progress_of_step s) now leaves;
          wants = λ never. absurd (no_want _ never);
          stays = tt;
          memory_stays = tt;
          kept = kept;
        };
        whole = λ any. whole_with (taken_to old regs env s) memory' any done.whole;
      }

  -- one that was not
  pub was_not_taken : (old : RunningValue) (before after : PagedValue S) (r : Registers) (why : ServeStop) (regs : Registers) (env : Environment)
      → IsWhole (with_memory old (memory_of held before)) → may_step hart (with_memory old (memory_of held before)) ≡ true → r ≡ slice_index_or old.harts hart r
      → StepOn old before after r (Err why) regs env → LeavesOf hart (with_memory old (memory_of held before)) r before after (Err why) → KeepsAccess hart before after
      → EndsStep held honest hart (Err why) old before (record { harts = slice_set old.harts hart regs; environment = env; ending = old.ending }) after
  was_not_taken old before after r why regs env whole may are step leaves kept =
      let memory = memory_of held before in
      let now = registers_are hart old old memory r whole refl may are in
      let harts = harts_stay hart old.harts r regs are step.regs_stay in
      record {
        step = tt;
        progress = tt;
        pages = stopped_pages (HasIn before hart) (UsedSince hart after (cache_in before hart)) (LacksIn before) hart (with_memory old memory) r why now step.pages;
        bound = next_bound (MarkedIn before) (MarkedIn after) hart (with_memory old memory) r now step.bound;
        leaves = next_not_taken hart (with_memory old memory) r before after why now leaves;
        wants = wants_memory hart old old memory r why refl may now step.no_memory;
        stays = λ i. record { harts = harts i; environment = step.env_stays i; ending = old.ending };
        memory_stays = step.memory_stays;
        kept = kept;
      }

  -- what an instruction left, with the same process by another name
  abbrev left_inside : (o : Outcome) (inside now : RunningValue) (between : PagedValue S) → inside ≡ now → (left : LeftBy held honest hart o now between) → LeftBy held honest hart o inside between
  left_inside o inside now between same left = record {
    before = left.before;
    regs = left.regs;
    are = subst (λ (v : RunningValue). left.regs ≡ slice_index_or v.harts hart left.regs) (sym same) left.are;
    runs = left.runs;
  }

  -- a step that was taken, and there was room for a hart that it started
  pub record Took (s : Stepped) (inside now : RunningValue) (before : PagedValue S) (regs : Registers) (env : Environment) (after : PagedValue S) : Type 0 where
    pub roomy : (capacity : ℕ) → 8 ≤ capacity → IfSpawns s (length (slice_set inside.harts hart regs) < capacity)
    pub taken : WasTaken s now before (taken_to inside regs env s) after

  pub ended : (o : Outcome) (inside now : RunningValue) (between after : PagedValue S) (r : Registers) (s : Stepped) (regs : Registers) (env : Environment) → inside ≡ now → ((memory : Memory) → IsWhole (with_memory inside memory))
      → may_step hart (with_memory now (memory_of held between)) ≡ true → r ≡ slice_index_or inside.harts hart r → (left : LeftBy held honest hart o now between)
      → IsRest (HasIn between hart) (UsedSince hart after (cache_in between hart)) (LacksIn between) (MarkedIn between) (MarkedIn after) hart o r inside.environment (memory_of held between) (Ok s) regs env (memory_of held after)
      → LeavesRest (TakesSince after (cache_in between hart)) (MissesIn between hart) o r (memory_of held between) (Ok s) → KeepsAccess hart between after → Took s inside now left.before regs env after
  ended o inside now between after r s regs env same whole may are left rest leaves kept =
      let before = left.before in
      let memory = memory_of held before in
      let may_inside : may_step hart (with_memory inside memory) ≡ true = ap (λ (v : RunningValue). may_step hart (with_memory v memory)) same ∙ may in
      let step = step_of o inside between after r (Ok s) regs env (is_started hart inside inside memory (whole memory) refl may_inside) are (left_inside o inside now between same left) rest kept in
      record {
        roomy = λ capacity few. room_to_spawn hart (with_memory inside memory) r regs env (memory_of held after) s capacity (whole memory) step.stepped few;
        taken = subst (λ (v : RunningValue). WasTaken s v before (taken_to inside regs env s) after) same
            (was_taken inside before after r s regs env (whole memory) may_inside are step
            (leaves_of o inside between after r (Ok s) regs env (is_started hart inside inside memory (whole memory) refl may_inside) are (left_inside o inside now between same left) rest leaves kept) (access_on hart before between after left.runs.kept kept));
      }

  pub not_ended : (o : Outcome) (inside now : RunningValue) (between after : PagedValue S) (r : Registers) (why : ServeStop) (regs : Registers) (env : Environment) → inside ≡ now → ((memory : Memory) → IsWhole (with_memory inside memory))
      → may_step hart (with_memory now (memory_of held between)) ≡ true → r ≡ slice_index_or inside.harts hart r → (left : LeftBy held honest hart o now between)
      → IsRest (HasIn between hart) (UsedSince hart after (cache_in between hart)) (LacksIn between) (MarkedIn between) (MarkedIn after) hart o r inside.environment (memory_of held between) (Err why) regs env (memory_of held after)
      → LeavesRest {A = Stepped} (TakesSince after (cache_in between hart)) (MissesIn between hart) o r (memory_of held between) (Err why) → KeepsAccess hart between after
      → EndsStep held honest hart (Err why) now left.before (record { harts = slice_set inside.harts hart regs; environment = env; ending = inside.ending }) after
  not_ended o inside now between after r why regs env same whole may are left rest leaves kept =
      let before = left.before in
      let memory = memory_of held before in
      let may_inside : may_step hart (with_memory inside memory) ≡ true = ap (λ (v : RunningValue). may_step hart (with_memory v memory)) same ∙ may in
      let step = step_of o inside between after r (Err why) regs env (is_started hart inside inside memory (whole memory) refl may_inside) are (left_inside o inside now between same left) rest kept in
      subst (λ (v : RunningValue). EndsStep held honest hart (Err why) v before (record { harts = slice_set inside.harts hart regs; environment = env; ending = inside.ending }) after) same
      (was_not_taken inside before after r why regs env (whole memory) may_inside are step
      (leaves_of o inside between after r (Err why) regs env (is_started hart inside inside memory (whole memory) refl may_inside) are (left_inside o inside now between same left) rest leaves kept) (access_on hart before between after left.runs.kept kept))

  -- the same, by the parts that are left
  pub taken_as : (s : Stepped) (inside : RunningValue) (regs : Registers) (env : Environment) (harts : List Registers) (ending : Option End) (pc : ℕ)
      → harts ≡ harts_after s (slice_set inside.harts hart regs) → ending ≡ ending_after hart pc s inside.ending → pc ≡ regs.pc
      → taken_to inside regs env s ≡ record { harts = harts; environment = env; ending = ending }
  taken_as s inside regs env harts ending pc harts_are ending_is pc_is =
      let ends : ending_after hart regs.pc s inside.ending ≡ ending = ap (λ p. ending_after hart p s inside.ending) (sym pc_is) ∙ sym ending_is in
      λ i. record { harts = sym harts_are i; environment = env; ending = ends i }

  pub ends_as : (s : Stepped) (what : Progress) (now : RunningValue) (before : PagedValue S) (left new : RunningValue) (after : PagedValue S) → left ≡ new → what ≡ progress_of_step s
      → EndsStep held honest hart (Ok (progress_of_step s)) now before left after → EndsStep held honest hart (Ok what) now before new after
  ends_as s what now before left new after same progress ends =
      subst (λ p. EndsStep held honest hart (Ok p) now before new after) (sym progress)
      (subst (λ (v : RunningValue). EndsStep held honest hart (Ok (progress_of_step s)) now before v after) same ends)

  -- ---- as a slice of one instruction

  -- one that ran
  ran_one : (fits : ℕ) → 0 < fits → (what : Progress) (why : SliceStop) (old : RunningValue) (before : PagedValue S) (new : RunningValue) (after : PagedValue S) → answered why 1 ≡ 1 → begun why 1 ≡ 1
      → StopsRecorded (LacksIn before) hart 1 fits (with_memory old (memory_of held before)) why 1 (with_memory new (memory_of held after))
      → AtAbsent why (MissesNext hart (with_memory old (memory_of held before)) before after) → EndsStep held honest hart (Ok what) old before new after → EndsOne held honest hart fits 1 why old before new after
  ran_one fits some what why old before new after answers begins stops missed ends =
      let p : Process = with_memory old (memory_of held before) in
      let P : Process → Type 0 = λ at. Used (HasIn before hart) (UsedSince hart after (cache_in before hart)) (next_pages hart at) in
      let Q : Process → Type 0 = λ at. All (TakesSince after (cache_in before hart)) (next_stores hart at) in
      record {
        ran_is = one_more_step 0 hart p p (with_memory new (memory_of held after)) (flat_run_none p) ends.step;
        within = omega arith;
        stops = stops;
        pages = subst (λ n. EachStep P hart n p) (sym answers) (each_more P hart 0 p p (each_none P hart p) (flat_run_none p) ends.pages);
        bound = subst (λ n. BoundsEach (MarkedIn before) (MarkedIn after) hart n p) (sym begins) (bound_one (MarkedIn before) (MarkedIn after) hart p ends.bound);
        takes = subst (λ n. EachStep Q hart n p) (sym answers) (each_more Q hart 0 p p (each_none Q hart p) (flat_run_none p) ends.leaves.leaves);
        missed = missed;
        kept = ends.kept;
      }

  pub took_one : (fits : ℕ) → 0 < fits → (what : Progress) (old : RunningValue) (before : PagedValue S) (new : RunningValue) (after : PagedValue S) → may_step hart (with_memory old (memory_of held before)) ≡ true
      → EndsStep held honest hart (Ok what) old before new after → EndsOne held honest hart fits 1 (stop_after what) old before new after
  took_one fits some progress.GoesOn old before new after may ends =
      let p : Process = with_memory old (memory_of held before) in
      ran_one fits some progress.GoesOn stop.Budget old before new after refl refl
      ((refl, (λ _. still_may hart p (with_memory new (memory_of held after)) progress.GoesOn may ends.step ends.progress refl), each_more (PassesOn hart) hart 0 p p (each_none (PassesOn hart) hart p) (flat_run_none p) (inl ends.progress))) tt ends
  took_one fits some progress.Spawned old before new after may ends =
      let p : Process = with_memory old (memory_of held before) in
      ran_one fits some progress.Spawned stop.Budget old before new after refl refl
      ((refl, (λ _. still_may hart p (with_memory new (memory_of held after)) progress.Spawned may ends.step ends.progress refl), each_more (PassesOn hart) hart 0 p p (each_none (PassesOn hart) hart p) (flat_run_none p) (inr ends.progress))) tt ends
  took_one fits some progress.Yielded old before new after may ends =
      let p : Process = with_memory old (memory_of held before) in
      ran_one fits some progress.Yielded stop.Yield old before new after refl refl
      (record { earlier = 0; last = p; count = refl; on = each_none (PassesOn hart) hart p; reached = flat_run_none p; was = ends.progress }) tt ends
  took_one fits some progress.HartDone old before new after may ends =
      let p : Process = with_memory old (memory_of held before) in
      ran_one fits some progress.HartDone stop.HartDone old before new after refl refl
      (record { earlier = 0; last = p; count = refl; on = each_none (PassesOn hart) hart p; reached = flat_run_none p; was = ends.progress }) tt ends
  took_one fits some progress.Ended old before new after may ends =
      let p : Process = with_memory old (memory_of held before) in
      ran_one fits some progress.Ended stop.Ended old before new after refl refl
      (inr (record { earlier = 0; last = p; count = refl; on = each_none (PassesOn hart) hart p; reached = flat_run_none p; was = ends.progress })) tt ends

  -- one that did not run
  ran_none : (fits : ℕ) → 0 < fits → (why : SliceStop) (stopped : ServeStop) (old : RunningValue) (before : PagedValue S) (new : RunningValue) (after : PagedValue S) → begun why 0 ≡ 1
      → EachStep (λ at. Used (HasIn before hart) (UsedSince hart after (cache_in before hart)) (next_pages hart at)) hart (answered why 0) (with_memory old (memory_of held before))
      → EachStep (λ at. All (TakesSince after (cache_in before hart)) (next_stores hart at)) hart (answered why 0) (with_memory old (memory_of held before)) → AtAbsent why (MissesNext hart (with_memory old (memory_of held before)) before after)
      → StopsRecorded (LacksIn before) hart 1 fits (with_memory old (memory_of held before)) why 0 (with_memory old (memory_of held before))
      → EndsStep held honest hart (Err stopped) old before new after → EndsOne held honest hart fits 0 why old before new after
  ran_none fits some why stopped old before new after begins pages takes missed stops ends =
      let p : Process = with_memory old (memory_of held before) in
      let same : p ≡ with_memory new (memory_of held after) = λ i. with_memory (sym ends.stays i) (sym ends.memory_stays i) in
      record {
        ran_is = flat_run_none p ∙ ap Some same;
        within = omega arith;
        stops = subst (StopsRecorded (LacksIn before) hart 1 fits p why 0) same stops;
        pages = pages;
        bound = subst (λ n. BoundsEach (MarkedIn before) (MarkedIn after) hart n p) (sym begins) (bound_one (MarkedIn before) (MarkedIn after) hart p ends.bound);
        takes = takes;
        missed = missed;
        kept = ends.kept;
      }

  pub took_none : (fits : ℕ) → 0 < fits → (stopped : ServeStop) (old : RunningValue) (before : PagedValue S) (new : RunningValue) (after : PagedValue S) → may_step hart (with_memory old (memory_of held before)) ≡ true
      → EndsStep held honest hart (Err stopped) old before new after → EndsOne held honest hart fits 0 (stop_before stopped) old before new after
  took_none fits some (serve.Absent page) old before new after may ends =
      let p : Process = with_memory old (memory_of held before) in
      ran_none fits some (stop.Absent page) (serve.Absent page) old before new after refl (each_none _ hart p) (each_none _ hart p) (misses_next hart p before after page ends.leaves)
      ((some, (record { fewer = omega arith; on = each_none (PassesOn hart) hart p; may = may }, ends.pages.0, ends.pages.1))) ends
  took_none fits some serve.NoMemory old before new after may ends =
      let p : Process = with_memory old (memory_of held before) in
      let P : Process → Type 0 = λ at. Used (HasIn before hart) (UsedSince hart after (cache_in before hart)) (next_pages hart at) in
      let Q : Process → Type 0 = λ at. All (TakesSince after (cache_in before hart)) (next_stores hart at) in
      ran_none fits some stop.NoMemory serve.NoMemory old before new after refl (each_more P hart 0 p p (each_none P hart p) (flat_run_none p) ends.pages)
      (each_more Q hart 0 p p (each_none Q hart p) (flat_run_none p) ends.leaves.leaves) tt
      ((some, (record { fewer = omega arith; on = each_none (PassesOn hart) hart p; may = may }, ends.wants refl))) ends

  -- ---- an instruction that was simply done

  pub done_one : (fits : ℕ) → 0 < fits → (old : RunningValue) (before after : PagedValue S) (r regs : Registers) → IsWhole (with_memory old (memory_of held before)) → may_step hart (with_memory old (memory_of held before)) ≡ true
      → r ≡ slice_index_or old.harts hart r → RunsTo held honest hart outcome.Done r before regs after
      → EndsOne held honest hart fits 1 stop.Budget old before (record old { harts = slice_set old.harts hart regs }) after
  done_one fits some old before after r regs whole may are runs =
      let memory = memory_of held before in
      let memory' = memory_of held after in
      took_one fits some progress.GoesOn old before (record old { harts = slice_set old.harts hart regs }) after may
      (was_taken old before after r stepped.Ran regs old.environment whole may are
      (record {
        stepped = effect_next hart r old.environment memory regs memory' runs.came.line_is;
        regs_stay = tt;
        env_stays = tt;
        memory_stays = tt;
        pages = used_next (HasIn before hart) (UsedSince hart after (cache_in before hart)) hart r memory regs memory' runs.came.line_is runs.came.pages;
        bound = bound_first (MarkedIn before) (MarkedIn after) hart r memory runs.came.bound;
        no_memory = λ never. absurd (no_want _ never);
      }) (subst (All (TakesSince after (cache_in before hart))) (sym (stores_next hart r memory regs memory' runs.came.line_is)) runs.leaves) runs.kept).ends
