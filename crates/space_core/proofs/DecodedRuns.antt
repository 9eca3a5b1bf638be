-- A run of decoded instructions is a hart's instructions one after another.
use Rattle.std.proofs.Common.{◌≡◌, ◌<◌, ◌+◌, ℕ, zero, suc, List, sym, ap, ◌∙◌, subst, arith}
use Rattle.page_memory.specs.ReadOnly.{KeepsReadOnly}
use Rattle.page_memory.proofs.KeptPages.{kept_itself, kept_on}
use Rattle.decoded_pages.specs.Running.{Iterates, Steps}
use Rattle.decoded_pages.proofs.Keeping.{next_keeps}
use Rattle.rv_exec.specs.declared.outcome.Outcome.{Outcome}
use Rattle.rv_exec.specs.declared.outcome.Outcome.TheVariants.{Done, Ecall, Trap, Absent}
use Rattle.rv_exec.specs.Registers.{Registers}
use Rattle.paged_memory.specs.Coheres.{Coheres}
use Rattle.paged_memory.specs.Paged.{PagedValue, memory_of}
use Rattle.paged_memory.specs.access.Ready.{ServesIn, KeepsReady}
use Rattle.paged_memory.proofs.access_laws.ReadyLaws.{marked_still, ready_kept, takes_still}
use Rattle.paged_memory.specs.access.Using.{MarkedIn}
use Rattle.paged_memory.specs.Whole.{harts_in}
use Rattle.space_core.specs.HartLoop.{RunsTo, RunsEach, RunsUntil}

module _ {S : Type 0} (held : S → List ℕ) (honest : Type 0) (hart : ℕ) where
  abbrev pub DecodedSteps : Registers × PagedValue S → Registers × PagedValue S → Type 0
  DecodedSteps = Steps (memory_of held) (λ (m : PagedValue S). ServesIn m hart) (KeepsReady held honest hart)

  -- ---- one instruction

  decoded_runs : (a b : Registers × PagedValue S) → DecodedSteps a b → Coheres held honest a.1 → RunsTo held honest hart Done a.0 a.1 b.0 b.1
  decoded_runs a b step coheres = record {
    came = record {
      line_is = step.its_line hart;
      regs_stay = tt;
      memory_stays = tt;
      pages = (
        λ k d h. (step.used k d h).1.has,
        λ k d h. marked_still hart a.1 b.1 step.stayed (step.used k d h).0 _ (step.used k d h).1,
      );
      bound = record { bound = λ use_test store_test used stored old. subst (λ (m : PagedValue S). MarkedIn m use_test store_test) (sym step.stayed.only) old };
    };
    leaves = λ k d h. takes_still hart a.1 b.1 step.stayed _ (step.stored k d h);
    kept = ready_kept hart a.1 b.1 step.stayed;
    coheres = step.stayed.coheres coheres;
  }

  -- ---- one after another

  each_coheres : (n : ℕ) (a b : Registers × PagedValue S) → Iterates DecodedSteps n a b → Coheres held honest a.1 → Coheres held honest b.1
  unfolding Iterates
  each_coheres zero a b same coheres = subst (λ (s : Registers × PagedValue S). Coheres held honest s.1) (sym same) coheres
  each_coheres (suc n) a b run coheres = run.1.1.stayed.coheres (each_coheres n a run.0 run.1.0 coheres)

  pub decoded_each : (n : ℕ) (a b : Registers × PagedValue S) → Iterates DecodedSteps n a b → Coheres held honest a.1 → RunsEach held honest hart n a.0 a.1 b.0 b.1
  unfolding Iterates RunsEach
  decoded_each zero a b same coheres = (ap (λ (s : Registers × PagedValue S). s.0) same, ap (λ (s : Registers × PagedValue S). s.1) same)
  decoded_each (suc n) a b run coheres = (run.0, (decoded_each n a run.0 run.1.0 coheres, decoded_runs run.0 b run.1.1 (each_coheres n a run.0 run.1.0 coheres)))

  none_more : (n : ℕ) → n + zero ≡ n
  none_more n = omega arith

  one_more : (n m : ℕ) → n + suc m ≡ suc (n + m)
  one_more n m = omega arith

  pub each_append : (n m : ℕ) (regs : Registers) (old : PagedValue S) (between : Registers) (mid : PagedValue S) (regs' : Registers) (new : PagedValue S)
      → RunsEach held honest hart n regs old between mid → RunsEach held honest hart m between mid regs' new → RunsEach held honest hart (n + m) regs old regs' new
  unfolding RunsEach
  each_append n zero regs old between mid regs' new before later =
      subst (λ k. RunsEach held honest hart k regs old regs' new) (sym (none_more n))
      (subst (λ r. RunsEach held honest hart n regs old r new) (sym later.0) (subst (λ m. RunsEach held honest hart n regs old between m) (sym later.1) before))
  each_append n (suc m) regs old between mid regs' new before later =
      subst (λ k. RunsEach held honest hart k regs old regs' new) (sym (one_more n m))
      (later.0, (each_append n m regs old between mid later.0.0 later.0.1 before later.1.0, later.1.1))

  -- pages that may not be written stay, and each hart keeps its cache
  pub each_read_only : (n : ℕ) (regs : Registers) (old : PagedValue S) (regs' : Registers) (new : PagedValue S) → RunsEach held honest hart n regs old regs' new → KeepsReadOnly (memory_of held old) (memory_of held new)
  unfolding RunsEach
  each_read_only zero regs old regs' new same = subst (λ (m : PagedValue S). KeepsReadOnly (memory_of held old) (memory_of held m)) (sym same.1) (kept_itself (memory_of held old))
  each_read_only (suc n) regs old regs' new run =
      kept_on (memory_of held old) (memory_of held run.0.1) (memory_of held new) (each_read_only n regs old run.0.0 run.0.1 run.1.0)
      (next_keeps hart run.0.0 regs' (memory_of held run.0.1) (memory_of held new) run.1.1.came.line_is)

  pub each_harts : (n : ℕ) (regs : Registers) (old : PagedValue S) (regs' : Registers) (new : PagedValue S) → RunsEach held honest hart n regs old regs' new → harts_in new ≡ harts_in old
  unfolding RunsEach
  each_harts zero regs old regs' new same = ap harts_in same.1
  each_harts (suc n) regs old regs' new run = run.1.1.kept.harts ∙ each_harts n regs old run.0.0 run.0.1 run.1.0

  -- ---- with what the last one came to

  -- behind so many that were done
  pub until_after : (n most least count : ℕ) (outcome : Outcome) (regs : Registers) (old : PagedValue S) (between : Registers) (mid : PagedValue S) (regs' : Registers) (new : PagedValue S)
      → RunsEach held honest hart n regs old between mid → RunsUntil held honest hart least count outcome between mid regs' new → count < least → n + count < most → RunsUntil held honest hart most (n + count) outcome regs old regs' new
  until_after n most least count Done regs old between mid regs' new before later less within = absurd (let same = later.0 in omega (arith, same, less))
  until_after n most least count Ecall regs old between mid regs' new before later less within = record { fewer = within; between = later.between; each = each_append n count regs old between mid regs' later.between before later.each; at_last = later.at_last }
  until_after n most least count (Trap cause value) regs old between mid regs' new before later less within = record { fewer = within; between = later.between; each = each_append n count regs old between mid regs' later.between before later.each; at_last = later.at_last }
  until_after n most least count (Absent page) regs old between mid regs' new before later less within = record { fewer = within; between = later.between; each = each_append n count regs old between mid regs' later.between before later.each; at_last = later.at_last }

  -- all that were allowed were done
  pub until_done : (most count : ℕ) (outcome : Outcome) (regs : Registers) (old : PagedValue S) (regs' : Registers) (new : PagedValue S) → RunsUntil held honest hart most count outcome regs old regs' new → count ≡ most → RunsEach held honest hart most regs old regs' new
  until_done most count Done regs old regs' new run same = subst (λ n. RunsEach held honest hart n regs old regs' new) same run.1
  until_done most count Ecall regs old regs' new run same = absurd (let less = run.fewer in omega (arith, less, same))
  until_done most count (Trap cause value) regs old regs' new run same = absurd (let less = run.fewer in omega (arith, less, same))
  until_done most count (Absent page) regs old regs' new run same = absurd (let less = run.fewer in omega (arith, less, same))
