-- What keeps a process on paged memory standing for a flat process.
use Rattle.std.proofs.Common.{◌≡◌, ◌≢◌, ◌++◌, ◌&&◌, ◌∷◌, [], ℕ, zero, suc, Bool, true, false, cond, List, replicate, Option, Some, None, is_none, option_map, option_and_then, unwrap_or, ap, ◌∙◌, refl, sym, subst, append-nil}
use Rattle.std.specs.Option.{option_or}
use Rattle.std.proofs.lemmas.Option.{none-some}
use Rattle.paged_memory.specs.Paged.{memory_of}
use Rattle.paged_memory.specs.Showing.{KeepsGivenUp}
use Rattle.paged_memory.proofs.ShowingLaws.{shows_itself, shows_on}
use Rattle.rv_exec.specs.Registers.{Registers}
use Rattle.env_calls.specs.Effect.{Effect, Runs, Yields, Spawns, Finishes, Exits, Traps}
use Rattle.env_calls.specs.Step.{effect}
use Rattle.flat_machine.specs.declared.end.End.{End}
use Rattle.flat_machine.specs.declared.end.End.TheVariants.{Killed}
use Rattle.flat_machine.specs.declared.end.KillCause.{KillCause}
use Rattle.flat_machine.specs.Process.{Process, opening, hart_registers, is_live, may_step, stepped, after, flat_step, flat_run}
use Rattle.flat_machine.proofs.RunLaws.{flat_run_append}
use Rattle.flat_machine.specs.Schedule.{written_out}
use Rattle.space_core.specs.RunningValue.{RunningValue, with_memory, beside}
use Rattle.space_core.specs.StandsFor.{SpaceValue, own_ending, flat_with, StandsFor}

kept_ending : (ending : Option End) (cause : KillCause) → own_ending (option_or ending (Some (Killed cause))) ≡ own_ending ending
kept_ending None cause = refl
kept_ending (Some e) cause = refl

has_ended : (ending : Option End) (cause : KillCause) → option_or ending (Some (Killed cause)) ≢ None
has_ended None cause = λ e. none-some _ (sym e)
has_ended (Some e) cause = λ f. none-some _ (sym f)

module _ {S : Type 0} where
  -- ---- other pages that stand for the same memory

  pub stands_on : (held : S → List ℕ) (old new : SpaceValue S) → new.image ≡ old.image → new.input ≡ old.input → new.running ≡ old.running → written_out new.schedule ≡ written_out old.schedule
      → memory_of held new.memory ≡ memory_of held old.memory
      → KeepsGivenUp old.memory new.memory
      → StandsFor held old → StandsFor held new
  stands_on held old new image input running schedule memory stays stands = record {
    memory = stands.memory;
    ran = subst (λ o. o ≡ Some (flat_with new.running stands.memory)) (λ i. flat_run (sym schedule i) (opening (sym image i) (sym input i)))
        (stands.ran ∙ ap (λ r. Some (flat_with r stands.memory)) (sym running));
    shows = shows_on held old.memory new.memory stands.memory memory stays stands.shows;
    still = λ goes. stands.still (ap (λ (r : RunningValue). r.ending) (sym running) ∙ goes) ∙ sym memory;
  }

  -- ---- the machine ends it

  pub stands_killed : (held : S → List ℕ) (old : SpaceValue S) (cause : KillCause) → StandsFor held old
      → StandsFor held (record old { running = record old.running { ending = option_or old.running.ending (Some (Killed cause)) } })
  stands_killed held old cause stands = record {
    memory = stands.memory;
    ran = stands.ran ∙ ap (λ e. Some (with_memory (record old.running { ending = e }) stands.memory)) (sym (kept_ending old.running.ending cause));
    shows = stands.shows;
    still = λ goes. absurd (has_ended old.running.ending cause goes);
  }

-- ---- its own instructions

-- no instruction is ended by the machine
own_after : (hart : ℕ) (process : Process) (r : Registers) (e : Effect) → own_ending process.ending ≡ process.ending → own_ending (after hart process r e).ending ≡ (after hart process r e).ending
own_after hart process r (Runs regs env memory) own = own
own_after hart process r (Yields regs env memory) own = own
own_after hart process r (Spawns first regs env memory) own = own
own_after hart process r (Finishes regs env memory) own = own
own_after hart process r (Exits status regs env memory) own = refl
own_after hart process r (Traps cause value) own = refl

own_stepped : (hart : ℕ) (p q : Process) (b : Bool) (o : Option Registers) → cond b (option_map (stepped hart p) o) None ≡ Some q → own_ending p.ending ≡ p.ending → own_ending q.ending ≡ q.ending
own_stepped hart p q false o step own = absurd (none-some _ step)
own_stepped hart p q true None step own = absurd (none-some _ step)
own_stepped hart p q true (Some r) step own =
    subst (λ (x : Process). own_ending x.ending ≡ x.ending) (ap (λ o. unwrap_or o q) step) (own_after hart p r (effect hart r p.environment p.memory) own)

own_step : (hart : ℕ) (p q : Process) → flat_step hart p ≡ Some q → own_ending p.ending ≡ p.ending → own_ending q.ending ≡ q.ending
unfolding flat_step
own_step hart p q step own = own_stepped hart p q (may_step hart p) (hart_registers hart p) step own

own_through : (harts : List ℕ) (hart : ℕ) (p q : Process) → ((next : Process) → flat_run harts next ≡ Some q → own_ending next.ending ≡ next.ending → own_ending q.ending ≡ q.ending)
    → (o : Option Process) → flat_step hart p ≡ o → option_and_then (flat_run harts) o ≡ Some q → own_ending p.ending ≡ p.ending → own_ending q.ending ≡ q.ending
own_through harts hart p q rest None e f own = absurd (none-some _ f)
own_through harts hart p q rest (Some next) e f own = rest next f (own_step hart p next e own)

pub own_run : (harts : List ℕ) (p q : Process) → flat_run harts p ≡ Some q → own_ending p.ending ≡ p.ending → own_ending q.ending ≡ q.ending
unfolding flat_run
own_run [] p q ran own = subst (λ (x : Process). own_ending x.ending ≡ x.ending) (ap (λ o. unwrap_or o q) ran) own
own_run (hart ∷ harts) p q ran own = own_through harts hart p q (λ next f o. own_run harts next q f o) (flat_step hart p) refl ran own

-- an ended process takes no step
ended_cannot : (hart : ℕ) (p : Process) (ending : End) → p.ending ≡ Some ending → flat_step hart p ≡ None
unfolding flat_step
ended_cannot hart p ending ended = ap (λ o. cond (is_none o && is_live hart p) (option_map (stepped hart p) (hart_registers hart p)) None) ended

pub ended_runs_none : (count hart : ℕ) (p q : Process) (ending : End) → p.ending ≡ Some ending → flat_run (replicate count hart) p ≡ Some q → (count ≡ 0) × (p ≡ q)
unfolding flat_run
ended_runs_none zero hart p q ending ended ran = (refl, ap (λ o. unwrap_or o p) ran)
ended_runs_none (suc count) hart p q ending ended ran = absurd (none-some _ (ap (option_and_then (flat_run (replicate count hart))) (sym (ended_cannot hart p ending ended)) ∙ ran))

module _ {S : Type 0} where
  -- it goes on: it stands for the flat process that its instructions leave
  pub stands_run : (held : S → List ℕ) (old new : SpaceValue S) (hart ran : ℕ) → new.image ≡ old.image → new.input ≡ old.input
      → flat_run (replicate ran hart) (with_memory old.running (memory_of held old.memory)) ≡ Some (with_memory new.running (memory_of held new.memory))
      → written_out new.schedule ≡ written_out old.schedule ++ replicate ran hart → old.running.ending ≡ None → StandsFor held old → StandsFor held new
  stands_run held old new hart ran image input step recorded goes stands =
      let own : own_ending old.running.ending ≡ old.running.ending = ap own_ending goes ∙ sym goes in
      let now : flat_with old.running stands.memory ≡ with_memory old.running (memory_of held old.memory) = λ i. with_memory (record old.running { ending = own i }) (stands.still goes i) in
      let left = own_run (replicate ran hart) (with_memory old.running (memory_of held old.memory)) (with_memory new.running (memory_of held new.memory)) step own in
      record {
        memory = memory_of held new.memory;
        ran = (λ i. flat_run (recorded i) (opening (image i) (input i)))
            ∙ flat_run_append (written_out old.schedule) (replicate ran hart) (opening old.image old.input) (flat_with old.running stands.memory) stands.ran
            ∙ ap (flat_run (replicate ran hart)) now ∙ step ∙ ap (λ e. Some (with_memory (record new.running { ending = e }) (memory_of held new.memory))) (sym left);
        shows = shows_itself held new.memory;
        still = λ _. refl;
      }

  -- it has ended: nothing ran
  stands_ended : (held : S → List ℕ) (old new : SpaceValue S) (hart ran : ℕ) (ending : End) → new.image ≡ old.image → new.input ≡ old.input
      → flat_run (replicate ran hart) (with_memory old.running (memory_of held old.memory)) ≡ Some (with_memory new.running (memory_of held new.memory))
      → written_out new.schedule ≡ written_out old.schedule ++ replicate ran hart → old.running.ending ≡ Some ending
      → KeepsGivenUp old.memory new.memory
      → StandsFor held old → StandsFor held new
  stands_ended held old new hart ran ending image input step recorded ended stays stands =
      let none = ended_runs_none ran hart (with_memory old.running (memory_of held old.memory)) (with_memory new.running (memory_of held new.memory)) ending ended step in
      stands_on held old new image input (ap beside (sym none.1)) (recorded ∙ ap (λ n. written_out old.schedule ++ replicate n hart) none.0 ∙ append-nil (written_out old.schedule))
      (ap (λ (p : Process). p.memory) (sym none.1)) stays stands

  by_ending : (held : S → List ℕ) (old new : SpaceValue S) (hart ran : ℕ) (ending : Option End) → new.image ≡ old.image → new.input ≡ old.input
      → flat_run (replicate ran hart) (with_memory old.running (memory_of held old.memory)) ≡ Some (with_memory new.running (memory_of held new.memory))
      → written_out new.schedule ≡ written_out old.schedule ++ replicate ran hart → old.running.ending ≡ ending
      → KeepsGivenUp old.memory new.memory
      → StandsFor held old → StandsFor held new
  by_ending held old new hart ran None image input step recorded goes stays stands = stands_run held old new hart ran image input step recorded goes stands
  by_ending held old new hart ran (Some ending) image input step recorded ended stays stands = stands_ended held old new hart ran ending image input step recorded ended stays stands

  -- a recorded slice
  pub stands_sliced : (held : S → List ℕ) (old new : SpaceValue S) (hart ran : ℕ) → new.image ≡ old.image → new.input ≡ old.input
      → flat_run (replicate ran hart) (with_memory old.running (memory_of held old.memory)) ≡ Some (with_memory new.running (memory_of held new.memory))
      → written_out new.schedule ≡ written_out old.schedule ++ replicate ran hart
      → KeepsGivenUp old.memory new.memory
      → StandsFor held old → StandsFor held new
  stands_sliced held old new hart ran image input step recorded stays stands = by_ending held old new hart ran old.running.ending image input step recorded refl stays stands
