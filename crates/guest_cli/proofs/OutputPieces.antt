-- Output that is written piece by piece.
use Rattle.std.proofs.Common.{◌≡◌, ℕ, ◌<◌, Bool, true, false, ◌&&◌, List, ◌++◌, length, drop, is_none, Option, Some, None, Result, Ok, Err, IfOk, IfErr, refl, sym, ap, ◌∙◌, subst}
use Rattle.std.specs.Io.KnownBytes.{Appends}
use Rattle.std.proofs.KnownBytes.{Appends-trans}
use Rattle.std.proofs.Math.Seq.{drop-append_seam}
use Rattle.flat_machine.specs.Process.{Process, may_step, is_live}
use Rattle.flat_machine.specs.ByTurns.{by_turns}
use Rattle.flat_machine.specs.Refusals.{WantsAt}
use Rattle.flat_machine.specs.declared.by_turns.OutOfMemory.{OutOfMemory}
use Rattle.guest_cli.proofs.OutputGrows.{Extends, output_grows}

-- a piece of a run, whether or not memory was wanting
pub piece_grows : (ran : Result ℕ OutOfMemory) (most turn next : ℕ) (old new : Process) → IfOk ran (λ steps. by_turns steps turn old ≡ Some (next, new)) → IfErr ran (λ stop. (stop.steps < most) × WantsAt turn old stop.steps next new)
    → Extends old.environment.output new.environment.output
piece_grows (Ok steps) most turn next old new done stopped = output_grows steps turn next old new done
piece_grows (Err stop) most turn next old new done stopped = output_grows stop.steps turn next old new stopped.1.ran

-- what was written before, and what stands behind it, is all
pub piece_written : (first middle last : Option (List ℕ)) (old new shown : List ℕ) (count : ℕ) → Appends first middle old → Extends old new → count ≡ length old → shown ≡ new → Appends middle last (drop count shown) → Appends first last new
piece_written first middle last old new shown count before grown counted is after =
    let rest : drop count shown ≡ grown.0 =
    ap (λ n. drop n shown) counted ∙ ap (drop (length old)) (is ∙ grown.1) ∙ drop-append_seam old grown.0 in
    subst (Appends first last) (sym grown.1) (Appends-trans first middle last old grown.0 before (subst (Appends middle last) rest after))

-- a process that may step has not ended
pub goes_on : (hart : ℕ) (process : Process) → may_step hart process ≡ true → process.ending ≡ None
goes_on hart process may = choose process.ending (is_live hart process) may
  where
    choose : {E : Type 0} (ending : Option E) (live : Bool) → (is_none ending && live) ≡ true → ending ≡ None
    choose None live e = refl
    choose (Some end) live e = cc
