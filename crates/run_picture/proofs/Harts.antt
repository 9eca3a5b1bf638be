-- The harts of a process that are shown so far.
use Rattle.std.proofs.Common.{◌≡◌, ◌<◌, ℕ, zero, suc, ◌+◌, List, [], ◌∷◌, ◌++◌, length, take, map, Some, None, slice_get, sym, ap, ◌∙◌, arith}
use Rattle.std.specs.List.{enumerate_from}
use Rattle.space_core.specs.StandsFor.{SpaceValue}
use Rattle.rv_exec.specs.Registers.{Registers}
use Rattle.run_picture.proofs.Numbering.{numbered_more, numbered_all}
use Rattle.run_picture.proofs.Telling.{map_push}
use Rattle.run_picture.specs.Processes.{HartSeen, hart_seen, hart_by, harts_by}
use Rattle.run_picture.specs.declared.shown_hart.ShownHart.{ShownHart}

-- what is within a list is there
pub has_registers : {A : Type 0} (harts : List A) (number : ℕ) → number < length harts → None ≡ slice_get harts number → ⊥
has_registers [] number small none = omega arith
has_registers (x ∷ xs) zero small none = cc
has_registers (x ∷ xs) (suc number) small none = has_registers xs number (omega arith) none

module _ {S : Type 0} where
  -- the first harts of a process
  abbrev pub seen_before : ℕ → SpaceValue S → List HartSeen
  seen_before number process = map (hart_by process) (take number (enumerate_from 0 process.running.harts))

  -- one more
  pub harts_more : (process : SpaceValue S) (number : ℕ) (regs : Registers) (harts : List ShownHart) (hart : ShownHart) → Some regs ≡ slice_get process.running.harts number
      → hart_seen hart ≡ hart_by process (number, regs) → map hart_seen harts ≡ seen_before number process
      → map hart_seen (harts ++ hart ∷ []) ≡ seen_before (number + 1) process
  harts_more process number regs harts hart there this before =
      map_push hart_seen harts hart ∙ ap (λ l. l ++ hart_seen hart ∷ []) before ∙ ap (λ (s : HartSeen). seen_before number process ++ s ∷ []) this
      ∙ sym (numbered_more (hart_by process) process.running.harts number regs there)

  -- all of them
  pub harts_all : (process : SpaceValue S) (number : ℕ) (shown : List ShownHart) → length process.running.harts ≡ number → map hart_seen shown ≡ seen_before number process
      → map hart_seen shown ≡ harts_by process
  harts_all process number shown count before = before ∙ numbered_all (hart_by process) process.running.harts number count
