-- The same run.
use Rattle.std.proofs.Common.{◌≡◌, ℕ, false, sym, ap, ◌∙◌}
use Rattle.std.proofs.lemmas.Bool.{false≢true}
use Rattle.guest_history.specs.declared.history.History.{History}
use Rattle.guest_history.specs.Histories.{GoesBackTo, IsSameRun}

pub same_free : (old new : History) → old.is_recorded ≡ false → new.program ≡ old.program → new.is_recorded ≡ old.is_recorded → IsSameRun old new
same_free old new free program recorded = record { program_is = program; recorded = recorded; path_is = λ yes. absurd (false≢true (sym free ∙ yes)) }

pub same_path : (old new : History) → new.program ≡ old.program → new.is_recorded ≡ old.is_recorded → new.path ≡ old.path → IsSameRun old new
same_path old new program recorded path = record { program_is = program; recorded = recorded; path_is = λ yes. path }

pub same_back : (done : ℕ) (old new : History) → GoesBackTo done old new → IsSameRun old new
same_back done old new back = record { program_is = back.program_is; recorded = back.recorded; path_is = λ yes. back.path_is }

pub same_then : (old mid new : History) → IsSameRun old mid → IsSameRun mid new → IsSameRun old new
same_then old mid new before behind = record {
  program_is = behind.program_is ∙ before.program_is;
  recorded = behind.recorded ∙ before.recorded;
  path_is = λ yes. behind.path_is (before.recorded ∙ yes) ∙ before.path_is yes;
}

pub same_keeps : (old new : History) → new ≡ record old { checkpoints = new.checkpoints } → IsSameRun old new
same_keeps old new keeps = record { program_is = ap (λ (h : History). h.program) keeps; recorded = ap (λ (h : History). h.is_recorded) keeps; path_is = λ yes. ap (λ (h : History). h.path) keeps }
