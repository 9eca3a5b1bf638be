-- What is written of processes one after another.
use Rattle.std.proofs.Common.{◌≡◌, ◌∙◌, ◌++◌, ◌∷◌, ◌+◌, ℕ, List, [], Option, ap, append_assoc, append-nil, refl, sym, subst}
use Rattle.std.specs.Io.KnownBytes.{Appends}
use Rattle.std.proofs.KnownBytes.{Appends-nil, Appends-trans}
use Rattle.machine_sides.specs.Reporting.{Told}
use Rattle.report_text.specs.ReportText.{line_text, processes_text}

-- what was written of the processes so far, with the rest, is what is to be told of them all
pub record Tells (first new : Option (List ℕ)) (all : List Told) (number : ℕ) (rest : List Told) : Type 0 where
  pub written : List ℕ
  pub appended : Appends first new written
  pub whole : written ++ processes_text number rest ≡ processes_text 0 all

pub tells_more : (first old new : Option (List ℕ)) (all : List Told) (number : ℕ) (rest : List Told) (process : Told) (others : List Told)
    → Tells first old all number rest → rest ≡ process ∷ others → Appends old new (line_text number process) → Tells first new all (number + 1) others
unfolding processes_text
tells_more first old new all number rest process others tells is line = record {
  written = tells.written ++ line_text number process;
  appended = Appends-trans first old new tells.written (line_text number process) tells.appended line;
  whole = append_assoc tells.written (line_text number process) (processes_text (number + 1) others)
      ∙ ap (λ l. tells.written ++ processes_text number l) (sym is) ∙ tells.whole;
}

pub tells_all : (first new : Option (List ℕ)) (all : List Told) (number : ℕ) (rest : List Told) → Tells first new all number rest → rest ≡ []
    → Appends first new (processes_text 0 all)
unfolding processes_text
tells_all first new all number rest tells none =
    subst (Appends first new) (sym (append-nil tells.written) ∙ ap (λ l. tells.written ++ processes_text number l) (sym none) ∙ tells.whole) tells.appended
