-- What is written of how far processes are, one after another.
use Rattle.std.proofs.Common.{◌≡◌, ◌∙◌, ◌++◌, ◌∷◌, ◌+◌, ℕ, List, [], Option, ap, append_assoc, append-nil, refl, sym, subst}
use Rattle.std.specs.Io.KnownBytes.{Appends}
use Rattle.std.proofs.KnownBytes.{Appends-nil, Appends-trans}
use Rattle.status_cell.specs.declared.status.Status.{Status}
use Rattle.paged_cli.specs.StatusText.{status_text, statuses_text}

-- what was written of the processes so far, with the rest, is what is to be printed of them all
pub record Tells (first new : Option (List ℕ)) (all : List Status) (number : ℕ) (rest : List Status) : Type 0 where
  pub written : List ℕ
  pub appended : Appends first new written
  pub whole : written ++ statuses_text number rest ≡ statuses_text 0 all

pub tells_more : (first old new : Option (List ℕ)) (all : List Status) (number : ℕ) (rest : List Status) (status : Status) (others : List Status)
    → Tells first old all number rest → rest ≡ status ∷ others → Appends old new (status_text number status) → Tells first new all (number + 1) others
unfolding statuses_text
tells_more first old new all number rest status others tells is line = record {
  written = tells.written ++ status_text number status;
  appended = Appends-trans first old new tells.written (status_text number status) tells.appended line;
  whole = append_assoc tells.written (status_text number status) (statuses_text (number + 1) others)
      ∙ ap (λ l. tells.written ++ statuses_text number l) (sym is) ∙ tells.whole;
}

pub tells_all : (first new : Option (List ℕ)) (all : List Status) (number : ℕ) (rest : List Status) → Tells first new all number rest → rest ≡ []
    → Appends first new (statuses_text 0 all)
unfolding statuses_text
tells_all first new all number rest tells none =
    subst (Appends first new) (sym (append-nil tells.written) ∙ ap (λ l. tells.written ++ statuses_text number l) (sym none) ∙ tells.whole) tells.appended
