-- An instruction that was given up leaves its process going on.
use Rattle.std.proofs.Common.{◌≡◌, ◌∙◌, ℕ, List, None, ap, subst, sym}
use Rattle.std.specs.Prelude.{⊤}
use Rattle.flat_machine.specs.Process.{Process}
use Rattle.machine_core.specs.Machine.{CoreValue}
use Rattle.serial_driver.specs.Serving.{GivesUp}
use Rattle.space_core.specs.StandsFor.{own_ending}
use Rattle.paged_target.specs.GivenUp.{GoesOn, GoesOnIn, IsGivenUp}
use Rattle.paged_target.specs.Intact.{IsUnkilled, IsUnkilledIn}
use Rattle.paged_target.specs.Shown.{flat_at}
use Rattle.paged_target.proofs.Showing.{ShowsFlat}

going_on : {S : Type 0} (held : S → List ℕ) (core : CoreValue S) → ShowsFlat held core → IsUnkilled core → (flat_at core).ending ≡ None → GoesOn core
going_on held core shows unkilled none =
    let own : own_ending shows.side.running.ending ≡ shows.side.running.ending = subst IsUnkilledIn shows.found unkilled in
    let flat : own_ending shows.side.running.ending ≡ None = sym (ap (λ (p : Process). p.ending) shows.flat) ∙ none in
    subst GoesOnIn (sym shows.found) (sym own ∙ flat)

pub given_up_by : (held : List ℕ → List ℕ) (hart : ℕ) (old new : CoreValue (List ℕ)) → ShowsFlat held new → IsUnkilled new → (flat_at old).ending ≡ None → flat_at new ≡ flat_at old
    → GivesUp (λ slot. slot) ⊤ (λ slot. 0) 0 hart old new → IsGivenUp hart old
given_up_by held hart old new shows unkilled none same gives_up = record {
  left = new;
  gives_up = gives_up;
  goes_on = going_on held new shows unkilled (ap (λ (p : Process). p.ending) same ∙ none);
}
