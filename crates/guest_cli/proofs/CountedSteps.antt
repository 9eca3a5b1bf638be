-- One more step is told and counted.
use Rattle.std.proofs.Common.{◌≡◌, List, [], ◌∷◌, ◌++◌, refl, sym, subst}
use Rattle.guest_steps.specs.StepsToCome.{Moves}
use Rattle.guest_steps.specs.declared.step_string.StepString.{StepString}
use Rattle.guest_steps.specs.declared.told_step.ToldStep.{ToldStep}
use Rattle.guest_profile.specs.Accounts.{Account, after, after_all}
use Rattle.guest_cli.specs.CountedRuns.{TellsAll}

pub told_none : (string : StepString) → TellsAll [] string string
unfolding TellsAll
told_none string = refl

pub told_more : (steps : List ToldStep) (told : ToldStep) (old middle new : StepString) → TellsAll steps old middle → Moves told middle new → TellsAll (steps ++ told ∷ []) old new
unfolding TellsAll
told_more [] told old middle new before moves = (new, (subst (λ (s : StepString). Moves told s new) before moves, refl))
told_more (first ∷ later) told old middle new before moves = (before.0, (before.1.0, told_more later told before.0 middle new before.1.1 moves))

pub counted_none : (account : Account) → after_all [] account ≡ account
unfolding after_all
counted_none account = refl

pub counted_more : (steps : List ToldStep) (told : ToldStep) (account : Account) → after_all (steps ++ told ∷ []) account ≡ after told (after_all steps account)
unfolding after_all
counted_more [] told account = refl
counted_more (first ∷ later) told account = counted_more later told (after first account)
