-- the numbers under which refusals are printed
use Rattle.std.specs.Prelude.{ℕ}
use Rattle.clock_policy.specs.declared.refusal.Refusal.{Refusal}
use Rattle.clock_policy.specs.declared.refusal.Refusal.TheVariants.{AlreadyResident, NoQuestion, NotThere, Full, NoMemory}
use Rattle.clock_policy.specs.declared.refusal.NewRefusal.{NewRefusal}
use Rattle.clock_policy.specs.declared.refusal.NewRefusal.TheVariants as at_new

abbrev pub refusal_number : Refusal → ℕ
refusal_number AlreadyResident = 1
refusal_number NoQuestion = 2
refusal_number NotThere = 3
refusal_number Full = 4
refusal_number NoMemory = 6

abbrev pub new_refusal_number : NewRefusal → ℕ
new_refusal_number at_new.BadSize = 5
new_refusal_number at_new.NoMemory = 6
