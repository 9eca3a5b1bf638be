-- What an instruction that was served makes of the flat process.
use Rattle.std.specs.Prelude.{◌≡◌, ℕ, List, [], ◌∷◌, Some}
use Rattle.flat_machine.specs.Process.{Process, flat_step}
use Rattle.serial_driver.specs.declared.serving.ServedStep.{ServedStep}
use Rattle.serial_driver.specs.declared.serving.ServedStep.TheVariants.{Ran, Absent, Full, NoMemory}

-- it is the flat step where the instruction ran, and else nothing
abbrev pub ServesFlat : ServedStep → ℕ → Process → Process → Type 0
ServesFlat Ran hart old new = flat_step hart old ≡ Some new
ServesFlat Absent hart old new = new ≡ old
ServesFlat Full hart old new = new ≡ old
ServesFlat NoMemory hart old new = new ≡ old

-- the harts that it adds to the recorded order
abbrev pub added_by : ServedStep → ℕ → List ℕ
added_by Ran hart = hart ∷ []
added_by Absent hart = []
added_by Full hart = []
added_by NoMemory hart = []
