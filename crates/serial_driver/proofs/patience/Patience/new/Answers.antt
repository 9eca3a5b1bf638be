-- No process was tried for.
use Rattle.std.proofs.Common.{◌≡◌, ◌*◌, None, refl, replicate}
use Rattle.machine_limits.specs.Limits.{most_processes}
use Rattle.serial_driver.specs.Patience.{tries_per_frame}
use Rattle.serial_driver.proofs.Tried.{patient_first}
use Rattle.serial_driver.proofs.patience.Patience.new.Goals as goal

pub returns-clause-tries : goal.returns-clause-tries
returns-clause-tries c =
    let most : tries_per_frame * c.from.result ≡ tries_per_frame * c.args.frames = let e = c.from.ensures in cc in
    patient_first (tries_per_frame * c.args.frames) (record { tries = replicate most_processes 0; most_tries = tries_per_frame * c.from.result; spent = None }) most refl
