use Rattle.std.proofs.Common.{slice_index_or}
use Rattle.std.proofs.lemmas.List.{get_or_default}
use Rattle.run_paths.specs.declared.path.Stretch.{Stretch}
use Rattle.run_paths.specs.declared.path.Whose.TheVariants.{ByTurns}
use Rattle.run_paths.proofs.Along.{along_stretch}
use Rattle.run_paths.proofs.running.Place.go_along.Goals as goal

nothing : Stretch
nothing = record { whose = ByTurns; count = 0 }

pub stretches-preserved : goal.stretches-preserved
unfolding nothing
stretches-preserved c =
    let n = c.stretches.stretch-index in
    let path = c.args.path.now in
    let here = slice_index_or path n nothing in
    record {
      led = along_stretch path n here c.args.self.now c.stretches.self c.go.new.self c.stretches-test.true (get_or_default path n nothing here c.stretches-test.true) c.stretches.invariant.led c.in_ok-go.ensures.led;
      live = c.in_ok-go.ensures.live;
    }
