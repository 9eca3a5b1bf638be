use Rattle.std.proofs.Common.{slice_index_or, refl}
use Rattle.std.proofs.lemmas.List.{get_or_default}
use Rattle.run_paths.specs.declared.path.Stretch.{Stretch}
use Rattle.run_paths.specs.declared.path.Whose.TheVariants.{ByTurns}
use Rattle.run_paths.specs.Paths.{steps_of}
use Rattle.run_paths.proofs.Parts.{count_more, count_none}
use Rattle.run_paths.proofs.path.count_of.Goals as goal

nothing : Stretch
nothing = record { whose = ByTurns; count = 0 }

pub stretches-init : goal.stretches-init
unfolding steps_of
stretches-init c = refl

pub stretches-preserved : goal.stretches-preserved
unfolding nothing
stretches-preserved c =
    let n = c.stretches.stretch-index in
    let path = c.args.path.now in
    let here = slice_index_or path n nothing in
    count_more path n c.stretches.count c.in_ok-count.count here c.stretches-test.true (get_or_default path n nothing here c.stretches-test.true) c.stretches.invariant c.in_ok-count.ensures.sum

pub returns-in_err-count-clause-many : goal.returns-in_err-count-clause-many
unfolding nothing
returns-in_err-count-clause-many c =
    let n = c.stretches.stretch-index in
    let path = c.args.path.now in
    let here = slice_index_or path n nothing in
    count_none c.from_residual.result path n c.stretches.count here c.stretches-test.true (get_or_default path n nothing here c.stretches-test.true) c.stretches.invariant c.in_err-count.ensures.large
