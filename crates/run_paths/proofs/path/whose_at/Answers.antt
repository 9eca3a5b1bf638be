use Rattle.std.proofs.Common.{slice_index_or, sym, arith}
use Rattle.std.proofs.lemmas.List.{get_or_default}
use Rattle.run_paths.specs.declared.path.Stretch.{Stretch}
use Rattle.run_paths.specs.declared.path.Whose.TheVariants.{ByTurns}
use Rattle.run_paths.proofs.Parts.{whose_found, whose_more}
use Rattle.run_paths.proofs.path.whose_at.Goals as goal

nothing : Stretch
nothing = record { whose = ByTurns; count = 0 }

pub returns-then-left-stretch : goal.returns-then-left-stretch
unfolding nothing
returns-then-left-stretch c =
    let n = c.stretches.stretch-index in
    let path = c.args.path.now in
    let here = slice_index_or path n nothing in
    sym (whose_found path n c.args.before c.stretches.left here c.stretches-test.true (get_or_default path n nothing here c.stretches-test.true) c.stretches.invariant c.if-left-stretch.true)

pub stretches-preserved : goal.stretches-preserved
unfolding nothing
stretches-preserved c =
    let n = c.stretches.stretch-index in
    let path = c.args.path.now in
    let here = slice_index_or path n nothing in
    let past = c.if-left-stretch.false in
    whose_more path n c.args.before c.stretches.left _ here c.stretches-test.true (get_or_default path n nothing here c.stretches-test.true) c.stretches.invariant past (omega (arith, past))
