use Rattle.std.proofs.Common.{◌∙◌, ap, slice_index_or}
use Rattle.std.proofs.lemmas.List.{get_or_default}
use Rattle.run_paths.specs.declared.path.Stretch.{Stretch}
use Rattle.run_paths.specs.declared.path.Whose.TheVariants.{ByTurns}
use Rattle.run_paths.specs.Paths.{taken_of, part_of}
use Rattle.std.proofs.Common.{◌++◌}
use Rattle.run_paths.proofs.Parts.{part_more, part_all}
use Rattle.run_paths.proofs.path.part_of.Goals as goal

nothing : Stretch
nothing = record { whose = ByTurns; count = 0 }

pub stretches-preserved : goal.stretches-preserved
unfolding nothing
stretches-preserved c =
    let n = c.stretches.stretch-index in
    let path = c.args.path.now in
    let here = slice_index_or path n nothing in
    part_more path c.stretches.part.items c.push_some.new.path.items (part_of path c.args.before c.args.count) n c.stretches.before c.stretches.left
    c.saturating_sub-before.result c.saturating_sub-left.result c.saturating_sub-here.result here c.stretches-test.true
    (get_or_default path n nothing here c.stretches-test.true) c.stretches.invariant c.saturating_sub-here.ensures
    (c.in_ok-push_some.ensures ∙ ap (λ k. c.stretches.part.items ++ taken_of here k) c.min-taken.ensures) c.saturating_sub-before.ensures c.saturating_sub-left.ensures

pub returns : goal.returns
returns c = part_all c.args.path.now c.stretches.part.items (part_of c.args.path.now c.args.before c.args.count) c.stretches.stretch-index c.stretches.before c.stretches.left c.stretches-test.false c.stretches.invariant
