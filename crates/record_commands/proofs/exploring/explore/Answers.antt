use Rattle.std.proofs.Common.{◌≡◌, ◌+◌, ◌<◌, true, false, refl, sym, subst, arith}
use Rattle.run_records.specs.Records.{value_of}
use Rattle.record_commands.specs.Rows.{GoesOn}
use Rattle.record_commands.specs.Saved.{Replaces}
use Rattle.record_commands.proofs.SoFar.{nothing_explored, one_more_explored, few_so_far, all_explored, enough_explored}
use Rattle.record_commands.proofs.exploring.explore.Goals as goal

pub runs-init : goal.runs-init
runs-init g c =
    let program = c.args.program.now in
    nothing_explored (Replaces g.R.Folder.gives g.R.Folder.withholds g.R.WholeFiles.takes) c.args.request.now program.image.now program.input.now program.file c.new-rows.result.items c.new-rows.ensures.items

pub returns-then-not-goes_on : goal.returns-then-not-goes_on
returns-then-not-goes_on g c =
    let program = c.args.program.now in
    let request = c.args.request.now in
    let explored = enough_explored (Replaces g.R.Folder.gives g.R.Folder.withholds g.R.WholeFiles.takes) request program.image.now program.input.now program.file c.runs.done c.runs.rows.items c.runs.invariant c.runs-test.true
    (λ on. let no : false ≡ true = c.if-not-goes_on.ensures.1 (subst (GoesOn request.until) (sym c.as_slice.ensures.value) on) in cc) in
    record { explored = explored; other = tt }

pub note-requires : goal.note-requires
note-requires g c =
    let program = c.args.program.now in
    let few : c.runs.done < 4294967296 = omega arith in
    record { few = few_so_far (Replaces g.R.Folder.gives g.R.Folder.withholds g.R.WholeFiles.takes) c.args.request.now program.image.now program.input.now program.file c.runs.done c.runs.rows.items c.runs.invariant few }

pub runs-preserved : goal.runs-preserved
runs-preserved g c =
    let program = c.args.program.now in
    let request = c.args.request.now in
    let first = c.from.ensures in
    let more = c.from-in-runs.ensures in
    let own : c.from.result + c.from-in-runs.result ≡ request.seed + c.runs.done = omega (arith, first, more) in
    one_more_explored (Replaces g.R.Folder.gives g.R.Folder.withholds g.R.WholeFiles.takes) request program.image.now program.input.now program.file c.runs.done c.runs.rows.items c.note.new.rows.items (value_of c.in_ok-told.told)
    (c.from.result + c.from-in-runs.result) c.runs.invariant (subst (GoesOn request.until) c.as_slice.ensures.value (c.if-not-goes_on.ensures.0 refl)) c.in_ok-told.ensures own c.in_ok-note.ensures.counts
    c.in_ok-note.ensures.saved

pub returns : goal.returns
returns g c =
    let program = c.args.program.now in
    let request = c.args.request.now in
    let all : c.runs.done ≡ request.runs = omega arith in
    let explored = all_explored (Replaces g.R.Folder.gives g.R.Folder.withholds g.R.WholeFiles.takes) request program.image.now program.input.now program.file c.runs.done c.runs.rows.items c.runs.invariant all in
    record { explored = explored; other = tt }
