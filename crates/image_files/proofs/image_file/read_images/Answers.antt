use Rattle.std.proofs.Common.{◌≡◌, ◌∷◌, ◌++◌, [], map}
use Rattle.std.proofs.lemmas.Result.{err_from_is_err_and}
use Rattle.elf_image.specs.Start.{start_of}
use Rattle.image_files.proofs.Given.{none_read, one_read, all_read, stops_at, stops_scant}
use Rattle.image_files.proofs.image_file.read_images.Goals as goal

pub loop-name-init : goal.loop-name-init
loop-name-init g c =
    none_read g.R.Folder.gives (λ s. s.now) (λ start. start_of start.0 start.1.items) c.args.images.now c.new-processes.result.items c.new-processes.ensures.items

pub loop-name-preserved : goal.loop-name-preserved
loop-name-preserved g c =
    let pushed : c.push.new.self.items ≡ c.loop-name.processes.items ++ (c.in_ok-image.image, c.new.result) ∷ [] = rw (c.is_err.ensures.negation, c.if-is_err.false) at c.push.ensures.items in
    one_read g.R.Folder.gives (λ s. s.now) (λ start. start_of start.0 start.1.items) c.args.images.now c.loop-name.name-index _ c.loop-name.processes.items c.push.new.self.items
    (c.in_ok-image.image, c.new.result) c.loop-name-test.true c.loop-name.invariant c.in_ok-image.ensures.image c.new.ensures.items pushed

pub returns-clause-read : goal.returns-clause-read
returns-clause-read g c =
    all_read g.R.Folder.gives (λ s. s.now) (λ start. start_of start.0 start.1.items) c.args.images.now c.loop-name.name-index c.loop-name.processes.items c.loop-name-test.false
    c.loop-name.invariant

pub returns-in_err-image-clause-refused : goal.returns-in_err-image-clause-refused
returns-in_err-image-clause-refused g c =
    let p = err_from_is_err_and c.from_residual.result c.from_residual.ensures.1 in
    rw (p.1, p.2)
    (stops_at g.R.Folder.gives g.R.Folder.withholds (λ s. s.now) (λ start. start_of start.0 start.1.items) c.args.images.now c.loop-name.name-index _ c.loop-name.processes.items _ c.loop-name-test.true c.loop-name.invariant
    c.in_err-image.ensures.refused)

pub returns-then-is_err-clause-refused : goal.returns-then-is_err-clause-refused
returns-then-is_err-clause-refused g c =
    stops_scant g.R.Folder.gives g.R.Folder.withholds (λ s. s.now) (λ start. start_of start.0 start.1.items) c.args.images.now c.loop-name.name-index c.loop-name.processes.items c.loop-name-test.true c.loop-name.invariant
