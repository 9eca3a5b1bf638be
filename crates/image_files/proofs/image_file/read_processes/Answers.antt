use Rattle.std.proofs.Common.{◌≡◌, ◌∙◌, refl, arith, length, map, option_map}
use Rattle.std.proofs.lemmas.List.{length-map}
use Rattle.elf_image.specs.Start.{start_of}
use Rattle.image_files.proofs.Given.{none_given, first_given, as_many}
use Rattle.image_files.proofs.image_file.read_processes.Goals as goal

pub returns-then-is_empty-clause-many : goal.returns-then-is_empty-clause-many
returns-then-is_empty-clause-many g c =
    as_many g.R.Folder.gives (λ start. start_of start.0 start.1.items) _ (map (λ s. s.now) c.args.images.now) c.in_ok-processes.processes.items c.in_ok-processes.ensures.read
    ∙ length-map c.args.images.now _

pub returns-then-is_empty-clause-given : goal.returns-then-is_empty-clause-given
returns-then-is_empty-clause-given g c =
    let none : length c.in_ok-processes.processes.items ≡ 0 = grind (arith, c.in_ok-processes.processes.ok.0) in
    none_given g.R.Folder.gives (λ start. start_of start.0 start.1.items) _ (map (λ s. s.now) c.args.images.now) c.in_ok-processes.processes.items none c.in_ok-processes.ensures.read

pub returns-clause-many : goal.returns-clause-many
returns-clause-many g c =
    let given = first_given g.R.Folder.gives (λ start. start_of start.0 start.1.items) (option_map (λ s. s.now) c.args.input) (map (λ s. s.now) c.args.images.now)
    c.in_ok-processes.processes.items c.index_mut.result.now (c.index_mut.result.now.0, c.in_ok-input.input) c.index_mut.ensures.value refl c.in_ok-input.ensures.given
    c.in_ok-processes.ensures.read in
    as_many g.R.Folder.gives (λ start. start_of start.0 start.1.items) _ (map (λ s. s.now) c.args.images.now) _ given ∙ length-map c.args.images.now _

pub returns-clause-given : goal.returns-clause-given
returns-clause-given g c =
    first_given g.R.Folder.gives (λ start. start_of start.0 start.1.items) (option_map (λ s. s.now) c.args.input) (map (λ s. s.now) c.args.images.now)
    c.in_ok-processes.processes.items c.index_mut.result.now (c.index_mut.result.now.0, c.in_ok-input.input) c.index_mut.ensures.value refl c.in_ok-input.ensures.given
    c.in_ok-processes.ensures.read
