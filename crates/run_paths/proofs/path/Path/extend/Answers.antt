use Rattle.std.proofs.Common.{refl, true, ap, ◌∙◌, ◌++◌, List}
use Rattle.run_paths.specs.declared.path.Stretch.{Stretch}
use Rattle.run_paths.specs.Paths.{part_of, taken_of}
use Rattle.run_paths.proofs.Extending.{extends_at_end, extends_cut}
use Rattle.run_paths.proofs.path.Path.extend.Goals as goal

pub returns-then-done-self : goal.returns-then-done-self
returns-then-done-self c = record {
  extended = extends_at_end c.args.self.now _ c.args.done c.args.whose c.args.count _ true c.requires.counted c.if-done-self.true refl c.in_ok-push_some.ensures refl;
}

pub returns : goal.returns
returns c = record {
  extended = extends_cut c.args.self.now _ c.args.done c.args.whose c.args.count _ c.requires.counted c.requires.within refl (c.in_ok-push_some-2.ensures ∙ ap (λ (l : List Stretch). l ++ taken_of (record { whose = c.args.whose; count = c.args.count }) c.args.count) (c.in_ok-stretches.ensures ∙ ap (λ (l : List Stretch). part_of l 0 c.args.done) c.as_slice.ensures.value)) refl;
}
