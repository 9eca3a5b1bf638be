use Rattle.std.proofs.Common.{arith, refl, ◌∙◌}
use Rattle.run_paths.proofs.Extending.{lengthens_by, fits_by}
use Rattle.run_paths.proofs.path.Path.lengthen.Goals as goal

pub overflow_add-index_mut : goal.overflow_add-index_mut
overflow_add-index_mut c =
    let few = fits_by c.args.self.now c.index_mut.result.now c.len-last.result c.args.end c.requires.counted c.requires.some (c.len-last.ensures ∙ c.args.self.now.stretches.ok.0) c.index_mut.ensures.value c.if-end-self.false in
    let fits = c.ranges.end.fits in
    omega (arith, few, fits)

pub returns : goal.returns
returns c = lengthens_by c.args.self.now c.index_mut.result.now c.len-last.result c.args.end c.requires.counted c.requires.some (c.len-last.ensures ∙ c.args.self.now.stretches.ok.0) c.index_mut.ensures.value c.if-end-self.false _ refl refl
