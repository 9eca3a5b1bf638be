use Rattle.std.proofs.Common.{arith, refl, ◌∙◌, ◌≤◌}
use Rattle.run_paths.proofs.Extending.{goes_on_by}
use Rattle.run_paths.proofs.path.Path.goes_on.Goals as goal

pub returns : goal.returns
returns c = λ far.
    let most : c.saturating_sub.result ≤ c.args.done = grind (arith, far) in
    let some = c.if-places-eq0.false in
    goes_on_by c.args.self.now c.index-last.result.now c.len-places.result c.saturating_sub.result c.args.done c.args.whose c.requires.counted (c.len-places.ensures ∙ c.args.self.now.stretches.ok.0) (omega (arith, some))
    c.index-last.ensures (c.if-not-are_by_turns.ensures refl) c.saturating_sub.ensures most
