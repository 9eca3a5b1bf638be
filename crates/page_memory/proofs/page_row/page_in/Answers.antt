use Rattle.std.proofs.Common.{◌≡◌, ◌+◌, ◌-◌, ◌*◌, ◌/◌, take, drop, ap, ◌∙◌, arith}
use Rattle.page_memory.proofs.page_row.page_in.Goals as goal

pub returns-clause-page : goal.returns-clause-page
returns-clause-page c =
    let size : c.args.first + 4096 - c.args.first ≡ 4096 = omega arith in
    let at : c.args.first ≡ c.args.first / 4096 * 4096 = omega (arith, c.requires.whole) in
    ap (λ k. take k (drop c.args.first c.args.bytes.now)) size ∙ ap (λ k. take 4096 (drop k c.args.bytes.now)) at
