use Rattle.std.proofs.Common.{◌≡◌, ◌++◌, List, ℕ, IfSome, arith, length, subst}
use Rattle.std.proofs.lemmas.Grind.{common_steps}
use Rattle.std.specs.Io.BufRead.{take_through}
use Rattle.guest_history.proofs.CutLines.{line_taken}
use Rattle.guest_history.proofs.conversation.read_line.Goals as goal

pub returns : goal.returns
returns g c =
    let whole : List ℕ = c.read_until.new.buf.items in
    let known = g.B.Read.remaining c.args.input.now in
    let long : length whole ≡ c.in_ok-read.read = grind (arith, common_steps, c.read_until.new.buf.ok.0) in
    line_taken known (g.B.Read.remaining c.read_until.new.self) whole c.drop_line_feed.new.line.items c.in_ok-read.read
    (subst (λ (l : List ℕ). IfSome known (λ bytes. whole ≡ l ++ take_through 10 bytes)) c.clear.ensures.items c.in_ok-read.ensures.bytes)
    c.in_ok-read.ensures.rest long c.drop_line_feed.ensures
