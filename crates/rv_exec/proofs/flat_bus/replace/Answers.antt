-- What was loaded, and what was stored of it, are the replacement's two parts.
use Rattle.std.proofs.Common.{sym}
use Rattle.rv_exec.specs.Amo.{amo_result}
use Rattle.rv_exec.proofs.Replacing.{replaced_ok}
use Rattle.rv_exec.proofs.flat_bus.replace.Goals as goal

pub returns-clause-ok : goal.returns-clause-ok
returns-clause-ok c =
    replaced_ok c.args.memory.now (λ word. amo_result c.args.operation word c.args.operand) c.args.address c.in_ok-old.old c.store.new.self
    (sym c.in_ok-old.ensures) (rw (← c.amo_word.ensures) c.in_ok-store.ensures.ok)
