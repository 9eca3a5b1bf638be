use Rattle.std.proofs.lemmas.Result.{IfOk-weaker}
use Rattle.command_line.specs.Commands.{paged_app}
use Rattle.command_line.proofs.commands.paged.Goals as goal

pub returns : goal.returns
unfolding paged_app
returns c = record { read_as = IfOk-weaker c.with.result _ _ (λ _ read. read.shape) (c.with.ensures _ _ (c.with-app-5.ensures _ _ (c.with-app-4.ensures _ _ (c.with-app-3.ensures _ _ (c.with-app-2.ensures _ _ (c.with-app.ensures _ _ (record { shape = c.bare.ensures.read_as; local = c.bare.ensures.local }) c.asm.ensures) c.flat.ensures) c.clock.ensures) c.drive.ensures) c.run.ensures) c.debug.ensures) }
