-- What was asked for reaches the process.
use Rattle.std.proofs.Common.{subst, sym}
use Rattle.flat_machine.specs.Process.{Process}
use Rattle.flat_commands.specs.FlatRun.{IsOpened}
use Rattle.flat_commands.proofs.Reported.{asked}
use Rattle.flat_commands.proofs.flat_command.run_flat.Goals as goal

pub returns : goal.returns
returns g c =
    let opened = subst (λ (p : Process). IsOpened g.R.Folder.gives c.args.request.now p) (sym c.deref_mut.ensures.value) c.in_ok-process.ensures in
    asked g.R.Folder.gives c.args.request.now _ _ _ _ c.run_to_end.result opened c.from.ensures c.run_to_end.ensures
