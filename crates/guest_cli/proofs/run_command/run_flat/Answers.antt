use Rattle.std.proofs.Common.{◌≡◌, subst}
use Rattle.flat_machine.specs.Process.{Process, opening}
use Rattle.guest_cli.specs.TurnRuns.{TellsTurns}
use Rattle.guest_cli.proofs.run_command.run_flat.Goals as goal

pub returns : goal.returns
returns g c =
    let begun : c.deref_mut.result.now ≡ opening c.args.image c.args.input.items = cc (c.deref_mut.ensures.value, c.in-Ok.ensures.ok, c.in_ok-process.ensures) in (
      c.run_to_end.new.process,
      subst (λ (p : Process). TellsTurns c.args.limit p c.run_to_end.new.process (g.O.Write.contents c.args.out.now) (g.O.Write.contents c.run_to_end.new.out) c.in_ok-done.done.0 c.in_ok-done.done.1) begun c.in_ok-done.ensures,
    )
