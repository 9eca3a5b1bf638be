use Rattle.std.proofs.Common.{subst}
use Rattle.debug_session.specs.Conversation.{HasConversed}
use Rattle.serial_commands.proofs.debug_command.debug.Goals as goal

pub returns : goal.returns
returns g c = (
  c.converse.new.debugger,
  subst (λ d. HasConversed c.args.dialect g.T.Target.shown g.T.Target.limits c.converse.result (g.I.Read.remaining c.args.input) d (g.W.Write.contents c.args.out.now) c.converse.new.debugger
      (g.W.Write.contents c.converse.new.out)) c.new-debugger.ensures c.converse.ensures,
)
