use Rattle.std.proofs.Common.{ap, true, ◌∙◌}
use Rattle.clap.specs.Simple.{App, Shape, app_of_fields, on_top}
use Rattle.clap.specs.declared.builder.command.Command.{Command}
use Rattle.clap.specs.declared.builder.command.Command.TheOpen.{Command-F}
use Rattle.command_line.specs.Commands.{bare_app}
use Rattle.command_line.proofs.commands.bare.Goals as goal

abbrev named : Command-F Command → App
named f = app_of_fields (record f { subcommand_required = true })

abbrev unnamed : Shape → Shape
unnamed s = record s { no_binary_name = true; subcommand_required = true }

pub returns-clause-read_as : goal.returns-clause-read_as
unfolding bare_app
returns-clause-read_as c = ap app_of_fields c.subcommand_required.ensures
    ∙ ap named c.no_binary_name.ensures
    ∙ ap (on_top unnamed) c.new.ensures.app
