use Rattle.std.proofs.Common.{[], ◌∷◌, ◌++◌}
use Rattle.std.proofs.KnownBytes.{Appends-trans}
use Rattle.guest_strings.specs.ToCome.{to_come}
use Rattle.trace_files.specs.Written.{header}
use Rattle.policies_cli.specs.Traces.{rows_behind}
use Rattle.policies_cli.proofs.trace_command.write_all_csv.Goals as goal

pub returns : goal.returns
returns g c = Appends-trans (g.W.Write.contents c.args.out.now) (g.W.Write.contents c.writeln.new.self) (g.W.Write.contents c.write_rows.new.out) (header ++ 10 ∷ []) (rows_behind 0 (to_come c.args.guests)) c.in_ok-writeln.ensures.bytes c.in_ok-write_rows.ensures
