use Rattle.std.proofs.Common.{◌≡◌, map}
use Rattle.elf_image.specs.Start.{start_of}
use Rattle.policies_cli.specs.Asked.{opened}
use Rattle.policies_cli.proofs.guests.opened.Given as goal

abbrev pub invariant-starts : goal.invariant-starts
invariant-starts l = l.processes.items ≡ map opened (map (λ start. start_of start.0 start.1.items) l.yielded)
