use Rattle.std.proofs.Common.{rules, sym}
use Rattle.elf_image.specs.Start.{start_of}
use Rattle.held_machine.proofs.Statuses.{nothing_yet}
use Rattle.held_machine.proofs.held.Held.new.Goals as goal

pub invariant_of-result : goal.invariant_of-result
invariant_of-result g c = record {
  published = search rules;
  told = sym (nothing_yet c.args.number (start_of c.args.image c.args.input.items) c.in_ok-side.side c.in_ok-side.ensures);
}
