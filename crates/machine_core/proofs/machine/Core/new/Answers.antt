-- A machine that begins is one.
use Rattle.std.proofs.Common.{◌≡◌, length, map, ◌∙◌, ap, arith}
use Rattle.std.proofs.lemmas.List.{length-map}
use Rattle.elf_image.specs.Start.{start_of}
use Rattle.machine_sides.specs.Sides.{PagerSideValue}
use Rattle.machine_core.proofs.Openings.{begun, machine_begins}
use Rattle.machine_core.proofs.machine.Core.new.Goals as goal

pub invariant_of-result : goal.invariant_of-result
invariant_of-result g c =
    let size : c.in-Ok.pager.pager.size ≡ c.args.frames = ap (λ (p : PagerSideValue). p.pager.size) c.in-Ok.ensures.made in
    let many : length (map (λ start. start_of start.0 start.1.items) c.args.processes.items) ≡ length c.args.processes.items = length-map c.args.processes.items (λ start. start_of start.0 start.1.items) in
    record {
      machine = machine_begins c.args.frames c.args.slots.items (map (λ start. start_of start.0 start.1.items) c.args.processes.items) _
          c.if-frames-lt-FEWEST_FRAMES.false c.if-frames-gt-MOST_FRAMES.false (omega (arith, many, c.if-len-gt-MOST_PROCESSES.false, c.len.ensures, c.args.processes.ok.0))
          (begun (λ start. start_of start.0 start.1.items) c.args.frames c.args.slots.items c.args.processes.items c.in-Ok.pager c.new-2.result c.in-Ok-begin_all.processes.items c.in-Ok-with_capacity.jobs.items c.in-Ok-with_capacity-2.copies.items
          c.in-Ok.ensures.made c.new-2.ensures.free (c.new-2.ensures.size ∙ c.args.slots.ok.0) c.in-Ok-begin_all.ensures c.in-Ok-with_capacity.ensures.items c.in-Ok-with_capacity-2.ensures.items);
      roomy = omega (arith, size, c.in-Ok-with_capacity.ensures.capacity);
      spacious = omega (arith, size, c.in-Ok-with_capacity-2.ensures.capacity);
    }

pub returns-clause-begins : goal.returns-clause-begins
returns-clause-begins g c =
    begun (λ start. start_of start.0 start.1.items) c.args.frames c.args.slots.items c.args.processes.items c.in-Ok.pager c.new-2.result c.in-Ok-begin_all.processes.items c.in-Ok-with_capacity.jobs.items c.in-Ok-with_capacity-2.copies.items
    c.in-Ok.ensures.made c.new-2.ensures.free (c.new-2.ensures.size ∙ c.args.slots.ok.0) c.in-Ok-begin_all.ensures c.in-Ok-with_capacity.ensures.items c.in-Ok-with_capacity-2.ensures.items
