use Rattle.std.proofs.Common.{◌≡◌, ◌∙◌, ◌++◌, ◌∷◌, [], ap, map, subst}
use Rattle.elf_image.specs.Start.{start_of}
use Rattle.machine_core.specs.Opening.{MachineBegins}
use Rattle.paged_target.proofs.Showing.{begins_flat, begins_there}
use Rattle.paged_target.proofs.Staying.{begins_intact, begins_unkilled}
use Rattle.paged_target.proofs.paged_target.PagedTarget.new.Goals as goal

pub returns-in-Ok : goal.returns-in-Ok
returns-in-Ok g c =
    let alone : map (λ start. start_of start.0 start.1.items) c.push.new.self.items ≡ start_of c.args.image c.args.input.items ∷ [] =
    ap (map (λ start. start_of start.0 start.1.items)) c.in_ok-push.ensures.items
    ∙ ap (λ l. map (λ start. start_of start.0 start.1.items) (l ++ (c.args.image, c.args.input) ∷ [])) c.new-processes.ensures.items in
    record {
      opens = begins_flat c.args.image c.args.input.items (map (λ start. start_of start.0 start.1.items) c.push.new.self.items) c.in-Ok.core alone c.in-Ok.ensures.begins.processes;
      begins = subst (λ starts. MachineBegins c.args.frames c.args.slots.items starts c.in-Ok.core) alone c.in-Ok.ensures.begins;
    }

pub invariant_of-result : goal.invariant_of-result
invariant_of-result g c =
    let starts = map (λ start. start_of start.0 start.1.items) c.push.new.self.items in
    let alone : starts ≡ start_of c.args.image c.args.input.items ∷ [] =
    ap (map (λ start. start_of start.0 start.1.items)) c.in_ok-push.ensures.items
    ∙ ap (λ l. map (λ start. start_of start.0 start.1.items) (l ++ (c.args.image, c.args.input) ∷ [])) c.new-processes.ensures.items in
    record {
      there = begins_there c.args.image c.args.input.items starts c.in-Ok.core alone c.in-Ok.ensures.begins.processes;
      intact = begins_intact c.args.image c.args.input.items starts c.in-Ok.core alone c.in-Ok.ensures.begins.processes;
      unkilled = λ e. begins_unkilled c.args.image c.args.input.items starts c.in-Ok.core alone c.in-Ok.ensures.begins.processes;
    }
