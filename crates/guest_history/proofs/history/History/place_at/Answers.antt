use Rattle.std.proofs.Common.{◌≡◌, ◌∙◌, ap, subst, List, Some, ◌-◌}
use Rattle.run_paths.specs.declared.path.Stretch.{Stretch}
use Rattle.run_paths.specs.Paths.{along, part_of, steps_of}
use Rattle.guest_history.proofs.Standing.{led_near}
use Rattle.guest_history.proofs.history.History.place_at.Goals as goal

pub returns-clause-led : goal.returns-clause-led
returns-clause-led c =
    let near = c.in_ok-near.near in
    let go : along c.in_ok-part.part.items (steps_of c.in_ok-part.part.items) near.place ≡ Some c.go_along.new.self =
    subst (λ (l : List Stretch). along l (steps_of l) near.place ≡ Some c.go_along.new.self) c.as_slice.ensures.value c.in_ok-go_along.ensures.led in
    led_near c.args.self.now c.args.step near c.in_ok-part.part.items c.go_along.new.self c.requires.stands c.requires.known c.in_ok-near.ensures.near
    (c.in_ok-part.ensures ∙ ap (λ (l : List Stretch). part_of l near.done (c.args.step - near.done)) c.as_slice-path.ensures.value) go
