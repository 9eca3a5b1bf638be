use Rattle.std.proofs.Common.{◌∙◌, ap}
use Rattle.textbook_policies.specs.Car.{first_on, clocks_of}
use Rattle.textbook_policies.proofs.car.Car.pass_first.Goals as goal

pub returns-clause-clocks : goal.returns-clause-clocks
returns-clause-clocks c =
    (λ i. record { t1 = c.pop.ensures.others i; t2 = c.in_ok-push.ensures.order i; b1 = c.args.self.now.b1; b2 = c.args.self.now.b2; referenced = λ q. c.clear_bit.ensures q i; target = c.args.self.now.target })
    ∙ ap (λ o. first_on o (clocks_of c.args.self.now)) c.in-Some.ensures.page
