use Rattle.std.proofs.Common.{length, ◌+◌, arith, ap, sym, ◌∙◌, subst}
use Rattle.flat_machine.specs.Schedule.{rest_in_last, IsJoined}
use Rattle.flat_machine.proofs.TurnsLaws.{rest_new, joined_more}
use Rattle.flat_machine.proofs.schedule.Schedule.begin.Goals as goal

pub invariant_of-self : goal.invariant_of-self
invariant_of-self c =
    let few = c.requires.few in
    let some = c.requires.some in
    record {
      joined = subst IsJoined (sym c.push_reserved.ensures.items)
          (joined_more c.self.inside.turns.items c.args.hart c.args.count c.self.invariant.joined (ap (λ t. rest_in_last t c.args.hart) c.self.view_is ∙ c.requires.none)
          (omega (arith, ap length c.self.view_is)) some (omega arith));
      roomy = (let same = c.push_reserved.ensures.capacity in let before = c.self.invariant.roomy in omega arith);
    }

pub returns-clause-rest : goal.returns-clause-rest
returns-clause-rest c =
    ap (λ t. rest_in_last t c.args.hart + c.args.count) c.push_reserved.ensures.items
    ∙ rest_new c.self.inside.turns.items c.args.hart c.args.count (omega arith)
