use Rattle.std.proofs.Common.{◌∙◌, ap, sym}
use Rattle.page_policies.specs.Strings.{holds}
use Rattle.page_policies.specs.Random.{RandomState, pages_of}
use Rattle.page_policies.proofs.RandomLaws.{out_room}
use Rattle.page_policies.proofs.random_state.RandomPolicy.step.Goals as goal

pub join-requires : goal.join-requires
join-requires c = ap (λ (s : RandomState). holds c.args.page s.pages) c.make_room.ensures.pages ∙ out_room c.args.self.now.frames c.args.page (pages_of c.args.self.now) (sym c.if-is_in.ensures)
