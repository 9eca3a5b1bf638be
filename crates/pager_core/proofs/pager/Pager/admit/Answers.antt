-- A page that the list took is refused for no reason.
use Rattle.std.proofs.Common.{IsTrue, false}
use Rattle.pager_core.specs.Pager.{PagerState}
use Rattle.pager_core.proofs.Admission.{takes_as_listed}
use Rattle.pager_core.proofs.pager.Pager.admit.Goals as goal

pub returns-clause-ok : goal.returns-clause-ok
returns-clause-ok g c =
    let inside : PagerState = record {
      free = c.self.inside.frames.free;
      size = c.self.inside.frames.size;
      list = g.C.Clock.state c.self.inside.list;
      tallies = c.self.inside.tallies;
    } in
    rw (← c.self.view_is)
    (takes_as_listed c.in-Ok.field-0 c.args.key inside
    (λ e. let none : IsTrue false = c.if-is_empty.ensures.1 e in cc)
    (c.in-Ok.ensures.exact, c.in-Ok.ensures.memory))
