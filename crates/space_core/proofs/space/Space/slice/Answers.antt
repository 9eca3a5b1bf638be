use Rattle.std.proofs.Common.{subst}
use Rattle.paged_memory.specs.Coheres.{Coheres}
use Rattle.space_core.specs.StandsFor.{SpaceValue, IsSpace}
use Rattle.space_core.proofs.SliceChain.{Together, together}
use Rattle.space_core.proofs.space.Space.slice.Given.{Over}
use Rattle.space_core.proofs.space.Space.slice.Goals as goal

-- what its instructions say together
all : (g : Over) (c : goal.After-slice_each g) → Together g.S.SwapSlot.content g.S.SwapSlot.honest c.args.hart c.args.budget c.slice_each.result.ran c.slice_each.result.stop c.args.self.now c.slice_each.new.self
all g c =
    together g.S.SwapSlot.content g.S.SwapSlot.honest c.args.hart c.args.budget c.slice_each.result.ran c.slice_each.result.stop c.args.self.now c.slice_each.new.self
    (subst (IsSpace g.S.SwapSlot.content g.S.SwapSlot.honest) c.self.view_is (record { stands = c.self.invariant.space.stands; cached = c.self.invariant.space.cached }))
    (subst (λ (s : SpaceValue g.row.S.Denot). Coheres g.S.SwapSlot.content g.S.SwapSlot.honest s.memory) c.self.view_is
    (record { agree = c.coherent.ensures.agree; accessed = c.coherent.ensures.accessed; framed = c.coherent.ensures.framed; unmarked = c.coherent.ensures.unmarked; walks = c.coherent.ensures.walks }))
    c.slice_each.ensures.each

pub returns-clause-ran : goal.returns-clause-ran
returns-clause-ran g c = (all g c).ran_is

pub returns-clause-recorded : goal.returns-clause-recorded
returns-clause-recorded g c = (all g c).recorded

pub returns-clause-left : goal.returns-clause-left
returns-clause-left g c = (all g c).left

pub returns-clause-within : goal.returns-clause-within
returns-clause-within g c = (all g c).within

pub returns-clause-stop : goal.returns-clause-stop
returns-clause-stop g c = (all g c).stops

pub returns-clause-pages : goal.returns-clause-pages
returns-clause-pages g c = (all g c).pages

pub returns-clause-bound : goal.returns-clause-bound
returns-clause-bound g c = (all g c).bound

pub returns-clause-takes : goal.returns-clause-takes
returns-clause-takes g c = (all g c).takes

pub returns-clause-kept : goal.returns-clause-kept
returns-clause-kept g c = (all g c).kept

pub returns-clause-stands : goal.returns-clause-stands
returns-clause-stands g c = (all g c).stands

pub returns-clause-coheres : goal.returns-clause-coheres
returns-clause-coheres g c = (all g c).coheres
