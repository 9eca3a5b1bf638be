-- The pages, tables and caches of each process that was passed go together.
use Rattle.std.proofs.Common.{◌≡◌, ◌<◌, Some, length, slice_get, subst, ◌∙◌, arith, below_more}
use Rattle.std.proofs.lemmas.Option.{get_or_from_slice_get, slice_get_within}
use Rattle.machine_core.specs.Coherent.{IsCoherent, EachCoherent}
use Rattle.machine_core.proofs.coherence.each_coheres.Goals as goal
use Rattle.space_core.specs.StandsFor.{SpaceValue}

pub loop-side-preserved : goal.loop-side-preserved
loop-side-preserved g c = λ number process small at.
    below_more (λ n. (p : SpaceValue _) → slice_get c.args.processes.now n ≡ Some p → IsCoherent g.S.SwapSlot.content g.S.SwapSlot.honest p) c.loop-side.side-index
    (λ n below p found. c.loop-side.invariant n p below found)
    (λ p found.
    let same = c.side-item.is ∙ get_or_from_slice_get c.args.processes.now c.loop-side.side-index p c.side-item.result found in
    let told = c.coherent.ensures in
    subst (λ (q : SpaceValue _). IsCoherent g.S.SwapSlot.content g.S.SwapSlot.honest q) same
    (record { stands = told.stands; harts = told.harts; memory = record { agree = told.agree; accessed = told.accessed; framed = told.framed; unmarked = told.unmarked; walks = told.walks } }))
    number small process at

pub returns : goal.returns
unfolding EachCoherent
returns g c = λ number process at.
    let within = slice_get_within c.args.processes.now number process at in
    let done : length c.args.processes.now ≡ c.loop-side.side-index = omega arith in
    let passed : number < c.loop-side.side-index = omega (arith, within, done) in
    c.loop-side.invariant number process passed at
