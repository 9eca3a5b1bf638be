use Rattle.std.proofs.Common.{◌≡◌, ℕ, ◌+◌, ◌-◌, ◌<◌, ◌≤◌, List, Some, length, take, slice_index_or, sym, ap, ◌∙◌, subst, arith}
use Rattle.std.proofs.lemmas.List.{get_or_default}
use Rattle.debug_core.specs.Seen.{AreSeen}
use Rattle.run_paths.specs.declared.path.Stretch.{Stretch}
use Rattle.run_paths.specs.declared.path.Whose.TheVariants.{ByTurns}
use Rattle.run_paths.specs.declared.searching.Search.{Search}
use Rattle.run_paths.specs.Meeting.{met_at, LastMet}
use Rattle.run_paths.specs.Paths.{steps_of, whose_at}
use Rattle.run_paths.proofs.Along.{no_more, steps_more, whose_in}
use Rattle.run_paths.proofs.Meets.{HasSearched, searched_more, searched_none}
use Rattle.run_paths.proofs.Parts.{count_all}
use Rattle.run_paths.proofs.searching.last_met.Goals as goal

nothing : Stretch
nothing = record { whose = ByTurns; count = 0 }

-- the next step is this stretch's
next_is : (path : List Stretch) (n steps left : ℕ) (stretch : Stretch) → n < length path → stretch ≡ slice_index_or path n stretch → left ≤ stretch.count → 0 < left → steps + left ≡ steps_of (take n path) + stretch.count
    → whose_at path steps ≡ Some stretch.whose
next_is path n steps left stretch there is within some reached =
    let place : steps ≡ steps_of (take n path) + (stretch.count - left) = omega (arith, within, reached) in
    ap (whose_at path) place ∙ whose_in path n stretch (stretch.count - left) there is (omega (arith, within, some))

pub stretches-init : goal.stretches-init
unfolding steps_of
stretches-init c = record {
  reached = ap (λ (s : Search). s.steps) c.new-search.ensures;
  searched = subst (HasSearched c.args.points.now c.args.path.now c.args.place) (sym c.new-search.ensures) (searched_none c.args.points.now c.args.path.now c.args.place);
  seen = subst (λ (s : Search). AreSeen c.args.points.now c.look.new.seen s.place.process.memory) (sym c.new-search.ensures) c.look.ensures.seen;
  room = let same = c.look.ensures.room in omega (arith, same);
}

pub advance-requires-clause-small : goal.advance-requires-clause-small
unfolding nothing
advance-requires-clause-small c =
    let n = c.stretches.stretch-index in
    let path = c.args.path.now in
    let here = slice_index_or path n nothing in
    let more = steps_more path n here c.stretches-test.true (get_or_default path n nothing here c.stretches-test.true) in
    let all = no_more path (n + 1) in
    let small = c.requires.small in
    let reached = c.steps.invariant.reached in
    let some = c.steps-test.true in
    omega (arith, more, all, small, reached, some)

pub advance-requires-clause-seen : goal.advance-requires-clause-seen
advance-requires-clause-seen c = c.steps.invariant.seen

pub steps-preserved : goal.steps-preserved
unfolding nothing
steps-preserved c =
    let n = c.stretches.stretch-index in
    let path = c.args.path.now in
    let here = slice_index_or path n nothing in
    let is = get_or_default path n nothing here c.stretches-test.true in
    let reached = c.steps.invariant.reached in
    let within = c.steps.invariant.within in
    let some = c.steps-test.true in
    let one = c.in_ok-advance.ensures.advances.steps in
    let same = c.in_ok-advance.ensures.room in
    let room = c.steps.invariant.room in
    record {
      within = omega (arith, within, some);
      reached = omega (arith, reached, some, one);
      searched = searched_more c.args.points.now path c.args.place here.whose c.steps.search c.advance.new.self c.steps.invariant.searched (next_is path n c.steps.search.steps c.steps.left here c.stretches-test.true is within some reached)
          c.in_ok-advance.ensures.advances;
      seen = c.in_ok-advance.ensures.seen;
      room = omega (arith, same, room);
    }

pub stretches-preserved : goal.stretches-preserved
unfolding nothing
stretches-preserved c =
    let n = c.stretches.stretch-index in
    let path = c.args.path.now in
    let here = slice_index_or path n nothing in
    let more = steps_more path n here c.stretches-test.true (get_or_default path n nothing here c.stretches-test.true) in
    let reached = c.steps.invariant.reached in
    let none = c.steps-test.false in
    record { reached = omega (arith, more, reached, none); searched = c.steps.invariant.searched; seen = c.steps.invariant.seen; room = c.steps.invariant.room }

pub returns : goal.returns
returns c =
    subst (λ n. LastMet (met_at c.args.points.now c.args.path.now c.args.place) 0 n c.stretches.search.met)
    (count_all c.args.path.now c.stretches.stretch-index c.stretches.search.steps (omega (arith, c.stretches-test.false)) c.stretches.invariant.reached) c.stretches.invariant.searched.met
