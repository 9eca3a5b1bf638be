-- One next use after another.
use Rattle.std.proofs.Common.{◌≡◌, ◌∙◌, ◌<◌, ◌^◌, ℕ, List, length, slice_index_or, arith, rules, ap, refl, sym, subst}
use Rattle.whole_strings.proofs.LruDepthLaws.{come_back, few_at, length_noted}
use Rattle.whole_strings.specs.LruDepths.{noted}
use Rattle.whole_strings.proofs.WorkingSetLaws.{below_uses, inside_at, tally_ahead, tally_below, tally_opens}
use Rattle.whole_strings.proofs.working_sets.count_ahead.Goals as goal

pub uses-init : goal.uses-init
uses-init c = tally_opens below_uses (length c.args.uses.now) c.in_ok-counts.counts.items c.args.uses.now refl (c.in_ok-counts.ensures.items_if_clones_equal (λ y is. is))

pub note_hit-requires-clause-inside : goal.note_hit-requires-clause-inside
note_hit-requires-clause-inside c =
    let low = inside_at c.args.uses.now c.uses.at c.requires c.uses-test.true in
    let size = c.uses.invariant.size in
    let lent : length c.as_mut_slice.result.now ≡ length c.uses.counts.items = ap length c.as_mut_slice.ensures.value in
    omega (arith, low, size, lent)

pub note_hit-requires-clause-small : goal.note_hit-requires-clause-small
note_hit-requires-clause-small c =
    let low = inside_at c.args.uses.now c.uses.at c.requires c.uses-test.true in
    let size = c.uses.invariant.size in
    let few = few_at c.uses.at (slice_index_or c.args.uses.now c.uses.at 0) c.uses.counts.items c.uses.invariant.few (omega (arith, low, size)) in
    let small : c.uses.at < 2 ^ 63 = search rules in
    subst (λ (l : List ℕ). slice_index_or l (slice_index_or c.args.uses.now c.uses.at 0) 0 < 2 ^ 63) (sym c.as_mut_slice.ensures.value) (omega (arith, few, small))

pub uses-preserved : goal.uses-preserved
uses-preserved c =
    let one : c.note_hit.new.hits ≡ noted (slice_index_or c.args.uses.now c.uses.at 0) c.uses.counts.items = c.note_hit.ensures ∙ ap (noted (slice_index_or c.args.uses.now c.uses.at 0)) c.as_mut_slice.ensures.value in
    tally_below c.uses.at c.uses.counts.items _ c.args.uses.now c.uses-test.true c.requires
    (come_back c.uses.counts.len c.note_hit.new.hits c.uses.counts.items _ c.uses.counts.ok.0 (ap length one ∙ length_noted (slice_index_or c.args.uses.now c.uses.at 0) c.uses.counts.items) one)
    c.uses.invariant

pub returns : goal.returns
returns c = λ string is. tally_ahead c.uses.at c.uses.counts.items c.args.uses.now string (let past = c.uses-test.false in omega (arith, past)) is c.uses.invariant
