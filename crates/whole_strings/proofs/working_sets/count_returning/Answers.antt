-- One next use after another, of pages that are used again.
use Rattle.std.proofs.Common.{◌≡◌, ◌∙◌, ◌<◌, ◌^◌, ◌-◌, ℕ, List, cond, nat_lt, length, slice_index_or, arith, rules, ap, refl, sym, subst}
use Rattle.whole_strings.proofs.LruDepthLaws.{come_back, few_at}
use Rattle.whole_strings.specs.LruDepths.{noted}
use Rattle.whole_strings.proofs.WorkingSetLaws.{again_uses, inside_at, size_if, tally_again, tally_opens, tally_returning}
use Rattle.whole_strings.proofs.working_sets.count_returning.Goals as goal

pub uses-init : goal.uses-init
uses-init c = tally_opens again_uses (length c.args.uses.now) c.in_ok-counts.counts.items c.args.uses.now refl (c.in_ok-counts.ensures.items_if_clones_equal (λ y is. is))

pub note_return-requires-clause-inside : goal.note_return-requires-clause-inside
note_return-requires-clause-inside c =
    let low = inside_at c.args.uses.now c.uses.at c.requires c.uses-test.true in
    let size = c.uses.invariant.size in
    let lent : length c.as_mut_slice.result.now ≡ length c.uses.counts.items = ap length c.as_mut_slice.ensures.value in
    omega (arith, low, size, lent)

pub note_return-requires-clause-small : goal.note_return-requires-clause-small
note_return-requires-clause-small c =
    let low = inside_at c.args.uses.now c.uses.at c.requires c.uses-test.true in
    let size = c.uses.invariant.size in
    let few = few_at c.uses.at (slice_index_or c.args.uses.now c.uses.at 0) c.uses.counts.items c.uses.invariant.few (omega (arith, low, size)) in
    let small : c.uses.at < 2 ^ 63 = search rules in
    subst (λ (l : List ℕ). slice_index_or l (slice_index_or c.args.uses.now c.uses.at 0) 0 < 2 ^ 63) (sym c.as_mut_slice.ensures.value) (omega (arith, few, small))

pub uses-preserved : goal.uses-preserved
uses-preserved c =
    let u : ℕ = slice_index_or c.args.uses.now c.uses.at 0 in
    let left : ℕ = length c.args.uses.now - 1 - c.uses.at in
    let one : c.note_return.new.counts ≡ cond (nat_lt u left) (noted u c.uses.counts.items) c.uses.counts.items =
    c.note_return.ensures ∙ ap (λ (l : List ℕ). cond (nat_lt u left) (noted u l) l) c.as_mut_slice.ensures.value in
    tally_again c.uses.at left c.uses.counts.items _ c.args.uses.now c.uses-test.true c.requires refl
    (come_back c.uses.counts.len c.note_return.new.counts c.uses.counts.items _ c.uses.counts.ok.0 (ap length one ∙ size_if (nat_lt u left) u c.uses.counts.items) one)
    c.uses.invariant

pub returns : goal.returns
returns c = λ string is. tally_returning c.uses.at c.uses.counts.items c.args.uses.now string (let past = c.uses-test.false in omega (arith, past)) is c.uses.invariant
