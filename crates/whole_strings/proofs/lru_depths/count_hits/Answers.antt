use Rattle.std.proofs.Common.{◌<◌, ◌^◌, ◌∙◌, refl, rules, arith, slice_index_or}
use Rattle.std.specs.HashMap.{get}
use Rattle.clock_policy.specs.declared.key.Key.{Key}
use Rattle.page_policies.specs.Strings.{is_page}
use Rattle.whole_strings.proofs.LruDepthLaws.{same_default}
use Rattle.whole_strings.proofs.LastPlaceLaws.{places_open, places_along, places_end, places_small, may_leave, total_few, left_few}
use Rattle.whole_strings.proofs.lru_depths.count_hits.Goals as goal

pub references-init : goal.references-init
references-init c = places_open c.new-hits.result.items (λ q. get is_page c.no_uses-ends.result q) c.in_ok-places.places c.args.string.now c.new-hits.ensures.items c.no_uses-ends.ensures c.in_ok-places.ensures.sums c.in_ok-places.ensures.places

pub leave-depth-requires-clause-known : goal.leave-depth-requires-clause-known
leave-depth-requires-clause-known c = may_leave c.references.seen (slice_index_or c.args.string.now c.references.seen (record { process = 0; vpn = 0 })) _ c.references.hits.items (λ q. get is_page c.references.ends q) c.references.places c.args.string.now
    c.references-test.true refl c.references.invariant

pub leave-depth-requires-clause-small : goal.leave-depth-requires-clause-small
leave-depth-requires-clause-small c =
    let small : c.references.seen < 2 ^ 63 = search rules in
    let few = total_few c.references.seen c.references.hits.items (λ q. get is_page c.references.ends q) c.references.places c.args.string.now c.references.invariant in
    omega (arith, small, few)

pub add-requires-clause-small : goal.add-requires-clause-small
add-requires-clause-small c =
    let small : c.references.seen < 2 ^ 63 = search rules in
    let few = total_few c.references.seen c.references.hits.items (λ q. get is_page c.references.ends q) c.references.places c.args.string.now c.references.invariant in
    let less = left_few (get is_page c.references.ends (slice_index_or c.args.string.now c.references.seen (record { process = 0; vpn = 0 }))) c.len.result c.leave-depth.result c.references.places c.leave-depth.new.places c.leave-depth.ensures in
    omega (arith, small, few, less)

pub note_depth-requires : goal.note_depth-requires
note_depth-requires c = λ d inside.
    let small : c.references.seen < 2 ^ 63 = search rules in
    places_small c.references.seen d c.references.hits.items (λ q. get is_page c.references.ends q) c.references.places c.args.string.now c.references.invariant small inside

pub references-preserved : goal.references-preserved
references-preserved c = places_along c.references.seen c.leave-depth.result c.len.result (slice_index_or c.args.string.now c.references.seen none) c.references.hits.items c.note_depth.new.hits.items (λ q. get is_page c.references.ends q) (λ q. get is_page c.note.new.ends q)
    c.references.places c.leave-depth.new.places c.add.new.self c.args.string.now c.references-test.true (same_default c.args.string.now c.references.seen none c.references-test.true) (c.len.ensures ∙ c.references.hits.ok.0)
    c.leave-depth.ensures c.add.ensures c.in_ok-note_depth.ensures c.in_ok-note.ensures c.references.invariant
  where
    none : Key
    none = record { process = 0; vpn = 0 }

pub returns : goal.returns
returns c = places_end c.references.seen c.references.hits.items (λ q. get is_page c.references.ends q) c.references.places c.args.string.now (let past = c.references-test.false in omega (arith, past)) c.references.auto.seen-end c.references.invariant
