use Rattle.std.proofs.Common.{◌≡◌, ◌+◌, ◌<◌, List, length, get_or, take, drop, set, map, sym, ap, ◌∙◌, arith}
use Rattle.std.proofs.lemmas.List.{map-set, length-map, length-set}
use Rattle.guest_profile.specs.Calls.{HartCalls, ended, hart_calls, none_pending}
use Rattle.guest_profile.proofs.EndedHarts.{front_more, rest_more, calls_more}
use Rattle.guest_profile.proofs.FollowedHarts.{hart_at}
use Rattle.guest_profile.proofs.stacks.end_all.Goals as goal

pub harts-preserved : goal.harts-preserved
harts-preserved c =
    let harts : List HartCalls = map hart_calls c.args.stacks.now.items in
    let now : List HartCalls = map hart_calls c.harts.stacks.items in
    let place = c.harts.place in
    let hart : HartCalls = hart_calls c.index_mut.result.now in
    let one = c.in_ok-end.ensures in
    let kept = c.harts.invariant in
    let within : place < length now = omega (arith, length-map c.harts.stacks.items hart_calls) in
    let at : hart ≡ get_or now place hart = hart_at c.harts.stacks.items place c.index_mut.result.now c.index_mut.ensures.value in
    let after : map hart_calls (set c.harts.stacks.items place c.end.new.self) ≡ set now place (none_pending hart) = map-set hart_calls c.harts.stacks.items place c.end.new.self ∙ ap (set now place) one.hart in
    record {
      size = length-set c.harts.stacks.items place c.end.new.self ∙ kept.size;
      front = ap (take (place + 1)) after ∙ front_more harts now place hart within kept.front kept.rest at;
      rest = ap (drop (place + 1)) after ∙ rest_more harts now place hart within kept.rest at;
      counted = λ site.
          one.calls site
          ∙ ap (ended hart.done hart.pending site) (kept.counted site)
          ∙ sym (calls_more harts now place hart site _ within kept.rest at);
    }
