use Rattle.std.proofs.Common.{◌≡◌, ◌<◌, length, ap, ◌∙◌, refl, arith, slice_index_or}
use Rattle.std.proofs.lemmas.List.{length-set}
use Rattle.hart_carriers.proofs.Showing.{shown_more}
use Rattle.hart_carriers.proofs.closing.show_all.Goals as goal

pub viewers-preserved : goal.viewers-preserved
viewers-preserved g c =
    let so_far = c.viewers.invariant in
    let same : c.look.result ≡ slice_index_or c.args.pairs.now c.viewers.number (record { steps = 0; output = 0 }) = c.if-not-is_same.ensures.0 refl in
    let seen : c.look.new.self.seen ≡ slice_index_or c.args.pairs.now c.viewers.number (record { steps = 0; output = 0 }) = ap (λ v. v.seen) c.look.ensures.seen ∙ same in
    let inside : c.viewers.number < length c.args.pairs.now = omega (arith, c.viewers-test.true) in
    let small : c.viewers.number < length c.viewers.viewers = omega (arith, inside, so_far.many) in
    record {
      many = length-set c.viewers.viewers c.viewers.number c.look.new.self ∙ so_far.many;
      shown = shown_more c.viewers.viewers c.args.pairs.now c.viewers.number c.look.new.self (record { steps = 0; output = 0 }) small so_far.many seen so_far.shown;
    }
