use Rattle.std.proofs.Common.{◌≡◌, ℕ, ◌+◌, ◌≤◌, ◌∙◌, Bool, slice_index_or, true, false, cond, length, arith, sym, ap, refl}
use Rattle.whole_strings.proofs.PlaceStepLaws.{served_first, served_step, served_last, length_uses}
use Rattle.whole_strings.proofs.optimum.count_misses.Goals as goal
use Rattle.whole_strings.proofs.optimum.count_misses.Goals.{then-not-branch, else-not-branch}

pub loop-at-init : goal.loop-at-init
loop-at-init c = record {
  few = omega arith;
  served = λ string is. served_first c.args.frames.number c.new-resident.result.keys string c.new-resident.ensures.empty;
}

pub loop-at-preserved : goal.loop-at-preserved
loop-at-preserved c =
    let few = c.loop-at.invariant.few in
    let least = c.number.ensures.least in
    let counted : c.if-not-branch.count ≡ c.loop-at.count + cond c.in_ok-refer.field-0 0 1 = elim c.if-not-branch.branch [
      | then-not-branch w ↦ w.count-is ∙ sym (ap (λ (b : Bool). c.loop-at.count + cond b 0 1) w.if-not-branch.true)
      | else-not-branch w ↦ w.count-is ∙ (same_count c.loop-at.count ∙ sym (ap (λ (b : Bool). c.loop-at.count + cond b 0 1) w.if-not-branch.false))
    ] in
    record {
      few = more (c.in_ok-refer.field-0) c.loop-at.count c.if-not-branch.count c.loop-at.at counted few;
      served = λ string is. served_step c.args.frames.number c.number.result c.loop-at.at (length c.args.uses.now) c.loop-at.count c.if-not-branch.count c.next_place-next.result (slice_index_or c.args.uses.now c.loop-at.at 0) 0
          c.loop-at.resident.keys c.refer.new.resident.keys c.args.uses.now string c.in_ok-refer.field-0 c.number.ensures.number (omega (arith, least)) refl c.loop-at-test.true c.next_place-next.ensures refl
          is c.in_ok-refer.ensures counted (c.loop-at.invariant.served string is);
    }
  where
    same_count : (n : ℕ) → n ≡ n + 0
    same_count n = omega arith

    more : (b : Bool) (n k a : ℕ) → k ≡ n + cond b 0 1 → n ≤ a → k ≤ a + 1
    more true n k a h g = omega (arith, h, g)
    more false n k a h g = omega (arith, h, g)

pub returns : goal.returns
returns c = λ string is.
    let past = c.loop-at-test.false in
    let long : length c.args.uses.now ≡ length string = ap length is ∙ length_uses string in
    served_last c.args.frames.number c.loop-at.at c.loop-at.count c.loop-at.resident.keys string (omega (arith, past, long)) (c.loop-at.invariant.served string is)
