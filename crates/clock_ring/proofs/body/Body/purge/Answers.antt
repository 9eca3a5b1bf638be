use Rattle.std.specs.Prelude.{◌≡◌, ◌<◌, ◌+◌, ◌==◌, ◌≢◌, ℕ, true, false, length}
use Rattle.std.proofs.Common.{arith, sym, subst}
use Rattle.std.proofs.lemmas.Bool.Decides.{nat_tests}
use Rattle.clock_policy.specs.ClockPro.{purged}
use Rattle.clock_policy.proofs.SingleMoveLaws.{purged_by_moves}
use Rattle.clock_ring.specs.declared.body.Body.{Body}
use Rattle.clock_ring.specs.BodyState.{state_of}
use Rattle.clock_ring.proofs.ScanLaws.{stands}
use Rattle.clock_ring.proofs.PurgeLaws.{Purging, purge_starts, purge_at, purge_removes, purge_keeps}
use Rattle.clock_ring.proofs.body.Body.purge.Goals as goal
use Rattle.clock_ring.proofs.body.Body.purge.Goals.{then-node-process, else-node-process}

yes : (m n : ℕ) → m ≡ n → (m == n) ≡ true
yes m n h = grind (arith, nat_tests)

not_so : (m n : ℕ) → m ≢ n → (m == n) ≡ false
not_so m n h = grind (arith, nat_tests)

pub loop-passed-init : goal.loop-passed-init
loop-passed-init c =
    let b = c.args.self.now in
    purge_starts c.args.process b.ring.cells c.front-at.result (state_of b) (purged c.args.process (state_of b)) c.front-at.ensures (purged_by_moves c.args.process (state_of b) c.requires)

pub node-node-requires : goal.node-node-requires
node-node-requires c =
    let within : c.loop-passed._passed < length c.args.self.now.ring.cells = omega (arith, c.len-passed-end.ensures.len) in
    purge_at c.args.process c.args.self.now.ring.cells c.loop-passed.self.ring.cells c.loop-passed._passed c.loop-passed.at (state_of c.loop-passed.self) (purged c.args.process (state_of c.args.self.now)) within c.loop-passed.invariant

pub remove-requires : goal.remove-requires
remove-requires c =
    let within : c.loop-passed._passed < length c.args.self.now.ring.cells = omega (arith, c.len-passed-end.ensures.len) in
    (stands c.loop-passed.self.ring.cells c.loop-passed.at c.node-node.result c.loop-passed.self.kept.whole.apart (purge_at c.args.process c.args.self.now.ring.cells c.loop-passed.self.ring.cells c.loop-passed._passed c.loop-passed.at (state_of c.loop-passed.self) (purged c.args.process (state_of c.args.self.now)) within c.loop-passed.invariant) c.node-node.ensures).holds

pub loop-passed-preserved : goal.loop-passed-preserved
loop-passed-preserved c =
    let within : c.loop-passed._passed < length c.args.self.now.ring.cells = omega (arith, c.len-passed-end.ensures.len) in
    elim c.if-node-process.branch [
      | then-node-process w ↦
          subst (λ (b : Body). Purging c.args.process c.args.self.now.ring.cells b.ring.cells (c.loop-passed._passed + 1) c.node-node.result.next (state_of b) (purged c.args.process (state_of c.args.self.now))) (sym w.self-is)
          (purge_removes c.args.process c.args.self.now.ring.cells c.loop-passed.self.ring.cells w.remove.new.self.ring.cells c.loop-passed._passed c.loop-passed.at c.node-node.result (state_of c.loop-passed.self) (state_of w.remove.new.self) (purged c.args.process (state_of c.args.self.now)) within c.loop-passed.invariant c.node-node.ensures (yes c.node-node.result.entry.key.process c.args.process w.if-node-process.true) w.remove.ensures.cells w.remove.ensures.moved)
      | else-node-process w ↦
          subst (λ (b : Body). Purging c.args.process c.args.self.now.ring.cells b.ring.cells (c.loop-passed._passed + 1) c.node-node.result.next (state_of b) (purged c.args.process (state_of c.args.self.now))) (sym w.self-is)
          (purge_keeps c.args.process c.args.self.now.ring.cells c.loop-passed.self.ring.cells c.loop-passed._passed c.loop-passed.at c.node-node.result (state_of c.loop-passed.self) (purged c.args.process (state_of c.args.self.now)) within c.loop-passed.invariant c.node-node.ensures (not_so c.node-node.result.entry.key.process c.args.process w.if-node-process.false))
    ]
