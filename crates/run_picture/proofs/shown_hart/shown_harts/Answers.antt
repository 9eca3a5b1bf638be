-- One more hart, the next, and at the end all.
use Rattle.std.proofs.Common.{◌≡◌, ◌∙◌, ℕ, length, map, ap, sym, arith}
use Rattle.paged_memory.specs.Whole.{harts_in}
use Rattle.run_picture.proofs.Harts.{harts_more, harts_all, has_registers}
use Rattle.run_picture.specs.Processes.{hart_seen}
use Rattle.run_picture.proofs.shown_hart.shown_harts.Goals as goal

pub harts-init : goal.harts-init
harts-init g c = ap (map hart_seen) c.new-shown.ensures.items

pub unreachable-requires : goal.unreachable-requires
unreachable-requires g c =
    let count : harts_in c.memory-memory.result.now ≡ harts_in c.args.process.now.memory = ap harts_in c.memory-memory.ensures in
    let harts : harts_in c.args.process.now.memory ≡ length c.args.process.now.running.harts = c.coherent.ensures.harts in
    has_registers c.args.process.now.running.harts c.harts.number (omega (arith, c.harts-test.true, c.cached_harts-number-end.ensures.count, count, harts))
    c.in_default.ensures.exact

pub harts-preserved : goal.harts-preserved
harts-preserved g c =
    ap (map hart_seen) c.in_ok-push.ensures.items
    ∙ harts_more c.args.process.now c.harts.number c.in-Some.regs.now c.harts.shown.items c.in_ok-hart.hart c.in-Some.ensures.exact c.in_ok-hart.ensures
    c.harts.invariant

pub returns : goal.returns
returns g c =
    let count : harts_in c.memory-memory.result.now ≡ harts_in c.args.process.now.memory = ap harts_in c.memory-memory.ensures in
    let harts : harts_in c.args.process.now.memory ≡ length c.args.process.now.running.harts = c.coherent.ensures.harts in
    harts_all c.args.process.now c.harts.number c.harts.shown.items
    (omega (arith, c.harts-test.false, c.harts.auto.number-end, c.cached_harts-number-end.ensures.count, count, harts)) c.harts.invariant
