-- A process that is not listed was found.
use Rattle.std.proofs.Common.{◌≡◌, ◌<◌, ap, arith, refl, sym}
use Rattle.reclaim_daemon.specs.SharedValue.{SharedValue}
use Rattle.reclaim_daemon.proofs.Audited.{found_short}
use Rattle.reclaim_daemon.proofs.shared.Shared.audit.Goals as goal

pub returns-in-None-clause-amiss : goal.returns-in-None-clause-amiss
returns-in-None-clause-amiss g c = λ is.
    let same : c.args.self.now.processes ≡ c.self.inside.locks.processes = ap (λ (s : SharedValue). s.processes) (sym c.self.view_is) in
    let small : c.processes.number < c.args.self.now.processes = omega (arith, c.processes-test.true, c.count-number-end.ensures.count, same) in
    found_short c.deref-desk.result.now c.processes.found c.processes.number c.args.self.now.processes c.deref.result.now c.processes.invariant small (c.in-None.ensures.none refl)
