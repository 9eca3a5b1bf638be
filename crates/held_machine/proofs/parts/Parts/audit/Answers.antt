-- One process more was counted, or makes the machine unsound.
use Rattle.std.proofs.Common.{◌≡◌, ◌<◌, length, refl, arith, map, subst, take}
use Rattle.std.proofs.lemmas.List.{take_all}
use Rattle.clock_policy.specs.Lawful.{Lawful}
use Rattle.machine_sides.specs.Sides.{PagerSideValue}
use Rattle.machine_sides.proofs.AuditLaws.{CountedSo, counted_none, counted_next, not_sound, sound_all}
use Rattle.machine_sides.proofs.EverywhereLaws.{everywhere}
use Rattle.held_machine.specs.Audit.{space_in}
use Rattle.held_machine.proofs.parts.Parts.audit.Goals as goal

pub processes-init : goal.processes-init
processes-init g c = counted_none c.args.self.now.desk.pager.pager _ refl refl

pub returns-in-None-clause-exact : goal.returns-in-None-clause-exact
returns-in-None-clause-exact g c sound =
    let small : c.processes.number < length c.args.self.now.processes.items = omega (arith, c.processes-test.true, c.args.self.now.processes.ok.0) in
    absurd (not_sound c.args.self.now.desk.pager.pager space_in c.args.self.now.processes.items c.processes.number c.index.result.now small c.index.ensures (c.in-None.ensures.none refl) sound.spaces)

pub processes-preserved : goal.processes-preserved
processes-preserved g c =
    let small : c.processes.number < length c.args.self.now.processes.items = omega (arith, c.processes-test.true, c.args.self.now.processes.ok.0) in
    counted_next c.args.self.now.desk.pager.pager space_in c.args.self.now.processes.items c.processes.found c.in-Some.more c.processes.number c.index.result.now small c.index.ensures c.processes.invariant c.in-Some.ensures.some

pub returns-clause-agree : goal.returns-clause-agree
returns-clause-agree g c all =
    let whole : take c.processes.number c.args.self.now.processes.items ≡ c.args.self.now.processes.items = take_all c.processes.number c.args.self.now.processes.items (omega (arith, c.processes-test.false, c.args.self.now.processes.ok.0)) in
    let counted = subst (λ l. CountedSo c.args.self.now.desk.pager.pager (map space_in l) c.processes.found c.processes.number) whole c.processes.invariant in
    let lawful = subst (λ (p : PagerSideValue). Lawful p.pager.list) c.pager.ensures c.question.ensures.lawful in
    everywhere c.args.self.now.desk.pager.pager (map space_in c.args.self.now.processes.items) lawful
    (sound_all c.args.self.now.desk.pager.pager (map space_in c.args.self.now.processes.items) c.processes.found c.processes.number counted (c.is_all.ensures.all all).counted)
