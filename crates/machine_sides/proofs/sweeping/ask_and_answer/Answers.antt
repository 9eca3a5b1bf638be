-- A victim is the page of the question, which is resident.
use Rattle.std.proofs.Common.{sym, ◌∙◌}
use Rattle.machine_sides.proofs.Sweeps.{victim_resident, victim_told, victim_swept}
use Rattle.machine_sides.proofs.sweeping.ask_and_answer.Goals as goal

pub evict-requires-clause-small : goal.evict-requires-clause-small
evict-requires-clause-small g c =
    (victim_resident c.read_bit-bit.result c.in-Some.key.vpn c.args.process.now c.read_bit-bit.new.space c.pager.inside.pager.list c.in-Victim.field-0 (victim_told c.read_bit-bit.result c.pager.inside.pager.list c.in-Victim.field-0 c.answer.result c.in-Ok.verdict c.answer.ensures.exact c.in-Ok.is c.in-Victim.is) c.read_bit-bit.ensures.bit c.read_bit-bit.ensures.read).0

pub evict-requires-clause-resident : goal.evict-requires-clause-resident
evict-requires-clause-resident g c =
    (victim_resident c.read_bit-bit.result c.in-Some.key.vpn c.args.process.now c.read_bit-bit.new.space c.pager.inside.pager.list c.in-Victim.field-0 (victim_told c.read_bit-bit.result c.pager.inside.pager.list c.in-Victim.field-0 c.answer.result c.in-Ok.verdict c.answer.ensures.exact c.in-Ok.is c.in-Victim.is) c.read_bit-bit.ensures.bit c.read_bit-bit.ensures.read).1

pub returns : goal.returns
returns g c = record {
  swept = (
    c.read_bit-bit.result,
    victim_swept c.args.pager.now (record { pager = c.pager.inside.pager; saves = c.pager.inside.saves; drops = c.pager.inside.drops }) _ c.args.process.now c.evict.new.space c.read_bit-bit.new.space c.in-Some.key c.in-Victim.field-0 c.read_bit-bit.result
        c.pager.view_is (sym c.question.ensures.exact ∙ c.in-Some.is) (victim_told c.read_bit-bit.result c.pager.inside.pager.list c.in-Victim.field-0 c.answer.result c.in-Ok.verdict c.answer.ensures.exact c.in-Ok.is c.in-Victim.is)
        c.answer.ensures.moved c.read_bit-bit.ensures.bit c.read_bit-bit.ensures.read c.evict.ensures.evicts,
  );
  lawful = c.question.ensures.lawful;
}
