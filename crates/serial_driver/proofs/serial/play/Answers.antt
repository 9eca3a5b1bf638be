-- The save that is out when the limit is reached is the last.
use Rattle.std.proofs.Common.{◌≡◌, max, ap, subst}
use Rattle.serial_driver.specs.Limit.{PlaysUpTo}
use Rattle.serial_driver.specs.Owing.{Duty}
use Rattle.serial_driver.proofs.FlatRuns.{lines_stand}
use Rattle.serial_driver.proofs.Limited.{ends_reached}
use Rattle.serial_driver.proofs.OutOwed.{all_saved}
use Rattle.serial_driver.proofs.serial.play.Goals as goal

pub returns-clause-limited : goal.returns-clause-limited
returns-clause-limited g c =
    let slice : c.new-turns.result.slice ≡ max c.args.slice 1 = ap (λ (d : Duty). d.turn.slice) c.new-turns.ensures in
    let plays =
    subst (λ n. PlaysUpTo g.S.SwapSlot.content g.S.SwapSlot.honest g.S.SwapSlot.failures n c.args.limit c.play_events-unsaved.result c.args.core.now c.play_events-unsaved.new.core) slice c.play_events-unsaved.ensures in
    record {
      unsaved = c.play_events-unsaved.result;
      played = c.play_events-unsaved.new.core;
      plays = plays;
      saved = c.save.new.core;
      saves = c.save.ensures;
      settled = all_saved g.S.SwapSlot.content g.S.SwapSlot.honest g.S.SwapSlot.failures _ c.args.limit _ c.args.core.now c.play_events-unsaved.new.core c.save.new.core plays c.save.ensures c.faithful.ensures;
      closes = c.end_all.ensures.closes;
    }

pub returns-clause-reached : goal.returns-clause-reached
returns-clause-reached g c = ends_reached g.S.SwapSlot.content g.S.SwapSlot.honest g.S.SwapSlot.failures _ c.args.limit c.args.core.now c.end_all.new.core (returns-clause-limited g c)

pub returns-clause-flat : goal.returns-clause-flat
returns-clause-flat g c = λ frames free starts begins is_honest.
    lines_stand g.S.SwapSlot.content g.S.SwapSlot.honest g.S.SwapSlot.failures frames free starts c.args.core.now c.end_all.new.core (returns-clause-reached g c) c.faithful-2.ensures begins is_honest
