-- A run up to so many steps, and then the process is given up, if it was stuck.
use Rattle.std.proofs.Common.{◌≡◌, max, ap, subst}
use Rattle.serial_driver.specs.Owing.{Duty}
use Rattle.serial_driver.specs.StepsLimit.{PlaysSome}
use Rattle.serial_driver.proofs.FlatRuns.{lines_stand}
use Rattle.serial_driver.proofs.StepsLimited.{plays_steps, steps_unlimited, steps_reach}
use Rattle.serial_driver.proofs.steps.play_steps.Goals as goal

pub returns-clause-plays : goal.returns-clause-plays
returns-clause-plays g c =
    let slice : c.new-turns.result.slice ≡ max c.args.slice 1 = ap (λ (d : Duty). d.turn.slice) c.new-turns.ensures in
    plays_steps g.S.SwapSlot.content g.S.SwapSlot.honest g.S.SwapSlot.failures (max c.args.slice 1) c.args.process c.args.limit c.is_stuck-stuck.result c.args.core.now c.is_stuck-stuck.new.core c.end_stuck.new.core
    (subst (λ n. PlaysSome g.S.SwapSlot.content g.S.SwapSlot.honest g.S.SwapSlot.failures n c.args.process c.args.limit c.is_stuck-stuck.result c.args.core.now c.is_stuck-stuck.new.core) slice c.is_stuck-stuck.ensures)
    c.end_stuck.ensures

pub returns-clause-unlimited : goal.returns-clause-unlimited
returns-clause-unlimited g c =
    steps_unlimited g.S.SwapSlot.content g.S.SwapSlot.honest g.S.SwapSlot.failures (max c.args.slice 1) c.args.process c.args.limit c.args.core.now c.end_stuck.new.core (returns-clause-plays g c)

pub returns-clause-reached : goal.returns-clause-reached
returns-clause-reached g c =
    steps_reach g.S.SwapSlot.content g.S.SwapSlot.honest g.S.SwapSlot.failures (max c.args.slice 1) c.args.process c.args.limit c.args.core.now c.end_stuck.new.core (returns-clause-plays g c)

pub returns-clause-flat : goal.returns-clause-flat
returns-clause-flat g c = λ frames free starts begins is_honest.
    lines_stand g.S.SwapSlot.content g.S.SwapSlot.honest g.S.SwapSlot.failures frames free starts c.args.core.now c.end_stuck.new.core (returns-clause-reached g c) c.faithful.ensures begins is_honest
