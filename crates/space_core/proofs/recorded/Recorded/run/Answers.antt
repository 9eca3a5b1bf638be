use Rattle.space_core.proofs.StepsOn.{before_last, last_recorded, all_recorded}
use Rattle.space_core.proofs.recorded.Recorded.run.Goals as goal

pub end_slice-slice-requires : goal.end_slice-slice-requires
end_slice-slice-requires g c =
    let course = c.run_each-course.ensures in
    let now = before_last g.S.SwapSlot.content g.S.SwapSlot.honest c.args.hart c.args.most c.run_each-course.result.done c.run_each-course.result.last (record { running = c.self.inside.running; schedule = c.self.inside.schedule }) c.args.self.now
    c.run_each-course.new.self c.args.memory.now c.run_each-course.new.memory c.self.view_is c.requires.may c.requires.cached course.harts c.in_default.not-Done course.ran in
    record { may = now.may; cached = now.cached; left = now.left }

pub returns-in-Done-clause-runs : goal.returns-in-Done-clause-runs
returns-in-Done-clause-runs g c =
    all_recorded g.S.SwapSlot.content g.S.SwapSlot.honest c.args.hart c.args.most c.run_each-course.result.done c.run_each-course.result.last (record { running = c.self.inside.running; schedule = c.self.inside.schedule }) c.args.self.now
    c.run_each-course.new.self c.record.new.self c.args.memory.now c.run_each-course.new.memory c.self.view_is c.in-Done.is c.run_each-course.ensures.ran c.record.ensures.recorded c.record.ensures.left

pub returns-in_default-clause-runs : goal.returns-in_default-clause-runs
returns-in_default-clause-runs g c =
    let course = c.run_each-course.ensures in
    let now = before_last g.S.SwapSlot.content g.S.SwapSlot.honest c.args.hart c.args.most c.run_each-course.result.done c.run_each-course.result.last (record { running = c.self.inside.running; schedule = c.self.inside.schedule }) c.args.self.now
    c.run_each-course.new.self c.args.memory.now c.run_each-course.new.memory c.self.view_is c.requires.may c.requires.cached course.harts c.in_default.not-Done course.ran in
    last_recorded g.S.SwapSlot.content g.S.SwapSlot.honest c.args.hart c.args.most c.run_each-course.result.done c.end_slice-slice.result.ran c.end_slice-slice.result.stop c.run_each-course.result.last (record { running = c.self.inside.running; schedule = c.self.inside.schedule }) c.args.self.now
    c.run_each-course.new.self c.end_slice-slice.new.self c.record-in_default.new.self c.args.memory.now c.run_each-course.new.memory c.end_slice-slice.new.memory c.self.view_is now c.end_slice-slice.ensures.ends
    c.record-in_default.ensures.recorded c.record-in_default.ensures.left

pub returns-in_default-clause-short : goal.returns-in_default-clause-short
returns-in_default-clause-short g c =
    let course = c.run_each-course.ensures in
    let now = before_last g.S.SwapSlot.content g.S.SwapSlot.honest c.args.hart c.args.most c.run_each-course.result.done c.run_each-course.result.last (record { running = c.self.inside.running; schedule = c.self.inside.schedule }) c.args.self.now
    c.run_each-course.new.self c.args.memory.now c.run_each-course.new.memory c.self.view_is c.requires.may c.requires.cached course.harts c.in_default.not-Done course.ran in
    now.fewer
