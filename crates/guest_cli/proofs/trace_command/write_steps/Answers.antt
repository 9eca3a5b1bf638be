use Rattle.std.proofs.Common.{rules, ◌∙◌, ◌+◌, [], ◌∷◌, ◌++◌, sym}
use Rattle.std.proofs.lemmas.Option.{MatchOption-at_some}
use Rattle.guest_steps.specs.StepsToCome.{Moves}
use Rattle.guest_cli.proofs.CountedSteps.{told_none, told_more}
use Rattle.guest_cli.proofs.TracedSteps.{asked_none, lines_more, lines_same, one_behind, told_count}
use Rattle.guest_cli.proofs.trace_command.write_steps.Goals as goal

pub steps-init : goal.steps-init
steps-init g c = record {
  done = [];
  told = told_none c.args.steps.now;
  counted = search rules;
  lines = sym (asked_none c.args.request (c.args.steps.now.done + 1));
  few = search rules;
}

pub steps-preserved-then-branch : goal.steps-preserved-then-branch
steps-preserved-then-branch g c =
    let before = c.steps.invariant in
    let moves : Moves c.in-Some.told c.steps.steps c.next.new.self = MatchOption-at_some (Unit {0}) (λ told. Moves told c.steps.steps c.next.new.self) c.in-Some.told c.in-Some.is c.in_ok-told.ensures.moves in
    record {
      done = before.done ++ c.in-Some.told ∷ [];
      told = told_more before.done c.in-Some.told c.args.steps.now c.steps.steps c.next.new.self before.told moves;
      counted = told_count c.args.steps.now.done c.steps.steps.done c.next.new.self.done before.done c.in-Some.told before.counted moves.counted;
      lines = lines_more c.args.request before.done c.in-Some.told (c.args.steps.now.done + 1) c.next.new.self.done c.steps.lines
          (one_behind c.args.steps.now.done c.steps.steps.done c.next.new.self.done before.done before.counted moves.counted) before.lines (sym c.in_ok-write_one.ensures ∙ c.if-branch.true);
      few = search rules;
    }

pub steps-preserved : goal.steps-preserved
steps-preserved g c =
    let before = c.steps.invariant in
    let moves : Moves c.in-Some.told c.steps.steps c.next.new.self = MatchOption-at_some (Unit {0}) (λ told. Moves told c.steps.steps c.next.new.self) c.in-Some.told c.in-Some.is c.in_ok-told.ensures.moves in
    record {
      done = before.done ++ c.in-Some.told ∷ [];
      told = told_more before.done c.in-Some.told c.args.steps.now c.steps.steps c.next.new.self before.told moves;
      counted = told_count c.args.steps.now.done c.steps.steps.done c.next.new.self.done before.done c.in-Some.told before.counted moves.counted;
      lines = lines_same c.args.request before.done c.in-Some.told (c.args.steps.now.done + 1) c.next.new.self.done c.steps.lines
          (one_behind c.args.steps.now.done c.steps.steps.done c.next.new.self.done before.done before.counted moves.counted) before.lines (sym c.in_ok-write_one.ensures ∙ c.if-branch.false);
      few = before.few;
    }
