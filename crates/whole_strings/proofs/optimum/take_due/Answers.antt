use Rattle.std.proofs.Common.{◌≡◌, ◌∙◌, sym, subst, refl, true, false}
use Rattle.whole_strings.specs.NextPlaces.{Due}
use Rattle.whole_strings.proofs.NextPlaceLaws.{due_popped, due_not, under_empty}
use Rattle.whole_strings.proofs.optimum.take_due.Goals as goal
use Rattle.whole_strings.proofs.optimum.take_due.Goals.{in-Some, in-None}

pub returns-then-due : goal.returns-then-due
returns-then-due c = elim c.match-first.branch [
  | in-Some w ↦ subst (Due c.args.at c.args.resident.now.keys c.pop_first.new.self.keys) (sym c.if-due.true)
      (due_popped c.args.at w.in-Some.first.now c.pop_first.result c.args.resident.now.keys c.pop_first.new.self.keys w.in-Some.ensures.first (sym w.due-is ∙ c.if-due.true) c.pop_first.ensures.variant c.pop_first.ensures.removal)
  | in-None w ↦ absurd (no (sym w.due-is ∙ c.if-due.true))
]
  where
    no : false ≡ true → ⊥
    no e = cc

pub returns-else-due : goal.returns-else-due
returns-else-due c = elim c.match-first.branch [
  | in-Some w ↦ subst (Due c.args.at c.args.resident.now.keys c.args.resident.now.keys) (sym c.if-due.false)
      (refl, due_not c.args.at w.in-Some.first.now c.args.resident.now.keys w.in-Some.ensures.first w.in-Some.ensures.all_from (sym w.due-is ∙ c.if-due.false))
  | in-None w ↦ subst (Due c.args.at c.args.resident.now.keys c.args.resident.now.keys) (sym c.if-due.false) (refl, under_empty c.args.at c.args.resident.now.keys w.in-None.ensures.variant)
]
