use Rattle.std.proofs.Common.{◌≤◌, rules}
use Rattle.std.proofs.lemmas.Fn.{filter_same, All-from_retain}
use Rattle.guest_history.specs.declared.checkpoints.Checkpoint.{Checkpoint}
use Rattle.guest_history.proofs.checkpoints.Checkpoints.follow.Goals as goal

pub returns-clause-copies : goal.returns-clause-copies
returns-clause-copies c = λ _. filter_same _ _ _ (λ x b f' k. search rules) _ _ c.retain.ensures.filtered

pub returns-clause-within : goal.returns-clause-within
returns-clause-within c = λ _. All-from_retain _ (λ (kept : Checkpoint). kept.done ≤ c.args.done) _ (λ x b f' k. search rules) _ _ c.retain.ensures.filtered
