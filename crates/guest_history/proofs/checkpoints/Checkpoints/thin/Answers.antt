use Rattle.std.proofs.Common.{◌≡◌, ◌==◌, bit_and, filter, All, rules, subst, sym}
use Rattle.std.proofs.lemmas.Fn.{filter_same}
use Rattle.std.proofs.lemmas.List.Elements.{All-filter}
use Rattle.guest_history.specs.Checkpoints.{IsKept}
use Rattle.guest_history.specs.declared.checkpoints.Checkpoint.{Checkpoint}
use Rattle.guest_history.proofs.checkpoints.Checkpoints.thin.Goals as goal

pub returns : goal.returns
returns c = λ program path total kept.
    let second = λ (checkpoint : Checkpoint). bit_and checkpoint.done c.args.self.now.spacing == 0 in
    let are : c.retain.new.self.items ≡ filter second c.args.self.now.copies.items = filter_same _ _ _ (λ x b f' k. search rules) _ _ c.retain.ensures.filtered in
    record {
      copies = subst (All (IsKept program path total)) (sym are) (All-filter second (IsKept program path total) c.args.self.now.copies.items kept.copies);
      spaced = (let some = kept.spaced in search rules);
    }
