use Rattle.std.proofs.Common.{All, sym, subst}
use Rattle.std.proofs.lemmas.List.Elements.{All-push}
use Rattle.guest_history.specs.Checkpoints.{IsKept}
use Rattle.guest_history.proofs.checkpoints.Checkpoints.add.Goals as goal

pub returns : goal.returns
returns c = λ program path total kept one.
    let thinned = c.thin.ensures program path total kept in
    record { copies = subst (All (IsKept program path total)) (sym c.in_ok-push.ensures.items) (All-push (IsKept program path total) c.thin.new.self.copies.items c.args.checkpoint thinned.copies one); spaced = thinned.spaced }

pub returns-then-len-most : goal.returns-then-len-most
returns-then-len-most c = λ program path total kept one. c.thin.ensures program path total kept

pub returns-in_err-push : goal.returns-in_err-push
returns-in_err-push c = λ program path total kept one.
    let thinned = c.thin.ensures program path total kept in
    record { copies = subst (All (IsKept program path total)) (sym c.in_err-push.ensures.items) thinned.copies; spaced = thinned.spaced }
