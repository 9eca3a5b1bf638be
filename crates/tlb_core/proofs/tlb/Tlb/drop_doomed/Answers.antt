use Rattle.std.proofs.Common.{◌≡◌, false, sym}
use Rattle.std.specs.List.{list_any}
use Rattle.tlb_core.specs.declared.translation.Translation.{Translation}
use Rattle.tlb_core.proofs.Places.{none_dropped}
use Rattle.tlb_core.proofs.tlb.Tlb.drop_doomed.Goals as goal

pub returns-else-any_doomed : goal.returns-else-any_doomed
returns-else-any_doomed c =
    let none : list_any (λ (e : Translation). e.doomed) c.args.self.now ≡ false = cc in
    sym (none_dropped c.args.self.now none)
