-- Reports, one more process at a time, and a schedule, one more turn.
use Rattle.std.proofs.Common.{◌≡◌, ℕ, zero, suc, ◌+◌, List, [], ◌∷◌, ◌++◌, length, take, map, Some, slice_get, replicate, refl, sym, ap, ◌∙◌, arith}
use Rattle.std.proofs.lemmas.List.{length-map}
use Rattle.std.proofs.Math.ListN.{length-replicate, length-append}
use Rattle.flat_machine.specs.declared.schedule.Turn.{Turn}
use Rattle.flat_machine.specs.Schedule.{written_out}

pub told_many : {A B C : Type 0} (f : A → C) (g : B → C) (told : List A) (seen : List B) → map f told ≡ map g seen → length told ≡ length seen
told_many f g told seen same = sym (length-map told f) ∙ ap (λ l. length l) same ∙ length-map seen g
