-- A resident page may begin to leave.
use Rattle.std.proofs.Common.{◌≡◌, Result, Ok, Err, sym, ◌∙◌, IfErr, true}
use Rattle.std.specs.Result.{is_err}
use Rattle.page_store.specs.declared.refusal.LeaveRefusal.{LeaveRefusal}
use Rattle.paged_memory.proofs.move_laws.LeaveLaws.{resident_leaves}
use Rattle.paged_memory.specs.moves.Moving.{DoesNotLeave}
use Rattle.paged_memory.specs.moves.Stages.{is_resident_stage}
use Rattle.paged_memory.specs.Whole.{stage_in}
use Rattle.machine_sides.proofs.sweeping.evict.Goals as goal

pub unreachable-requires : goal.unreachable-requires
unreachable-requires g c =
    refused
    c.begin_evict.result
    (sym c.is_err.ensures.value ∙ c.if-is_err.true)
    c.requires.resident
    c.begin_evict.ensures.refused
  where
    refused : (r : Result (Unit {0}) LeaveRefusal) → is_err r ≡ true → is_resident_stage (stage_in c.args.space.now.memory c.args.vpn) ≡ true → IfErr r (λ refusal. DoesNotLeave c.args.vpn refusal c.args.space.now.memory) → ⊥
    refused (Ok done) is there h = cc
    refused (Err refusal) is there h = resident_leaves c.args.space.now.memory c.args.vpn refusal there h
