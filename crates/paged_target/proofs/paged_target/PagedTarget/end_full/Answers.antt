-- The ending adds nothing to what is recorded, and gives no page back.
use Rattle.std.proofs.Common.{◌≡◌, [], subst}
use Rattle.std.specs.Prelude.{⊤}
use Rattle.debug_core.specs.Limits.{KeepsRoom}
use Rattle.flat_machine.specs.declared.end.KillCause.TheVariants as cause
use Rattle.machine_core.specs.Applying.{Applies}
use Rattle.machine_core.specs.declared.event.Event.TheVariants.{Kill}
use Rattle.machine_core.specs.declared.event.Reply.{Reply}
use Rattle.paged_target.specs.Lacks.{LacksOn}
use Rattle.paged_target.specs.Shown.{flat_at, TargetValue}
use Rattle.paged_target.proofs.Showing.{shows_flat}
use Rattle.paged_target.proofs.Staying.{kill_intact}
use Rattle.paged_target.proofs.Stepping.{remains_room, remains_same, remains_there}
use Rattle.paged_target.proofs.paged_target.PagedTarget.end_full.Goals as goal

pub invariant_of-self : goal.invariant_of-self
invariant_of-self g c =
    let shows = shows_flat _ _ c.self.inside.core (tt {0}) c.faithful.ensures c.self.invariant.there in
    record {
      there = remains_there [] c.apply.new.self shows.side (c.apply.ensures.invisible.recorded 0 shows.side shows.found);
      intact = kill_intact _ _ _ _ c.self.inside.core c.apply.new.self _ c.apply.ensures.applies c.self.invariant.intact;
      unkilled = λ e. cc;
    }

pub returns-clause-flat : goal.returns-clause-flat
returns-clause-flat g c =
    let shows = shows_flat _ _ c.self.inside.core (tt {0}) c.faithful.ensures c.self.invariant.there in
    let remains = c.apply.ensures.invisible.recorded 0 shows.side shows.found in
    let there = remains_there [] c.apply.new.self shows.side remains in
    subst (λ (t : TargetValue). flat_at c.apply.new.self ≡ flat_at t.core) c.self.view_is
    (remains_same _ c.self.inside.core c.apply.new.self shows (shows_flat _ _ c.apply.new.self (tt {0}) c.apply.ensures.applies.faithful there) remains)

pub returns-clause-kept : goal.returns-clause-kept
returns-clause-kept g c =
    let shows = shows_flat _ _ c.self.inside.core (tt {0}) c.faithful.ensures c.self.invariant.there in
    subst (λ (t : TargetValue). KeepsRoom (LacksOn t.core) (LacksOn c.apply.new.self)) c.self.view_is
    (remains_room _ c.self.inside.core c.apply.new.self shows (c.apply.ensures.invisible.recorded 0 shows.side shows.found))

pub returns-clause-ended : goal.returns-clause-ended
returns-clause-ended g c =
    subst (λ (t : TargetValue). (reply : Reply) × Applies (λ slot. slot) ⊤ (λ slot. 0) (Kill 0 cause.ScheduleFull) t.core c.apply.new.self reply) c.self.view_is
    (c.apply.result, c.apply.ensures.applies)
