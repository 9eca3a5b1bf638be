use Rattle.std.proofs.Common.{◌≡◌, slice_index_or, arith, subst, sym}
use Rattle.guest_history.specs.declared.checkpoints.Checkpoint.{Checkpoint}
use Rattle.guest_history.proofs.Standing.{led_first, near_of}
use Rattle.guest_history.proofs.history.History.near.Goals as goal

pub returns-in_ok-begin-in-None : goal.returns-in_ok-begin-in-None
returns-in_ok-begin-in-None c = record {
  near = record {
    led = led_first c.args.self.now.path.stretches.items c.args.self.now.program c.in_ok-begin-in-None.field-0 c.first.result c.in_ok-begin-in-None.ensures c.first.ensures.place;
    live = c.first.ensures.live;
    before = omega arith;
  };
}

pub returns-in_ok-try_clone-in-Some : goal.returns-in_ok-try_clone-in-Some
returns-in_ok-try_clone-in-Some c = record { near = near_of c.args.self.now c.args.step c.in-Some.number c.in_ok-try_clone-in-Some.field-0 c.requires.stands c.in-Some.ensures.within (subst (λ (kept : Checkpoint). slice_index_or c.args.self.now.checkpoints.copies.items c.in-Some.number kept ≡ kept) (sym c.in_ok-try_clone-in-Some.ensures) (sym c.index.ensures)) c.in-Some.ensures.before }
