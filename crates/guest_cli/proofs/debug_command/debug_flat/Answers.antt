use Rattle.std.proofs.Common.{inr, refl}
use Rattle.guest_cli.proofs.debug_command.debug_flat.Goals as goal

pub returns-in-Ok-clause-answered : goal.returns-in-Ok-clause-answered
returns-in-Ok-clause-answered g c = (
  record {
    begun = c.in_ok-history.history;
    begins = c.in_ok-history.ensures.begins;
    after = c.converse_back.new.history;
    conversed = c.in-Ok.ensures.conversed;
  },
  refl,
)

pub returns-clause-refused : goal.returns-clause-refused
returns-clause-refused g c =
    inr (
      c.in-Err.fault,
      (
        record {
          begun = c.in_ok-history.history;
          begins = c.in_ok-history.ensures.begins;
          after = c.converse_back.new.history;
          conversed = c.in-Err.ensures.conversed;
        },
        c.wrong_of.ensures,
      ),
    )
