-- The run's own ledger: it has one part for each frame, and one for the pager itself.
use Rattle.hart_carriers.proofs.machine.run_machine.Given as goal

abbrev pub ghosts-report_over : goal.ghosts-report_over
ghosts-report_over g a = record { name = a.blank.name; parts = a.blank.parts }
