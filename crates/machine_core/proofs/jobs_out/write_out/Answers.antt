-- The copy stands where it was found.
use Rattle.std.proofs.Common.{◌≡◌, true, is_some, sym, ap, ◌∙◌, position}
use Rattle.machine_core.specs.SavingOut.{is_save_of}
use Rattle.machine_core.proofs.JobsOut.{taken_at}
use Rattle.machine_core.proofs.jobs_out.write_out.Goals as goal

pub returns-clause-makes : goal.returns-clause-makes
returns-clause-makes g c =
    let taken = taken_at c.args.key c.args.jobs.now.items c.swap_remove.new.self.items c.in_ok-place.place c.swap_remove.result
    (sym (ap (position (is_save_of c.args.key)) c.as_slice.ensures.value) ∙ sym c.place_of.ensures ∙ c.in_ok-place.was)
    c.swap_remove.ensures.value c.swap_remove.ensures.items in
    record {
      job = c.swap_remove.result;
      taken = taken.permuted;
      job_process = taken.process;
      job_page = taken.page;
      process = c.run.ensures.process;
      page = c.run.ensures.vpn;
      copy = c.run.ensures.copy;
      kept = c.run.ensures.saved;
      passed = c.run.ensures.passed;
      fault = c.run.ensures.fault;
      counted = c.run.ensures.counted;
    }

pub returns-clause-found : goal.returns-clause-found
returns-clause-found g c =
    ap is_some (sym (ap (position (is_save_of c.args.key)) c.as_slice.ensures.value) ∙ sym c.place_of.ensures ∙ c.in_ok-place.was)
