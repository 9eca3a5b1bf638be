use Rattle.younger_policies.proofs.SieveLaws.{sieve_opens}
use Rattle.younger_policies.proofs.sieve.SievePolicy.new.Goals as goal

pub returns-clause-misses : goal.returns-clause-misses
returns-clause-misses c = sieve_opens (record { frames = c.number.result; ahead = c.in_ok-new.field-0; behind = c.in_ok-new-2.field-0; visited = c.no_marks.result }) c.args.frames.number
    c.number.ensures.number c.in_ok-new.ensures c.in_ok-new-2.ensures c.no_marks.ensures
