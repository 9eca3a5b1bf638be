use Rattle.space_core.proofs.running.Running.end_step.Given as goal
use Rattle.paged_memory.specs.access.Using.{cache_in}

abbrev pub ghosts-finish_on : goal.ghosts-finish_on
ghosts-finish_on g a = record { opening = cache_in a.memory.now a.hart }
