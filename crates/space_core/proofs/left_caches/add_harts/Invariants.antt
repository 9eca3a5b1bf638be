use Rattle.std.proofs.Common.{◌≡◌, ℕ}
use Rattle.space_core.proofs.left_caches.add_harts.Given as goal
use Rattle.paged_memory.specs.moves.Moving.{OnlyCaches}
use Rattle.paged_memory.specs.access.Using.{SameCache}
use Rattle.paged_memory.specs.Whole.{harts_in}

abbrev pub invariant-loop-hart : goal.invariant-loop-hart
invariant-loop-hart g l = record {
  memory : OnlyCaches l.initial.memory l.memory;
  count : harts_in l.memory ≡ l._hart;
  caches : (h : ℕ) → SameCache h l.initial.memory l.memory;
}
