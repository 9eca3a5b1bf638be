use Rattle.std.proofs.Common.{◌≡◌, ◌+◌, ◌<◌, ◌++◌, drop}
use Rattle.elf_image.specs.WrittenFiles.{joined, runs_from, runs}
use Rattle.elf_image.proofs.runs.runs_of.Given as goal

abbrev pub invariant-loop-place : goal.invariant-loop-place
invariant-loop-place l = record {
  behind : l.run.place + l.run.count ≡ l.place;
  low : l.run.number < 458752;
  found : l.found.items ++ joined l.run (runs_from l.place (drop l.place l.pages)) ≡ runs l.pages;
}
