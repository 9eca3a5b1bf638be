use Rattle.std.proofs.Common.{◌≡◌, ◌+◌, ◌≤◌, length}
use Rattle.text_lines.specs.Text.{lines_of}
use Rattle.rv_asm.specs.FirstPass.{first_pass, with_lines}
use Rattle.rv_asm.proofs.first_pass.read_source.Given as goal

abbrev pub invariant-loop-text : goal.invariant-loop-text
invariant-loop-text l = record {
  same : with_lines l.line l.program (lines_of l.rest) ≡ first_pass l.source;
  count : l.line + length l.rest ≤ length l.source;
}

abbrev pub decreases-loop-text : goal.decreases-loop-text
decreases-loop-text l = length l.rest
