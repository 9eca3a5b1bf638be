use Rattle.std.proofs.Common.{◌≡◌}
use Rattle.trace_files.specs.References.{Trace, is_of_addresses}
use Rattle.trace_files.specs.ReferenceAnswers.{Passes, lines_left}
use Rattle.trace_files.proofs.pieces.Pieces.next_references.Given as goal

-- The lines that were read refer to no page.
abbrev pub invariant-lines : goal.invariant-lines
invariant-lines g l = record {
  passed : Passes (λ (rest : Trace). rest) (lines_left g.B.Read.remaining l.initial.format l.initial.self) (lines_left g.B.Read.remaining l.format l.self);
  form : is_of_addresses l.format ≡ is_of_addresses l.initial.format;
  kept : l.self.name ≡ l.initial.self.name;
}
