use Rattle.std.proofs.Common.{◌≡◌}
use Rattle.trace_files.specs.References.{Trace, is_of_addresses}
use Rattle.trace_files.specs.ReferenceAnswers.{Passes, joined_left}
use Rattle.trace_files.proofs.next_reference.next_joined.Given as goal

-- What was read is held.
abbrev pub invariant-references : goal.invariant-references
invariant-references g l = record {
  held : Passes (λ (rest : Trace). rest) (joined_left g.B.Read.remaining l.initial.format l.initial.held l.initial.due l.initial.pieces) (joined_left g.B.Read.remaining l.format l.held l.due l.pieces);
  form : is_of_addresses l.format ≡ is_of_addresses l.initial.format;
  kept : l.pieces.name ≡ l.initial.pieces.name;
}
