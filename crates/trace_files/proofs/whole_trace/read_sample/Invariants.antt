use Rattle.std.proofs.Common.{◌≡◌, true}
use Rattle.std.specs.List.{All}
use Rattle.whole_strings.specs.Sampling.{is_sampled}
use Rattle.trace_files.specs.ReferenceAnswers.{TellsSample, name_of, to_come}
use Rattle.trace_files.proofs.whole_trace.read_sample.Given as goal

-- The sample has those of the pages that were told that it is to have.
abbrev pub invariant-references : goal.invariant-references
invariant-references g l = record {
  told : TellsSample (is_sampled l.one_in.value) l.sample.items l.references (to_come g.B.Read.remaining l.initial.trace) (to_come g.B.Read.remaining l.trace);
  kept : name_of l.trace ≡ name_of l.initial.trace;
  sampled : All (λ page. is_sampled l.one_in.value page ≡ true) l.sample.items;
}
