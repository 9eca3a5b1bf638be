use Rattle.std.proofs.Common.{◌≡◌, ◌∙◌, [], ◌∷◌, ◌++◌, None, filter, arith, rules, sym}
use Rattle.whole_strings.specs.Sampling.{is_sampled}
use Rattle.trace_files.proofs.SampleTold.{all_sampled, empty_sample, not_failed, passed_at_some, sample_on, sample_passes}
use Rattle.trace_files.proofs.Telling.{over_at_none}
use Rattle.trace_files.specs.ReferenceAnswers.{to_come}
use Rattle.trace_files.proofs.whole_trace.read_sample.Goals as goal

pub returns-then-references-eq0-clause-fault : goal.returns-then-references-eq0-clause-fault
returns-then-references-eq0-clause-fault g c =
    let first = to_come g.B.Read.remaining c.args.trace.now in
    let now = to_come g.B.Read.remaining c.references.trace in
    let later = to_come g.B.Read.remaining c.next.new.self in
    let none : c.in_ok-reference.field-0 ≡ None = first_of (cc, search rules, grind arith) in
    empty_sample (is_sampled c.args.one_in.value) c.references.sample.items c.references.references first now later c.references.invariant.told (over_at_none c.in_ok-reference.field-0 now later none c.in_ok-reference.ensures.told) c.if-references-eq0.true

pub returns-in_default-clause-whole : goal.returns-in_default-clause-whole
returns-in_default-clause-whole g c =
    let first = to_come g.B.Read.remaining c.args.trace.now in
    let now = to_come g.B.Read.remaining c.references.trace in
    let later = to_come g.B.Read.remaining c.next.new.self in
    let none : c.in_ok-reference.field-0 ≡ None = first_of (cc, search rules, grind arith) in
    all_sampled (is_sampled c.args.one_in.value) c.references.sample.items c.references.references first now later c.references.invariant.told (over_at_none c.in_ok-reference.field-0 now later none c.in_ok-reference.ensures.told)

pub references-preserved : goal.references-preserved
references-preserved g c =
    let first = to_come g.B.Read.remaining c.args.trace.now in
    let now = to_come g.B.Read.remaining c.references.trace in
    let later = to_come g.B.Read.remaining c.next.new.self in
    let page = c.in-Some.reference.page in
    let kept : c.keep_sampled.new.sample.items ≡ c.references.sample.items ++ filter (is_sampled c.args.one_in.value) (page ∷ []) = not_failed c.keep_sampled.result (sym c.is_err.ensures.value ∙ c.if-is_err.false) c.keep_sampled.ensures in record {
      told = sample_on (is_sampled c.args.one_in.value) c.references.sample.items c.keep_sampled.new.sample.items c.references.references c.in-Some.reference first now later c.references.invariant.told
          (passed_at_some c.in_ok-reference.field-0 c.in-Some.reference now later c.in-Some.is c.in_ok-reference.ensures.told) kept;
      kept = c.next.ensures.kept ∙ c.references.invariant.kept;
      sampled = sample_passes (is_sampled c.args.one_in.value) c.references.sample.items c.keep_sampled.new.sample.items page c.references.invariant.sampled kept;
    }
