-- A trace is played as it comes.
use Rattle.std.specs.Prelude.{◌≡◌, ℕ, ◌+◌, ◌-◌, ◌<◌, ◌≤◌, ◌^◌, false, List, [], ◌∷◌, ◌++◌, length, map, Option, Some, None, IfSome, refl}
use Rattle.std.specs.List.{AllZip}
use Rattle.std.proofs.Common.{arith, ap, sym, subst, ◌∙◌}
use Rattle.std.proofs.lemmas.List.{append-nil, append_assoc, length-append}
use Rattle.guest_strings.specs.declared.reference.Reference.{Reference}
use Rattle.page_policies.specs.declared.frames.Frames.{Frames}
use Rattle.miss_counts.specs.FrameNumbers.{frames_for, has_part}
use Rattle.whole_strings.specs.PageCounts.{page_count}
use Rattle.miss_counts.specs.StringPages.{pages_of}
use Rattle.miss_counts.specs.Replayed.{HavePlayed, IsReplayed, RowsPlay, RowsSkip, RowsTell}
use Rattle.miss_counts.specs.declared.counts.PolicyCounts.{PolicyCounts}
use Rattle.miss_counts.specs.declared.policy_name.PolicyName.{PolicyName}
use Rattle.miss_counts.specs.declared.rows.Rows.{Rows}
use Rattle.miss_counts.proofs.ReplayLaws.{played_replayed}
use Rattle.miss_counts.proofs.Sizes.{without_parts}
use Rattle.policies_requests.specs.declared.request.ReplayRequest.{ReplayRequest}
use Rattle.trace_files.specs.References.{Trace, Ends, told}
use Rattle.trace_files.specs.ReferenceAnswers.{IsWhole, TellsReferences}
use Rattle.trace_files.proofs.ManyTold.{all_blocks, no_references, references_joined}
use Rattle.policies_cli.specs.Replays.{PlaysNext, ReplaysAsAsked, StreamsAsAsked}

pub plays_none : (trace : Option Trace) (table : Rows) → PlaysNext trace trace table table 0
unfolding RowsPlay
plays_none trace table = record {
  references = [];
  told = no_references trace;
  many = refl;
  played = λ policies frames skipped played fit have. subst (λ (l : List Reference). HavePlayed policies frames skipped l table) (sym (append-nil played)) have;
}

pub plays_on : (block : List Reference) (first now later : Option Trace) (s t u : Rows) (count more : ℕ) → PlaysNext first now s t count → TellsReferences block now later → length block ≡ more → RowsPlay block t u → PlaysNext first later s u (count + more)
unfolding RowsPlay
plays_on block first now later s t u count more before told_so size plays =
    let sized : length (before.references ++ block) ≡ length before.references + length block = length-append before.references block in
    let many : length before.references ≡ count = before.many in record {
      references = before.references ++ block;
      told = references_joined before.references block first now later before.told told_so;
      many = omega (arith, sized, many, size);
      played = λ policies frames skipped played fit have.
          let all : length (played ++ (before.references ++ block)) ≡ length played + length (before.references ++ block) = length-append played (before.references ++ block) in
          let front : length (played ++ before.references) ≡ length played + length before.references = length-append played before.references in
          let both : length ((played ++ before.references) ++ block) ≡ length (played ++ before.references) + length block = length-append (played ++ before.references) block in
          let so_far : HavePlayed policies frames skipped (played ++ before.references) t = before.played policies frames skipped played (omega (arith, all, front, sized, fit)) have in
          let then_too : HavePlayed policies frames skipped ((played ++ before.references) ++ block) u = plays policies frames skipped (played ++ before.references) (omega (arith, all, front, both, sized, fit)) so_far in
          subst (λ (l : List Reference). HavePlayed policies frames skipped l u) (append_assoc played before.references block) then_too;
    }

-- a block that is empty plays nothing
pub plays_end : (block : List Reference) (first now later : Option Trace) (s t : Rows) (count : ℕ) → PlaysNext first now s t count → TellsReferences block now later → block ≡ [] → PlaysNext first later s t count
plays_end block first now later s t count before told_so none = record {
  references = before.references;
  told = subst (λ (l : List Reference). TellsReferences l first later) (ap (λ (l : List Reference). before.references ++ l) none ∙ append-nil before.references) (references_joined before.references block first now later before.told told_so);
  many = before.many;
  played = before.played;
}

ends_behind : (pages : List Reference) (first now later : Option Trace) → TellsReferences pages first now → IfSome now (λ _. later ≡ Some Ends) → IfSome first (λ _. later ≡ Some Ends)
ends_behind pages None now later told_so ends = tt
ends_behind pages (Some first) None later told_so ends = elim told_so [ ]
ends_behind pages (Some first) (Some now) later told_so ends = ends

pub ends_at : (first now later : Option Trace) (s t : Rows) (count : ℕ) → PlaysNext first now s t count → IfSome now (λ _. later ≡ Some Ends) → IfSome first (λ _. later ≡ Some Ends)
ends_at first now later s t count before ends = ends_behind before.references first now later before.told ends

whole : (pages : List Reference) (first last : Option Trace) → TellsReferences pages first last → IfSome first (λ _. last ≡ Some Ends) → IfSome first (IsWhole pages)
whole pages None last told_so ends = tt
whole pages (Some first) None told_so ends = elim told_so [ ]
whole pages (Some first) (Some last) told_so ends = all_blocks pages [] (Some first) (Some last) (Some last) told_so (no_references (Some last)) refl ends

-- what was skipped and what was played behind it are the whole string
pub all_played : (request : ReplayRequest) (first mid last : Option Trace) (s t u v : Rows) (skipped count : ℕ) (counts : List PolicyCounts) → PlaysNext first mid s t skipped → skipped ≤ request.skip → request.skip ≤ skipped → request.skip < 2 ^ 64
    → RowsSkip t u → PlaysNext mid last u v count → 0 < count → count < 2 ^ 64 - 1 → (count < 2 ^ 64 - 1 → IfSome mid (λ _. last ≡ Some Ends)) → RowsTell v counts → StreamsAsAsked request first s counts
unfolding RowsPlay RowsSkip
all_played request first mid last s t u v skipped count counts before most least fits skips behind some few ends tells = λ frames none have.
    let sized : length (before.references ++ behind.references) ≡ length before.references + length behind.references = length-append before.references behind.references in
    let front : length before.references ≡ skipped = before.many in
    let rest : length behind.references ≡ count = behind.many in
    let is : length before.references ≡ request.skip = omega (arith, front, most, least) in
    let played : HavePlayed request.wanted.policies.items frames [] before.references t = before.played request.wanted.policies.items frames [] [] (omega (arith, is, fits)) have in
    let left_out : HavePlayed request.wanted.policies.items frames before.references [] u = skips request.wanted.policies.items frames [] before.references played in
    let all : HavePlayed request.wanted.policies.items frames before.references behind.references v = behind.played request.wanted.policies.items frames before.references [] (omega (arith, rest, few)) left_out in (
      before.references ++ behind.references,
      (
        whole (before.references ++ behind.references) first last (references_joined before.references behind.references first mid last before.told behind.told) (ends_behind before.references first mid last before.told (ends few)),
        (
          omega (arith, sized, is, rest, some),
          subst (λ (n : ℕ). AllZip (IsReplayed request.wanted n (before.references ++ behind.references)) frames counts) is (played_replayed request.wanted before.references behind.references frames v counts none all tells),
        ),
      ),
    )

pub stream_as_asked : (request : ReplayRequest) (trace : Option Trace) (frames : List Frames) (rows : Rows) (counts : List PolicyCounts) → request.wanted.optimum ≡ false → has_part request.sizes.items ≡ false
    → map (λ (f : Frames). f.number) frames ≡ map (frames_for 0) request.sizes.items → HavePlayed request.wanted.policies.items frames [] [] rows → StreamsAsAsked request trace rows counts → ReplaysAsAsked request counts trace
stream_as_asked request trace frames rows counts none parts numbered have streams =
    let told_so = streams frames none have in record {
      string = told_so.0;
      told = told_so.1.0;
      some = told_so.1.1.0;
      table = record { frames = frames; numbered = numbered ∙ without_parts 0 (page_count (pages_of told_so.0)) request.sizes.items parts; counted_each = told_so.1.1.1 };
    }
