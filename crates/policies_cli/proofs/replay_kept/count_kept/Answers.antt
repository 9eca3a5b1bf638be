use Rattle.std.proofs.Common.{◌≡◌, ◌∙◌, ◌<◌, List, [], arith, ap, length, map, subst}
use Rattle.std.proofs.lemmas.Grind.{common_steps}
use Rattle.guest_strings.specs.declared.reference.Reference.{Reference}
use Rattle.page_policies.specs.declared.frames.Frames.{Frames}
use Rattle.miss_counts.specs.FrameNumbers.{frames_for}
use Rattle.miss_counts.specs.StringPages.{pages_of}
use Rattle.whole_strings.specs.PageCounts.{page_count}
use Rattle.miss_counts.specs.Replayed.{HavePlayed}
use Rattle.miss_counts.specs.declared.table_size.TableSize.{TableSize}
use Rattle.trace_files.specs.ReferenceAnswers.{to_come}
use Rattle.policies_cli.specs.Replays.{PlaysParts}
use Rattle.policies_cli.proofs.Replaying.{kept_played}
use Rattle.policies_cli.proofs.replay_kept.count_kept.Goals as goal

pub returns : goal.returns
returns g c =
    let some : c.args.request.now.skip < length c.in_ok-string.string.items = grind (arith, common_steps, c.len.ensures, c.if-len-request.false, c.in_ok-string.string.ok.0) in
    let numbered : map (λ (f : Frames). f.number) c.in_ok-frames.frames.items ≡ map (frames_for (page_count (pages_of c.in_ok-string.string.items))) c.args.request.now.sizes.items =
    c.in_ok-frames.ensures ∙ ap (λ (l : List Reference). map (frames_for (page_count (pages_of l))) c.as_slice.result.now) c.as_slice-2.ensures.value
    ∙ ap (λ (l : List TableSize). map (frames_for (page_count (pages_of c.in_ok-string.string.items))) l) c.as_slice.ensures.value in
    kept_played c.args.request.now (to_come g.B.Read.remaining c.args.trace.now) c.in_ok-string.string.items c.in_ok-frames.frames.items c.in_ok-rows.rows c.in_ok-counts.counts.items c.requires c.in_ok-string.ensures.whole some numbered
    (subst (λ (l : List Frames). HavePlayed c.args.request.now.wanted.policies.items l [] [] c.in_ok-rows.rows) c.as_slice-3.ensures.value c.in_ok-rows.ensures)
    (subst (λ (l : List Reference). PlaysParts c.args.request.now l c.in_ok-rows.rows c.in_ok-counts.counts.items) c.as_slice-4.ensures.value c.in_ok-counts.ensures)
