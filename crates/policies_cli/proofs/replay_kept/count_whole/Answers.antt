use Rattle.std.proofs.Common.{◌≡◌, ◌∙◌, List, ap, map, subst}
use Rattle.std.specs.List.{AllZip}
use Rattle.guest_strings.specs.declared.reference.Reference.{Reference}
use Rattle.page_policies.specs.declared.frames.Frames.{Frames}
use Rattle.miss_counts.specs.Counted.{IsRow}
use Rattle.miss_counts.specs.FrameNumbers.{frames_for}
use Rattle.miss_counts.specs.StringPages.{pages_of}
use Rattle.whole_strings.specs.PageCounts.{page_count}
use Rattle.miss_counts.specs.declared.table_size.TableSize.{TableSize}
use Rattle.trace_files.specs.ReferenceAnswers.{to_come}
use Rattle.policies_cli.proofs.Replaying.{whole_as_asked}
use Rattle.policies_cli.proofs.replay_kept.count_whole.Goals as goal

pub returns : goal.returns
returns g c =
    let numbered : map (λ (f : Frames). f.number) c.in_ok-frames.frames.items ≡ map (frames_for (page_count (pages_of c.in_ok-string.string.items))) c.args.request.now.sizes.items =
    c.in_ok-frames.ensures ∙ ap (λ (l : List Reference). map (frames_for (page_count (pages_of l))) c.as_slice.result.now) c.as_slice-2.ensures.value
    ∙ ap (λ (l : List TableSize). map (frames_for (page_count (pages_of c.in_ok-string.string.items))) l) c.as_slice.ensures.value in
    whole_as_asked c.args.request.now (to_come g.B.Read.remaining c.args.trace.now) c.in_ok-string.string.items c.in_ok-frames.frames.items c.in_ok-rows.rows.items c.requires c.in_ok-string.ensures.whole c.in_ok-string.ensures.some numbered
    (subst (λ (l : List Frames). AllZip (IsRow c.args.request.now.wanted c.in_ok-string.string.items) l c.in_ok-rows.rows.items) c.as_slice-3.ensures.value
    (subst (λ (l : List Reference). AllZip (IsRow c.args.request.now.wanted l) c.as_slice-3.result.now c.in_ok-rows.rows.items) c.as_slice-4.ensures.value c.in_ok-rows.ensures.rows))
