use Rattle.std.proofs.Common.{◌≡◌, ◌-◌, List, drop, take, length, subst, arith}
use Rattle.std.proofs.lemmas.List.{length-drop, take_all}
use Rattle.guest_strings.specs.declared.reference.Reference.{Reference}
use Rattle.miss_counts.specs.Replayed.{RowsPlay}
use Rattle.policies_cli.proofs.Replaying.{cut_played}
use Rattle.policies_cli.proofs.replay_kept.play_kept.Goals as goal

pub returns : goal.returns
returns c =
    let skip = c.args.request.now.skip in
    let string = c.args.string.now in
    let long : length (drop skip string) ≡ length string - skip = length-drop skip string in
    let rest : take (length string - skip) (drop skip string) ≡ drop skip string = take_all (length string - skip) (drop skip string) (omega (arith, long)) in
    cut_played c.args.request.now string c.args.rows c.play.new.self c.skip.new.self c.play-2.new.self c.in_ok-counts.counts.items c.requires.few c.requires.some c.in_ok-play.ensures c.skip.ensures
    (subst (λ (keys : List Reference). RowsPlay keys c.skip.new.self c.play-2.new.self) rest c.in_ok-play-2.ensures) c.in_ok-counts.ensures
