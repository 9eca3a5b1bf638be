use Rattle.std.proofs.Common.{map}
use Rattle.std.proofs.lemmas.Result.{err_from_is_err_and}
use Rattle.record_commands.proofs.RefusedWords.{refused_words}
use Rattle.record_commands.proofs.replay_command.read_image_with_words.Goals as goal

pub returns-in_err-file-clause-refused : goal.returns-in_err-file-clause-refused
returns-in_err-file-clause-refused g c =
    let p = err_from_is_err_and c.from_residual.result c.from_residual.ensures.1 in
    rw (p.1, p.2)
    (refused_words g.R.Folder.gives g.R.Folder.withholds (map (λ s. s.now) c.args.words.now) c.args.name.now c.args.told.now.image _ c.in_err-file.ensures.refused)
