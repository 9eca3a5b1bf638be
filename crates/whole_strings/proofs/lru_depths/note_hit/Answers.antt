use Rattle.whole_strings.proofs.LruDepthLaws.{noted_set}
use Rattle.whole_strings.proofs.lru_depths.note_hit.Goals as goal

pub returns : goal.returns
returns c = noted_set c.args.at c.args.hits.now
