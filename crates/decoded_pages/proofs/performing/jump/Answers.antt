use Rattle.decoded_pages.proofs.Done.{jumped_by}
use Rattle.decoded_pages.proofs.performing.jump.Goals as goal

pub returns : goal.returns
returns c = λ start place memory. jumped_by c.args.decoded.now start place c.args.regs.now memory c.requires.class c.requires.aligned
