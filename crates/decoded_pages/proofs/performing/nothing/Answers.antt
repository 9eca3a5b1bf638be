use Rattle.decoded_pages.proofs.Done.{continues}
use Rattle.decoded_pages.proofs.performing.nothing.Goals as goal

pub returns : goal.returns
returns c = λ start place memory. continues c.args.decoded.now start place c.args.regs.now memory c.requires.class
