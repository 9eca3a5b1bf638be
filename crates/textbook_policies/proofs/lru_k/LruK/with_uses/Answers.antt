use Rattle.std.proofs.Common.{refl}
use Rattle.textbook_policies.proofs.LruKLaws.{lru_k_opens}
use Rattle.textbook_policies.proofs.lru_k.LruK.with_uses.Goals as goal

pub returns : goal.returns
returns c = lru_k_opens (record { frames = c.number.result; uses = c.args.uses; pages = c.new.result; history = c.no_history.result; time = 1; alloc = c.args.alloc }) c.args.uses c.args.frames.number
    c.number.ensures.number refl c.new.ensures c.no_history.ensures refl
