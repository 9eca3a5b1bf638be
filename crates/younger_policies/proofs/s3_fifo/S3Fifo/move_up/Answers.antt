use Rattle.std.proofs.Common.{◌∙◌, ap}
use Rattle.younger_policies.specs.S3Fifo.{main_cut, small_up, queues_of}
use Rattle.younger_policies.proofs.s3_fifo.S3Fifo.move_up.Goals as goal

pub returns-clause-queues : goal.returns-clause-queues
returns-clause-queues c = c.in_ok-cut_main.ensures.queues
    ∙ (λ i. main_cut c.args.self.now.rooms (record { small = c.pop.ensures.others i; main = c.in_ok-push.ensures.order i; ghosts = c.args.self.now.ghosts; freq = λ q. c.move_count.ensures q i }))
    ∙ ap (λ o. small_up c.args.self.now.rooms o (queues_of c.args.self.now)) c.in-Some.ensures.page
