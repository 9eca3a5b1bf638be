use Rattle.younger_policies.proofs.S3FifoLaws.{s3_fifo_opens}
use Rattle.younger_policies.proofs.s3_fifo.S3Fifo.with_shares.Goals as goal

pub returns : goal.returns
returns c = s3_fifo_opens (record { rooms = c.rooms.result; small = c.in_ok-new.field-0; main = c.in_ok-new-2.field-0; ghosts = c.in_ok-new-3.field-0; freq = c.no_counts.result }) c.args.shares c.args.frames.number
    c.rooms.ensures c.in_ok-new.ensures c.in_ok-new-2.ensures c.in_ok-new-3.ensures c.no_counts.ensures
