-- S3-FIFO's queues give pages up one by one: proofs.
use Rattle.std.specs.Prelude.{◌≡◌, ℕ, suc, ◌+◌, ◌-◌, ◌<◌, Bool, true, cond, nat_lt, List, []}
use Rattle.std.specs.HashMap.{get}
use Rattle.std.proofs.Common.{arith, sym, ap, ◌∙◌}
use Rattle.clock_policy.specs.declared.key.Key.{Key}
use Rattle.page_policies.specs.Strings.{is_page, misses}
use Rattle.page_policies.specs.NextUses.{known}
use Rattle.page_policies.specs.Ordered.{last_of}
use Rattle.younger_policies.specs.declared.s3_fifo_shares.S3FifoShares.{S3FifoShares}
use Rattle.younger_policies.specs.declared.s3_fifo_shares.S3FifoRooms.{S3FifoRooms}
use Rattle.younger_policies.specs.S3Fifo.{S3FifoState, rooms_of, tail_freq, main_again, main_out, evicted_main, small_up, small_out, evicted_small, in_s3_fifo, s3_fifo, s3_fifo_misses, queues_of}
use Rattle.younger_policies.specs.declared.s3_fifo.S3Fifo.{S3Fifo}

pub main_more : (n i : ℕ) (s t : S3FifoState) → i < n → true ≡ nat_lt 0 (tail_freq (last_of s.main) s) → t ≡ main_again (last_of s.main) s → evicted_main (n - (i + 1)) t ≡ evicted_main (n - i) s
main_more n i s t h used is =
    let e : n - i ≡ suc (n - (i + 1)) = omega (arith, h) in
    ap (evicted_main (n - (i + 1))) is
    ∙ ap (λ (b : Bool). cond b (evicted_main (n - (i + 1)) (main_again (last_of s.main) s)) (main_out s)) used
    ∙ ap (λ (k : ℕ). evicted_main k s) (sym e)

pub small_more : (r : S3FifoRooms) (n i : ℕ) (s t : S3FifoState) → i < n → true ≡ nat_lt 1 (tail_freq (last_of s.small) s) → t ≡ small_up r (last_of s.small) s → evicted_small r (n - (i + 1)) t ≡ evicted_small r (n - i) s
small_more r n i s t h used is =
    let e : n - i ≡ suc (n - (i + 1)) = omega (arith, h) in
    ap (evicted_small r (n - (i + 1))) is
    ∙ ap (λ (b : Bool). cond b (evicted_small r (n - (i + 1)) (small_up r (last_of s.small) s)) (small_out r (last_of s.small) s)) used
    ∙ ap (λ (k : ℕ). evicted_small r k s) (sym e)

pub s3_fifo_opens : (s : S3Fifo) (shares : S3FifoShares) (m : ℕ) → s.rooms ≡ rooms_of shares m → s.small ≡ [] → s.main ≡ [] → s.ghosts ≡ [] → ((q : Key) → known (get is_page s.freq q) ≡ 0) → (string : List Key) → misses in_s3_fifo (s3_fifo s.rooms) (queues_of s) string ≡ s3_fifo_misses shares m string
unfolding s3_fifo_misses
s3_fifo_opens s shares m rooms small main ghosts none string = λ i. misses in_s3_fifo (s3_fifo (rooms i)) (record { small = small i; main = main i; ghosts = ghosts i; freq = λ q. none q i }) string
