-- SIEVE's hand passes pages one by one: proofs.
use Rattle.std.specs.Prelude.{◌≡◌, ℕ, suc, ◌+◌, ◌-◌, ◌<◌, Bool, true, false, cond, List, []}
use Rattle.std.specs.HashSet.{contains}
use Rattle.std.proofs.Common.{arith, sym, ap, ◌∙◌}
use Rattle.clock_policy.specs.declared.key.Key.{Key}
use Rattle.page_policies.specs.Strings.{is_page, misses}
use Rattle.page_policies.specs.Ordered.{last_of}
use Rattle.younger_policies.specs.Sieve.{SieveState, hand_visited, passed, discarded, swept, in_sieve, sieve, sieve_misses, queue_of}
use Rattle.younger_policies.specs.declared.sieve.Sieve.{Sieve}

pub swept_more : (n i : ℕ) (s t : SieveState) → i < n → true ≡ hand_visited (last_of s.ahead) s → t ≡ passed (last_of s.ahead) s → swept (n - (i + 1)) t ≡ swept (n - i) s
swept_more n i s t h used is =
    let e : n - i ≡ suc (n - (i + 1)) = omega (arith, h) in
    ap (swept (n - (i + 1))) is
    ∙ ap (λ (b : Bool). cond b (swept (n - (i + 1)) (passed (last_of s.ahead) s)) (discarded s)) used
    ∙ ap (λ (k : ℕ). swept k s) (sym e)

pub sieve_opens : (s : Sieve) (m : ℕ) → s.frames ≡ m → s.ahead ≡ [] → s.behind ≡ [] → ((q : Key) → contains is_page s.visited q ≡ false) → (string : List Key) → misses in_sieve (sieve s.frames) (queue_of s) string ≡ sieve_misses m string
unfolding sieve_misses
sieve_opens s m frames ahead behind unmarked string = λ i. misses in_sieve (sieve (frames i)) (record { ahead = ahead i; behind = behind i; visited = λ q. unmarked q i }) string
