-- LRU-K begins with no use: a proof.
use Rattle.std.specs.Prelude.{◌≡◌, ℕ, List, []}
use Rattle.std.specs.HashMap.{get}
use Rattle.clock_policy.specs.declared.key.Key.{Key}
use Rattle.page_policies.specs.Strings.{is_page, misses}
use Rattle.textbook_policies.specs.LruK.{lru_k, in_lru_k, lru_k_misses, listed, uses_of}
use Rattle.textbook_policies.specs.declared.lru_k_uses.LruKUses.{LruKUses}
use Rattle.textbook_policies.specs.declared.lru_k.LruK.{LruK}

pub lru_k_opens : (s : LruK) (uses : LruKUses) (m : ℕ) → s.frames ≡ m → s.uses ≡ uses → s.pages ≡ [] → ((q : Key) → listed (get is_page s.history q) ≡ []) → s.time ≡ 1 → (string : List Key) → misses in_lru_k (lru_k s.uses.k s.frames) (uses_of s) string ≡ lru_k_misses uses m string
unfolding lru_k_misses
lru_k_opens s uses m frames uses_are pages none time string = λ i. misses in_lru_k (lru_k (uses_are i).k (frames i)) (record { pages = pages i; history = λ q. none q i; time = time i }) string
