-- What the two queues are told of a cache's entries.
use Rattle.std.specs.Prelude.{◌≡◌, ℕ, zero, suc, ◌+◌, ◌-◌, ◌<◌, ◌≤◌, Bool, true, false, cond, List, [], ◌∷◌, length, take, Option, Some, None, is_some, refl}
use Rattle.std.specs.Option.{option_map_or}
use Rattle.std.specs.Map.{keys_of, lookup, lookup_entry, remove_entry}
use Rattle.std.proofs.Common.{arith, sym, ap, ◌∙◌}
use Rattle.std.proofs.lemmas.List.{take_all}
use Rattle.std.proofs.lemmas.Map.Entries.{length-keys_of}
use Rattle.std.proofs.lemmas.Bool.Decides.{nat_tests}
use Rattle.clock_policy.specs.declared.key.Key.{Key}
use Rattle.clock_policy.proofs.AdmitLaws.{one_key}
use Rattle.lru.specs.LruCache.{LruCache, lru_cache, promoted, put_entries}
use Rattle.page_policies.specs.Strings.{is_page, holds, without, misses}
use Rattle.page_policies.specs.Queues.{fifo, lru}

pub itself : (p : Key) → is_page p p ≡ true
itself p = grind (arith, nat_tests)

pub same : (p q : Key) → is_page p q ≡ true → p ≡ q
same p q h = one_key p q (parts h).0 (parts h).1
  where
    parts : is_page p q ≡ true → (p.process ≡ q.process) × (p.vpn ≡ q.vpn)
    parts h = grind (arith, nat_tests)

pub holds_found : (p : Key) (es : List (Key × Unit {0})) → holds p (keys_of es) ≡ is_some (lookup (is_page p) es)
holds_found p [] = refl
holds_found p (e ∷ es) = elim (is_page p e.0) as (λ t. cond t true (holds p (keys_of es)) ≡ is_some (cond t (Some e.1) (lookup (is_page p) es))) [ true ↦ refl | false ↦ holds_found p es ]

pub keys_removed : (p : Key) (es : List (Key × Unit {0})) → keys_of (remove_entry (is_page p) es) ≡ without p (keys_of es)
keys_removed p [] = refl
keys_removed p (e ∷ es) = elim (is_page p e.0) as (λ t. keys_of (cond t es (e ∷ remove_entry (is_page p) es)) ≡ cond t (keys_of es) (e.0 ∷ without p (keys_of es))) [ true ↦ refl | false ↦ ap (λ (l : List Key). e.0 ∷ l) (keys_removed p es) ]

-- the entry that a look-up finds
pub record Found (p : Key) (es : List (Key × Unit {0})) : Type 0 where
  pub entry : Key × Unit {0}
  pub is : lookup_entry (is_page p) es ≡ Some entry
  pub page : entry.0 ≡ p

pub found : (p : Key) (es : List (Key × Unit {0})) → is_some (lookup (is_page p) es) ≡ true → Found p es
found p [] h = cc
found p (e ∷ es) h =
    elim (is_page p e.0) as (λ t. is_page p e.0 ≡ t → is_some (cond t (Some e.1) (lookup (is_page p) es)) ≡ true → Found p (e ∷ es)) [
      | true ↦ λ is g. record { entry = e; is = ap (λ (t : Bool). cond t (Some e) (lookup_entry (is_page p) es)) is; page = sym (same p e.0 is) }
      | false ↦ λ is g. let below : Found p es = found p es g in
          record { entry = below.entry; is = ap (λ (t : Bool). cond t (Some e) (lookup_entry (is_page p) es)) is ∙ below.is; page = below.page }
    ] refl h

shorter : (p : Key) (s : List Key) → holds p s ≡ true → length (p ∷ without p s) ≡ length s
shorter p [] h = cc
shorter p (q ∷ qs) h =
    elim (is_page p q) as (λ t. cond t true (holds p qs) ≡ true → length (p ∷ cond t qs (q ∷ without p qs)) ≡ length (q ∷ qs)) [ true ↦ λ g. refl | false ↦ λ g. ap suc (shorter p qs g) ] h

pub absent : (p : Key) (s : List Key) → holds p s ≡ false → without p s ≡ s
absent p [] h = refl
absent p (q ∷ qs) h =
    elim (is_page p q) as (λ t. cond t true (holds p qs) ≡ false → cond t qs (q ∷ without p qs) ≡ q ∷ qs) [ true ↦ λ g. cc | false ↦ λ g. ap (λ (l : List Key). q ∷ l) (absent p qs g) ] h

pub promoted_keys : (p : Key) (es : List (Key × Unit {0})) → is_some (lookup (is_page p) es) ≡ true → keys_of (promoted (is_page p) es) ≡ p ∷ without p (keys_of es)
promoted_keys p es h =
    let at : Found p es = found p es h in
    ap (λ (o : Option (Key × Unit {0})). keys_of (option_map_or (λ e. e ∷ remove_entry (is_page p) es) o es)) at.is
    ∙ ap (λ (k : Key). k ∷ keys_of (remove_entry (is_page p) es)) at.page
    ∙ ap (λ (l : List Key). p ∷ l) (keys_removed p es)

pub keys_taken : (n : ℕ) (es : List (Key × Unit {0})) → keys_of (take n es) ≡ take n (keys_of es)
keys_taken zero es = refl
keys_taken (suc n) [] = refl
keys_taken (suc n) (e ∷ es) = ap (λ (l : List Key). e.0 ∷ l) (keys_taken n es)

pub none_found : (p : Key) (es : List (Key × Unit {0})) → is_some (lookup (is_page p) es) ≡ false → lookup_entry (is_page p) es ≡ None
none_found p [] h = refl
none_found p (e ∷ es) h =
    elim (is_page p e.0) as (λ t. is_some (cond t (Some e.1) (lookup (is_page p) es)) ≡ false → cond t (Some e) (lookup_entry (is_page p) es) ≡ None) [ true ↦ λ g. cc | false ↦ λ g. none_found p es g ] h

put_keys : (c : LruCache Key (Unit {0})) (p : Key) → is_some (lookup (is_page p) c.entries) ≡ false → 0 < c.cap → keys_of (put_entries is_page c p tt) ≡ take c.cap (p ∷ keys_of c.entries)
put_keys c p h room =
    ap (λ (o : Option (Key × Unit {0})). keys_of (option_map_or (λ e. (e.0, tt) ∷ remove_entry (is_page p) c.entries) o ((p, tt) ∷ take (c.cap - 1) c.entries))) (none_found p c.entries h)
    ∙ ap (λ (l : List Key). p ∷ l) (keys_taken (c.cap - 1) c.entries)
    ∙ one_more c.cap room
  where
    one_more : (n : ℕ) → 0 < n → p ∷ take (n - 1) (keys_of c.entries) ≡ take n (p ∷ keys_of c.entries)
    one_more zero h = absurd (omega (arith, h))
    one_more (suc n) h = ap (λ (k : ℕ). p ∷ take k (keys_of c.entries)) (omega arith)

-- What a reference does to a cache's pages, told of the cache after it.

pub lru_hit : (c d : LruCache Key (Unit {0})) (p : Key) → is_some (lookup (is_page p) c.entries) ≡ true → d ≡ lru_cache (promoted (is_page p) c.entries) c.cap → length c.entries ≤ c.cap → (string : List Key) →
    misses holds (lru c.cap) (keys_of c.entries) (p ∷ string) ≡ 0 + misses holds (lru d.cap) (keys_of d.entries) string
lru_hit c d p h is few string =
    let there : holds p (keys_of c.entries) ≡ true = holds_found p c.entries ∙ h in
    let same_length : length (p ∷ without p (keys_of c.entries)) ≡ length (keys_of c.entries) = shorter p (keys_of c.entries) there in
    let length_is : length (keys_of c.entries) ≡ length c.entries = length-keys_of c.entries in
    let all : take c.cap (p ∷ without p (keys_of c.entries)) ≡ p ∷ without p (keys_of c.entries) = take_all c.cap (p ∷ without p (keys_of c.entries)) (omega (arith, same_length, length_is, few)) in
    ap (λ (t : Bool). cond t 0 1 + misses holds (lru c.cap) (take c.cap (p ∷ without p (keys_of c.entries))) string) there
    ∙ ap (λ (s : List Key). 0 + misses holds (lru c.cap) s string) (all ∙ sym (promoted_keys p c.entries h))
    ∙ ap (λ (d : LruCache Key (Unit {0})). 0 + misses holds (lru d.cap) (keys_of d.entries) string) (sym is)

pub lru_miss : (c d : LruCache Key (Unit {0})) (p : Key) → is_some (lookup (is_page p) c.entries) ≡ false → d ≡ lru_cache (put_entries is_page c p tt) c.cap → 0 < c.cap → (string : List Key) →
    misses holds (lru c.cap) (keys_of c.entries) (p ∷ string) ≡ 1 + misses holds (lru d.cap) (keys_of d.entries) string
lru_miss c d p h is room string =
    let gone : holds p (keys_of c.entries) ≡ false = holds_found p c.entries ∙ h in
    ap (λ (t : Bool). cond t 0 1 + misses holds (lru c.cap) (take c.cap (p ∷ without p (keys_of c.entries))) string) gone
    ∙ ap (λ (s : List Key). 1 + misses holds (lru c.cap) (take c.cap (p ∷ s)) string) (absent p (keys_of c.entries) gone)
    ∙ ap (λ (s : List Key). 1 + misses holds (lru c.cap) s string) (sym (put_keys c p h room))
    ∙ ap (λ (d : LruCache Key (Unit {0})). 1 + misses holds (lru d.cap) (keys_of d.entries) string) (sym is)

pub fifo_hit : (c : LruCache Key (Unit {0})) (p : Key) → is_some (lookup (is_page p) c.entries) ≡ true → (string : List Key) →
    misses holds (fifo c.cap) (keys_of c.entries) (p ∷ string) ≡ 0 + misses holds (fifo c.cap) (keys_of c.entries) string
fifo_hit c p h string =
    let there : holds p (keys_of c.entries) ≡ true = holds_found p c.entries ∙ h in
    ap (λ (t : Bool). cond t 0 1 + misses holds (fifo c.cap) (cond t (keys_of c.entries) (take c.cap (p ∷ keys_of c.entries))) string) there

pub fifo_miss : (c d : LruCache Key (Unit {0})) (p : Key) → is_some (lookup (is_page p) c.entries) ≡ false → d ≡ lru_cache (put_entries is_page c p tt) c.cap → 0 < c.cap → (string : List Key) →
    misses holds (fifo c.cap) (keys_of c.entries) (p ∷ string) ≡ 1 + misses holds (fifo d.cap) (keys_of d.entries) string
fifo_miss c d p h is room string =
    let gone : holds p (keys_of c.entries) ≡ false = holds_found p c.entries ∙ h in
    ap (λ (t : Bool). cond t 0 1 + misses holds (fifo c.cap) (cond t (keys_of c.entries) (take c.cap (p ∷ keys_of c.entries))) string) gone
    ∙ ap (λ (s : List Key). 1 + misses holds (fifo c.cap) s string) (sym (put_keys c p h room))
    ∙ ap (λ (d : LruCache Key (Unit {0})). 1 + misses holds (fifo d.cap) (keys_of d.entries) string) (sym is)

-- what is not there is not promoted
pub not_promoted : (c m : LruCache Key (Unit {0})) (p : Key) → is_some (lookup (is_page p) c.entries) ≡ false → m ≡ lru_cache (promoted (is_page p) c.entries) c.cap → m ≡ c
not_promoted c m p h is = is ∙ ap (λ (o : Option (Key × Unit {0})). lru_cache (option_map_or (λ e. e ∷ remove_entry (is_page p) c.entries) o c.entries) c.cap) (none_found p c.entries h)
