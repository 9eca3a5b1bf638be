-- Pages in an order, told of a cache's entries.
use Rattle.std.specs.Prelude.{◌≡◌, ℕ, ◌-◌, ◌<◌, ◌≤◌, ◌^◌, Bool, true, false, List, ◌∷◌, length, take, Option, Some, None, IsSome, is_some, cond, refl}
use Rattle.std.specs.Option.{option_map_or}
use Rattle.std.specs.Map.{keys_of, lookup, remove_entry}
use Rattle.std.proofs.Common.{arith, sym, ap, ◌∙◌}
use Rattle.std.proofs.lemmas.List.{take_all}
use Rattle.std.proofs.lemmas.Map.Entries.{length-keys_of}
use Rattle.clock_policy.specs.declared.key.Key.{Key}
use Rattle.lru.specs.LruCache.{LruCache, lru_cache, promoted, put_entries}
use Rattle.page_policies.specs.Strings.{is_page, holds}
use Rattle.page_policies.specs.Ordered.{to_front, but_last}
use Rattle.page_policies.proofs.QueueLaws.{Found, found, none_found, holds_found, promoted_keys, keys_removed, keys_taken, absent}

pub front_keys : (c d : LruCache Key (Unit {0})) (p : Key) → d ≡ lru_cache (put_entries is_page c p tt) c.cap → c.cap ≡ 2 ^ 64 - 1 → length c.entries < 2 ^ 63 → keys_of d.entries ≡ to_front p (keys_of c.entries)
front_keys c d p is all few = ap (λ (m : LruCache Key (Unit {0})). keys_of m.entries) is ∙ elim (is_some (lookup (is_page p) c.entries)) as (λ b. is_some (lookup (is_page p) c.entries) ≡ b → keys_of (put_entries is_page c p tt) ≡ to_front p (keys_of c.entries)) [
  | true ↦ λ h. let at : Found p c.entries = found p c.entries h in
      ap (λ (o : Option (Key × Unit {0})). keys_of (option_map_or (λ e. (e.0, tt) ∷ remove_entry (is_page p) c.entries) o ((p, tt) ∷ take (c.cap - 1) c.entries))) at.is
      ∙ ap (λ (k : Key). k ∷ keys_of (remove_entry (is_page p) c.entries)) at.page
      ∙ ap (λ (l : List Key). p ∷ l) (keys_removed p c.entries)
  | false ↦ λ h.
      let some : length c.entries ≤ c.cap - 1 = omega (arith, all, few) in
      ap (λ (o : Option (Key × Unit {0})). keys_of (option_map_or (λ e. (e.0, tt) ∷ remove_entry (is_page p) c.entries) o ((p, tt) ∷ take (c.cap - 1) c.entries))) (none_found p c.entries h)
      ∙ ap (λ (l : List (Key × Unit {0})). p ∷ keys_of l) (take_all (c.cap - 1) c.entries some)
      ∙ ap (λ (l : List Key). p ∷ l) (sym (absent p (keys_of c.entries) (holds_found p c.entries ∙ h)))
] refl

pub others_keys : (es : List (Key × Unit {0})) → keys_of (take (length es - 1) es) ≡ but_last (keys_of es)
others_keys es = keys_taken (length es - 1) es ∙ ap (λ (n : ℕ). take (n - 1) (keys_of es)) (sym (length-keys_of es))

pub touched_keys : (p : Key) (es : List (Key × Unit {0})) → keys_of (promoted (is_page p) es) ≡ cond (holds p (keys_of es)) (to_front p (keys_of es)) (keys_of es)
touched_keys p es = elim (is_some (lookup (is_page p) es)) as (λ b. is_some (lookup (is_page p) es) ≡ b → keys_of (promoted (is_page p) es) ≡ cond (holds p (keys_of es)) (to_front p (keys_of es)) (keys_of es)) [
  | true ↦ λ h. promoted_keys p es h ∙ sym (ap (λ (b : Bool). cond b (to_front p (keys_of es)) (keys_of es)) (holds_found p es ∙ h))
  | false ↦ λ h. ap (λ (o : Option (Key × Unit {0})). keys_of (option_map_or (λ e. e ∷ remove_entry (is_page p) es) o es)) (none_found p es h)
      ∙ sym (ap (λ (b : Bool). cond b (to_front p (keys_of es)) (keys_of es)) (holds_found p es ∙ h))
] refl

-- a page for which nothing can be put in place of an entry is nowhere
pub refused_keys : (p : Key) (es : List (Key × Unit {0})) → (IsSome (lookup (is_page p) es) → false ≡ true) → holds p (keys_of es) ≡ false
refused_keys p es refused = holds_found p es ∙ none_there (lookup (is_page p) es) refused
  where
    none_there : (o : Option (Unit {0})) → (IsSome o → false ≡ true) → is_some o ≡ false
    none_there None h = refl
    none_there (Some x) h = sym (h refl)
