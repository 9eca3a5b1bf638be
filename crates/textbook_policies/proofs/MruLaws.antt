-- The page that was used last stands first: proofs.
use Rattle.std.specs.Prelude.{◌≡◌, Bool, true, false, cond, List, [], ◌∷◌, drop, Option, Some, None, refl}
use Rattle.std.proofs.Common.{sym, ap, ◌∙◌}
use Rattle.clock_policy.specs.declared.key.Key.{Key}
use Rattle.page_policies.specs.Strings.{is_page, holds, without}
use Rattle.page_policies.specs.Ordered.{to_front}
use Rattle.page_policies.proofs.QueueLaws.{itself, same, absent}
use Rattle.textbook_policies.specs.Mru.{recent_of}

some : (p q : Key) → (let o : Option Key = Some p in o) ≡ Some q → p ≡ q
some p q h = cc

-- a page that comes in, and the one that was first leaves

pub came : (p : Key) (s : List Key) → holds p s ≡ false → to_front p s ≡ p ∷ s
came p s new = ap (λ (l : List Key). p ∷ l) (absent p s new)

pub replaced : (p q : Key) (s : List Key) → holds p s ≡ false → Some q ≡ recent_of s → without q (to_front p s) ≡ p ∷ drop 1 s
replaced p q [] new is = cc
replaced p q (r ∷ rs) new is =
    ap (λ (k : Key). without k (to_front p (r ∷ rs))) (some q r is)
    ∙ ap (without r) (came p (r ∷ rs) new)
    ∙ ap (λ (b : Bool). cond b (r ∷ rs) (p ∷ cond (is_page r r) rs (r ∷ without r rs))) (other (is_page r p) refl)
    ∙ ap (λ (b : Bool). p ∷ cond b rs (r ∷ without r rs)) (itself r)
  where
    not_first : (b : Bool) → (let c : Bool = cond b true (holds p rs) in c) ≡ false → b ≡ false
    not_first true h = cc
    not_first false h = refl

    other : (b : Bool) → is_page r p ≡ b → b ≡ false
    other true e = sym (itself p) ∙ ap (is_page p) (sym (same r p e)) ∙ not_first (is_page p r) new
    other false e = refl

pub first : (p : Key) (s : List Key) → None ≡ recent_of s → holds p s ≡ false → to_front p s ≡ p ∷ drop 1 s
first p [] is new = refl
first p (q ∷ qs) is new = cc
