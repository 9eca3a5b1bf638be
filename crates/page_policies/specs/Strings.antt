-- Pages in frames, and how many references of a string miss: the terms in which every policy is defined.
use Rattle.std.specs.Prelude.{ℕ, ◌+◌, ◌==◌, ◌&&◌, Bool, true, false, cond, List, [], ◌∷◌}
use Rattle.clock_policy.specs.declared.key.Key.{Key}

abbrev pub is_page : Key → Key → Bool
is_page p q = (p.process == q.process) && (p.vpn == q.vpn)

-- whether the page is in a frame
abbrev pub holds : Key → List Key → Bool
holds p [] = false
holds p (q ∷ qs) = cond (is_page p q) true (holds p qs)

-- the others, in their order
abbrev pub without : Key → List Key → List Key
without p [] = []
without p (q ∷ qs) = cond (is_page p q) qs (q ∷ without p qs)

-- How many references of a string miss: those whose page is in no frame at that moment. `held` says whether a page is in a frame. `next`
-- gives the state after a reference.
abbrev pub misses : {S : Type 0} → (Key → S → Bool) → (Key → S → S) → S → List Key → ℕ
misses held next s [] = 0
misses held next s (p ∷ ps) = cond (held p s) 0 1 + misses held next (next p s) ps
