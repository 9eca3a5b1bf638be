-- Pages that have to be written back: a page is, when it leaves its frame, if it was written since it came in. At the end of a string all
-- pages leave.
use Rattle.std.specs.Prelude.{ℕ, ◌+◌, ◌&&◌, ◌||◌, Bool, false, not, cond, nat_lt, List, [], ◌∷◌, ◌++◌}
use Rattle.clock_policy.specs.declared.key.Key.{Key}
use Rattle.guest_strings.specs.declared.reference.Reference.{Reference}
use Rattle.page_policies.specs.Strings.{is_page}

-- whether the reference after these is a miss, by what the policy misses of strings
abbrev pub missed : (List Reference → ℕ) → List Reference → Reference → Bool
missed misses_of before r = nat_lt (misses_of before) (misses_of (before ++ r ∷ []))

-- whether the page was written since it came in, and is in a frame still
abbrev pub is_dirty : Bool → (Key → Bool) → Key → Bool
is_dirty is_miss dirty p = cond is_miss false (dirty p)

-- a reference makes its page dirty: that page will be written back
abbrev pub dirtied : Bool → (Key → Bool) → Reference → ℕ
dirtied is_miss dirty r = cond (r.is_written && not (is_dirty is_miss dirty r.page)) 1 0

-- the dirty pages after a reference
abbrev pub dirty_after : Bool → (Key → Bool) → Reference → Key → Bool
dirty_after is_miss dirty r q = cond (is_page r.page q) (r.is_written || is_dirty is_miss dirty r.page) (dirty q)

-- how many pages of the string are written back, where these came before it and left these pages dirty
abbrev pub written_from : (List Reference → ℕ) → List Reference → (Key → Bool) → List Reference → ℕ
written_from misses_of before dirty [] = 0
written_from misses_of before dirty (r ∷ rs) =
    dirtied (missed misses_of before r) dirty r
    + written_from misses_of (before ++ r ∷ []) (dirty_after (missed misses_of before r) dirty r) rs

unfoldable pub write_backs : (List Reference → ℕ) → List Reference → ℕ
write_backs misses_of string = written_from misses_of [] (λ q. false) string
