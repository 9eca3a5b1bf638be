-- Pages in the order in which they leave.
use Rattle.std.specs.Prelude.{◌≡◌, ℕ, ⊤, ◌+◌, ◌-◌, ◌^◌, Bool, cond, nat_lt, min, List, [], ◌∷◌, length, drop, Option, Some, None, is_some}
use Rattle.std.specs.Ordering.{nat_cmp, ordering_then}
use Rattle.std.specs.declared.cmp.Ordering.{Ordering}
use Rattle.std.specs.BTreeSet.{insert_key}
use Rattle.clock_policy.specs.declared.key.Key.{Key}
use Rattle.page_policies.specs.Strings.{is_page}
use Rattle.textbook_policies.specs.declared.ranked.Ranked.{Ranked}

abbrev pub page_of : Ranked → Key
page_of r = record { process = r.process; vpn = r.vpn }

abbrev pub ranked : ℕ → ℕ → Key → Ranked
ranked first second p = record { first = first; second = second; process = p.process; vpn = p.vpn }

-- by the first number, of equals by the second, and of equals by the page
abbrev pub rank_cmp : Ranked → Ranked → Ordering
rank_cmp one other =
    ordering_then (nat_cmp one.first other.first) (ordering_then (nat_cmp one.second other.second) (ordering_then (nat_cmp one.process other.process) (nat_cmp one.vpn other.vpn)))

-- the page's place in the order
abbrev pub rank_in : Key → List Ranked → Option Ranked
rank_in p [] = None
rank_in p (x ∷ xs) = cond (is_page p (page_of x)) (Some x) (rank_in p xs)

abbrev pub holds_ranked : Key → List Ranked → Bool
holds_ranked p s = is_some (rank_in p s)

-- the others
abbrev pub unranked : Key → List Ranked → List Ranked
unranked p [] = []
unranked p (x ∷ xs) = cond (is_page p (page_of x)) xs (x ∷ unranked p xs)

-- the page goes to its place
abbrev pub placed : Ranked → List Ranked → List Ranked
placed r s = insert_key rank_cmp s r

-- room for one page: where each frame has one, the first leaves
abbrev pub room_made : ℕ → List Ranked → List Ranked
room_made m s = cond (nat_lt (length s) m) s (drop 1 s)

-- no page occurs twice
abbrev pub Apart : List Ranked → Type 0
Apart [] = ⊤
Apart (x ∷ xs) = (rank_in (page_of x) xs ≡ None) × Apart xs

-- the pages' ranks by their names are those of the order
pub record IsRanking (s : List Ranked) (rank : Key → Option Ranked) : Type 0 where
  pub once : Apart s
  pub known : (q : Key) → rank q ≡ rank_in q s

-- the next number, up to the greatest that is kept
abbrev pub next_number : ℕ → ℕ
next_number n = min (n + 1) (2 ^ 64 - 1)
