-- Pages that are seen for the first time.
use Rattle.std.proofs.Common.{◌≡◌, ℕ, ◌+◌, ◌<◌, ◌∷◌, ◌∙◌, Bool, true, cond, List, [], length, drop, slice_index_or, refl, ap, sym, arith}
use Rattle.std.proofs.lemmas.List.{drop_more}
use Rattle.clock_policy.specs.declared.key.Key.{Key}
use Rattle.guest_strings.specs.declared.reference.Reference.{Reference}
use Rattle.page_policies.specs.Strings.{is_page}
use Rattle.miss_counts.specs.StringPages.{pages_of}
use Rattle.whole_strings.specs.PageCounts.{first_uses}
use Rattle.whole_strings.proofs.LruDepthLaws.{seen_alike}

-- one reference more
pub seen_more : (string : List Reference) (i : ℕ) (d : Reference) (old new : Key → Bool) → i < length string → ((q : Key) → new q ≡ cond (is_page (slice_index_or string i d).page q) true (old q))
    → first_uses old (pages_of (drop i string)) ≡ cond (old (slice_index_or string i d).page) 0 1 + first_uses new (pages_of (drop (i + 1) string))
seen_more string i d old new within is =
    ap (λ (l : List Reference). first_uses old (pages_of l)) (drop_more string i d within)
    ∙ ap (λ n. cond (old (slice_index_or string i d).page) 0 1 + n)
    (sym (seen_alike (pages_of (drop (i + 1) string)) new (λ q. cond (is_page (slice_index_or string i d).page q) true (old q)) is))

-- what is counted and what is to come still make the whole
pub still_whole : (count one first rest old all : ℕ) → count + old ≡ all → old ≡ first + rest → one ≡ first → (count + one) + rest ≡ all
still_whole count one first rest old all whole cut is = omega (arith, whole, cut, is)
