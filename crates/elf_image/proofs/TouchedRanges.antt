-- The pages that segments touch, as they are listed segment by segment.
use Rattle.std.proofs.Common.{◌≡◌, ℕ, zero, suc, ◌+◌, ◌-◌, ◌*◌, ◌/◌, ◌<◌, ◌≤◌, max, Bool, true, false, cond, List, [], ◌∷◌, ◌++◌, length, get_or, arith, refl, sym, ap, ◌∙◌, subst, inl, inr, length-append, append-nil, take, drop, length-drop, length-take}
use Rattle.std.specs.List.{list_any, filter, All, AllPairs, range_with_len}
use Rattle.std.specs.List.Sorted.{IsPartitionPoint}
use Rattle.std.proofs.lemmas.List.{get_or_default, take-append-drop, get_or-take, get_or-drop}
use Rattle.std.proofs.lemmas.Bool.Decides.{nat_tests, leb_tells}
use Rattle.std.proofs.lemmas.List.Elements.{filter-append, All-head, All-tail}
use Rattle.std.proofs.lemmas.List.Folds.{list_any_none, list_any_at}
use Rattle.std.proofs.lemmas.List.FromFn.{get_or-range_with_len, length-range_with_len}
use Rattle.elf_image.specs.declared.program_header.ProgramHeader.{ProgramHeader}
use Rattle.elf_image.specs.ElfFiles.{end_of, touches, touched_pages, image_page_limit}

filter_none : {X : Type 0} (p : X → Bool) (xs : List X) → All (λ x. p x ≡ false) xs → filter p xs ≡ []
filter_none p [] none = refl
filter_none {X} p (x ∷ xs) none =
    ap (λ b. cond b (x ∷ filter p xs) (filter p xs)) (All-head (λ y. p y ≡ false) x xs none)
    ∙ filter_none p xs (All-tail (λ y. p y ≡ false) x xs none)

filter_all : {X : Type 0} (p : X → Bool) (xs : List X) → All (λ x. p x ≡ true) xs → filter p xs ≡ xs
filter_all p [] all = refl
filter_all {X} p (x ∷ xs) all =
    ap (λ b. cond b (x ∷ filter p xs) (filter p xs)) (All-head (λ y. p y ≡ true) x xs all)
    ∙ ap (λ l. x ∷ l) (filter_all p xs (All-tail (λ y. p y ≡ true) x xs all))

-- a range in two
pub range_parts : (a m n : ℕ) → range_with_len a (m + n) ≡ range_with_len a m ++ range_with_len (a + m) n
range_parts a zero n = (λ i. range_with_len (add_none i) (none_add i))
  where
    add_none : a ≡ a + 0
    add_none = omega arith

    none_add : 0 + n ≡ n
    none_add = omega arith
range_parts a (suc m) n =
    ap (range_with_len a) more
    ∙ ap (λ l. a ∷ l) (range_parts (a + 1) m n ∙ ap (λ b. range_with_len (a + 1) m ++ range_with_len b n) on)
  where
    more : suc m + n ≡ suc (m + n)
    more = omega arith

    on : (a + 1) + m ≡ a + suc m
    on = omega arith

-- whether any of the segments touches a page
abbrev pub is_touched : List ProgramHeader → ℕ → Bool
is_touched loaded page = list_any (touches page) loaded

none_in_range : (p : ℕ → Bool) (a n : ℕ) → ((x : ℕ) → a ≤ x → x < a + n → p x ≡ false) → filter p (range_with_len a n) ≡ []
none_in_range p a n none = filter_none p (range_with_len a n) (λ k d within. let place : k < n = subst (λ m. k < m) (length-range_with_len a n) within in subst (λ x. p x ≡ false) (sym (get_or-range_with_len a n k d place)) (none (a + k) (omega arith) (omega arith)))

all_in_range : (p : ℕ → Bool) (a n : ℕ) → ((x : ℕ) → a ≤ x → x < a + n → p x ≡ true) → filter p (range_with_len a n) ≡ range_with_len a n
all_in_range p a n all = filter_all p (range_with_len a n) (λ k d within. let place : k < n = subst (λ m. k < m) (length-range_with_len a n) within in subst (λ x. p x ≡ true) (sym (get_or-range_with_len a n k d place)) (all (a + k) (omega arith) (omega arith)))

-- numbers of which none passes, then some of which all pass
pub filter_on : (p : ℕ → Bool) (next first end : ℕ) → next ≤ first → first ≤ end → ((x : ℕ) → next ≤ x → x < first → p x ≡ false) → ((x : ℕ) → first ≤ x → x < end → p x ≡ true) → filter p (range_with_len 0 end) ≡ filter p (range_with_len 0 next) ++ range_with_len first (end - first)
filter_on p next first end a b none all =
    ap (λ n. filter p (range_with_len 0 n)) whole
    ∙ ap (filter p) (range_parts 0 next ((first - next) + (end - first)))
    ∙ filter-append p (range_with_len 0 next) (range_with_len (0 + next) ((first - next) + (end - first)))
    ∙ ap (λ l. filter p (range_with_len 0 next) ++ l) rest
  where
    whole : end ≡ next + ((first - next) + (end - first))
    whole = omega arith

    at_next : 0 + next ≡ next
    at_next = omega arith

    at_first : next + (first - next) ≡ first
    at_first = omega arith

    rest : filter p (range_with_len (0 + next) ((first - next) + (end - first))) ≡ range_with_len first (end - first)
    rest =
        ap (λ n. filter p (range_with_len n ((first - next) + (end - first)))) at_next
        ∙ ap (filter p) (range_parts next (first - next) (end - first))
        ∙ filter-append p (range_with_len next (first - next)) (range_with_len (next + (first - next)) (end - first))
        ∙ ap (λ l. l ++ filter p (range_with_len (next + (first - next)) (end - first))) (none_in_range p next (first - next) (λ x low high. none x low (omega arith)))
        ∙ ap (λ n. filter p (range_with_len n (end - first))) at_first
        ∙ all_in_range p first (end - first) (λ x low high. all x low (omega arith))

untouched_before : (page : ℕ) (segment : ProgramHeader) → end_of segment ≤ 4096 * page → touches page segment ≡ false
untouched_before page segment h = grind (arith, nat_tests)

untouched_behind : (page : ℕ) (segment : ProgramHeader) → 4096 * page + 4096 ≤ segment.address → touches page segment ≡ false
untouched_behind page segment h = grind (arith, nat_tests)

pub touched_within : (page : ℕ) (segment : ProgramHeader) → 0 < segment.memory_size → segment.address < 4096 * page + 4096 → 4096 * page < end_of segment → touches page segment ≡ true
touched_within page segment some low high = grind (arith, nat_tests)

pub page_limit_is : image_page_limit ≡ 458752
unfolding image_page_limit
page_limit_is = refl

-- what is known when the first segments are done: all that they touch lies below `next`, and the others lie behind
pub record Listed (loaded : List ProgramHeader) (i next : ℕ) (pages : List ℕ) : Type 0 where
  pub low : next ≤ 458752
  pub done : (k : ℕ) (d : ProgramHeader) → k < i → end_of (get_or loaded k d) ≤ 4096 * next
  pub ahead : (k : ℕ) (d : ProgramHeader) → i ≤ k → k < length loaded → 4096 * next ≤ (get_or loaded k d).address + 4095
  pub listed : pages ≡ filter (is_touched loaded) (range_with_len 0 next)

module _ (loaded : List ProgramHeader) (full : All (λ segment. 0 < segment.memory_size) loaded) (low : All (λ segment. end_of segment ≤ 0x7000_0000) loaded) (apart : AllPairs (λ one other. end_of one ≤ other.address) loaded) where
  -- a segment begins no earlier than those before it
  behind : (i k : ℕ) (d e : ProgramHeader) → i < suc k → k < length loaded → (get_or loaded i d).address ≤ (get_or loaded k e).address
  behind i k d e h within =
      elim (leb_tells (suc i) k) [
        | inl before ↦
            let a = apart i k e before.1 within in
            let same : (get_or loaded i d).address ≡ (get_or loaded i e).address = ap (λ (s : ProgramHeader). s.address) (get_or_default loaded i d e (omega arith)) in
            omega arith
        | inr at ↦
            let same : (get_or loaded i d).address ≡ (get_or loaded i e).address = ap (λ (s : ProgramHeader). s.address) (get_or_default loaded i d e (omega arith)) in
            let one : i ≡ k = omega arith in
            subst (λ n. (get_or loaded i d).address ≤ (get_or loaded n e).address) one (omega arith)
      ]

  untouched_between : (i next first : ℕ) (pages : List ℕ) (d : ProgramHeader) → Listed loaded i next pages → first ≡ max ((get_or loaded i d).address / 4096) next → (page : ℕ) → next ≤ page → page < first → (k : ℕ) (e : ProgramHeader) → k < length loaded → touches page (get_or loaded k e) ≡ false
  untouched_between i next first pages d so_far is page from below k e within =
      elim (leb_tells (suc k) i) [
        | inl before ↦ let ended = so_far.done k e before.1 in untouched_before page (get_or loaded k e) (omega arith)
        | inr at ↦ let later = behind i k d e at.1 within in untouched_behind page (get_or loaded k e) (omega arith)
      ]

  -- the next segment touches the pages from `first` on, up to `end`
  next_pages : (i next first end : ℕ) (pages : List ℕ) (d : ProgramHeader) → Listed loaded i next pages → i < length loaded → first ≡ max ((get_or loaded i d).address / 4096) next → end ≡ (end_of (get_or loaded i d) + 4095) / 4096 → filter (is_touched loaded) (range_with_len 0 end) ≡ pages ++ range_with_len first (end - first)
  next_pages i next first end pages d so_far within is ends =
      let some : 0 < (get_or loaded i d).memory_size = full i d within in
      let reach = so_far.ahead i d (omega arith) within in
      filter_on (is_touched loaded) next first end (omega arith) (omega arith)
      (λ page from below. list_any_none (touches page) loaded (λ k e in'. untouched_between i next first pages d so_far is page from below k e in'))
      (λ page from below. list_any_at (touches page) loaded i d within (touched_within page (get_or loaded i d) some (omega arith) (omega arith)))
      ∙ ap (λ l. l ++ range_with_len first (end - first)) (sym so_far.listed)

  pub listed_more : (i next first end : ℕ) (pages new : List ℕ) (d : ProgramHeader) → Listed loaded i next pages → i < length loaded → first ≡ max ((get_or loaded i d).address / 4096) next → end ≡ (end_of (get_or loaded i d) + 4095) / 4096 → new ≡ pages ++ range_with_len first (end - first) → Listed loaded (i + 1) end new
  listed_more i next first end pages new d so_far within is ends pushed =
      let top = low i d within in
      record {
        low = omega arith;
        done = done;
        ahead = ahead;
        listed = pushed ∙ sym (next_pages i next first end pages d so_far within is ends);
      }
    where
      done : (k : ℕ) (e : ProgramHeader) → k < i + 1 → end_of (get_or loaded k e) ≤ 4096 * end
      done k e below =
          elim (leb_tells (suc k) i) [
            | inl before ↦ let a = apart k i e before.1 within in
                let same : end_of (get_or loaded i d) ≡ end_of (get_or loaded i e) = ap (λ (s : ProgramHeader). end_of s) (get_or_default loaded i d e within) in
                let start : (get_or loaded i e).address ≤ end_of (get_or loaded i e) = omega arith in
                omega arith
            | inr at ↦
                let one : i ≡ k = omega arith in
                let same : end_of (get_or loaded i d) ≡ end_of (get_or loaded i e) = ap (λ (s : ProgramHeader). end_of s) (get_or_default loaded i d e within) in
                subst (λ n. end_of (get_or loaded n e) ≤ 4096 * end) one (omega arith)
          ]

      ahead : (k : ℕ) (e : ProgramHeader) → i + 1 ≤ k → k < length loaded → 4096 * end ≤ (get_or loaded k e).address + 4095
      ahead k e from in' =
          let a = apart i k e (omega arith) in' in
          let same : end_of (get_or loaded i d) ≡ end_of (get_or loaded i e) = ap (λ (s : ProgramHeader). end_of s) (get_or_default loaded i d e within) in
          omega arith

  -- up to a page, and from it on
  whole : (next : ℕ) → next ≤ 458752 → touched_pages loaded ≡ filter (is_touched loaded) (range_with_len 0 next) ++ filter (is_touched loaded) (range_with_len next (image_page_limit - next))
  unfolding touched_pages
  whole next h =
      let count = page_limit_is in
      let parts : image_page_limit ≡ next + (image_page_limit - next) = omega arith in
      let at : 0 + next ≡ next = omega arith in
      ap (λ n. filter (is_touched loaded) (range_with_len 0 n)) parts
      ∙ ap (filter (is_touched loaded)) (range_parts 0 next (image_page_limit - next))
      ∙ filter-append (is_touched loaded) (range_with_len 0 next) (range_with_len (0 + next) (image_page_limit - next))
      ∙ ap (λ n. filter (is_touched loaded) (range_with_len 0 next) ++ filter (is_touched loaded) (range_with_len n (image_page_limit - next))) at

  pub listed_too_many : (i next first end : ℕ) (pages : List ℕ) (d : ProgramHeader) → Listed loaded i next pages → i < length loaded → first ≡ max ((get_or loaded i d).address / 4096) next → end ≡ (end_of (get_or loaded i d) + 4095) / 4096 → 4032 < length pages + (end - first) → 4032 < length (touched_pages loaded)
  listed_too_many i next first end pages d so_far within is ends many =
      let top = low i d within in
      let all = ap length (whole end (omega arith)) ∙ length-append (filter (is_touched loaded) (range_with_len 0 end)) (filter (is_touched loaded) (range_with_len end (image_page_limit - end))) in
      let front = ap length (next_pages i next first end pages d so_far within is ends) ∙ length-append pages (range_with_len first (end - first)) in
      omega (arith, all, front, length-range_with_len first (end - first))

  pub listed_all : (i next : ℕ) (pages : List ℕ) → Listed loaded i next pages → length loaded ≤ i → pages ≡ touched_pages loaded
  listed_all i next pages so_far past =
      so_far.listed
      ∙ sym (append-nil (filter (is_touched loaded) (range_with_len 0 next)))
      ∙ ap (λ l. filter (is_touched loaded) (range_with_len 0 next) ++ l) (sym (none_in_range (is_touched loaded) next (image_page_limit - next) (λ page from below. list_any_none (touches page) loaded (λ k e within. let ended = so_far.done k e (omega arith) in untouched_before page (get_or loaded k e) (omega arith)))))
      ∙ sym (whole next so_far.low)

-- where the segments that touch a page stand, in a list by address
pub touching_run : (loaded : List ProgramHeader) (page before count : ℕ) → before ≤ length loaded → count ≤ length (drop before loaded) → ((k : ℕ) (d : ProgramHeader) → k < before → end_of (get_or loaded k d) ≤ 4096 * page) → ((k : ℕ) (d : ProgramHeader) → before ≤ k → k < length loaded → 4096 * page < end_of (get_or loaded k d)) → ((k : ℕ) (d : ProgramHeader) → k < count → (get_or (drop before loaded) k d).address < 4096 * page + 4096) → ((k : ℕ) (d : ProgramHeader) → count ≤ k → k < length (drop before loaded) → 4096 * page + 4096 ≤ (get_or (drop before loaded) k d).address) → All (λ segment. 0 < segment.memory_size) loaded → take count (drop before loaded) ≡ filter (touches page) loaded
touching_run loaded page before count b c ended reaching begun later full =
    sym (
    ap (filter (touches page)) (sym (take-append-drop before loaded))
    ∙ filter-append (touches page) (take before loaded) (drop before loaded)
    ∙ (λ i. front i ++ back i)
    )
  where
    rest : List ProgramHeader
    rest = drop before loaded

    size : length (drop before loaded) ≡ length loaded - before
    size = length-drop before loaded

    front : filter (touches page) (take before loaded) ≡ []
    front = filter_none (touches page) (take before loaded) (λ k d within. let short = length-take before loaded in subst (λ s. touches page s ≡ false) (sym (get_or-take before loaded k d (omega arith))) (untouched_before page (get_or loaded k d) (ended k d (omega arith))))

    middle : filter (touches page) (take count (drop before loaded)) ≡ take count (drop before loaded)
    middle = filter_all (touches page) (take count (drop before loaded)) (λ k d within.
        let short = length-take count (drop before loaded) in
        let at = get_or-take count (drop before loaded) k d (omega arith) in
        let back = get_or-drop before loaded k d in
        let some : 0 < (get_or (drop before loaded) k d).memory_size = subst (λ (s : ProgramHeader). 0 < s.memory_size) (sym back) (full (before + k) d (omega (arith, size))) in
        let reach : 4096 * page < end_of (get_or (drop before loaded) k d) = subst (λ (s : ProgramHeader). 4096 * page < end_of s) (sym back) (reaching (before + k) d (omega arith) (omega (arith, size))) in
        subst (λ s. touches page s ≡ true) (sym at) (touched_within page (get_or (drop before loaded) k d) some (begun k d (omega arith)) reach))

    behind : filter (touches page) (drop count (drop before loaded)) ≡ []
    behind = filter_none (touches page) (drop count (drop before loaded)) (λ k d within.
        let short = length-drop count (drop before loaded) in
        subst (λ s. touches page s ≡ false) (sym (get_or-drop count (drop before loaded) k d)) (untouched_behind page (get_or (drop before loaded) (count + k) d) (later (count + k) d (omega arith) (omega arith))))

    back : filter (touches page) (drop before loaded) ≡ take count (drop before loaded)
    back =
        ap (filter (touches page)) (sym (take-append-drop count (drop before loaded)))
        ∙ filter-append (touches page) (take count (drop before loaded)) (drop count (drop before loaded))
        ∙ (λ i. middle i ++ behind i)
        ∙ append-nil (take count (drop before loaded))

-- one number more
pub range_more : (first number : ℕ) → first ≤ number → range_with_len first (number + 1 - first) ≡ range_with_len first (number - first) ++ number ∷ []
range_more first number h =
    let more : number + 1 - first ≡ (number - first) + 1 = omega arith in
    let at : first + (number - first) ≡ number = omega arith in
    ap (range_with_len first) more
    ∙ range_parts first (number - first) 1
    ∙ ap (λ n. range_with_len first (number - first) ++ n ∷ []) at

-- the same from what two binary searches found
pub touching_found : (loaded rest : List ProgramHeader) (page start before count : ℕ) → start ≡ 4096 * page → rest ≡ drop before loaded → before ≤ length loaded → count ≤ length rest → IsPartitionPoint (λ segment. end_of segment ≤ start) (λ segment. start < end_of segment) loaded before → IsPartitionPoint (λ segment. segment.address < start + 4096) (λ segment. start + 4096 ≤ segment.address) rest count → All (λ segment. 0 < segment.memory_size) loaded → take count rest ≡ filter (touches page) loaded
touching_found loaded rest page start before count at is b c first second full =
    ap (take count) is
    ∙ touching_run loaded page before count b (subst (λ l. count ≤ length l) is c)
    (λ k d below. subst (λ s. end_of (get_or loaded k d) ≤ s) at (first.0 k d (omega arith) below))
    (λ k d from within. subst (λ s. s < end_of (get_or loaded k d)) at (first.1 k d from within))
    (λ k d below. subst (λ s. (get_or (drop before loaded) k d).address < s + 4096) at (subst (λ (l : List ProgramHeader). (get_or l k d).address < start + 4096) is (second.0 k d (omega arith) below)))
    (λ k d from within. subst (λ s. s + 4096 ≤ (get_or (drop before loaded) k d).address) at (subst (λ (l : List ProgramHeader). start + 4096 ≤ (get_or l k d).address) is (second.1 k d from (subst (λ l. k < length l) (sym is) within))))
    full
