-- One reference more, and what it writes back.
use Rattle.std.specs.Prelude.{◌≡◌, ℕ, zero, suc, ◌+◌, ◌<◌, ◌≤◌, Bool, false, nat_lt, List, [], ◌∷◌, ◌++◌, take, drop, length, slice_index_or, refl}
use Rattle.std.proofs.Common.{add-one, arith, sym, ap, subst, ◌∙◌, append_assoc, append-nil}
use Rattle.std.proofs.lemmas.List.{drop_more}
use Rattle.clock_policy.specs.declared.key.Key.{Key}
use Rattle.guest_strings.specs.declared.reference.Reference.{Reference}
use Rattle.miss_counts.specs.WriteBacks.{missed, dirtied, dirty_after, written_from, write_backs}

-- the first references
abbrev pub before : ℕ → List Reference → List Reference
before i string = take i string

pub before_more : (i : ℕ) (string : List Reference) (d : Reference) → i < length string → before (i + 1) string ≡ before i string ++ slice_index_or string i d ∷ []
before_more i string d h = rw add-one (from i string d h)
  where
    from : (i : ℕ) (string : List Reference) (d : Reference) → i < length string → before (suc i) string ≡ before i string ++ slice_index_or string i d ∷ []
    from i [] d h = absurd (omega (arith, h))
    from zero (r ∷ rs) d h = refl
    from (suc i) (r ∷ rs) d h = ap (λ (l : List Reference). r ∷ l) (from i rs d (omega (arith, h)))

-- what the policy misses of a string that begins with these references, by all that is counted after them
abbrev pub Follows : (List Reference → ℕ) → List Reference → (List Reference → ℕ) → Type 0
Follows misses_of begun all = (string : List Reference) → misses_of (begun ++ string) ≡ all string

-- so much is counted of them
pub so_far : (misses_of all : List Reference → ℕ) (begun : List Reference) → Follows misses_of begun all → misses_of begun ≡ all []
so_far misses_of all begun follows = ap misses_of (sym (append-nil begun)) ∙ follows []

pub follows_more : (misses_of all later : List Reference → ℕ) (begun : List Reference) (p : Reference) → Follows misses_of begun all → ((string : List Reference) → all (p ∷ string) ≡ later string) → Follows misses_of (begun ++ p ∷ []) later
follows_more misses_of all later begun p follows refers = λ string. ap misses_of (append_assoc begun (p ∷ []) string) ∙ follows (p ∷ string) ∙ refers string

-- whether it misses
pub missed_is : (misses_of all later : List Reference → ℕ) (begun : List Reference) (p : Reference) (is_miss : Bool) → Follows misses_of begun all → ((string : List Reference) → all (p ∷ string) ≡ later string) → is_miss ≡ nat_lt (all []) (later []) →
    missed misses_of begun p ≡ is_miss
missed_is misses_of all later begun p is_miss follows refers is =
    (λ i. nat_lt (so_far misses_of all begun follows i) (so_far misses_of later (begun ++ p ∷ []) (follows_more misses_of all later begun p follows refers) i)) ∙ sym is

-- a reference more
pub written_more : (misses_of : List Reference → ℕ) (string : List Reference) (i : ℕ) (d : Reference) (is_miss : Bool) (old new : Key → Bool) → i < length string → missed misses_of (before i string) (slice_index_or string i d) ≡ is_miss →
    ((q : Key) → new q ≡ dirty_after is_miss old (slice_index_or string i d) q) →
    written_from misses_of (before i string) old (drop i string) ≡ dirtied is_miss old (slice_index_or string i d) + written_from misses_of (before (i + 1) string) new (drop (i + 1) string)
written_more misses_of string i d is_miss old new h is dirty =
    ap (written_from misses_of (before i string) old) (drop_more string i d h)
    ∙ ap (λ (b : Bool). dirtied b old (slice_index_or string i d) + written_from misses_of (before i string ++ (slice_index_or string i d) ∷ []) (dirty_after b old (slice_index_or string i d)) (drop (i + 1) string)) is
    ∙ (λ j. dirtied is_miss old (slice_index_or string i d) + written_from misses_of (sym (before_more i string d h) j) (λ q. sym (dirty q) j) (drop (i + 1) string))

pub whole_more : (count one first rest old all : ℕ) → count + old ≡ all → old ≡ first + rest → one ≡ first → (count + one) + rest ≡ all
whole_more count one first rest old all whole cut is = omega (arith, whole, cut, is)

pub written_first : (misses_of : List Reference → ℕ) (string : List Reference) (dirty : Key → Bool) → ((q : Key) → dirty q ≡ false) → 0 + written_from misses_of [] dirty string ≡ write_backs misses_of string
unfolding write_backs
written_first misses_of string dirty none =
    let e : written_from misses_of [] dirty string ≡ written_from misses_of [] (λ q. false) string = λ i. written_from misses_of [] (λ q. none q i) string in omega (arith, e)

pub written_last : (misses_of : List Reference → ℕ) (string : List Reference) (i count : ℕ) (dirty : Key → Bool) → length string ≤ i → count + written_from misses_of (before i string) dirty (drop i string) ≡ write_backs misses_of string → count ≡ write_backs misses_of string
written_last misses_of string i count dirty end whole =
    let e : written_from misses_of (before i string) dirty (drop i string) ≡ 0 = ap (written_from misses_of (before i string) dirty) (nothing i string end) in omega (arith, e, whole)
  where
    nothing : (i : ℕ) (s : List Reference) → length s ≤ i → drop i s ≡ []
    nothing zero [] h = refl
    nothing zero (r ∷ rs) h = absurd (omega (arith, h))
    nothing (suc i) [] h = refl
    nothing (suc i) (r ∷ rs) h = nothing i rs (omega (arith, h))

-- what is so behind a reference more
pub record Stepped (misses_of later : List Reference → ℕ) (string : List Reference) (i : ℕ) (dirty : Key → Bool) (count all : ℕ) : Type 0 where
  pub follows : Follows misses_of (before i string) later
  pub whole : count + written_from misses_of (before i string) dirty (drop i string) ≡ all

pub reference_more : (misses_of counted later : List Reference → ℕ) (string : List Reference) (i : ℕ) (d : Reference) (is_miss : Bool) (old new : Key → Bool) (count one all : ℕ) → i < length string → Follows misses_of (before i string) counted →
    ((s : List Reference) → counted ((slice_index_or string i d) ∷ s) ≡ later s) → is_miss ≡ nat_lt (counted []) (later []) →
    one ≡ dirtied is_miss old (slice_index_or string i d) → ((q : Key) → new q ≡ dirty_after is_miss old (slice_index_or string i d) q) →
    count + written_from misses_of (before i string) old (drop i string) ≡ all → Stepped misses_of later string (i + 1) new (count + one) all
reference_more misses_of counted later string i d is_miss old new count one all h follows refers outcome is dirty whole =
    let missing : missed misses_of (before i string) (slice_index_or string i d) ≡ is_miss = missed_is misses_of counted later (before i string) (slice_index_or string i d) is_miss follows refers outcome in record {
      follows = subst (λ (b : List Reference). Follows misses_of b later) (sym (before_more i string d h)) (follows_more misses_of counted later (before i string) (slice_index_or string i d) follows refers);
      whole = whole_more count one (dirtied is_miss old (slice_index_or string i d)) (written_from misses_of (before (i + 1) string) new (drop (i + 1) string)) (written_from misses_of (before i string) old (drop i string)) all whole
          (written_more misses_of string i d is_miss old new h missing dirty) is;
    }
