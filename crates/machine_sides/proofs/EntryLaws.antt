-- Entries whose keys differ are no more than the pages that they are of.
use Rattle.std.proofs.Common.{◌≡◌, ℕ, ◌+◌, ◌≤◌, ◌==◌, Bool, true, false, ◌&&◌, not, cond, List, [], ◌∷◌, inl, inr, refl, sym, ap, ◌∙◌, arith}
use Rattle.std.specs.Prelude.{◌⊎◌}
use Rattle.std.proofs.lemmas.Bool.Decides.{eqb_tells}
use borrow.Author.Tests.{eqb-true}
use Rattle.clock_policy.specs.declared.key.Key.{Key}
use Rattle.clock_policy.specs.declared.entry.Entry.{Entry}
use Rattle.clock_policy.specs.ClockPro.{number, has_key}
use Rattle.clock_policy.specs.Residents.{in_frame, is_resident_that, is_key}

-- both parts of a truth
pub both : (a b : Bool) → a && b ≡ true → (a ≡ true) × (b ≡ true)
both true true h = (refl, refl)
both true false h = cc
both false b h = cc

pub together : (a b : Bool) → a ≡ true → b ≡ true → a && b ≡ true
together true true h k = refl
together true false h k = cc
together false b h k = cc

-- ---- counts of entries

-- where each that passes one test passes another too
pub less_numbers : (p q : Entry → Bool) (es : List Entry) → ((e : Entry) → p e ≡ true → q e ≡ true) → number p es ≤ number q es
less_numbers p q [] all = omega arith
less_numbers p q (e ∷ es) all = let rest = less_numbers p q es all in by_test (p e) (q e) (all e) rest
  where
    by_test : (a b : Bool) → (a ≡ true → b ≡ true) → number p es ≤ number q es → cond {A = ℕ} a 1 0 + number p es ≤ cond b 1 0 + number q es
    by_test true true h rest = omega (arith, rest)
    by_test true false h rest = let no = h refl in cc
    by_test false b h rest = omega (arith, rest)

-- two tests that no entry passes both of
pub apart_numbers : (p q r : Entry → Bool) (es : List Entry) → ((e : Entry) → cond {A = ℕ} (p e) 1 0 + cond (q e) 1 0 ≤ cond (r e) 1 0) → number p es + number q es ≤ number r es
apart_numbers p q r [] all = omega arith
apart_numbers p q r (e ∷ es) all = omega (arith, all e, apart_numbers p q r es all)

-- the entries that pass a test are those with a key and those without it
pub parted_numbers : (p q r : Entry → Bool) (es : List Entry) → ((e : Entry) → cond {A = ℕ} (p e) 1 0 ≤ cond (q e) 1 0 + cond (r e) 1 0) → number p es ≤ number q es + number r es
parted_numbers p q r [] all = omega arith
parted_numbers p q r (e ∷ es) all = omega (arith, all e, parted_numbers p q r es all)

-- the keys of entries differ
abbrev pub Distinct : List Entry → Type 0
Distinct es = (k : Key) → number (has_key k) es ≤ 1

distinct_rest : (e : Entry) (es : List Entry) → Distinct (e ∷ es) → Distinct es
distinct_rest e es distinct k = omega (arith, distinct k)

-- no other entry has the key of the first
alone : (e : Entry) (es : List Entry) → has_key e.key e ≡ true → Distinct (e ∷ es) → number (has_key e.key) es ≡ 0
alone e es own distinct =
    let one : cond {A = ℕ} (has_key e.key e) 1 0 ≡ 1 = ap (λ b. cond {A = ℕ} b 1 0) own in
    omega (arith, distinct e.key, one)

-- ---- entries of what is counted otherwise, number by number

module _ (process : ℕ) (there : ℕ → Bool) (count : (ℕ → Bool) → ℕ)
    (fewer : (few many : ℕ → Bool) (v : ℕ) → ((w : ℕ) → few w ≡ true → many w ≡ true) → there v ≡ true → few v ≡ false → many v ≡ true → count few + 1 ≤ count many) where
  -- an entry of this process whose page is there, and passes
  abbrev of_there : (ℕ → Bool) → Entry → Bool
  of_there test e = in_frame e.kind && (((e.key.process == process) && there e.key.vpn) && test e.key.vpn)

  -- the same test, which one number passes no more
  abbrev besides : ℕ → (ℕ → Bool) → ℕ → Bool
  besides v test w = test w && not (w == v)

  one_less : (test : ℕ → Bool) (v : ℕ) → there v ≡ true → test v ≡ true → count (besides v test) + 1 ≤ count test
  one_less test v is passes =
      fewer (besides v test) test v (λ w h. (both (test w) (not (w == v)) h).0) is (here (eqb_tells v v)) passes
    where
      here : (((v == v) ≡ true) × (v ≡ v)) ⊎ (((v == v) ≡ false) × ((v ≡ v) → ⊥)) → besides v test v ≡ false
      here (inl same) = ap (λ b. test v && not b) same.0 ∙ none (test v)
        where
          none : (b : Bool) → b && false ≡ false
          none true = refl
          none false = refl
      here (inr apart) = absurd (apart.1 refl)

  -- an entry that passes passes without the number of another key too, or has that key
  passes_besides : (test : ℕ → Bool) (key : Key) (e : Entry) → key.process ≡ process → cond {A = ℕ} (of_there test e) 1 0 ≤ cond (of_there (besides key.vpn test) e) 1 0 + cond (has_key key e) 1 0
  passes_besides test key e own = by_frame (in_frame e.kind) (e.key.process == process) (there e.key.vpn) (test e.key.vpn) (e.key.process == key.process) (e.key.vpn == key.vpn) (ap (λ n. e.key.process == n) (sym own))
    where
      by_frame : (f p r t p' v : Bool) → p ≡ p' → cond {A = ℕ} (f && ((p && r) && t)) 1 0 ≤ cond (f && ((p && r) && (t && not v))) 1 0 + cond (p' && v) 1 0
      by_frame false p r t p' v same = omega arith
      by_frame true false r t p' v same = omega arith
      by_frame true true false t p' v same = omega arith
      by_frame true true true false p' v same = omega arith
      by_frame true true true true true true same = omega arith
      by_frame true true true true true false same = omega arith
      by_frame true true true true false v same = cc

  -- there are no more such entries than numbers that are there and pass
  pub no_more : (es : List Entry) (test : ℕ → Bool) → Distinct es → number (of_there test) es ≤ count test
  no_more [] test distinct = omega arith
  no_more (e ∷ es) test distinct = by_test (λ other. no_more es other (distinct_rest e es distinct)) (of_there test e) refl
    where
      by_test : ((other : ℕ → Bool) → number (of_there other) es ≤ count other) → (b : Bool) → of_there test e ≡ b → cond {A = ℕ} (of_there test e) 1 0 + number (of_there test) es ≤ count test
      by_test rest false is = let none : cond {A = ℕ} (of_there test e) 1 0 ≡ 0 = ap (λ b. cond {A = ℕ} b 1 0) is in omega (arith, none, rest test)
      by_test rest true is =
          let parts = both (in_frame e.kind) (((e.key.process == process) && there e.key.vpn) && test e.key.vpn) is in
          let inner = both ((e.key.process == process) && there e.key.vpn) (test e.key.vpn) parts.1 in
          let page = both (e.key.process == process) (there e.key.vpn) inner.0 in
          let own : e.key.process ≡ process = eqb-true e.key.process process page.0 in
          let one : cond {A = ℕ} (of_there test e) 1 0 ≡ 1 = ap (λ b. cond {A = ℕ} b 1 0) is in
          let self : has_key e.key e ≡ true = own_key e in
          let none : number (has_key e.key) es ≡ 0 = alone e es self distinct in
          let parted = parted_numbers (of_there test) (of_there (besides e.key.vpn test)) (has_key e.key) es (λ x. passes_besides test e.key x own) in
          let more = rest (besides e.key.vpn test) in
          let less = one_less test e.key.vpn page.1 inner.1 in
          omega (arith, one, none, parted, more, less)
        where
          own_key : (e : Entry) → has_key e.key e ≡ true
          own_key e = together (e.key.process == e.key.process) (e.key.vpn == e.key.vpn) (same e.key.process) (same e.key.vpn)
            where
              same : (n : ℕ) → (n == n) ≡ true
              same n = by_tells (eqb_tells n n)
                where
                  by_tells : (((n == n) ≡ true) × (n ≡ n)) ⊎ (((n == n) ≡ false) × ((n ≡ n) → ⊥)) → (n == n) ≡ true
                  by_tells (inl h) = h.0
                  by_tells (inr h) = absurd (h.1 refl)

  -- where one of these numbers has no entry, there are fewer entries
  pub one_missing : (es : List Entry) (key : Key) → Distinct es → key.process ≡ process → there key.vpn ≡ true → number (is_resident_that (is_key key)) es ≡ 0
      → number (of_there (λ _. true)) es + 1 ≤ count (λ _. true)
  one_missing es key distinct own is none =
      let parted = parted_numbers (of_there (λ _. true)) (of_there (besides key.vpn (λ _. true))) (is_resident_that (is_key key)) es (λ e. by_parts e) in
      omega (arith, none, parted, no_more es (besides key.vpn (λ _. true)) distinct, one_less (λ _. true) key.vpn is refl)
    where
      by_parts : (e : Entry) → cond {A = ℕ} (of_there (λ _. true) e) 1 0 ≤ cond (of_there (besides key.vpn (λ _. true)) e) 1 0 + cond (is_resident_that (is_key key) e) 1 0
      by_parts e = by_bools (in_frame e.kind) (e.key.process == process) (there e.key.vpn) (e.key.process == key.process) (e.key.vpn == key.vpn) (ap (λ n. e.key.process == n) (sym own))
        where
          by_bools : (f p r p' v : Bool) → p ≡ p' → cond {A = ℕ} (f && ((p && r) && true)) 1 0 ≤ cond (f && ((p && r) && (true && not v))) 1 0 + cond (f && (p' && v)) 1 0
          by_bools false p r p' v same = omega arith
          by_bools true false r p' v same = omega arith
          by_bools true true false p' v same = omega arith
          by_bools true true true true true same = omega arith
          by_bools true true true true false same = omega arith
          by_bools true true true false v same = cc
