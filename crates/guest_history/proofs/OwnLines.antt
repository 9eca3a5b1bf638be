-- Words that ask for going back, and words that don't.
use Rattle.std.proofs.Common.{◌≡◌, ◌∷◌, [], List, ℕ, codes, inl, inr, ap, subst, sym, ◌∙◌}
use Rattle.text_lines.specs.Calls.{Writes}
use Rattle.text_lines.specs.Text.{words_of}
use Rattle.debug_session.specs.Lines.{AsksFor}
use Rattle.debug_session.specs.declared.lines.DebugLine.{DebugLine}
use Rattle.debug_session.specs.declared.lines.Dialect.TheVariants.{Fuller}
use Rattle.guest_history.specs.HistoryLines.{AsksOf, WritesOne, WritesOwn, WritesTwo}
use Rattle.guest_history.specs.declared.lines.HistoryLine.{HistoryLine}
use Rattle.guest_history.specs.declared.lines.HistoryLine.TheVariants.{Back, BackGo, BackGoWithin, At, Plain}

pub asks_own : (asked : HistoryLine) (line : List ℕ) → WritesOwn asked (words_of line) → AsksOf asked line
asks_own (Back count) line writes = writes
asks_own BackGo line writes = writes
asks_own (BackGoWithin count) line writes = writes
asks_own At line writes = writes
asks_own (Plain asked) line writes = elim writes [ ]

pub asks_nothing : (line : List ℕ) → ((asked : HistoryLine) → ¬ WritesOwn asked (words_of line)) → ((asked : DebugLine) → ¬ AsksFor Fuller asked line) → (asked : HistoryLine) → ¬ AsksOf asked line
asks_nothing line own plain (Back count) asks = own (Back count) asks
asks_nothing line own plain BackGo asks = own BackGo asks
asks_nothing line own plain (BackGoWithin count) asks = own (BackGoWithin count) asks
asks_nothing line own plain At asks = own At asks
asks_nothing line own plain (Plain asked) asks = plain asked asks

-- ---- one word

same_head : (name word : List ℕ) → name ∷ [] ≡ word ∷ [] → name ≡ word
same_head name word e = cc

none_longer : (name word first : List ℕ) → name ∷ [] ≡ word ∷ first ∷ [] → ⊥
none_longer name word first e = cc

pub writes_one : (asked : HistoryLine) (name : List ℕ) (words : List (List ℕ)) → words ≡ name ∷ [] → WritesOne asked name → WritesOwn asked words
writes_one (Back count) name words is writes = inl (is ∙ ap (λ n. n ∷ []) writes.0, writes.1)
writes_one BackGo name words is writes = is ∙ ap (λ n. n ∷ []) writes
writes_one (BackGoWithin count) name words is writes = elim writes [ ]
writes_one At name words is writes = is ∙ ap (λ n. n ∷ []) writes
writes_one (Plain asked) name words is writes = elim writes [ ]

pub none_of_one : (name : List ℕ) (words : List (List ℕ)) → words ≡ name ∷ [] → ((asked : HistoryLine) → ¬ WritesOne asked name) → (asked : HistoryLine) → ¬ WritesOwn asked words
none_of_one name words is none (Back count) writes = elim writes [
  | inl one ↦ none (Back count) (same_head name _ (sym is ∙ one.0), one.1)
  | inr more ↦ none_longer name _ _ (sym is ∙ more.1)
]
none_of_one name words is none BackGo writes = none BackGo (same_head name _ (sym is ∙ writes))
none_of_one name words is none (BackGoWithin count) writes = none_longer name _ _ (sym is ∙ writes.1)
none_of_one name words is none At writes = none At (same_head name _ (sym is ∙ writes))
none_of_one name words is none (Plain asked) writes = elim writes [ ]

-- ---- no word

no_word : (word : List ℕ) (rest : List (List ℕ)) → [] ≡ word ∷ rest → ⊥
no_word word rest e = cc

pub none_of_none : (words : List (List ℕ)) → words ≡ [] → (asked : HistoryLine) → ¬ WritesOwn asked words
none_of_none words is (Back count) writes = elim writes [ inl one ↦ no_word _ _ (sym is ∙ one.0) | inr more ↦ no_word _ _ (sym is ∙ more.1) ]
none_of_none words is BackGo writes = no_word _ _ (sym is ∙ writes)
none_of_none words is (BackGoWithin count) writes = no_word _ _ (sym is ∙ writes.1)
none_of_none words is At writes = no_word _ _ (sym is ∙ writes)
none_of_none words is (Plain asked) writes = elim writes [ ]

-- ---- more words

none_fewer : (name first word : List ℕ) (rest : List (List ℕ)) → name ∷ first ∷ rest ≡ word ∷ [] → ⊥
none_fewer name first word rest e = cc

none_beyond : (name first second word other : List ℕ) (rest : List (List ℕ)) → name ∷ first ∷ second ∷ rest ≡ word ∷ other ∷ [] → ⊥
none_beyond name first second word other rest e = cc

names : (name first word other : List ℕ) (rest : List (List ℕ)) → name ∷ first ∷ rest ≡ word ∷ other ∷ [] → name ≡ word
names name first word other rest e = cc

firsts : (name first word other : List ℕ) (rest : List (List ℕ)) → name ∷ first ∷ rest ≡ word ∷ other ∷ [] → first ≡ other
firsts name first word other rest e = cc

pub writes_two : (asked : HistoryLine) (name word : List ℕ) (words : List (List ℕ)) → words ≡ name ∷ word ∷ [] → WritesTwo asked name word → WritesOwn asked words
writes_two (Back count) name word words is writes = inr (word, is ∙ ap (λ n. n ∷ word ∷ []) writes.0, writes.1)
writes_two BackGo name word words is writes = elim writes [ ]
writes_two (BackGoWithin count) name word words is writes = (word, is ∙ ap (λ n. n ∷ word ∷ []) writes.0, writes.1)
writes_two At name word words is writes = elim writes [ ]
writes_two (Plain asked) name word words is writes = elim writes [ ]

-- another name, or no number
pub none_of_two : (name first : List ℕ) (words : List (List ℕ)) → words ≡ name ∷ first ∷ [] → ((asked : HistoryLine) → ¬ WritesTwo asked name first) → (asked : HistoryLine) → ¬ WritesOwn asked words
none_of_two name first words is none (Back count) writes = elim writes [
  | inl one ↦ none_fewer name first _ [] (sym is ∙ one.0)
  | inr more ↦ none (Back count) (names name first _ _ [] (sym is ∙ more.1), subst (λ w. Writes w count) (sym (firsts name first _ _ [] (sym is ∙ more.1))) more.2)
]
none_of_two name first words is none BackGo writes = none_fewer name first _ [] (sym is ∙ writes)
none_of_two name first words is none (BackGoWithin count) writes =
    none (BackGoWithin count) (names name first _ _ [] (sym is ∙ writes.1), subst (λ w. Writes w count) (sym (firsts name first _ _ [] (sym is ∙ writes.1))) writes.2)
none_of_two name first words is none At writes = none_fewer name first _ [] (sym is ∙ writes)
none_of_two name first words is none (Plain asked) writes = elim writes [ ]

pub none_of_many : (name first second : List ℕ) (words rest : List (List ℕ)) → words ≡ name ∷ first ∷ second ∷ rest → (asked : HistoryLine) → ¬ WritesOwn asked words
none_of_many name first second words rest is (Back count) writes = elim writes [
  | inl one ↦ none_fewer name first _ (second ∷ rest) (sym is ∙ one.0)
  | inr more ↦ none_beyond name first second _ _ rest (sym is ∙ more.1)
]
none_of_many name first second words rest is BackGo writes = none_fewer name first _ (second ∷ rest) (sym is ∙ writes)
none_of_many name first second words rest is (BackGoWithin count) writes = none_beyond name first second _ _ rest (sym is ∙ writes.1)
none_of_many name first second words rest is At writes = none_fewer name first _ (second ∷ rest) (sym is ∙ writes)
none_of_many name first second words rest is (Plain asked) writes = elim writes [ ]
