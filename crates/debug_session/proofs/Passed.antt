-- The lines that a conversation has passed, and how it ends below them.
use Rattle.std.proofs.Common.{◌≡◌, ◌∙◌, inl, inr, ℕ, ◌+◌, true, false, List, [], ◌∷◌, ◌++◌, length, Option, None, Some, ap, arith, append_assoc, append-nil, length-append, refl, subst, sym}
use Rattle.std.specs.Prelude.{⊤, IfSome, Result, Ok, Err}
use Rattle.std.specs.Io.KnownBytes.{Appends}
use Rattle.flat_machine.specs.Process.{Process}
use Rattle.text_lines.specs.Text.{lines_of}
use Rattle.debug_core.specs.Debugging.{DebuggerValue}
use Rattle.debug_core.specs.Limits.{Limit}
use Rattle.debug_session.specs.Lines.{AsksFor}
use Rattle.debug_session.specs.declared.lines.Dialect.{Dialect}
use Rattle.debug_session.specs.declared.lines.DebugLine.TheVariants.{Quit}
use Rattle.debug_session.specs.Conversation.{AreAnswered, Ends, HasConversed, IsAnswered, IsBad, IsWritten}
use Rattle.debug_session.specs.InputLines.{BeginsTooLong, TakesLine}
use Rattle.debug_session.specs.declared.conversation.SessionFault.{SessionFault}
use Rattle.debug_session.specs.declared.conversation.SessionFault.TheVariants.{BadLine, NoMemory, CannotRead, CannotWrite}

-- these are the first lines of known bytes, and those of the rest come below them
abbrev pub Remains : Option (List ℕ) → List (List ℕ) → Option (List ℕ) → Type 0
Remains None lines rest = ⊤
Remains (Some bytes) lines None = ⊥
Remains (Some bytes) lines (Some rest) = lines_of bytes ≡ lines ++ lines_of rest

pub appends_more : (old now new : Option (List ℕ)) (told said : List ℕ) → Appends old now told → Appends now new said → Appends old new (told ++ said)
appends_more None now new told said some more = tt
appends_more (Some written) None new told said some more = elim some [ ]
appends_more (Some written) (Some now) None told said some more = elim more [ ]
appends_more (Some written) (Some now) (Some new) told said some more = more ∙ ap (λ l. l ++ said) some ∙ append_assoc written told said

pub appends_nothing : (old now new : Option (List ℕ)) (told : List ℕ) → Appends old now told → Appends now new [] → Appends old new told
appends_nothing old now new told some none = subst (Appends old new) (append-nil told) (appends_more old now new told [] some none)

pub remains_more : (input known rest : Option (List ℕ)) (lines : List (List ℕ)) (line : List ℕ) → Remains input lines known → TakesLine known true line rest → Remains input (lines ++ line ∷ []) rest
remains_more None known rest lines line some one = tt
remains_more (Some bytes) None rest lines line some one = elim some [ ]
remains_more (Some bytes) (Some now) None lines line some one = elim one [ ]
remains_more (Some bytes) (Some now) (Some rest) lines line some one =
    some ∙ ap (λ l. lines ++ l) one ∙ sym (append_assoc lines (line ∷ []) (lines_of rest))

-- how the lines go on that are still to be read
abbrev pub EndsOf : Dialect → Result (Unit {0}) SessionFault → ℕ → Option (List ℕ) → Type 0
EndsOf dialect result above None = ⊤
EndsOf dialect result above (Some rest) = Ends dialect result above (lines_of rest)

pub at_end : (dialect : Dialect) (known rest : Option (List ℕ)) (line : List ℕ) (above : ℕ) (done : Unit {0}) → TakesLine known false line rest → EndsOf dialect (Ok done) above known
at_end dialect None rest line above done none = tt
at_end dialect (Some bytes) rest line above done none = inl none

pub at_quit : (dialect : Dialect) (known rest : Option (List ℕ)) (line : List ℕ) (above : ℕ) (done : Unit {0}) → TakesLine known true line rest → AsksFor dialect Quit line → EndsOf dialect (Ok done) above known
at_quit dialect None rest line above done one quit = tt
at_quit dialect (Some bytes) None line above done one quit = elim one [ ]
at_quit dialect (Some bytes) (Some rest) line above done one quit = inr (line, (lines_of rest, one, quit))

pub at_bad : (dialect : Dialect) (known rest : Option (List ℕ)) (line : List ℕ) (above : ℕ) → TakesLine known true line rest → IsBad dialect line → EndsOf dialect (Err (BadLine (above + 1))) above known
at_bad dialect None rest line above one bad = tt
at_bad dialect (Some bytes) None line above one bad = elim one [ ]
at_bad dialect (Some bytes) (Some rest) line above one bad = (line, (lines_of rest, one, inl bad, refl))

pub at_long : (dialect : Dialect) (known : Option (List ℕ)) (above : ℕ) → BeginsTooLong known → EndsOf dialect (Err (BadLine (above + 1))) above known
at_long dialect None above long = tt
at_long dialect (Some bytes) above long = (long.0, (long.1.0, long.1.1, inr long.1.2, refl))

pub at_no_memory : (dialect : Dialect) (known : Option (List ℕ)) (above : ℕ) → EndsOf dialect (Err NoMemory) above known
at_no_memory dialect None above = tt
at_no_memory dialect (Some bytes) above = tt

pub at_cannot_read : (dialect : Dialect) (known : Option (List ℕ)) (above : ℕ) → EndsOf dialect (Err CannotRead) above known
at_cannot_read dialect None above = tt
at_cannot_read dialect (Some bytes) above = tt

pub at_cannot_write : (dialect : Dialect) (known : Option (List ℕ)) (above : ℕ) → EndsOf dialect (Err CannotWrite) above known
at_cannot_write dialect None above = tt
at_cannot_write dialect (Some bytes) above = tt

pub stays : (written : Option (List ℕ)) → Appends written written []
stays None = tt
stays (Some bytes) = sym (append-nil bytes)

pub all_remains : (input : Option (List ℕ)) → Remains input [] input
all_remains None = tt
all_remains (Some bytes) = refl

module _ (dialect : Dialect) {T : Type 0} (shown : T → Process) (limits : T → Limit → Type 0) where
  answered_more : (lines : List (List ℕ)) (line : List ℕ) (old now new : DebuggerValue T) (told said : List ℕ) → AreAnswered dialect shown limits lines old told now
      → IsAnswered dialect shown limits line now said new → AreAnswered dialect shown limits (lines ++ line ∷ []) old (told ++ said) new
  unfolding AreAnswered
  answered_more [] line old now new told said none one = (
    new,
    (
      said,
      (
        [],
        subst (λ d. IsAnswered dialect shown limits line d said new) none.1 one,
        (refl, refl),
        ap (λ l. l ++ said) none.0 ∙ sym (append-nil said),
      ),
    ),
  )
  answered_more (first ∷ lines) line old now new told said (after, (head, (others, is, are, e))) one = (
    after,
    (
      head,
      (
        others ++ said,
        is,
        answered_more lines line after now new others said are one,
        ap (λ l. l ++ said) e ∙ append_assoc head others said,
      ),
    ),
  )

  pub none_answered : (old : DebuggerValue T) → AreAnswered dialect shown limits [] old [] old
  unfolding AreAnswered
  none_answered old = (refl, refl)

  -- so many lines were answered, and what was told is written
  pub record HasPassed (input known : Option (List ℕ)) (old : DebuggerValue T) (written : Option (List ℕ)) (new : DebuggerValue T) (wrote : Option (List ℕ))
      (above : ℕ) : Type 0 where
    pub lines : List (List ℕ)
    pub told : List ℕ
    pub answered : AreAnswered dialect shown limits lines old told new
    pub appended : Appends written wrote told
    pub remains : Remains input lines known
    pub count : above ≡ length lines

  pub begins : (input known : Option (List ℕ)) (old : DebuggerValue T) (written : Option (List ℕ)) → known ≡ input → HasPassed input known old written old written 0
  begins input known old written e = record {
    lines = [];
    told = [];
    answered = none_answered old;
    appended = stays written;
    remains = subst (Remains input []) (sym e) (all_remains input);
    count = refl;
  }

  pub passes : (input known rest : Option (List ℕ)) (old now new : DebuggerValue T) (written wrote after : Option (List ℕ)) (above : ℕ) (line said : List ℕ)
      → HasPassed input known old written now wrote above → TakesLine known true line rest → IsAnswered dialect shown limits line now said new → Appends wrote after said
      → HasPassed input rest old written new after (above + 1)
  passes input known rest old now new written wrote after above line said passed one answered appended = record {
    lines = passed.lines ++ line ∷ [];
    told = passed.told ++ said;
    answered = answered_more passed.lines line old now new passed.told said passed.answered answered;
    appended = appends_more written wrote after passed.told said passed.appended appended;
    remains = remains_more input known rest passed.lines line passed.remains one;
    count = omega (arith, passed.count, length-append passed.lines (line ∷ []));
  }

  ends : (result : Result (Unit {0}) SessionFault) (input known : Option (List ℕ)) (lines : List (List ℕ)) (above : ℕ) → above ≡ length lines → Remains input lines known
      → EndsOf dialect result above known → IfSome input (λ bytes. (below : List (List ℕ)) × ((lines_of bytes ≡ lines ++ below) × Ends dialect result (length lines) below))
  ends result None known lines above e remains end = tt
  ends result (Some bytes) None lines above e remains end = elim remains [ ]
  ends result (Some bytes) (Some rest) lines above e remains end =
      (lines_of rest, (remains, subst (λ n. Ends dialect result n (lines_of rest)) e end))

  pub stops : (result : Result (Unit {0}) SessionFault) (input known : Option (List ℕ)) (old now : DebuggerValue T) (written wrote after : Option (List ℕ)) (above : ℕ)
      → (passed : HasPassed input known old written now wrote above) → IsWritten result written passed.told after → EndsOf dialect result above known
      → HasConversed dialect shown limits result input old written now after
  stops result input known old now written wrote after above passed is_written end = record {
    lines = passed.lines;
    told = passed.told;
    answered = passed.answered;
    is_written = is_written;
    ends = ends result input known passed.lines above passed.count passed.remains end;
  }

  pub breaks_off : (input known rest : Option (List ℕ)) (old now new : DebuggerValue T) (written wrote after : Option (List ℕ)) (above : ℕ) (line said : List ℕ)
      → HasPassed input known old written now wrote above → TakesLine known true line rest → IsAnswered dialect shown limits line now said new
      → HasConversed dialect shown limits (Err CannotWrite) input old written new after
  breaks_off input known rest old now new written wrote after above line said passed one answered = record {
    lines = passed.lines ++ line ∷ [];
    told = passed.told ++ said;
    answered = answered_more passed.lines line old now new passed.told said passed.answered answered;
    is_written = tt;
    ends = ends (Err CannotWrite) input rest (passed.lines ++ line ∷ []) (length (passed.lines ++ line ∷ [])) refl
        (remains_more input known rest passed.lines line passed.remains one) (at_cannot_write dialect rest (length (passed.lines ++ line ∷ [])));
  }
