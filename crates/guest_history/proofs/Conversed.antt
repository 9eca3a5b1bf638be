-- The lines that a conversation has passed, and how it ends below them.
use Rattle.std.proofs.Common.{◌≡◌, ◌∙◌, inl, inr, ℕ, ◌+◌, true, false, List, [], ◌∷◌, ◌++◌, length, Option, None, Some, ap, arith, append_assoc, append-nil, length-append, refl, subst, sym}
use Rattle.std.specs.Prelude.{⊤, IfSome, Result, Ok, Err}
use Rattle.std.specs.Io.KnownBytes.{Appends}
use Rattle.text_lines.specs.Text.{lines_of}
use Rattle.debug_session.specs.InputLines.{TakesLine}
use Rattle.debug_session.specs.Answers.{Answers}
use Rattle.debug_session.specs.declared.lines.DebugLine.{DebugLine}
use Rattle.debug_session.specs.declared.lines.DebugLine.TheVariants as spoken
use Rattle.debug_session.specs.declared.reply.DebugReply.{DebugReply}
use Rattle.debug_session.proofs.Passed.{all_remains, appends_more, remains_more, stays, Remains}
use Rattle.guest_history.specs.Answered.{AnswersLine, AnswersLook, AnswersPlain, IsPlain}
use Rattle.guest_history.specs.Conversation.{AreAnswered, Ends, HasConversed, IsAnswered, IsBad, IsBroken, IsLeft, IsWritten}
use Rattle.guest_history.specs.Going.{lacks, shows}
use Rattle.guest_history.specs.Histories.{Keeps}
use Rattle.guest_history.specs.HistoryLines.{AsksOf}
use Rattle.guest_history.specs.HistoryText.{history_text}
use Rattle.guest_history.specs.declared.fault.HistoryFault.{HistoryFault}
use Rattle.guest_history.specs.declared.fault.HistoryFault.TheVariants.{BadLine, CannotRead, CannotWrite, Run}
use Rattle.guest_history.specs.declared.history.History.{History}
use Rattle.guest_history.specs.declared.lines.HistoryLine.{HistoryLine}
use Rattle.guest_history.specs.declared.lines.HistoryLine.TheVariants.{Back, BackGo, BackGoWithin, At, Plain}
use Rattle.guest_history.specs.declared.reply.HistoryReply.{HistoryReply}
use Rattle.run_paths.specs.declared.fault.RunFault.{RunFault}

-- ---- only `quit` has no reply

looks_none : (asked : DebugLine) (old new : History) → AnswersLook asked old None new → Answers shows lacks asked old.debugger None new.debugger × (new ≡ record old { debugger = new.debugger })
looks_none asked old new answers = by_plain answers.plain answers.told_is answers.answered
  where
    by_plain : (plain : Option DebugReply) → IsPlain None plain → Answers shows lacks asked old.debugger plain new.debugger → Answers shows lacks asked old.debugger None new.debugger × (new ≡ record old { debugger = new.debugger })
    by_plain None is answered = (answered, answers.rest)
    by_plain (Some plain) is answered = elim is [ ]

quits_plain : (asked : DebugLine) (old new : History) → AnswersPlain asked old None new → (asked ≡ spoken.Quit) × (new ≡ old)
quits_plain (spoken.Break address) old new answers = elim answers [ ]
quits_plain (spoken.Watch address length) old new answers = elim answers [ ]
quits_plain (spoken.Remove number) old new answers = elim answers [ ]
quits_plain (spoken.Step hart) old new answers = elim answers [ ]
quits_plain (spoken.Go limit) old new answers = elim answers [ ]
quits_plain (spoken.Run limit) old new answers = elim answers [ ]
quits_plain (spoken.GoHart hart limit) old new answers = elim answers [ ]
quits_plain (spoken.Regs hart) old new answers = elim (looks_none (spoken.Regs hart) old new answers).0 [ ]
quits_plain (spoken.Mem address length) old new answers = elim (looks_none (spoken.Mem address length) old new answers).0 [ ]
quits_plain spoken.End old new answers = elim (looks_none spoken.End old new answers).0 [ ]
quits_plain (spoken.Live hart) old new answers = elim (looks_none (spoken.Live hart) old new answers).0 [ ]
quits_plain spoken.Quit old new answers = let looks = looks_none spoken.Quit old new answers in (refl, looks.1 ∙ ap (λ d. record old { debugger = d }) looks.0.1)

quits : (asked : HistoryLine) (old new : History) → AnswersLine asked old None new → (asked ≡ Plain spoken.Quit) × (new ≡ old)
quits (Back count) old new answers = elim answers [ ]
quits BackGo old new answers = elim answers [ ]
quits (BackGoWithin count) old new answers = elim answers [ ]
quits At old new answers = elim answers [ ]
quits (Plain asked) old new answers = let is = quits_plain asked old new answers in (ap Plain is.0, is.1)

-- ---- how the lines go on that are still to be read

abbrev pub EndsOf : Result (Unit {0}) HistoryFault → ℕ → Option (List ℕ) → Type 0
EndsOf result above None = ⊤
EndsOf result above (Some rest) = Ends result above (lines_of rest)

pub at_end : (known rest : Option (List ℕ)) (line : List ℕ) (above : ℕ) (done : Unit {0}) → TakesLine known false line rest → EndsOf (Ok done) above known
at_end None rest line above done none = tt
at_end (Some bytes) rest line above done none = inl none

pub at_quit : (known rest : Option (List ℕ)) (line : List ℕ) (above : ℕ) (done : Unit {0}) → TakesLine known true line rest → AsksOf (Plain spoken.Quit) line → EndsOf (Ok done) above known
at_quit None rest line above done one quit = tt
at_quit (Some bytes) None line above done one quit = elim one [ ]
at_quit (Some bytes) (Some rest) line above done one quit = inr (line, (lines_of rest, one, quit))

pub at_bad : (known rest : Option (List ℕ)) (line : List ℕ) (above : ℕ) → TakesLine known true line rest → IsBad line → EndsOf (Err (BadLine (above + 1))) above known
at_bad None rest line above one bad = tt
at_bad (Some bytes) None line above one bad = elim one [ ]
at_bad (Some bytes) (Some rest) line above one bad = (line, (lines_of rest, one, bad, refl))

pub at_cannot_read : (known : Option (List ℕ)) (above : ℕ) → EndsOf (Err CannotRead) above known
at_cannot_read None above = tt
at_cannot_read (Some bytes) above = tt

pub at_cannot_write : (known : Option (List ℕ)) (above : ℕ) → EndsOf (Err CannotWrite) above known
at_cannot_write None above = tt
at_cannot_write (Some bytes) above = tt

pub at_fault : (known : Option (List ℕ)) (above : ℕ) (why : RunFault) → EndsOf (Err (Run why)) above known
at_fault None above why = tt
at_fault (Some bytes) above why = tt

-- ---- what was passed

answered_more : (lines : List (List ℕ)) (line : List ℕ) (old now new : History) (told said : List ℕ) → AreAnswered lines old told now
    → IsAnswered line now said new → AreAnswered (lines ++ line ∷ []) old (told ++ said) new
unfolding AreAnswered
answered_more [] line old now new told said none one =
    (new, (said, ([], subst (λ d. IsAnswered line d said new) none.1 one, (refl, refl), ap (λ l. l ++ said) none.0 ∙ sym (append-nil said))))
answered_more (first ∷ lines) line old now new told said (after, (head, (others, is, are, e))) one = (
  after,
  (
    head,
    (
      others ++ said,
      is,
      answered_more lines line after now new others said are one,
      ap (λ l. l ++ said) e ∙ append_assoc head others said,
    ),
  ),
)

none_answered : (old : History) → AreAnswered [] old [] old
unfolding AreAnswered
none_answered old = (refl, refl)

-- so many lines were answered, and what was told is written
pub record HasPassed (input known : Option (List ℕ)) (old : History) (written : Option (List ℕ)) (new : History) (wrote : Option (List ℕ)) (above : ℕ) : Type 0 where
  pub lines : List (List ℕ)
  pub told : List ℕ
  pub answered : AreAnswered lines old told new
  pub appended : Appends written wrote told
  pub remains : Remains input lines known
  pub count : above ≡ length lines

pub begins : (input known : Option (List ℕ)) (old : History) (written : Option (List ℕ)) → known ≡ input → HasPassed input known old written old written 0
begins input known old written e = record {
  lines = [];
  told = [];
  answered = none_answered old;
  appended = stays written;
  remains = subst (Remains input []) (sym e) (all_remains input);
  count = refl;
}

pub passes : (input known rest : Option (List ℕ)) (old now new : History) (written wrote after : Option (List ℕ)) (above : ℕ) (line said : List ℕ)
    → HasPassed input known old written now wrote above → TakesLine known true line rest → IsAnswered line now said new → Appends wrote after said
    → HasPassed input rest old written new after (above + 1)
passes input known rest old now new written wrote after above line said passed one answered appended = record {
  lines = passed.lines ++ line ∷ [];
  told = passed.told ++ said;
  answered = answered_more passed.lines line old now new passed.told said passed.answered answered;
  appended = appends_more written wrote after passed.told said passed.appended appended;
  remains = remains_more input known rest passed.lines line passed.remains one;
  count = omega (arith, passed.count, length-append passed.lines (line ∷ []));
}

ends : (result : Result (Unit {0}) HistoryFault) (input known : Option (List ℕ)) (lines : List (List ℕ)) (above : ℕ) → above ≡ length lines → Remains input lines known
    → EndsOf result above known → IfSome input (λ bytes. (below : List (List ℕ)) × ((lines_of bytes ≡ lines ++ below) × Ends result (length lines) below))
ends result None known lines above e remains end = tt
ends result (Some bytes) None lines above e remains end = elim remains [ ]
ends result (Some bytes) (Some rest) lines above e remains end = (lines_of rest, (remains, subst (λ n. Ends result n (lines_of rest)) e end))

pub stops : (result : Result (Unit {0}) HistoryFault) (input known : Option (List ℕ)) (old now new : History) (written wrote after : Option (List ℕ)) (above : ℕ)
    → (passed : HasPassed input known old written now wrote above) → IsLeft result now new → IsWritten result written passed.told after → EndsOf result above known
    → HasConversed result input old written new after
stops result input known old now new written wrote after above passed left is_written end = record {
  lines = passed.lines;
  told = passed.told;
  after = now;
  answered = passed.answered;
  left = left;
  is_written = is_written;
  ends = ends result input known passed.lines above passed.count passed.remains end;
}

-- a turn that was broken off
pub breaks_off : (fault : HistoryFault) (input known : Option (List ℕ)) (old now new : History) (written wrote after : Option (List ℕ)) (above : ℕ)
    → HasPassed input known old written now wrote above → IsBroken fault → HasConversed (Err fault) input old written new after
breaks_off CannotWrite input known old now new written wrote after above passed broken =
    stops (Err CannotWrite) input known old now new written wrote after above passed tt tt (at_cannot_write known above)
breaks_off (Run why) input known old now new written wrote after above passed broken =
    stops (Err (Run why)) input known old now new written wrote after above passed tt tt (at_fault known above why)
breaks_off CannotRead input known old now new written wrote after above passed broken = elim broken [ ]
breaks_off (BadLine number) input known old now new written wrote after above passed broken = elim broken [ ]

-- ---- a turn

pub replied : (line : List ℕ) (old after new : History) (asked : HistoryLine) (reply : HistoryReply) → AsksOf asked line → AnswersLine asked old (Some reply) after → Keeps after new → IsAnswered line old (history_text reply ++ 10 ∷ []) new
replied line old after new asked reply asks answers keeps = inr (record { asked = asked; asks = asks; reply = reply; after = after; answers = answers; keeps = keeps; told_is = refl })

pub quit_line : (words : List ℕ) (old new : History) (asked : HistoryLine) → AsksOf asked words → AnswersLine asked old None new → AsksOf (Plain spoken.Quit) words × (new ≡ old)
quit_line words old new asked asks answers = let is = quits asked old new answers in (subst (λ a. AsksOf a words) is.0 asks, is.1)
