-- What is written of a line is read, and only that: proofs.
use Rattle.std.proofs.Common.{◌≡◌, ℕ, ◌<◌, ◌≤◌, ◌==◌, Bool, true, false, List, ◌∷◌, ◌++◌, codes, Option, Some, None, cond, refl, sym, ap, ◌∙◌, arith}
use Rattle.std.specs.Option.{option_map, option_and_then}
use Rattle.std.specs.Fmt.{decimal}
use Rattle.std.specs.Str.{bytes_eq}
use Rattle.std.proofs.lemmas.Bool.Decides.{Decides-eqb}
use Rattle.std.proofs.lemmas.Option.{none-some}
use Rattle.std.proofs.lemmas.Slice.Eq.{bytes_eq-Decides}
use Rattle.hex.specs.Hex.{encode_lower, lower_digits}
use Rattle.text_lines.specs.Text.{is_line_end}
use Rattle.rv_exec.specs.Causes.{cause_number}
use Rattle.rv_exec.specs.declared.cause.Cause.{Cause}
use Rattle.rv_exec.specs.declared.cause.Cause.TheVariants.{InstructionMisaligned, IllegalInstruction, Breakpoint, LoadMisaligned, StoreMisaligned, InstructionPageFault, LoadPageFault, StorePageFault}
use Rattle.flat_machine.specs.Ending.{kill_number}
use Rattle.flat_machine.specs.declared.end.End.{End}
use Rattle.flat_machine.specs.declared.end.End.TheVariants.{Exited, Trapped, Killed}
use Rattle.flat_machine.specs.declared.end.KillCause.{KillCause}
use Rattle.flat_machine.specs.declared.end.KillCause.TheVariants.{NoSwap, LoadFailed, Damaged, ScheduleFull, NoMemory, Limit}
use Rattle.flat_machine.specs.declared.schedule.Turn.{Turn}
use Rattle.run_records.specs.Words.{cut, is_space, word_of, long_of, number_of, numeral_of, digest_of}
use Rattle.run_records.specs.RecordLines.{after_word, fingerprint_text, fingerprint_by, fingerprint_words, fingerprint_of, turn_text, turn_by, turn_words, turn_of, steps_text, steps_of, end_text, cause_numbered, kill_numbered, exited_of, killed_of, trap_by, trap_values, trap_cause, trap_words, trapped_of, or_else, end_of}
use Rattle.run_records.specs.Fitting.{IsPrint, IsTurn, IsEnd}
use Rattle.run_records.proofs.WordLaws.{some_same, Lacks, lacks_both, decimal_lacks, no_space, no_line_end, hex_lacks, number_read, number_written, cut_read, cut_written, digest_read, digest_written}
use Rattle.run_records.specs.declared.fingerprint.Fingerprint.{Fingerprint}

-- ---- what stands behind a name

after_read : (name rest : List ℕ) → Lacks is_space name → after_word name (name ++ 32 ∷ rest) ≡ Some rest
unfolding after_word
after_read name rest h =
    let same : bytes_eq name name ≡ true = (bytes_eq-Decides name name).1 refl in
    rw (cut_read name rest h) (rw same refl)

after_written : (name line rest : List ℕ) → after_word name line ≡ Some rest → line ≡ name ++ 32 ∷ rest
unfolding after_word
after_written name line rest e = by_cut (cut line) refl e
  where
    by_test : (parts : List ℕ × List ℕ) (b : Bool) → bytes_eq parts.0 name ≡ b → cut line ≡ Some parts → cond b (Some parts.1) None ≡ Some rest → line ≡ name ++ 32 ∷ rest
    by_test parts true same is e =
        let named : parts.0 ≡ name = (bytes_eq-Decides parts.0 name).0 same in
        let left : parts.1 ≡ rest = some_same parts.1 rest e in
        cut_written line parts is ∙ ap (λ (x : List ℕ). x ++ 32 ∷ parts.1) named ∙ ap (λ (x : List ℕ). name ++ 32 ∷ x) left
    by_test parts false other is e = absurd (none-some rest e)

    by_cut : (o : Option (List ℕ × List ℕ)) → cut line ≡ o → option_and_then (λ parts. cond (bytes_eq parts.0 name) (Some parts.1) None) o ≡ Some rest → line ≡ name ++ 32 ∷ rest
    by_cut None is e = absurd (none-some rest e)
    by_cut (Some parts) is e = by_test parts (bytes_eq parts.0 name) refl is e

-- another name stands there
other_read : (name other rest : List ℕ) → Lacks is_space other → bytes_eq other name ≡ false → after_word name (other ++ 32 ∷ rest) ≡ None
unfolding after_word
other_read name other rest h differs = rw (cut_read other rest h) (rw differs refl)

-- ---- bytes that are no space and no line end

hex_no_space : Lacks is_space lower_digits
hex_no_space = (refl, (refl, (refl, (refl, (refl, (refl, (refl, (refl, (refl, (refl, (refl, (refl, (refl, (refl, (refl, (refl, tt))))))))))))))))

hex_no_end : Lacks is_line_end lower_digits
hex_no_end = (refl, (refl, (refl, (refl, (refl, (refl, (refl, (refl, (refl, (refl, (refl, (refl, (refl, (refl, (refl, (refl, tt))))))))))))))))

spaceless : (n : ℕ) → n < 18446744073709551616 → Lacks is_space (decimal n)
spaceless n small = decimal_lacks is_space no_space n small

endless : (n : ℕ) → n < 18446744073709551616 → Lacks is_line_end (decimal n)
endless n small = decimal_lacks is_line_end no_line_end n small

-- two texts with a space between
endless_both : (front back : List ℕ) → Lacks is_line_end front → Lacks is_line_end back → Lacks is_line_end (front ++ 32 ∷ back)
endless_both front back h k = lacks_both is_line_end front (32 ∷ back) h (refl, k)

-- ---- a name, a digest and a length

pub fingerprint_read : (name : List ℕ) (print : Fingerprint) → Lacks is_space name → IsPrint print → fingerprint_of name (fingerprint_text name print) ≡ Some print
unfolding fingerprint_of fingerprint_text
fingerprint_read name print h is =
    let few = is.few in
    let digits = encode_lower print.digest in
    rw (after_read name (digits ++ 32 ∷ decimal print.length) h)
    (rw (cut_read digits (decimal print.length) (hex_lacks is_space hex_no_space refl print.digest))
    (rw (digest_read print.digest is.sized is.bytes) (rw (number_read 18446744073709551615 print.length (omega (arith, few)) (omega arith)) refl)))

print_parts : (parts : List ℕ × List ℕ) (print : Fingerprint) (d : Option (List ℕ)) (n : Option ℕ) → digest_of parts.0 ≡ d → long_of parts.1 ≡ n → fingerprint_by d n ≡ Some print
    → (encode_lower print.digest ≡ parts.0) × (decimal print.length ≡ parts.1)
print_parts parts print None n d_is n_is e = absurd (none-some print e)
print_parts parts print (Some digest) None d_is n_is e = absurd (none-some print e)
print_parts parts print (Some digest) (Some many) d_is n_is e =
    let made : Fingerprint = record { digest = digest; length = many } in
    let same : made ≡ print = some_same made print e in
    let digests : digest ≡ print.digest = ap (λ (p : Fingerprint). p.digest) same in
    let lengths : many ≡ print.length = ap (λ (p : Fingerprint). p.length) same in
    (ap encode_lower (sym digests) ∙ digest_written parts.0 digest d_is, ap decimal (sym lengths) ∙ number_written 18446744073709551615 parts.1 many n_is)

pub fingerprint_written : (name line : List ℕ) (print : Fingerprint) → fingerprint_of name line ≡ Some print → fingerprint_text name print ≡ line
unfolding fingerprint_of fingerprint_text
fingerprint_written name line print e = by_after (after_word name line) refl e
  where
    by_cut : (rest : List ℕ) → after_word name line ≡ Some rest → (o : Option (List ℕ × List ℕ)) → cut rest ≡ o → fingerprint_words o ≡ Some print → name ++ 32 ∷ (encode_lower print.digest ++ 32 ∷ decimal print.length) ≡ line
    by_cut rest is None cut_is e = absurd (none-some print e)
    by_cut rest is (Some parts) cut_is e =
        let told = print_parts parts print (digest_of parts.0) (long_of parts.1) refl refl e in
        ap (λ (x : List ℕ). name ++ 32 ∷ (x ++ 32 ∷ decimal print.length)) told.0 ∙ ap (λ (x : List ℕ). name ++ 32 ∷ (parts.0 ++ 32 ∷ x)) told.1
        ∙ ap (λ (x : List ℕ). name ++ 32 ∷ x) (sym (cut_written rest parts cut_is)) ∙ sym (after_written name line rest is)

    by_after : (o : Option (List ℕ)) → after_word name line ≡ o → fingerprint_words (option_and_then cut o) ≡ Some print → name ++ 32 ∷ (encode_lower print.digest ++ 32 ∷ decimal print.length) ≡ line
    by_after None is e = absurd (none-some print e)
    by_after (Some rest) is e = by_cut rest is (cut rest) refl e

pub fingerprint_endless : (name : List ℕ) (print : Fingerprint) → Lacks is_line_end name → IsPrint print → Lacks is_line_end (fingerprint_text name print)
unfolding fingerprint_text
fingerprint_endless name print h is =
    endless_both name (encode_lower print.digest ++ 32 ∷ decimal print.length) h
    (endless_both (encode_lower print.digest) (decimal print.length) (hex_lacks is_line_end hex_no_end refl print.digest) (endless print.length is.few))

-- ---- a turn

some_count : (n : ℕ) (b : Bool) → (n == 0) ≡ b → 0 < n → b ≡ false
some_count n false e h = refl
some_count n true e h = let none : n ≡ 0 = (Decides-eqb n 0).0 e in absurd (omega (arith, none, h))

pub turn_read : (turn : Turn) → IsTurn turn → turn_of (turn_text turn) ≡ Some turn
unfolding turn_of turn_text
turn_read turn is =
    let hart = is.hart in
    let few = is.few in
    rw (cut_read (decimal turn.hart) (decimal turn.count) (spaceless turn.hart (omega (arith, hart))))
    (rw (number_read 4294967295 turn.hart (omega (arith, hart)) (omega arith)) (rw (number_read 4294967295 turn.count (omega (arith, few)) (omega arith))
    (rw (some_count turn.count (turn.count == 0) refl is.some) refl)))

turn_parts : (parts : List ℕ × List ℕ) (turn : Turn) (h n : Option ℕ) → word_of parts.0 ≡ h → word_of parts.1 ≡ n → turn_by h n ≡ Some turn → (decimal turn.hart ≡ parts.0) × (decimal turn.count ≡ parts.1)
turn_parts parts turn None n h_is n_is e = absurd (none-some turn e)
turn_parts parts turn (Some hart) None h_is n_is e = absurd (none-some turn e)
turn_parts parts turn (Some hart) (Some count) h_is n_is e = by_test (count == 0) e
  where
    by_test : (b : Bool) → cond b None (Some (record { hart = hart; count = count })) ≡ Some turn → (decimal turn.hart ≡ parts.0) × (decimal turn.count ≡ parts.1)
    by_test true e = absurd (none-some turn e)
    by_test false e =
        let made : Turn = record { hart = hart; count = count } in
        let same : made ≡ turn = some_same made turn e in
        let harts : hart ≡ turn.hart = ap (λ (t : Turn). t.hart) same in
        let counts : count ≡ turn.count = ap (λ (t : Turn). t.count) same in
        (ap decimal (sym harts) ∙ number_written 4294967295 parts.0 hart h_is, ap decimal (sym counts) ∙ number_written 4294967295 parts.1 count n_is)

pub turn_written : (line : List ℕ) (turn : Turn) → turn_of line ≡ Some turn → turn_text turn ≡ line
unfolding turn_of turn_text
turn_written line turn e = by_cut (cut line) refl e
  where
    by_cut : (o : Option (List ℕ × List ℕ)) → cut line ≡ o → turn_words o ≡ Some turn → decimal turn.hart ++ 32 ∷ decimal turn.count ≡ line
    by_cut None is e = absurd (none-some turn e)
    by_cut (Some parts) is e =
        let told = turn_parts parts turn (word_of parts.0) (word_of parts.1) refl refl e in
        ap (λ (x : List ℕ). x ++ 32 ∷ decimal turn.count) told.0 ∙ ap (λ (x : List ℕ). parts.0 ++ 32 ∷ x) told.1 ∙ sym (cut_written line parts is)

pub turn_endless : (turn : Turn) → IsTurn turn → Lacks is_line_end (turn_text turn)
unfolding turn_text
turn_endless turn is =
    let hart = is.hart in
    let few = is.few in
    endless_both (decimal turn.hart) (decimal turn.count) (endless turn.hart (omega (arith, hart))) (endless turn.count (omega (arith, few)))

-- ---- how many steps

steps_name : Lacks is_space (codes "steps")
steps_name = (refl, (refl, (refl, (refl, (refl, tt)))))

pub steps_read : (n : ℕ) → n < 18446744073709551616 → steps_of (steps_text n) ≡ Some n
unfolding steps_of steps_text
steps_read n small = rw (after_read (codes "steps") (decimal n) steps_name) (number_read 18446744073709551615 n (omega (arith, small)) (omega arith))

-- a number behind a name
named_written : (name line : List ℕ) (most n : ℕ) (o : Option (List ℕ)) → after_word name line ≡ o → option_and_then (number_of most) o ≡ Some n → name ++ 32 ∷ decimal n ≡ line
named_written name line most n None is e = absurd (none-some n e)
named_written name line most n (Some rest) is e = ap (λ (x : List ℕ). name ++ 32 ∷ x) (number_written most rest n e) ∙ sym (after_written name line rest is)

pub steps_written : (line : List ℕ) (n : ℕ) → steps_of line ≡ Some n → steps_text n ≡ line
unfolding steps_of steps_text
steps_written line n e = named_written (codes "steps") line 18446744073709551615 n (after_word (codes "steps") line) refl e

pub steps_endless : (n : ℕ) → n < 18446744073709551616 → Lacks is_line_end (steps_text n)
unfolding steps_text
steps_endless n small = endless_both (codes "steps") (decimal n) (refl, (refl, (refl, (refl, (refl, tt))))) (endless n small)

-- ---- causes by their numbers

cause_few : (cause : Cause) → cause_number cause ≤ 15
cause_few InstructionMisaligned = omega arith
cause_few IllegalInstruction = omega arith
cause_few Breakpoint = omega arith
cause_few LoadMisaligned = omega arith
cause_few StoreMisaligned = omega arith
cause_few InstructionPageFault = omega arith
cause_few LoadPageFault = omega arith
cause_few StorePageFault = omega arith

cause_read : (cause : Cause) → cause_numbered (cause_number cause) ≡ Some cause
unfolding cause_numbered
cause_read InstructionMisaligned = refl
cause_read IllegalInstruction = refl
cause_read Breakpoint = refl
cause_read LoadMisaligned = refl
cause_read StoreMisaligned = refl
cause_read InstructionPageFault = refl
cause_read LoadPageFault = refl
cause_read StorePageFault = refl

kill_few : (cause : KillCause) → kill_number cause ≤ 6
kill_few NoSwap = omega arith
kill_few LoadFailed = omega arith
kill_few Damaged = omega arith
kill_few ScheduleFull = omega arith
kill_few NoMemory = omega arith
kill_few Limit = omega arith

kill_read : (cause : KillCause) → kill_numbered (kill_number cause) ≡ Some cause
unfolding kill_numbered
kill_read NoSwap = refl
kill_read LoadFailed = refl
kill_read Damaged = refl
kill_read ScheduleFull = refl
kill_read NoMemory = refl
kill_read Limit = refl

-- one number of a table, and those behind it
one_of : {A : Type 0} (number_of_it : A → ℕ) (n k : ℕ) (it told : A) (rest : Option A) (b : Bool) → (n == k) ≡ b → number_of_it it ≡ k → (rest ≡ Some told → number_of_it told ≡ n)
    → cond b (Some it) rest ≡ Some told → number_of_it told ≡ n
one_of number_of_it n k it told rest true here is later e =
    let same : n ≡ k = (Decides-eqb n k).0 here in
    ap number_of_it (sym (some_same it told e)) ∙ is ∙ sym same
one_of number_of_it n k it told rest false there is later e = later e

cause_written : (n : ℕ) (cause : Cause) → cause_numbered n ≡ Some cause → cause_number cause ≡ n
unfolding cause_numbered
cause_written n cause e =
    one_of cause_number n 0 InstructionMisaligned cause _ (n == 0) refl refl (λ e.
    one_of cause_number n 2 IllegalInstruction cause _ (n == 2) refl refl (λ e.
    one_of cause_number n 3 Breakpoint cause _ (n == 3) refl refl (λ e.
    one_of cause_number n 4 LoadMisaligned cause _ (n == 4) refl refl (λ e.
    one_of cause_number n 6 StoreMisaligned cause _ (n == 6) refl refl (λ e.
    one_of cause_number n 12 InstructionPageFault cause _ (n == 12) refl refl (λ e.
    one_of cause_number n 13 LoadPageFault cause _ (n == 13) refl refl (λ e.
    one_of cause_number n 15 StorePageFault cause None (n == 15) refl refl (λ e. absurd (none-some cause e)) e) e) e) e) e) e) e) e

kill_written : (n : ℕ) (cause : KillCause) → kill_numbered n ≡ Some cause → kill_number cause ≡ n
unfolding kill_numbered
kill_written n cause e =
    one_of kill_number n 1 NoSwap cause _ (n == 1) refl refl (λ e.
    one_of kill_number n 2 LoadFailed cause _ (n == 2) refl refl (λ e.
    one_of kill_number n 3 Damaged cause _ (n == 3) refl refl (λ e.
    one_of kill_number n 4 ScheduleFull cause _ (n == 4) refl refl (λ e.
    one_of kill_number n 5 NoMemory cause _ (n == 5) refl refl (λ e.
    one_of kill_number n 6 Limit cause None (n == 6) refl refl (λ e. absurd (none-some cause e)) e) e) e) e) e) e

-- ---- an ending

exited_name : Lacks is_space (codes "exited")
exited_name = (refl, (refl, (refl, (refl, (refl, (refl, tt))))))

trapped_name : Lacks is_space (codes "trapped")
trapped_name = (refl, (refl, (refl, (refl, (refl, (refl, (refl, tt)))))))

killed_name : Lacks is_space (codes "killed")
killed_name = (refl, (refl, (refl, (refl, (refl, (refl, tt))))))

trap_text : ℕ → ℕ → ℕ → ℕ → List ℕ
trap_text hart cause pc value = decimal hart ++ 32 ∷ (decimal cause ++ 32 ∷ (decimal pc ++ 32 ∷ decimal value))

exited_read : (status : ℕ) → status < 4294967296 → exited_of (codes "exited" ++ 32 ∷ decimal status) ≡ Some (Exited status)
unfolding exited_of
exited_read status small = rw (after_read (codes "exited") (decimal status) exited_name) (rw (number_read 4294967295 status (omega (arith, small)) (omega arith)) refl)

killed_read : (cause : KillCause) → killed_of (codes "killed" ++ 32 ∷ decimal (kill_number cause)) ≡ Some (Killed cause)
unfolding killed_of
killed_read cause =
    let few = kill_few cause in
    rw (after_read (codes "killed") (decimal (kill_number cause)) killed_name)
    (rw (number_read 4294967295 (kill_number cause) (omega (arith, few)) (omega arith)) (rw (kill_read cause) refl))

no_exit : (other rest : List ℕ) → Lacks is_space other → bytes_eq other (codes "exited") ≡ false → exited_of (other ++ 32 ∷ rest) ≡ None
unfolding exited_of
no_exit other rest h differs = rw (other_read (codes "exited") other rest h differs) refl

no_trap : (other rest : List ℕ) → Lacks is_space other → bytes_eq other (codes "trapped") ≡ false → trapped_of (other ++ 32 ∷ rest) ≡ None
unfolding trapped_of
no_trap other rest h differs = rw (other_read (codes "trapped") other rest h differs) refl

trapped_read : (hart : ℕ) (cause : Cause) (pc value : ℕ) → hart < 4294967296 → pc < 4294967296 → value < 4294967296 → trapped_of (codes "trapped" ++ 32 ∷ trap_text hart (cause_number cause) pc value) ≡ Some (Trapped hart cause pc value)
unfolding trapped_of trap_text
trapped_read hart cause pc value h p v =
    let few = cause_few cause in
    let last : List ℕ = decimal pc ++ 32 ∷ decimal value in
    let later : List ℕ = decimal (cause_number cause) ++ 32 ∷ last in
    rw (after_read (codes "trapped") (decimal hart ++ 32 ∷ later) trapped_name)
    (rw (cut_read (decimal hart) later (spaceless hart (omega (arith, h))))
    (rw (cut_read (decimal (cause_number cause)) last (spaceless (cause_number cause) (omega (arith, few))))
    (rw (cut_read (decimal pc) (decimal value) (spaceless pc (omega (arith, p))))
    (rw (number_read 4294967295 hart (omega (arith, h)) (omega arith)) (rw (number_read 4294967295 (cause_number cause) (omega (arith, few)) (omega arith))
    (rw (number_read 4294967295 pc (omega (arith, p)) (omega arith)) (rw (number_read 4294967295 value (omega (arith, v)) (omega arith))
    (rw (cause_read cause) refl))))))))

pub end_read : (end : End) → IsEnd end → end_of (end_text end) ≡ Some end
unfolding end_of end_text trap_text
end_read (Exited status) h = rw (exited_read status h) refl
end_read (Trapped hart cause pc value) h =
    rw (no_exit (codes "trapped") (trap_text hart (cause_number cause) pc value) trapped_name refl) (rw (trapped_read hart cause pc value h.0 h.1 h.2) refl)
end_read (Killed cause) h =
    rw (no_exit (codes "killed") (decimal (kill_number cause)) killed_name refl) (rw (no_trap (codes "killed") (decimal (kill_number cause)) killed_name refl) (rw (killed_read cause) refl))

exited_written : (line : List ℕ) (end : End) → exited_of line ≡ Some end → end_text end ≡ line
unfolding exited_of end_text
exited_written line end e = by_number (option_and_then word_of (after_word (codes "exited") line)) refl e
  where
    by_number : (o : Option ℕ) → option_and_then word_of (after_word (codes "exited") line) ≡ o → option_map Exited o ≡ Some end → end_text end ≡ line
    by_number None is e = absurd (none-some end e)
    by_number (Some n) is e = ap end_text (sym (some_same (Exited n) end e)) ∙ named_written (codes "exited") line 4294967295 n (after_word (codes "exited") line) refl is

killed_written : (line : List ℕ) (end : End) → killed_of line ≡ Some end → end_text end ≡ line
unfolding killed_of end_text
killed_written line end e = by_number (option_and_then word_of (after_word (codes "killed") line)) refl e
  where
    by_cause : (n : ℕ) → option_and_then word_of (after_word (codes "killed") line) ≡ Some n → (o : Option KillCause) → kill_numbered n ≡ o → option_map Killed o ≡ Some end → end_text end ≡ line
    by_cause n is None cause_is e = absurd (none-some end e)
    by_cause n is (Some cause) cause_is e =
        ap end_text (sym (some_same (Killed cause) end e)) ∙ ap (λ (k : ℕ). codes "killed" ++ 32 ∷ decimal k) (kill_written n cause cause_is)
        ∙ named_written (codes "killed") line 4294967295 n (after_word (codes "killed") line) refl is

    by_number : (o : Option ℕ) → option_and_then word_of (after_word (codes "killed") line) ≡ o → option_map Killed (option_and_then kill_numbered o) ≡ Some end → end_text end ≡ line
    by_number None is e = absurd (none-some end e)
    by_number (Some n) is e = by_cause n is (kill_numbered n) refl e

-- the words of a trap, each with what it was read as
record HasWords (hart cause pc value : List ℕ) (end : End) : Type 0 where
  text : end_text end ≡ codes "trapped" ++ 32 ∷ (hart ++ 32 ∷ (cause ++ 32 ∷ (pc ++ 32 ∷ value)))

trap_parts : (hart cause pc value : List ℕ) (end : End) (h : Option ℕ) (n : Option ℕ) (c : Option Cause) (p v : Option ℕ) → word_of hart ≡ h → word_of cause ≡ n → option_and_then cause_numbered n ≡ c → word_of pc ≡ p → word_of value ≡ v
    → trap_by h c p v ≡ Some end → HasWords hart cause pc value end
unfolding end_text
trap_parts hart cause pc value end None n c p v h_is n_is c_is p_is v_is e = absurd (none-some end e)
trap_parts hart cause pc value end (Some h) n None p v h_is n_is c_is p_is v_is e = absurd (none-some end e)
trap_parts hart cause pc value end (Some h) n (Some c) None v h_is n_is c_is p_is v_is e = absurd (none-some end e)
trap_parts hart cause pc value end (Some h) n (Some c) (Some p) None h_is n_is c_is p_is v_is e = absurd (none-some end e)
trap_parts hart cause pc value end (Some h) None (Some c) (Some p) (Some v) h_is n_is c_is p_is v_is e = absurd (none-some c c_is)
trap_parts hart cause pc value end (Some h) (Some n) (Some c) (Some p) (Some v) h_is n_is c_is p_is v_is e = record {
  text = ap end_text (sym (some_same (Trapped h c p v) end e))
      ∙ ap (λ (x : List ℕ). codes "trapped" ++ 32 ∷ (x ++ 32 ∷ (decimal (cause_number c) ++ 32 ∷ (decimal p ++ 32 ∷ decimal v)))) (number_written 4294967295 hart h h_is)
      ∙ ap (λ (x : List ℕ). codes "trapped" ++ 32 ∷ (hart ++ 32 ∷ (x ++ 32 ∷ (decimal p ++ 32 ∷ decimal v)))) (ap decimal (cause_written n c c_is) ∙ number_written 4294967295 cause n n_is)
      ∙ ap (λ (x : List ℕ). codes "trapped" ++ 32 ∷ (hart ++ 32 ∷ (cause ++ 32 ∷ (x ++ 32 ∷ decimal v)))) (number_written 4294967295 pc p p_is)
      ∙ ap (λ (x : List ℕ). codes "trapped" ++ 32 ∷ (hart ++ 32 ∷ (cause ++ 32 ∷ (pc ++ 32 ∷ x)))) (number_written 4294967295 value v v_is);
}

trapped_written : (line : List ℕ) (end : End) → trapped_of line ≡ Some end → end_text end ≡ line
unfolding trapped_of
trapped_written line end e = by_after (after_word (codes "trapped") line) refl e
  where
    by_third : (words : List ℕ) (a b : List ℕ × List ℕ) → after_word (codes "trapped") line ≡ Some words → cut words ≡ Some a → cut a.1 ≡ Some b → (o : Option (List ℕ × List ℕ)) → cut b.1 ≡ o
        → trap_values (word_of a.0) (option_and_then cause_numbered (word_of b.0)) o ≡ Some end → end_text end ≡ line
    by_third words a b is a_is b_is None c_is e = absurd (none-some end e)
    by_third words a b is a_is b_is (Some c) c_is e =
        let told = trap_parts a.0 b.0 c.0 c.1 end (word_of a.0) (word_of b.0) (option_and_then cause_numbered (word_of b.0)) (word_of c.0) (word_of c.1) refl refl refl refl refl e in
        told.text
        ∙ ap (λ (x : List ℕ). codes "trapped" ++ 32 ∷ (a.0 ++ 32 ∷ (b.0 ++ 32 ∷ x))) (sym (cut_written b.1 c c_is))
        ∙ ap (λ (x : List ℕ). codes "trapped" ++ 32 ∷ (a.0 ++ 32 ∷ x)) (sym (cut_written a.1 b b_is))
        ∙ ap (λ (x : List ℕ). codes "trapped" ++ 32 ∷ x) (sym (cut_written words a a_is))
        ∙ sym (after_written (codes "trapped") line words is)

    by_second : (words : List ℕ) (a : List ℕ × List ℕ) → after_word (codes "trapped") line ≡ Some words → cut words ≡ Some a → (o : Option (List ℕ × List ℕ)) → cut a.1 ≡ o
        → trap_cause (word_of a.0) o ≡ Some end → end_text end ≡ line
    by_second words a is a_is None b_is e = absurd (none-some end e)
    by_second words a is a_is (Some b) b_is e = by_third words a b is a_is b_is (cut b.1) refl e

    by_first : (words : List ℕ) → after_word (codes "trapped") line ≡ Some words → (o : Option (List ℕ × List ℕ)) → cut words ≡ o → trap_words o ≡ Some end → end_text end ≡ line
    by_first words is None a_is e = absurd (none-some end e)
    by_first words is (Some a) a_is e = by_second words a is a_is (cut a.1) refl e

    by_after : (o : Option (List ℕ)) → after_word (codes "trapped") line ≡ o → trap_words (option_and_then cut o) ≡ Some end → end_text end ≡ line
    by_after None is e = absurd (none-some end e)
    by_after (Some words) is e = by_first words is (cut words) refl e

pub end_written : (line : List ℕ) (end : End) → end_of line ≡ Some end → end_text end ≡ line
unfolding end_of
end_written line end e = by_exit (exited_of line) refl e
  where
    by_trap : (o : Option End) → trapped_of line ≡ o → or_else o (killed_of line) ≡ Some end → end_text end ≡ line
    by_trap None is e = killed_written line end e
    by_trap (Some one) is e = trapped_written line end (is ∙ e)

    by_exit : (o : Option End) → exited_of line ≡ o → or_else o (or_else (trapped_of line) (killed_of line)) ≡ Some end → end_text end ≡ line
    by_exit None is e = by_trap (trapped_of line) refl e
    by_exit (Some one) is e = exited_written line end (is ∙ e)

pub end_endless : (end : End) → IsEnd end → Lacks is_line_end (end_text end)
unfolding end_text
end_endless (Exited status) h = endless_both (codes "exited") (decimal status) (refl, (refl, (refl, (refl, (refl, (refl, tt)))))) (endless status (omega (arith, h)))
end_endless (Trapped hart cause pc value) h =
    let few = cause_few cause in
    let harts = h.0 in
    let pcs = h.1 in
    let values = h.2 in
    endless_both (codes "trapped") (decimal hart ++ 32 ∷ (decimal (cause_number cause) ++ 32 ∷ (decimal pc ++ 32 ∷ decimal value))) (refl, (refl, (refl, (refl, (refl, (refl, (refl, tt)))))))
    (endless_both (decimal hart) (decimal (cause_number cause) ++ 32 ∷ (decimal pc ++ 32 ∷ decimal value)) (endless hart (omega (arith, harts)))
    (endless_both (decimal (cause_number cause)) (decimal pc ++ 32 ∷ decimal value) (endless (cause_number cause) (omega (arith, few)))
    (endless_both (decimal pc) (decimal value) (endless pc (omega (arith, pcs))) (endless value (omega (arith, values))))))
end_endless (Killed cause) h =
    let few = kill_few cause in
    endless_both (codes "killed") (decimal (kill_number cause)) (refl, (refl, (refl, (refl, (refl, (refl, tt)))))) (endless (kill_number cause) (omega (arith, few)))

-- a line that tells an ending tells no turn
pub no_turn_of_end : (end : End) → IsEnd end → turn_of (end_text end) ≡ None
unfolding turn_of end_text number_of numeral_of
no_turn_of_end (Exited status) h = rw (cut_read (codes "exited") (decimal status) exited_name) refl
no_turn_of_end (Trapped hart cause pc value) h =
    rw (cut_read (codes "trapped") (decimal hart ++ 32 ∷ (decimal (cause_number cause) ++ 32 ∷ (decimal pc ++ 32 ∷ decimal value))) trapped_name) refl
no_turn_of_end (Killed cause) h = rw (cut_read (codes "killed") (decimal (kill_number cause)) killed_name) refl
