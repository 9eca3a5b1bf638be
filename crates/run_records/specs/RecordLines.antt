-- The lines of a record, as they are written and as they are read.
use Rattle.std.specs.Prelude.{ℕ, ◌==◌, List, ◌∷◌, ◌++◌, codes, Option, Some, None, cond, if◌then◌else◌}
use Rattle.std.specs.Option.{option_map, option_and_then}
use Rattle.std.specs.Fmt.{decimal}
use Rattle.std.specs.Str.{bytes_eq}
use Rattle.hex.specs.Hex.{encode_lower}
use Rattle.rv_exec.specs.Causes.{cause_number}
use Rattle.rv_exec.specs.declared.cause.Cause.{Cause}
use Rattle.rv_exec.specs.declared.cause.Cause.TheVariants.{InstructionMisaligned, IllegalInstruction, Breakpoint, LoadMisaligned, StoreMisaligned, InstructionPageFault, LoadPageFault, StorePageFault}
use Rattle.flat_machine.specs.Ending.{kill_number}
use Rattle.flat_machine.specs.declared.end.End.{End}
use Rattle.flat_machine.specs.declared.end.End.TheVariants.{Exited, Trapped, Killed}
use Rattle.flat_machine.specs.declared.end.KillCause.{KillCause}
use Rattle.flat_machine.specs.declared.end.KillCause.TheVariants.{NoSwap, LoadFailed, Damaged, ScheduleFull, NoMemory, Limit}
use Rattle.flat_machine.specs.declared.schedule.Turn.{Turn}
use Rattle.run_records.specs.Words.{cut, word_of, long_of, digest_of}
use Rattle.run_records.specs.declared.fingerprint.Fingerprint.{Fingerprint}

-- the first line: the format and its version
abbrev pub title : List ℕ
title = codes "guest-record 1"

-- the text after a name and a space
unfoldable pub after_word : List ℕ → List ℕ → Option (List ℕ)
after_word name line = option_and_then (λ parts. cond (bytes_eq parts.0 name) (Some parts.1) None) (cut line)

-- ---- a name, a digest and how many bytes there are

unfoldable pub fingerprint_text : List ℕ → Fingerprint → List ℕ
fingerprint_text name print = name ++ 32 ∷ (encode_lower print.digest ++ 32 ∷ decimal print.length)

abbrev pub fingerprint_by : Option (List ℕ) → Option ℕ → Option Fingerprint
fingerprint_by (Some digest) (Some length) = Some (record { digest = digest; length = length })
fingerprint_by (Some digest) None = None
fingerprint_by None length = None

abbrev pub fingerprint_words : Option (List ℕ × List ℕ) → Option Fingerprint
fingerprint_words None = None
fingerprint_words (Some parts) = fingerprint_by (digest_of parts.0) (long_of parts.1)

unfoldable pub fingerprint_of : List ℕ → List ℕ → Option Fingerprint
fingerprint_of name line = fingerprint_words (option_and_then cut (after_word name line))

-- ---- a turn: a hart, and how many instructions of it, one at least

unfoldable pub turn_text : Turn → List ℕ
turn_text turn = decimal turn.hart ++ 32 ∷ decimal turn.count

abbrev pub turn_by : Option ℕ → Option ℕ → Option Turn
turn_by (Some hart) (Some count) = cond (count == 0) None (Some (record { hart = hart; count = count }))
turn_by (Some hart) None = None
turn_by None count = None

abbrev pub turn_words : Option (List ℕ × List ℕ) → Option Turn
turn_words None = None
turn_words (Some parts) = turn_by (word_of parts.0) (word_of parts.1)

unfoldable pub turn_of : List ℕ → Option Turn
turn_of line = turn_words (cut line)

-- ---- how many steps

unfoldable pub steps_text : ℕ → List ℕ
steps_text steps = codes "steps" ++ 32 ∷ decimal steps

unfoldable pub steps_of : List ℕ → Option ℕ
steps_of line = option_and_then long_of (after_word (codes "steps") line)

-- ---- how the process ended

unfoldable pub end_text : End → List ℕ
end_text (Exited status) = codes "exited" ++ 32 ∷ decimal status
end_text (Trapped hart cause pc value) =
    codes "trapped" ++ 32 ∷ (decimal hart ++ 32 ∷ (decimal (cause_number cause) ++ 32 ∷ (decimal pc ++ 32 ∷ decimal value)))
end_text (Killed cause) = codes "killed" ++ 32 ∷ decimal (kill_number cause)

-- the cause of a trap that has this number
unfoldable pub cause_numbered : ℕ → Option Cause
cause_numbered n =
    if n == 0 then Some InstructionMisaligned
    else if n == 2 then Some IllegalInstruction
    else if n == 3 then Some Breakpoint
    else if n == 4 then Some LoadMisaligned
    else if n == 6 then Some StoreMisaligned
    else if n == 12 then Some InstructionPageFault
    else if n == 13 then Some LoadPageFault
    else if n == 15 then Some StorePageFault
    else None

-- the cause of a kill that has this number
unfoldable pub kill_numbered : ℕ → Option KillCause
kill_numbered n =
    if n == 1 then Some NoSwap
    else if n == 2 then Some LoadFailed
    else if n == 3 then Some Damaged
    else if n == 4 then Some ScheduleFull
    else if n == 5 then Some NoMemory
    else if n == 6 then Some Limit
    else None

unfoldable pub exited_of : List ℕ → Option End
exited_of line = option_map Exited (option_and_then word_of (after_word (codes "exited") line))

unfoldable pub killed_of : List ℕ → Option End
killed_of line = option_map Killed (option_and_then kill_numbered (option_and_then word_of (after_word (codes "killed") line)))

abbrev pub trap_by : Option ℕ → Option Cause → Option ℕ → Option ℕ → Option End
trap_by (Some hart) (Some cause) (Some pc) (Some value) = Some (Trapped hart cause pc value)
trap_by (Some hart) (Some cause) (Some pc) None = None
trap_by (Some hart) (Some cause) None value = None
trap_by (Some hart) None pc value = None
trap_by None cause pc value = None

-- pc and value, after hart and cause
abbrev pub trap_values : Option ℕ → Option Cause → Option (List ℕ × List ℕ) → Option End
trap_values hart cause None = None
trap_values hart cause (Some parts) = trap_by hart cause (word_of parts.0) (word_of parts.1)

abbrev pub trap_cause : Option ℕ → Option (List ℕ × List ℕ) → Option End
trap_cause hart None = None
trap_cause hart (Some parts) = trap_values hart (option_and_then cause_numbered (word_of parts.0)) (cut parts.1)

abbrev pub trap_words : Option (List ℕ × List ℕ) → Option End
trap_words None = None
trap_words (Some parts) = trap_cause (word_of parts.0) (cut parts.1)

unfoldable pub trapped_of : List ℕ → Option End
trapped_of line = trap_words (option_and_then cut (after_word (codes "trapped") line))

abbrev pub or_else : Option End → Option End → Option End
or_else (Some one) other = Some one
or_else None other = other

unfoldable pub end_of : List ℕ → Option End
end_of line = or_else (exited_of line) (or_else (trapped_of line) (killed_of line))
