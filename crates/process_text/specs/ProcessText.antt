-- What is printed of a process that has run.
use Rattle.std.specs.Prelude.{ℕ, ◌-◌, true, List, [], ◌∷◌, ◌++◌, codes, length, replicate}
use Rattle.std.specs.Fmt.{decimal, digits}
use Rattle.flat_machine.specs.Ending.{kill_text}
use Rattle.flat_machine.specs.declared.end.End.{End}
use Rattle.flat_machine.specs.declared.end.End.TheVariants.{Exited, Trapped, Killed}
use Rattle.rv_exec.specs.Causes.{cause_number}

-- the end of a line
abbrev pub line_end : List ℕ
line_end = 10 ∷ []

-- a word: `0x` and eight hexadecimal digits, the letters large
unfoldable pub word_text : ℕ → List ℕ
word_text word = codes "0x" ++ replicate (8 - length (digits 16 true word)) 48 ++ digits 16 true word

-- how a process ended; of one that trapped the cause by its number
abbrev pub ending_text : End → List ℕ
ending_text (Exited status) = codes "exited " ++ decimal status
ending_text (Trapped hart cause pc value) =
    codes "trap " ++ decimal (cause_number cause) ++ codes " hart " ++ decimal hart ++ codes " pc " ++ word_text pc ++ codes " value " ++ word_text value
ending_text (Killed cause) = codes "killed " ++ kill_text cause

-- the output of a process, after a line that gives its length
unfoldable pub length_text : ℕ → ℕ → List ℕ
length_text number bytes = codes "process " ++ decimal number ++ codes " output " ++ decimal bytes ++ line_end

abbrev pub output_text : ℕ → List ℕ → List ℕ
output_text number output = length_text number (length output) ++ (output ++ line_end)

-- the line that reports how it ended, and after how many steps
unfoldable pub end_text : ℕ → End → ℕ → List ℕ
end_text number end steps = codes "process " ++ decimal number ++ codes " " ++ ending_text end ++ codes " after " ++ decimal steps ++ codes " steps" ++ line_end

-- the report of the process with this number
abbrev pub process_text : ℕ → List ℕ → End → ℕ → List ℕ
process_text number output end steps = output_text number output ++ end_text number end steps
