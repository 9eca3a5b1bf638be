-- What is printed of a reply.
use Rattle.std.specs.Prelude.{ℕ, zero, suc, ◌/◌, ◌%◌, true, false, None, Some, List, [], ◌∷◌, ◌++◌, codes, flat_map}
use Rattle.std.specs.Fmt.{decimal, digit_glyph}
use Rattle.process_text.specs.ProcessText.{ending_text}
use Rattle.rv_exec.specs.Registers.{Registers, register}
use Rattle.debug_core.specs.RefusalNumber.{refusal_number}
use Rattle.debug_core.specs.declared.point.DebugStep.TheVariants.{Ran, Absent}
use Rattle.debug_core.specs.declared.point.Why.{Why}
use Rattle.debug_core.specs.declared.point.Why.TheVariants as why
use Rattle.debug_session.specs.declared.reply.DebugReply.{DebugReply}
use Rattle.debug_session.specs.declared.reply.DebugReply.TheVariants.{Point, Removed, Stepped, Stopped, Told, Ending, Live, Registers as Values, Bytes, Refused}

-- a byte in two hexadecimal digits, their letters capital
unfoldable pub byte_text : ℕ → List ℕ
byte_text byte = digit_glyph true (byte / 16) ∷ digit_glyph true (byte % 16) ∷ []

-- a word in eight of them, after `0x`
unfoldable pub word_text : ℕ → List ℕ
word_text word = codes "0x" ++ byte_text (word / 0x1000000) ++ byte_text (word / 0x10000 % 256) ++ byte_text (word / 0x100 % 256)
    ++ byte_text (word % 256)

-- the lines of x1 up to a register, each after a line end
unfoldable pub register_lines : ℕ → Registers → List ℕ
register_lines zero regs = []
register_lines (suc n) regs = register_lines n regs
    ++ (10 ∷ codes "x" ++ decimal (suc n) ++ codes " " ++ word_text (register regs (suc n)))

-- a line for pc, and one for each of x1 to x31
abbrev pub registers_text : Registers → List ℕ
registers_text regs = codes "pc " ++ word_text regs.pc ++ register_lines 31 regs

-- bytes with a space between two
abbrev pub bytes_text : List ℕ → List ℕ
bytes_text [] = []
bytes_text (byte ∷ bytes) = byte_text byte ++ flat_map (λ b. codes " " ++ byte_text b) bytes

-- why a debugger stopped, where the hart has its turn
abbrev pub why_text : Why → ℕ → List ℕ
why_text why.Ended turn = codes "ended"
why_text (why.Watch number) turn = codes "watch " ++ decimal number
why_text why.Gone turn = codes "gone"
why_text (why.Break number) turn = codes "break " ++ decimal number ++ codes " hart " ++ decimal turn
why_text why.Limit turn = codes "limit"
why_text why.Absent turn = codes "absent"

-- why a debugger stopped, with no hart
abbrev pub told_why : Why → List ℕ
told_why why.Ended = codes "ended"
told_why (why.Watch number) = codes "watch " ++ decimal number
told_why why.Gone = codes "gone"
told_why (why.Break number) = codes "break " ++ decimal number
told_why why.Limit = codes "limit"
told_why why.Absent = codes "absent"

abbrev pub reply_text : DebugReply → List ℕ
reply_text (Point number) = codes "point " ++ decimal number
reply_text Removed = codes "removed"
reply_text (Stepped Ran) = codes "ran"
reply_text (Stepped Absent) = codes "absent"
reply_text (Stopped why turn steps) = why_text why turn ++ codes " after " ++ decimal steps
reply_text (Told why last turn steps) =
    told_why why ++ codes " last " ++ decimal last ++ codes " turn " ++ decimal turn ++ codes " after " ++ decimal steps
reply_text (Ending None) = codes "goes on"
reply_text (Ending (Some end)) = ending_text end
reply_text (Live true) = codes "live"
reply_text (Live false) = codes "not live"
reply_text (Values regs) = registers_text regs
reply_text (Bytes bytes) = bytes_text bytes.items
reply_text (Refused refusal) = codes "refused " ++ decimal (refusal_number refusal)
