-- One more register's line.
use Rattle.std.proofs.Common.{◌≡◌, ℕ, ◌+◌, ◌++◌, ◌∷◌, List, [], add-one, append_assoc, refl, codes}
use Rattle.std.specs.Fmt.{decimal}
use Rattle.rv_exec.specs.Registers.{Registers, register}
use Rattle.debug_session.specs.ReplyText.{register_lines, word_text}

pub no_lines : (regs : Registers) → register_lines 0 regs ≡ []
unfolding register_lines
no_lines regs = refl

pub one_more : (regs : Registers) (n : ℕ) → register_lines (n + 1) regs
    ≡ register_lines n regs ++ (10 ∷ codes "x" ++ decimal (n + 1) ++ codes " " ++ word_text (register regs (n + 1)))
unfolding register_lines
one_more regs n = rw (add-one n) refl

pub joined : (front pc lines line : List ℕ) → (front ++ pc ++ lines) ++ line ≡ front ++ pc ++ (lines ++ line)
joined front pc lines line = append_assoc (front ++ pc) lines line
