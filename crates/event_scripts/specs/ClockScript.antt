-- The lines of a clock script, and the calls of the replacement list that they represent.
use Rattle.std.specs.Prelude.{◌≡◌, ℕ, ◌==◌, List, [], ◌∷◌, Bool, codes}
use Rattle.std.specs.List.{before_first, after_first}
use Rattle.std.specs.Str.Parse.{digits_value}
use Rattle.clock_policy.specs.declared.key.Key.{Key}
use Rattle.clock_policy.specs.declared.answer.Bit.{Bit}
use Rattle.clock_policy.specs.declared.answer.Bit.TheVariants.{Zero, One, Gone}
use Rattle.text_lines.specs.Numbers.{IsUpTo, IsNumber, number_value}
use Rattle.event_scripts.specs.declared.clock_script.ClockCall.{ClockCall}
use Rattle.event_scripts.specs.declared.clock_script.ClockCall.TheVariants.{Admit, Ask, Answer, Restore, Withdraw, Purge, Show}

abbrev pub is_slash : ℕ → Bool
is_slash c = c == 47

-- a process, `/` and a page, both in decimal
abbrev pub IsKey : List ℕ → Type 0
IsKey text = IsUpTo 65535 10 (before_first is_slash text) × IsUpTo 1048575 10 (after_first is_slash text)

abbrev pub key_value : List ℕ → Key
key_value text = record { process = digits_value 10 (before_first is_slash text); vpn = digits_value 10 (after_first is_slash text) }

abbrev pub bit_name : Bit → List ℕ
bit_name Zero = codes "zero"
bit_name One = codes "one"
bit_name Gone = codes "gone"

-- the words with which a call is written
abbrev pub WritesCall : ClockCall → List (List ℕ) → Type 0
WritesCall (Admit key) words = (text : List ℕ) × (words ≡ codes "admit" ∷ text ∷ []) × IsKey text × (key ≡ key_value text)
WritesCall Ask words = words ≡ codes "ask" ∷ []
WritesCall (Answer bit) words = words ≡ bit_name bit ∷ []
WritesCall (Restore key) words = (text : List ℕ) × (words ≡ codes "restore" ∷ text ∷ []) × IsKey text × (key ≡ key_value text)
WritesCall (Withdraw key) words = (text : List ℕ) × (words ≡ codes "withdraw" ∷ text ∷ []) × IsKey text × (key ≡ key_value text)
WritesCall (Purge process) words = (text : List ℕ) × (words ≡ codes "purge" ∷ text ∷ []) × IsNumber 65535 text × (process ≡ number_value text)
WritesCall Show words = words ≡ codes "list" ∷ []
