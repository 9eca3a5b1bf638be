-- Why a file with words is not had, as a fault of a command on records.
use Rattle.std.proofs.Common.{◌≡◌, ℕ, List, [], ◌∷◌, inl, inr, subst, sym}
use Rattle.image_files.specs.Faults.{IsUnread}
use Rattle.image_files.specs.declared.fault.Fault.{Fault}
use Rattle.run_records.specs.declared.fingerprint.Fingerprint.{Fingerprint}
use Rattle.guest_words.specs.Given.{GivesNoWords, RefusesWords}
use Rattle.guest_words.specs.declared.fault.WordsFault.{WordsFault}
use Rattle.guest_words.specs.declared.fault.WordsFault.TheVariants as words
use Rattle.record_commands.specs.Replayed.{IsNoImageOf, words_fault}

-- words that fit want memory
lacks : (withholds : List ℕ → Type 0) (name : List ℕ) (given : List (List ℕ)) (old : List ℕ) (why : Fault) → RefusesWords name given old (words.Fault why) → IsUnread withholds name why
lacks withholds name [] old why refuses = absurd refuses
lacks withholds name (word ∷ given) old why refuses = subst (IsUnread withholds name) (sym refuses.0) (tt {0})

pub refused_words : (gives : List ℕ → List ℕ → Type 0) (withholds : List ℕ → Type 0) (given : List (List ℕ)) (name : List ℕ) (print : Fingerprint) (why : WordsFault)
    → GivesNoWords gives withholds given name why → IsNoImageOf gives withholds given name print (words_fault why)
refused_words gives withholds given name print (words.Fault why) (inl unread) = inl unread
refused_words gives withholds given name print (words.Fault why) (inr other) = inl (lacks withholds name given other.0 why other.1.1)
refused_words gives withholds given name print (words.NoObject named) refuses = refuses
refused_words gives withholds given name print (words.TooLong named need room) refuses = refuses
