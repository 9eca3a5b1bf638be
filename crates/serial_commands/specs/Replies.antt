-- What is printed of replies.
use Rattle.std.specs.Prelude.{ℕ, List, [], ◌∷◌, ◌++◌}
use Rattle.std.specs.List.{flat_map}
use Rattle.event_scripts.specs.ReplyText.{reply_text}
use Rattle.machine_core.specs.declared.event.Reply.{Reply}

-- a line of a reply
abbrev pub reply_line : Reply → List ℕ
reply_line reply = reply_text reply ++ 10 ∷ []

-- of each its line, one after another
abbrev pub replies_text : List Reply → List ℕ
replies_text replies = flat_map reply_line replies
