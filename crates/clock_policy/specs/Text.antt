-- What is printed of keys and kinds.
use Rattle.std.specs.Prelude.{ℕ, List, ◌++◌, codes}
use Rattle.std.specs.Fmt.{decimal}
use Rattle.clock_policy.specs.declared.key.Key.{Key}
use Rattle.clock_policy.specs.declared.entry.EntryKind.{EntryKind}
use Rattle.clock_policy.specs.declared.entry.EntryKind.TheVariants.{Hot, Test, Cold, Shadow}
use Rattle.clock_policy.specs.declared.answer.Kind.{Kind}
use Rattle.clock_policy.specs.declared.answer.Kind.TheVariants as kind

abbrev pub key_text : Key → List ℕ
key_text k = decimal k.process ++ codes "/" ++ decimal k.vpn

abbrev pub entry_kind_text : EntryKind → List ℕ
entry_kind_text Hot = codes "hot"
entry_kind_text Test = codes "test"
entry_kind_text Cold = codes "cold"
entry_kind_text Shadow = codes "shadow"

abbrev pub kind_text : Kind → List ℕ
kind_text kind.Hot = codes "hot"
kind_text kind.Test = codes "test"
