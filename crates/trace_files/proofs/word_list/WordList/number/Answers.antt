use Rattle.std.proofs.Common.{◌≡◌, ◌∙◌, ℕ, List, map, ap, sym}
use Rattle.std.specs.Prelude.{Vec}
use Rattle.std.specs.declared.alloc.Global.{Global}
use Rattle.trace_files.proofs.WordLaws.{found_number, found_words}
use Rattle.trace_files.specs.WordNumbers.{number_of, with_word}
use Rattle.trace_files.proofs.word_list.WordList.number.Goals as goal

abbrev text : Vec ℕ Global → List ℕ
text kept = kept.items

pub returns-in-Some-clause-number : goal.returns-in-Some-clause-number
returns-in-Some-clause-number c =
    let keys : List (Vec ℕ Global) = c.self.inside.words.keys in
    let view : map text keys ≡ c.args.self.now = c.self.view_is in
    found_number text c.args.word.now keys c.in-Some.number c.in-Some.ensures.index ∙ ap (number_of c.args.word.now) view

pub returns-in-Some-clause-words : goal.returns-in-Some-clause-words
returns-in-Some-clause-words c =
    let keys : List (Vec ℕ Global) = c.self.inside.words.keys in
    let view : map text keys ≡ c.args.self.now = c.self.view_is in
    sym view ∙ found_words text c.args.word.now keys c.in-Some.number c.in-Some.ensures.index ∙ ap (with_word c.args.word.now) view
