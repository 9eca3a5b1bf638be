use Rattle.std.proofs.Common.{◌≡◌, ◌∙◌, ℕ, List, map, rules, ap, arith}
use Rattle.std.specs.Prelude.{Vec}
use Rattle.std.specs.declared.alloc.Global.{Global}
use Rattle.trace_files.proofs.WordLaws.{put_at, put_in}
use Rattle.trace_files.specs.WordNumbers.{number_of, with_word}
use Rattle.trace_files.proofs.word_list.WordList.add.Goals as goal

abbrev text : Vec ℕ Global → List ℕ
text kept = kept.items

pub returns-clause-number : goal.returns-clause-number
returns-clause-number c =
    let keys : List (Vec ℕ Global) = c.self.inside.words.keys in
    let is : c.extend_from_slice.new.self.items ≡ c.args.word.now = first_of (cc, search rules, grind arith) in
    let view : map text keys ≡ c.args.self.now = c.self.view_is in
    c.in-Ok.ensures.index ∙ put_at text keys c.extend_from_slice.new.self
    ∙ ap (λ (w : List ℕ). number_of w (map text keys)) is ∙ ap (number_of c.args.word.now) view

pub returns-clause-words : goal.returns-clause-words
returns-clause-words c =
    let keys : List (Vec ℕ Global) = c.self.inside.words.keys in
    let is : c.extend_from_slice.new.self.items ≡ c.args.word.now = first_of (cc, search rules, grind arith) in
    let view : map text keys ≡ c.args.self.now = c.self.view_is in
    ap (map text) c.in-Ok.ensures.keys ∙ put_in text keys c.extend_from_slice.new.self
    ∙ ap (λ (w : List ℕ). with_word w (map text keys)) is ∙ ap (with_word c.args.word.now) view
