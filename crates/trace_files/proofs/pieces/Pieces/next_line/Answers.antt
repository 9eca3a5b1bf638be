use Rattle.std.proofs.Common.{◌≡◌, ◌∙◌, ℕ, List, Bool, true, false, ap, arith, subst, sym}
use Rattle.trace_files.proofs.LinesTold.{line_breaks, line_passed, lines_over, same_kind}
use Rattle.trace_lines.specs.Lines.{said, word_of}
use Rattle.trace_files.specs.WordNumbers.{resolved, words_behind}
use Rattle.trace_files.specs.References.{pieces_of}
use Rattle.trace_files.specs.ReferenceAnswers.{TakesPiece}
use Rattle.trace_files.proofs.pieces.Pieces.next_line.Goals as goal

pub returns-then-not-branch-clause-told : goal.returns-then-not-branch-clause-told
returns-then-not-branch-clause-told g c =
    let known = g.B.Read.remaining c.args.self.now.file in
    let rest = g.B.Read.remaining c.read.new.self.file in
    let piece = c.read.new.self.last.items in
    let absent : c.in_ok-read.field-0 ≡ false = grind arith in
    lines_over c.args.format.now c.args.self.now.count c.read.new.self.count c.args.self.now.words c.in_ok-read.ensures.counted piece c.read.new.self.words known rest
    (subst (λ (b : Bool). TakesPiece (pieces_of c.args.format.now) b piece known rest) absent c.in_ok-read.ensures.taken)

pub returns-in-Ok-clause-told : goal.returns-in-Ok-clause-told
returns-in-Ok-clause-told g c =
    let known = g.B.Read.remaining c.args.self.now.file in
    let rest = g.B.Read.remaining c.read.new.self.file in
    let piece = c.read.new.self.last.items in
    let there : c.in_ok-read.field-0 ≡ true = grind arith in
    let reads : c.in-Ok.told ≡ resolved c.args.self.now.words (word_of c.args.format.now c.read.new.self.count piece) c.in-Some.line =
    c.in-Ok.ensures.line
    ∙ ap (λ (w : List (List ℕ)). resolved w (word_of c.args.format.now c.read.new.self.count c.as_slice-piece.result.now) c.in-Some.line) c.read.ensures.words
    ∙ ap (λ (p : List ℕ). resolved c.args.self.now.words (word_of c.args.format.now c.read.new.self.count p) c.in-Some.line) c.as_slice-piece.ensures.value in
    let keeps : c.resolve.new.words ≡ words_behind c.args.self.now.words (word_of c.args.format.now c.read.new.self.count piece) c.in-Some.line =
    c.in-Ok.ensures.words
    ∙ ap (λ (w : List (List ℕ)). words_behind w (word_of c.args.format.now c.read.new.self.count c.as_slice-piece.result.now) c.in-Some.line) c.read.ensures.words
    ∙ ap (λ (p : List ℕ). words_behind c.args.self.now.words (word_of c.args.format.now c.read.new.self.count p) c.in-Some.line) c.as_slice-piece.ensures.value in
    line_passed c.args.format.now c.args.self.now.count c.read.new.self.count c.args.self.now.words c.in_ok-read.ensures.counted piece c.in-Some.line c.in-Ok.told c.format_behind.result c.resolve.new.words
    (ap (said c.args.format.now c.read.new.self.count) (sym c.as_slice.ensures.value) ∙ sym c.in-Some.ensures) reads keeps c.format_behind.ensures known rest
    (subst (λ (b : Bool). TakesPiece (pieces_of c.args.format.now) b piece known rest) there c.in_ok-read.ensures.taken)

pub returns-in-Ok-clause-form : goal.returns-in-Ok-clause-form
returns-in-Ok-clause-form g c = same_kind c.in-Some.line c.args.format.now c.format_behind.result c.format_behind.ensures

pub returns-in-None-clause-told : goal.returns-in-None-clause-told
returns-in-None-clause-told g c =
    let known = g.B.Read.remaining c.args.self.now.file in
    let rest = g.B.Read.remaining c.read.new.self.file in
    let piece = c.read.new.self.last.items in
    let there : c.in_ok-read.field-0 ≡ true = grind arith in
    line_breaks c.args.format.now c.args.self.now.count c.read.new.self.count c.args.self.now.words c.in_ok-read.ensures.counted piece c.bad_piece.result known rest
    (subst (λ (b : Bool). TakesPiece (pieces_of c.args.format.now) b piece known rest) there c.in_ok-read.ensures.taken)
    (ap (said c.args.format.now c.read.new.self.count) (sym c.as_slice.ensures.value) ∙ sym c.in-None.ensures) c.bad_piece.ensures.breaks
