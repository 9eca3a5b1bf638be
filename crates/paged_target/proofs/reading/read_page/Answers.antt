use Rattle.std.proofs.Common.{◌≡◌, ℕ, Option, None, Some, Err, ap, ◌∙◌, refl, replicate}
use Rattle.paged_target.proofs.Peeked.{bytes_are, given_back_never, none_are, page_small, peek_keeps}
use Rattle.paged_target.proofs.Showing.{shows_flat}
use Rattle.paged_target.proofs.reading.read_page.Goals as goal

pub returns-in-Some-Ok-clause-bytes : goal.returns-in-Some-Ok-clause-bytes
returns-in-Some-Ok-clause-bytes g c =
    bytes_are _ _ _ c.args.address c.args.bytes.now c.peek.new.bytes c.args.core.now c.peek.new.self (tt {0}) (shows_flat _ _ c.args.core.now (tt {0}) c.faithful.ensures c.requires.there) c.requires.within c.peek.auto.bytes c.in-Some-Ok.field-0
    c.in-Some-Ok.field-0-is c.in-Some-Ok.ensures

pub returns-in-Some-Ok-clause-kept : goal.returns-in-Some-Ok-clause-kept
returns-in-Some-Ok-clause-kept g c = peek_keeps _ _ _ c.args.address _ _ _ c.args.core.now c.peek.new.self c.in-Some-Ok.ensures

-- a clone of an option, told by cases
by_option : (x : Option ℕ) (C : Option ℕ → Type 0) → (C None → None ≡ x) → ((b : ℕ) → C (Some b) → Some b ≡ x) → (y : Option ℕ) → C y → y ≡ x
by_option x C none some None h = none h
by_option x C none some (Some b) h = some b h

pub returns-in-Some-Err-NotMapped-clause-bytes : goal.returns-in-Some-Err-NotMapped-clause-bytes
returns-in-Some-Err-NotMapped-clause-bytes g c =
    c.fill.ensures.after (by_option _ _ (λ h. refl) (λ b h. absurd h))
    ∙ ap (λ n. replicate n None) c.peek.auto.bytes
    ∙ none_are _ _ _ c.args.address c.args.bytes.now c.peek.new.bytes c.args.core.now c.peek.new.self (shows_flat _ _ c.args.core.now (tt {0}) c.faithful.ensures c.requires.there) (page_small c.args.address c.ranges.address.fits)
    c.requires.within c.in-Some-Err-NotMapped.field-0 (c.in-Some-Err-NotMapped.field-0-is ∙ ap Err c.in-Some-Err-NotMapped.field-0-0-is) c.in-Some-Err-NotMapped.ensures

pub returns-in-Some-Err-NotMapped-clause-kept : goal.returns-in-Some-Err-NotMapped-clause-kept
returns-in-Some-Err-NotMapped-clause-kept g c = peek_keeps _ _ _ c.args.address _ _ _ c.args.core.now c.peek.new.self c.in-Some-Err-NotMapped.ensures

pub unreachable-requires : goal.unreachable-requires
unreachable-requires g c =
    given_back_never _ _ _ c.args.address c.args.bytes.now c.peek.new.bytes c.args.core.now c.peek.new.self c.requires.intact c.in-Some-Err-Purged.field-0
    (c.in-Some-Err-Purged.field-0-is ∙ ap Err c.in-Some-Err-Purged.field-0-0-is) c.in-Some-Err-Purged.ensures
