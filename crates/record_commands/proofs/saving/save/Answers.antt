use Rattle.std.proofs.Common.{◌≡◌, ◌∙◌, ℕ, List, option_map, refl, sym, subst}
use Rattle.run_records.specs.Records.{record_text, value_of}
use Rattle.record_commands.specs.Saved.{HoldsOther, Replaces, SavesIn, SparesOthers}
use Rattle.record_commands.proofs.saving.save.Goals as goal

pub returns-then-not-branch-clause-other : goal.returns-then-not-branch-clause-other
returns-then-not-branch-clause-other g c =
    subst (λ (n : List ℕ). HoldsOther g.R.Folder.gives n c.args.told.now.image) (c.as_str.ensures.value ∙ c.in_ok-name.ensures) (c.in_ok-is_free.ensures.no c.if-not-branch.true)

pub returns-in-Ok-clause-saved : goal.returns-in-Ok-clause-saved
returns-in-Ok-clause-saved g c =
    let told = value_of c.args.told.now in
    let named = c.in_ok-name.ensures in
    let taken = subst (λ (n : List ℕ). g.R.WholeFiles.takes n (record_text told)) (c.as_str-2.ensures.value ∙ named)
    (subst (λ (t : List ℕ). g.R.WholeFiles.takes c.as_str-2.result.now t) (c.as_slice.ensures.value ∙ c.in_ok-text.ensures) c.in-Ok.ensures.taken) in
    let spares = subst (λ (n : List ℕ). SparesOthers g.R.Folder.gives g.R.Folder.withholds n c.args.told.now.image) (c.as_str.ensures.value ∙ named) (c.in_ok-is_free.ensures.yes c.if-not-branch.false) in
    subst (λ f. SavesIn (Replaces g.R.Folder.gives g.R.Folder.withholds g.R.WholeFiles.takes) (option_map (λ s. s.now) f) c.args.seed told) (sym c.in-Some.is) (taken, (told, (refl, spares)))
