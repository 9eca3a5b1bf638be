use Rattle.std.proofs.Common.{ℕ, Option, Result, Ok, Err, IfOk, sym, subst}
use Rattle.elf_image.specs.Start.{Start, start_of}
use Rattle.guest_cli.specs.Answered.{TellsRun}
use Rattle.guest_cli.proofs.run_command.run_image.Goals as goal

both_ok : {A E : Type 0} (result : Result A E) (P Q : A → Type 0) → IfOk result P → IfOk result Q → IfOk result (λ done. P done × Q done)
both_ok (Ok done) P Q p q = (p, q)
both_ok (Err why) P Q p q = tt

pub returns-in-Some : goal.returns-in-Some
returns-in-Some g c =
    let start : Start = start_of c.args.image c.args.input.items in
    subst (λ (frames : Option ℕ). IfOk c.run.result (λ done. TellsRun g.M.FrameMachine.runs frames c.args.limit start (g.O.Write.contents c.args.out.now) (g.O.Write.contents c.run.new.out) done.0 done.1)) (sym c.in-Some.is)
    (both_ok c.run.result _ _ c.run.ensures.flat c.run.ensures.runs)

pub returns : goal.returns
returns g c =
    let start : Start = start_of c.args.image c.args.input.items in
    subst (λ (frames : Option ℕ). IfOk c.run_flat.result (λ done. TellsRun g.M.FrameMachine.runs frames c.args.limit start (g.O.Write.contents c.args.out.now) (g.O.Write.contents c.run_flat.new.out) done.0 done.1)) (sym c.in_default.is) c.run_flat.ensures
