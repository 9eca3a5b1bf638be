-- One process more was counted, or makes the machine unsound.
use Rattle.std.proofs.Common.{◌≡◌, ◌<◌, false, true, length, refl, arith, subst, take}
use Rattle.std.proofs.lemmas.List.{take_all}
use Rattle.machine_sides.proofs.AuditLaws.{CountedSo, all_sound, counted_none, space_next, space_unsound, sound_all}
use Rattle.machine_sides.proofs.EverywhereLaws.{everywhere}
use Rattle.machine_sides.proofs.auditing.audit.Goals as goal

pub spaces-init : goal.spaces-init
spaces-init g c = counted_none c.args.pager.now.pager _ refl refl

pub spaces-preserved : goal.spaces-preserved
spaces-preserved g c =
    let small : c.spaces.number < length c.args.spaces.now = omega arith in
    space_next c.args.pager.now.pager c.args.spaces.now c.spaces.found c.in-Some.more c.spaces.number c.index-spaces-number.result small c.index-spaces-number.is c.spaces.invariant c.in-Some.ensures.some

pub returns-in-None-clause-exact : goal.returns-in-None-clause-exact
returns-in-None-clause-exact g c =
    let small : c.spaces.number < length c.args.spaces.now = omega arith in (
      (λ (no : false ≡ true). cc),
      (λ sound. absurd (space_unsound c.args.pager.now.pager c.args.spaces.now c.spaces.number c.index-spaces-number.result small c.index-spaces-number.is (c.in-None.ensures.none refl) sound)),
    )

pub returns-clause-exact : goal.returns-clause-exact
returns-clause-exact g c =
    let whole : take c.spaces.number c.args.spaces.now ≡ c.args.spaces.now = take_all c.spaces.number c.args.spaces.now (omega arith) in
    let counted = subst (λ l. CountedSo c.args.pager.now.pager l c.spaces.found c.spaces.number) whole c.spaces.invariant in (
      (λ yes. sound_all c.args.pager.now.pager c.args.spaces.now c.spaces.found c.spaces.number counted (c.is_all.ensures.0 yes)),
      (λ sound. c.is_all.ensures.1 (all_sound c.args.pager.now.pager c.args.spaces.now c.spaces.found c.spaces.number counted sound)),
    )

pub returns-clause-agree : goal.returns-clause-agree
returns-clause-agree g c all =
    let whole : take c.spaces.number c.args.spaces.now ≡ c.args.spaces.now = take_all c.spaces.number c.args.spaces.now (omega arith) in
    let counted = subst (λ l. CountedSo c.args.pager.now.pager l c.spaces.found c.spaces.number) whole c.spaces.invariant in
    everywhere c.args.pager.now.pager c.args.spaces.now c.question.ensures.lawful
    (sound_all c.args.pager.now.pager c.args.spaces.now c.spaces.found c.spaces.number counted (c.is_all.ensures.0 all))
