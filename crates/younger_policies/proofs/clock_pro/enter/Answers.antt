use Rattle.std.proofs.Common.{◌≡◌, ◌≢◌}
use Rattle.clock_policy.specs.declared.refusal.Refusal.TheVariants.{Full, AlreadyResident, NoQuestion, NotThere, NoMemory}
use Rattle.younger_policies.proofs.PlayLaws.{refused_by, refused_moved}
use Rattle.younger_policies.proofs.clock_pro.enter.Goals as goal

pub returns-in-Err-Full-clause-moved : goal.returns-in-Err-Full-clause-moved
returns-in-Err-Full-clause-moved g c =
    let is : c.in-Err-Full.field-0 ≡ Full = c.in-Err-Full.field-0-is in
    let other : refused_by c.in-Err-Full.field-0 ≢ refused_by NoMemory = λ h. cc in
    refused_moved c.args.page (g.C.Clock.state c.args.clock.now) (g.C.Clock.state c.admit.new.self) c.in-Err-Full.field-0 c.in-Err-Full.ensures.exact other c.in-Err-Full.ensures.err

pub returns-in-Err-AlreadyResident-clause-moved : goal.returns-in-Err-AlreadyResident-clause-moved
returns-in-Err-AlreadyResident-clause-moved g c =
    let is : c.in-Err-AlreadyResident.field-0 ≡ AlreadyResident = c.in-Err-AlreadyResident.field-0-is in
    let other : refused_by c.in-Err-AlreadyResident.field-0 ≢ refused_by NoMemory = λ h. cc in
    refused_moved c.args.page (g.C.Clock.state c.args.clock.now) (g.C.Clock.state c.admit.new.self) c.in-Err-AlreadyResident.field-0 c.in-Err-AlreadyResident.ensures.exact other c.in-Err-AlreadyResident.ensures.err

pub returns-in-Err-NoQuestion-clause-moved : goal.returns-in-Err-NoQuestion-clause-moved
returns-in-Err-NoQuestion-clause-moved g c =
    let is : c.in-Err-NoQuestion.field-0 ≡ NoQuestion = c.in-Err-NoQuestion.field-0-is in
    let other : refused_by c.in-Err-NoQuestion.field-0 ≢ refused_by NoMemory = λ h. cc in
    refused_moved c.args.page (g.C.Clock.state c.args.clock.now) (g.C.Clock.state c.admit.new.self) c.in-Err-NoQuestion.field-0 c.in-Err-NoQuestion.ensures.exact other c.in-Err-NoQuestion.ensures.err

pub returns-in-Err-NotThere-clause-moved : goal.returns-in-Err-NotThere-clause-moved
returns-in-Err-NotThere-clause-moved g c =
    let is : c.in-Err-NotThere.field-0 ≡ NotThere = c.in-Err-NotThere.field-0-is in
    let other : refused_by c.in-Err-NotThere.field-0 ≢ refused_by NoMemory = λ h. cc in
    refused_moved c.args.page (g.C.Clock.state c.args.clock.now) (g.C.Clock.state c.admit.new.self) c.in-Err-NotThere.field-0 c.in-Err-NotThere.ensures.exact other c.in-Err-NotThere.ensures.err
