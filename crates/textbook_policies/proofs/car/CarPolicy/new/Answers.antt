use Rattle.std.proofs.Common.{refl}
use Rattle.textbook_policies.proofs.CarLaws.{car_opens}
use Rattle.textbook_policies.proofs.car.CarPolicy.new.Goals as goal

pub returns-clause-misses : goal.returns-clause-misses
returns-clause-misses c = car_opens (record { frames = c.number.result; t1 = c.in_ok-new.field-0; t2 = c.in_ok-new-2.field-0; b1 = c.in_ok-new-3.field-0; b2 = c.in_ok-new-4.field-0; referenced = c.no_bits.result; target = 0 }) c.args.frames.number
    c.number.ensures.number c.in_ok-new.ensures c.in_ok-new-2.ensures c.in_ok-new-3.ensures c.in_ok-new-4.ensures c.no_bits.ensures refl
