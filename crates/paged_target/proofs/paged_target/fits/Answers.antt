use Rattle.paged_target.proofs.Recorded.{fits_by, full_by_schedule, room_by}
use Rattle.paged_target.proofs.paged_target.fits.Goals as goal

pub returns-clause-roomy : goal.returns-clause-roomy
returns-clause-roomy g c fit = fits_by c.args.core.now c.in-Some.schedule.now c.args.hart c.fits.result c.turns-turns.ensures.joined c.in-Some.ensures c.fits.ensures fit

pub returns-clause-full : goal.returns-clause-full
returns-clause-full g c unfit = full_by_schedule c.args.core.now c.in-Some.schedule.now c.args.hart c.fits.result c.turns-turns.ensures.joined c.in-Some.ensures c.fits.ensures unfit

pub returns-clause-room : goal.returns-clause-room
returns-clause-room g c fit = room_by c.args.core.now c.in-Some.schedule.now c.args.hart c.fits.result c.in-Some.ensures c.fits.ensures fit
