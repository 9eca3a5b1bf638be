use Rattle.std.proofs.Common.{◌≡◌, Some, refl, rules, sym, ◌∙◌}
use Rattle.page_memory.specs.Entries.{place_of}
use Rattle.paged_memory.proofs.access_laws.LocateLaws.{refused_unmapped, refused_forbidden, allowed_absent, lacks_absent, located}
use Rattle.paged_memory.proofs.access.locate.Goals as goal

pub returns-in_default-clause-refused : goal.returns-in_default-clause-refused
returns-in_default-clause-refused g c = refused_unmapped c.args.pages.now c.args.access c.args.page (sym c.place.ensures.place ∙ c.in_default.is)

pub returns-then-not-allow-clause-refused : goal.returns-then-not-allow-clause-refused
returns-then-not-allow-clause-refused g c =
    let at : place_of c.args.page c.args.pages.now ≡ Some c.in-Some.place = sym c.place.ensures.place ∙ c.in-Some.is in
    refused_forbidden c.args.pages.now c.args.access c.args.page c.in-Some.place c.at-stored.result.now at c.at-stored.ensures c.rights-rights.result c.rights-rights.ensures c.if-not-allow.ensures

pub returns-in_default-frame_number-clause-refused :
    goal.returns-in_default-frame_number-clause-refused
returns-in_default-frame_number-clause-refused g c =
    let at : place_of c.args.page c.args.pages.now ≡ Some c.in-Some.place = sym c.place.ensures.place ∙ c.in-Some.is in
    let allowed = allowed_absent c.args.pages.now c.args.access c.args.page c.in-Some.place c.at-stored.result.now at c.at-stored.ensures c.rights-rights.result c.rights-rights.ensures c.if-not-allow.ensures in
    (refl, (rw allowed (search rules), lacks_absent c.args.pages.now c.args.access c.args.page c.in-Some.place c.at-stored.result.now at c.at-stored.ensures c.frame_number.result c.frame_number.ensures c.in_default-frame_number.is))

pub returns-clause-found : goal.returns-clause-found
returns-clause-found g c =
    let at : place_of c.args.page c.args.pages.now ≡ Some c.in-Some.place = sym c.place.ensures.place ∙ c.in-Some.is in
    located c.args.pages.now c.args.access c.args.page c.in-Some.place c.at-stored.result.now at c.at-stored.ensures c.rights-rights.result c.rights-rights.ensures c.if-not-allow.ensures c.frame_number.result c.in-Some-frame_number.frame
    c.frame_number.ensures c.in-Some-frame_number.is
