use Rattle.frame_rows.proofs.BodyMakes.{cfa_makes}
use Rattle.frame_rows.proofs.row_steps.SteppedBodies.make_cfa.Goals as goal

pub returns-clause-makes : goal.returns-clause-makes
returns-clause-makes c =
    let s = rw c.in-Some.is at c.in_ok-to.ensures.says in
    cfa_makes c.args.self.now c.with_cfa.new.self c.in_ok-to.ensures.grows c.args.place c.in-Some.to s.row s.within s.was c.args.register c.args.offset s.says
