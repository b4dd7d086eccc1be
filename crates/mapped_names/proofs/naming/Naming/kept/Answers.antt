use Rattle.std.proofs.Common.{ap}
use Rattle.mapped_names.specs.Places.{NamingValue}
use Rattle.mapped_names.specs.Reading.{IsFileAt}
use Rattle.mapped_names.proofs.Files.{lent}
use Rattle.mapped_names.proofs.naming.Naming.kept.Goals as goal

pub returns : goal.returns
returns g c = λ all tells.
    let told = c.self.invariant all (rw (ap (λ (v : NamingValue _). v.files) c.self.view_is) tells) c.args.index in
    lent (IsFileAt all c.args.self.now.parts c.args.index) c.get.result _ c.get.ensures.value (rw (ap (λ (v : NamingValue _). v.parts) c.self.view_is) at told)
