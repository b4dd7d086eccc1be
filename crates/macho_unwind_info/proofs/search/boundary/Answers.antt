use Rattle.std.proofs.Common.{map, sym, subst}
use Rattle.macho_unwind_info.specs.Lookup.{Finds}
use Rattle.macho_unwind_info.proofs.LookupLemmas.{boundary_finds}
use Rattle.macho_unwind_info.proofs.search.boundary.Goals as goal

pub returns-clause-found : goal.returns-clause-found
returns-clause-found g c = subst (Finds (map g.T.Keyed.key c.args.records.now) c.args.p) (sym c.boundary.ensures.same) (boundary_finds (map g.T.Keyed.key c.args.records.now) c.args.p)
