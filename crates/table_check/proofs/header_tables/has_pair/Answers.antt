use Rattle.std.proofs.Common.{sym, subst, eq-eqb}
use Rattle.std.specs.List.{Contains}
use Rattle.std.proofs.lemmas.Bool.{eqb-true}
use Rattle.table_check.proofs.Deciding.{decides_no}
use Rattle.table_check.proofs.header_tables.has_pair.Goals as goal

pub returns-in-Some : goal.returns-in-Some
returns-in-Some c read r =
    let p = c.in-Some.ensures read r in (
      λ e. subst (λ n. Contains read (c.args.start, n)) (eqb-true c.in-Some.found c.args.place e) p.0,
      λ has. eq-eqb c.in-Some.found c.args.place (sym (p.1 c.args.place has)),
    )

pub returns-in-None : goal.returns-in-None
returns-in-None c read r = decides_no (λ has. c.in-None.ensures read r c.args.place has)
