use Rattle.std.proofs.Common.{◌≡◌, Ok, sym, ap, ◌∙◌}
use Rattle.std.specs.Prelude.{◌==◌}
use Rattle.std.proofs.lemmas.Bool.{and_parts, eqb-true}
use Rattle.unwind_definitions.specs.Header.{pair_at}
use Rattle.eh_frame.specs.HeaderViews.{pairs_of}
use Rattle.table_check.proofs.Ascending.{starts_there}
use Rattle.table_check.proofs.header_tables.lists_next.Goals as goal

pub returns-then-are_same-clause-yes : goal.returns-then-are_same-clause-yes
returns-then-are_same-clause-yes c is so_far =
    let t = pairs_of c.args.pairs.now in
    let next = c.in-Some.ensures so_far in
    let same = and_parts (c.in-Some.first == c.args.start) (c.in-Some.found == c.args.place) (sym c.are_same.ensures ∙ c.if-are_same.true) in
    let at : pair_at t c.args.index ≡ Ok (c.args.start, c.args.place) =
    next.1 ∙ ap (λ n. Ok (n, c.in-Some.found)) (eqb-true c.in-Some.first c.args.start same.0) ∙ ap (λ n. Ok (c.args.start, n)) (eqb-true c.in-Some.found c.args.place same.1) in (
      next.2,
      λ read r. (starts_there t read r c.args.start c.args.index c.args.place next.0 at).0,
    )
