use Rattle.std.proofs.Common.{◌≡◌, Option, Some, length, sym, ap, subst, arith}
use Rattle.std.specs.Bool.{Decides}
use Rattle.std.specs.Option.{option_map}
use Rattle.unwind_definitions.specs.Header.{PairTable}
use Rattle.eh_frame.specs.HeaderViews.{pairs_of}
use Rattle.table_check.specs.Pairs.{ListsAll}
use Rattle.table_check.proofs.Listed.{listed_decides}
use Rattle.table_check.proofs.header_tables.lists_all.Goals as goal

pub returns-then-len-found : goal.returns-then-len-found
returns-then-len-found c frame fdes many says =
    let t = pairs_of c.in-Some.pairs in
    let l = c.args.found.now.listed in
    let is : option_map pairs_of c.args.pairs.now ≡ Some t = ap (option_map pairs_of) c.in-Some.is in
    let len = c.len.ensures in let test = c.if-len-found.true in
    let count : t.count ≡ length fdes = omega (arith, len, test, many) in
    subst (λ (pairs : Option PairTable). Decides l.are_listed (ListsAll pairs frame fdes)) (sym is) (listed_decides t frame fdes l (says t is) count)
