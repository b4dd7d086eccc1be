use Rattle.std.proofs.Common.{◌≡◌, ◌-◌, List, false, true, length, sym, ap, ◌∙◌}
use Rattle.table_check.specs.declared.claims.Claim.{Claim}
use Rattle.table_check.specs.Claiming.{is_some_table, with_last, with_table}
use Rattle.table_check.proofs.Claimed.{changed, last_index, table_added, table_last, table_there}
use Rattle.table_check.proofs.claims.Claims.table.Goals as goal

pub returns-then-has_last_table-clause-added : goal.returns-then-has_last_table-clause-added
returns-then-has_last_table-clause-added c = sym (table_there c.args.self.now (sym c.has_last_table.ensures.table ∙ c.if-has_last_table.true))

pub returns-clause-added : goal.returns-clause-added
returns-clause-added c =
    let old : Claim = c.index_mut-claim.result.now in
    let cs : List Claim = c.self.inside.claims.items in
    let count = last_index c.self.inside.claims.len (length c.self.inside.claims.items) c.len-last.result c.is_empty.result c.is_empty.ensures c.if-is_empty.false c.len-last.ensures c.self.inside.claims.ok.0 in
    let table : old.has_table ≡ false = ap (λ (x : Claim). x.has_table) c.index_mut-claim.ensures.value ∙ sym (table_last cs (c.len-last.result - 1) old count) ∙ ap is_some_table c.self.view_is ∙ sym c.has_last_table.ensures.table ∙ c.if-has_last_table.false in
    changed with_table cs (c.len-last.result - 1) (record old { sites = c.clear.new.self; has_table = true }) old count c.index_mut-claim.ensures.value
    (table_added old c.clear.new.self.items table c.clear.ensures.items) ∙ ap (with_last with_table) c.self.view_is
