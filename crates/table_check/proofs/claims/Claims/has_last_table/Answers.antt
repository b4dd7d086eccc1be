use Rattle.std.proofs.Common.{◌-◌, length, sym, ap, ◌∙◌}
use Rattle.table_check.specs.declared.claims.Claim.{Claim}
use Rattle.table_check.specs.Claiming.{is_some_table}
use Rattle.table_check.proofs.Claimed.{last_index, table_last}
use Rattle.table_check.proofs.claims.Claims.has_last_table.Goals as goal

pub returns-clause-table : goal.returns-clause-table
returns-clause-table c =
    let old : Claim = c.index.result.now in
    let count = last_index c.self.inside.claims.len (length c.self.inside.claims.items) c.len-last.result c.is_empty.result c.is_empty.ensures c.if-is_empty.false c.len-last.ensures c.self.inside.claims.ok.0 in
    ap (λ (x : Claim). x.has_table) c.index.ensures ∙ sym (table_last c.self.inside.claims.items (c.len-last.result - 1) old count) ∙ ap is_some_table c.self.view_is
