use Rattle.std.proofs.Common.{◌-◌, length, map, ap, ◌∙◌}
use Rattle.table_check.specs.declared.claims.Claim.{Claim}
use Rattle.table_check.specs.declared.claims.AddressRange.{AddressRange}
use Rattle.table_check.specs.ClaimViews.{function_of, range_of}
use Rattle.table_check.specs.Claiming.{with_last, with_body}
use Rattle.table_check.proofs.Claimed.{changed, kept, last_index, on_err, body_added}
use Rattle.table_check.proofs.claims.Claims.body.Goals as goal

pub returns-in_err-push-clause-unchanged : goal.returns-in_err-push-clause-unchanged
returns-in_err-push-clause-unchanged c =
    let old : Claim = c.index_mut.result.now in
    let count = last_index c.self.inside.claims.len (length c.self.inside.claims.items) c.len-last.result c.is_empty.result c.is_empty.ensures c.if-is_empty.false c.len-last.ensures c.self.inside.claims.ok.0 in
    let same = ap (λ l. record (function_of old) { bodies = map range_of l }) c.in_err-push.ensures.items in
    on_err c.from_residual.result _ (kept c.self.inside.claims.items (c.len-last.result - 1) (record old { bodies = c.push.new.self }) old count c.index_mut.ensures.value same ∙ c.self.view_is)

pub returns-clause-added : goal.returns-clause-added
returns-clause-added c =
    let old : Claim = c.index_mut.result.now in
    let count = last_index c.self.inside.claims.len (length c.self.inside.claims.items) c.len-last.result c.is_empty.result c.is_empty.ensures c.if-is_empty.false c.len-last.ensures c.self.inside.claims.ok.0 in
    let one : AddressRange = record { from = c.args.start; to = c.args.end } in
    changed (with_body c.args.start c.args.end) c.self.inside.claims.items (c.len-last.result - 1) (record old { bodies = c.push.new.self }) old count c.index_mut.ensures.value
    (body_added old c.push.new.self.items one c.in_ok-push.ensures.items) ∙ ap (with_last (with_body c.args.start c.args.end)) c.self.view_is
