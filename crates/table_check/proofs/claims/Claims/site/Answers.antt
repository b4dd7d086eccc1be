use Rattle.std.proofs.Common.{◌≡◌, ◌-◌, List, true, length, refl, sym, ap, ◌∙◌}
use Rattle.std.specs.Prelude.{◌==◌}
use Rattle.std.proofs.lemmas.Bool.{ne_eqb}
use Rattle.unwinding_frames.specs.LanguageViews.{action_of}
use Rattle.table_check.specs.declared.claims.Claim.{Claim}
use Rattle.table_check.specs.declared.claims.ClaimedSite.{ClaimedSite}
use Rattle.table_check.specs.ClaimViews.{function_of, sites_of}
use Rattle.table_check.specs.Claiming.{is_some_table, with_last, with_site}
use Rattle.table_check.proofs.Claimed.{changed, kept, last_index, no_site, on_err, site_added, some_claims, table_last}
use Rattle.table_check.proofs.claims.Claims.site.Goals as goal

pub returns-then-not-has_last_table-clause-added : goal.returns-then-not-has_last_table-clause-added
returns-then-not-has_last_table-clause-added c = sym (no_site c.args.start c.args.end (action_of c.args.action) c.args.self.now (sym c.has_last_table.ensures.table ∙ c.if-not-has_last_table.true))

pub returns-in_err-push-clause-unchanged : goal.returns-in_err-push-clause-unchanged
returns-in_err-push-clause-unchanged c =
    let old : Claim = c.index_mut.result.now in
    let cs : List Claim = c.self.inside.claims.items in
    let count = last_index c.self.inside.claims.len (length cs) c.len-last.result (c.self.inside.claims.len == 0) refl (ne_eqb c.self.inside.claims.len 0 (λ none. some_claims cs (λ none. c.has_last_table.ensures.some c.if-not-has_last_table.false (sym c.self.view_is ∙ none)) (sym c.self.inside.claims.ok.0 ∙ none))) c.len-last.ensures c.self.inside.claims.ok.0 in
    let same = ap (λ l. record (function_of old) { sites = sites_of old.has_table l }) c.in_err-push.ensures.items in
    on_err c.from_residual.result _ (kept cs (c.len-last.result - 1) (record old { sites = c.push.new.self }) old count c.index_mut.ensures.value same ∙ c.self.view_is)

pub returns-clause-added : goal.returns-clause-added
returns-clause-added c =
    let old : Claim = c.index_mut.result.now in
    let cs : List Claim = c.self.inside.claims.items in
    let count = last_index c.self.inside.claims.len (length cs) c.len-last.result (c.self.inside.claims.len == 0) refl (ne_eqb c.self.inside.claims.len 0 (λ none. some_claims cs (λ none. c.has_last_table.ensures.some c.if-not-has_last_table.false (sym c.self.view_is ∙ none)) (sym c.self.inside.claims.ok.0 ∙ none))) c.len-last.ensures c.self.inside.claims.ok.0 in
    let one : ClaimedSite = record { range = record { from = c.args.start; to = c.args.end }; action = c.args.action } in
    let table : old.has_table ≡ true = ap (λ (x : Claim). x.has_table) c.index_mut.ensures.value ∙ sym (table_last cs (c.len-last.result - 1) old count) ∙ ap is_some_table c.self.view_is ∙ sym c.has_last_table.ensures.table ∙ c.if-not-has_last_table.false in
    changed (with_site c.args.start c.args.end (action_of c.args.action)) cs (c.len-last.result - 1) (record old { sites = c.push.new.self }) old count c.index_mut.ensures.value
    (site_added old c.push.new.self.items one table c.in_ok-push.ensures.items) ∙ ap (with_last (with_site c.args.start c.args.end (action_of c.args.action))) c.self.view_is
