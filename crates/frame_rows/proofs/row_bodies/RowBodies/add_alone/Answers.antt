use Rattle.std.proofs.Common.{◌≡◌, sym, length, ◌∙◌}
use Rattle.frame_rows.proofs.BodiesGrow.{any_err, all_same, all_still_in, all_in, grown}
use Rattle.frame_rows.proofs.row_bodies.RowBodies.add_alone.Goals as goal

pub invariant_of-self-in_err-push : goal.invariant_of-self-in_err-push
invariant_of-self-in_err-push c =
    let bodies = c.in_err-push.ensures.items in
    let rules = c.in_ok-extend_from_slice.ensures.items in
    rw (bodies, rules) (all_still_in c.self.inside.rules.items c.args.rules.now c.self.inside.bodies.items c.self.invariant)

pub returns-in_err-push-clause-same : goal.returns-in_err-push-clause-same
returns-in_err-push-clause-same c =
    let bodies = c.in_err-push.ensures.items in
    let rules = c.in_ok-extend_from_slice.ensures.items in
    any_err c.from_residual-in_err-push.result (rw (bodies, rules, sym c.self.view_is) (all_same c.self.inside.rules.items c.args.rules.now c.self.inside.bodies.items c.self.invariant))

pub invariant_of-self-2 : goal.invariant_of-self-2
invariant_of-self-2 c =
    let bodies = c.in_ok-push.ensures.items in
    let rules = c.in_ok-extend_from_slice.ensures.items in
    let first : c.len-first_rule.result ≡ length c.self.inside.rules.items = c.len-first_rule.ensures ∙ c.self.inside.rules.ok.0 in
    rw (bodies, rules, first)
    (all_in c.self.inside.rules.items c.args.rules.now c.args.cfa c.args.saved_args_size c.reach_of-reach.result c.self.inside.bodies.items c.self.invariant c.requires.ascending c.requires.few c.reach_of-reach.ensures)

pub returns-clause-added : goal.returns-clause-added
returns-clause-added c =
    let bodies = c.in_ok-push.ensures.items in
    let rules = c.in_ok-extend_from_slice.ensures.items in
    let first : c.len-first_rule.result ≡ length c.self.inside.rules.items = c.len-first_rule.ensures ∙ c.self.inside.rules.ok.0 in
    rw (bodies, rules, first, sym c.self.view_is)
    (grown c.self.inside.rules.items c.args.rules.now c.args.cfa c.args.saved_args_size c.reach_of-reach.result c.self.inside.bodies.items c.self.invariant)
