use Rattle.std.proofs.Common.{◌≡◌, ℕ, ◌+◌, ◌-◌, ◌≤◌, ◌<◌, ◌++◌, [], length, List, Some, None, sym, ap, subst, ◌∙◌, arith}
use Rattle.std.proofs.lemmas.Result.{on_ok_weaker}
use Rattle.stack_walks.specs.declared.walk_end.EndReason.{EndReason}
use Rattle.backtrace.specs.Code.{CodeValue, PlacesValue}
use Rattle.backtrace.specs.FramePointers.{guess_after, IsWalkFrom}
use Rattle.backtrace.specs.Lines.{FormValue, contexts_of, end_line, frame_lines, pointed_form, shown_states}
use Rattle.backtrace.proofs.Guesses.{LeadsOn, fewer_after, leads_on, left_of, walk_most}
use Rattle.backtrace.proofs.stacks.put_guesses.Goals as goal

-- The number of states, and that the walk is one from the caller.
pub put_walked-requires : goal.put_walked-requires
put_walked-requires c =
    let most = walk_most c.args.shared.now.space.now c.saturating_sub-left.result c.in-Some.caller c.walk_from.new.self.trace c.walk_from.ensures.walk in
    let left : c.saturating_sub-left.result ≡ c.args.shared.now.limit - c.walks.count = c.saturating_sub-left.ensures in
    let few : c.walks.count ≤ c.args.shared.now.limit + 1 = c.walks.invariant.few in
    record { first = omega arith; states = omega arith }

pub overflow_add-count : goal.overflow_add-count
overflow_add-count c =
    let most = walk_most c.args.shared.now.space.now c.saturating_sub-left.result c.in-Some.caller c.walk_from.new.self.trace c.walk_from.ensures.walk in
    let left : c.saturating_sub-left.result ≡ c.args.shared.now.limit - c.walks.count = c.saturating_sub-left.ensures in
    let few : c.walks.count ≤ c.args.shared.now.limit + 1 = c.walks.invariant.few in
    let more : c.walked_len-count.result ≡ length c.walk_from.new.self.trace.states = c.walked_len-count.ensures in
    omega arith

pub walks-smaller : goal.walks-smaller
walks-smaller c =
    let o = c.args.shared.now.options.frame_pointers in
    let space = c.args.shared.now.space.now in
    let code = c.args.shared.now.places.now.code in
    let limit = c.args.shared.now.limit in
    let n = c.walks.count in
    let t = c.walks.trace.trace in
    let u = c.walk_from.new.self.trace in
    let named : c.places.inside.code ≡ code = ap (λ (p : PlacesValue). p.code) c.places.view_is in
    let some : guess_after o space code t ≡ Some c.in-Some.caller = subst (λ (k : List CodeValue). guess_after o space k t ≡ Some c.in-Some.caller) named (sym c.in-Some.ensures) in
    let walk : IsWalkFrom space (limit - n) c.in-Some.caller u = subst (λ (m : ℕ). IsWalkFrom space m c.in-Some.caller u) c.saturating_sub-left.ensures c.walk_from.ensures.walk in
    subst (λ (k : ℕ). left_of o space code limit (n + k) u < left_of o space code limit n t) (sym c.walked_len-count.ensures) (fewer_after o space code limit n t c.in-Some.caller u some walk)

pub walks-preserved : goal.walks-preserved
walks-preserved c =
    let o = c.args.shared.now.options.frame_pointers in
    let space = c.args.shared.now.space.now in
    let code = c.args.shared.now.places.now.code in
    let limit = c.args.shared.now.limit in
    let form = c.args.form.now in
    let n₀ = c.contexts_len-count.result in
    let n = c.walks.count in
    let t = c.walks.trace.trace in
    let u = c.walk_from.new.self.trace in
    let named : c.places.inside.code ≡ code = ap (λ (p : PlacesValue). p.code) c.places.view_is in
    let some : guess_after o space code t ≡ Some c.in-Some.caller = subst (λ (k : List CodeValue). guess_after o space k t ≡ Some c.in-Some.caller) named (sym c.in-Some.ensures) in
    let walk : IsWalkFrom space (limit - n) c.in-Some.caller u = subst (λ (m : ℕ). IsWalkFrom space m c.in-Some.caller u) c.saturating_sub-left.ensures c.walk_from.ensures.walk in
    let lines : c.put_walked.new.report ≡ c.walks.report ++ frame_lines (pointed_form form n) n (shown_states u.states) =
    subst (λ (f : FormValue). c.put_walked.new.report ≡ c.walks.report ++ frame_lines f n (shown_states u.states)) c.pointed_form.ensures c.in_ok-put_walked.ensures in
    let count : c.walked_len-count.result ≡ length u.states = c.walked_len-count.ensures in
    let most : length u.states ≤ limit - n = walk_most space (limit - n) c.in-Some.caller u walk in
    let few : n ≤ limit + 1 = c.walks.invariant.few in
    let on = leads_on o space code limit form (length (contexts_of c.args.trace.now.trace)) c.args.trace.now.trace c.args.report.now n t c.walks.report c.in-Some.caller u c.put_walked.new.report some walk lines c.walks.invariant.leads in
    record {
      places = c.walk_from.ensures.places ∙ c.walks.invariant.places;
      few = omega arith;
      leads = subst (λ (k : ℕ). LeadsOn o space code limit form (length (contexts_of c.args.trace.now.trace)) c.args.trace.now.trace c.args.report.now (n + k) u c.put_walked.new.report) (sym count) on;
    }

pub returns : goal.returns
returns c =
    let o = c.args.shared.now.options.frame_pointers in
    let space = c.args.shared.now.space.now in
    let code = c.args.shared.now.places.now.code in
    let t = c.walks.trace.trace in
    let named : c.places.inside.code ≡ code = ap (λ (p : PlacesValue). p.code) c.places.view_is in
    let none : guess_after o space code t ≡ None = subst (λ (k : List CodeValue). guess_after o space k t ≡ None) named (sym c.in_default.ensures) in
    let all = c.walks.invariant.leads [] none in
    let shown : c.args.shared.now.places.now ≡ c.args.form.now.places = sym c.requires.shown in
    let ended : end_line c.args.shared.now.places.now c.why.result ≡ end_line c.args.form.now.places t.why = ap (λ (p : PlacesValue). end_line p c.why.result) shown ∙ ap (λ (w : EndReason). end_line c.args.form.now.places w) c.why.ensures in
    on_ok_weaker c.put_end.result (λ e. (all.0, all.1, e ∙ (ap (λ (m : List ℕ). c.walks.report ++ m) ended ∙ all.2))) c.put_end.ensures
