use Rattle.std.proofs.Common.{◌≡◌, ℕ, List, ◌++◌, length, refl, ap, subst, ◌∙◌, append_assoc}
use Rattle.std.proofs.lemmas.Result.{on_ok_weaker}
use Rattle.backtrace.specs.Code.{CodeValue, PlacesValue}
use Rattle.backtrace.specs.Tracing.{IsTrace}
use Rattle.backtrace.specs.Lines.{FormValue, contexts_of, form_of, frame_lines, pointed_text, shown_states, traces_text}
use Rattle.backtrace.proofs.stacks.put_stack.Goals as goal

pub returns : goal.returns
unfolding traces_text
returns c =
    let registers = c.args.shared.now.options.registers in
    let places = c.args.shared.now.places.now in
    let t = c.in_ok-trace.trace.trace in
    let form = form_of registers c.args.interrupted places t in
    let n = length (contexts_of t) in
    let lines = frame_lines form 0 (shown_states (contexts_of t)) in
    let same : c.form_of-form.result ≡ form = c.form_of-form.ensures in
    let first : c.put_states.new.report ≡ c.args.report.now ++ lines =
    subst (λ (f : FormValue). c.put_states.new.report ≡ c.args.report.now ++ frame_lines f 0 (shown_states (contexts_of t))) same c.in_ok-put_states.ensures in
    let named : c.places.inside.code ≡ places.code = ap (λ (p : PlacesValue). p.code) c.places.view_is in
    let trace : IsTrace c.args.shared.now.space.now places.code c.args.start.now c.args.interrupted c.args.shared.now.limit t =
    subst (λ (k : List CodeValue). IsTrace c.args.shared.now.space.now k c.args.start.now c.args.interrupted c.args.shared.now.limit t) named c.in_ok-trace.ensures.trace in
    on_ok_weaker c.put_guesses.result
    (λ e.
    let rest = pointed_text form n t.why e.0 in
    let last : c.put_guesses.new.report ≡ c.put_states.new.report ++ rest = subst (λ (f : FormValue). c.put_guesses.new.report ≡ c.put_states.new.report ++ pointed_text f n t.why e.0) same e.2 in
    let all : c.put_guesses.new.report ≡ c.args.report.now ++ (lines ++ rest) = last ∙ (ap (λ (m : List ℕ). m ++ rest) first ∙ append_assoc c.args.report.now lines rest) in
    (lines ++ rest, all, (t, e.0, trace, e.1, refl)))
    c.put_guesses.ensures
