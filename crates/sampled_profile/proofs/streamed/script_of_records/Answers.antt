use Rattle.std.proofs.Common.{◌≡◌, ℕ, List, Result, Ok, Err, subst}
use Rattle.perf_data.specs.declared.stream.StreamError.{StreamError}
use Rattle.perf_data.specs.declared.stream.StreamError.TheVariants.{Unread}
use Rattle.sampled_profile.specs.Streamed.{ScriptStreamed}
use Rattle.perf_data.specs.Streams.{due_left}
use Rattle.perf_data.proofs.StreamLemmas.{on_again}
use Rattle.sampled_profile.specs.Profiles.{tables}
use Rattle.sampled_profile.proofs.StreamedLemmas.{cause_due, cut_due, leads_whole, script_cut, script_error, script_whole}
use Rattle.sampled_profile.proofs.streamed.script_of_records.Goals as goal

abbrev failed : StreamError → Result (List ℕ) StreamError
failed e = Err e

pub returns-in_err-end_section-in-Ok-clause-due : goal.returns-in_err-end_section-in-Ok-clause-due
returns-in_err-end_section-in-Ok-clause-due g c =
    let told = c.in-Ok.ensures.script in
    script_cut c.from_residual.result c.in_err-end_section-in-Ok.field-0.0 (tables c.args.space.now c.args.origins.now c.args.limit) (due_left c.args.reader.now (g.I.Source.left c.args.input.now)) c.from_residual.ensures.1
    (cut_due c.in_err-end_section-in-Ok.field-0.0 (Ok told.0) (due_left c.args.reader.now (g.I.Source.left c.args.input.now)) (due_left c.put_records.new.reader (g.I.Source.left c.put_records.new.input)) told.2 c.in_err-end_section-in-Ok.ensures.cut)

pub returns-in_ok-end_section-in-Ok-clause-due : goal.returns-in_ok-end_section-in-Ok-clause-due
returns-in_ok-end_section-in-Ok-clause-due g c =
    let told = c.in-Ok.ensures.script in
    script_whole c.in-Ok.text told.0 (tables c.args.space.now c.args.origins.now c.args.limit) (due_left c.args.reader.now (g.I.Source.left c.args.input.now)) told.1 (leads_whole (Ok told.0) (due_left c.args.reader.now (g.I.Source.left c.args.input.now)) (due_left c.put_records.new.reader (g.I.Source.left c.put_records.new.input)) told.2 c.in_ok-end_section-in-Ok.ensures.whole)

pub returns-in_err-end_section-in-Ok-clause-on : goal.returns-in_err-end_section-in-Ok-clause-on
returns-in_err-end_section-in-Ok-clause-on g c = on_again _ _ _ _ _ _ c.put_records.ensures.on c.end_section.ensures.on

pub returns-in_ok-end_section-in-Ok-clause-on : goal.returns-in_ok-end_section-in-Ok-clause-on
returns-in_ok-end_section-in-Ok-clause-on g c = on_again _ _ _ _ _ _ c.put_records.ensures.on c.end_section.ensures.on

pub returns-in-Err-Unread-clause-on : goal.returns-in-Err-Unread-clause-on
returns-in-Err-Unread-clause-on g c = on_again _ _ _ _ _ _ c.put_records.ensures.on c.cause_of.ensures.on

pub returns-in-Err-Unread-clause-due : goal.returns-in-Err-Unread-clause-due
returns-in-Err-Unread-clause-due g c =
    let t = tables c.args.space.now c.args.origins.now c.args.limit in
    let due = due_left c.args.reader.now (g.I.Source.left c.args.input.now) in
    let later = due_left c.put_records.new.reader (g.I.Source.left c.put_records.new.input) in
    let first = c.in-Err-Unread.is in
    let second = c.in-Err-Unread.field-0-is in
    let third = c.in-Err-Unread.error-is in
    let same : c.in-Err-Unread.field-0 ≡ Unread c.in-Err-Unread.error = cc in
    let told = subst (λ (x : StreamError). ScriptStreamed (failed x) t due later) same c.in-Err-Unread.ensures.script in
    script_error c.cause_of.result t due (cause_due c.cause_of.result c.in-Err-Unread.error due later told c.cause_of.ensures.cause)
