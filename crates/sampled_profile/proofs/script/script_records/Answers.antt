use Rattle.std.proofs.Common.{◌≡◌, ℕ, List, [], Ok, refl, sym, ap, ◌∙◌}
use Rattle.perf_data.specs.Views.{records_left}
use Rattle.sampled_profile.specs.Profiles.{read_after, read_all, tables}
use Rattle.sampled_profile.proofs.ProfileLemmas.{next_end}
use Rattle.sampled_profile.proofs.ScriptLemmas.{failed_script, script_done}
use Rattle.sampled_profile.proofs.script.script_records.Goals as goal

pub loop-script-init : goal.loop-script-init
loop-script-init c = ([], refl, c.in_ok-script.ensures c.args.space.now c.args.origins.now, c.in_ok-cache.ensures)

pub returns-in_err-entry : goal.returns-in_err-entry
returns-in_err-entry c =
    let was = c.loop-script.invariant in
    failed_script c.from_residual-in_err-entry.result (tables c.args.space.now c.args.origins.now c.args.limit) (records_left c.args.records) (records_left c.loop-script.records) (records_left c.next_record.new.records) was.0 c.in_err-entry.field-0.0
    c.from_residual-in_err-entry.ensures.1 c.in_err-entry.ensures was.1

pub returns : goal.returns
returns c =
    let was = c.loop-script.invariant in
    let all = records_left c.args.records in
    let left = records_left c.loop-script.records in
    let none : left ≡ [] = next_end left (records_left c.next_record.new.records) c.in_ok-entry.field-0 c.in_ok-entry.ensures c.in_default.is in
    let read : read_all all ≡ Ok was.0 = sym was.1 ∙ ap (read_after was.0) none in
    script_done (tables c.args.space.now c.args.origins.now c.args.limit) all was.0 read ∙ ap (λ (text : List ℕ). Ok text) (sym was.2.text)
