use Rattle.std.proofs.Common.{◌≡◌, ◌≤◌, suc, [], ◌∷◌, Ok, refl, sym, ap, ◌∙◌, arith, length}
use Rattle.perf_data.specs.Views.{record_value, records_left}
use Rattle.sampled_profile.specs.Profiles.{read_after, read_all, tables}
use Rattle.sampled_profile.proofs.ProfileLemmas.{counts_few, next_end, next_step, noted_over, read_on, some_left, table_counted}
use Rattle.sampled_profile.proofs.profile.tally_records.Goals as goal

pub loop-tally-init : goal.loop-tally-init
loop-tally-init c = ([], refl, c.in_ok-tally.ensures c.args.space.now, omega arith, c.in_ok-cache.ensures)

pub note_record-requires-clause-places : goal.note_record-requires-clause-places
note_record-requires-clause-places c = (c.loop-tally.invariant.2 []).places

pub note_record-requires-clause-few : goal.note_record-requires-clause-few
note_record-requires-clause-few c =
    let was = c.loop-tally.invariant in
    let left = records_left c.loop-tally.records in
    let rest = records_left c.next_record.new.records in
    let step = next_step left rest c.in_ok-entry.field-0 c.in-Some.entry c.in_ok-entry.ensures c.in-Some.is in
    let some = some_left left rest (Ok (record_value c.in-Some.entry)) step in
    counts_few (tables c.args.space.now [] c.args.limit) c.loop-tally.tally was.0 (length left) (length (records_left c.args.records)) (was.2 []) was.3 some c.requires

pub loop-tally-preserved : goal.loop-tally-preserved
loop-tally-preserved c =
    let was = c.loop-tally.invariant in
    let all = records_left c.args.records in
    let left = records_left c.loop-tally.records in
    let rest = records_left c.next_record.new.records in
    let r = record_value c.in-Some.entry in
    let step = next_step left rest c.in_ok-entry.field-0 c.in-Some.entry c.in_ok-entry.ensures c.in-Some.is in
    let long = was.3 in
    let one : length left ≡ suc (length rest) = ap length step in
    let noted = noted_over c.args.limit c.loop-tally.tally c.note_record.new.tally was.0 r c.loop-tally.cache c.args.space.now was.4 c.in_ok-note_record.ensures.noted in
    (r ∷ was.0, read_on all left rest was.0 r step was.1, λ origins. noted origins (was.2 origins), omega arith, c.note_record.ensures.same ∙ was.4)

pub returns : goal.returns
returns c =
    let was = c.loop-tally.invariant in
    let all = records_left c.args.records in
    let left = records_left c.loop-tally.records in
    let none : left ≡ [] = next_end left (records_left c.next_record.new.records) c.in_ok-entry.field-0 c.in_ok-entry.ensures c.in_default.is in
    let read : read_all all ≡ Ok was.0 = sym was.1 ∙ ap (read_after was.0) none in
    let long : length was.0 ≤ length all = let bound = was.3 in omega arith in
    (was.0, read, table_counted c.args.space.now c.args.limit c.loop-tally.tally was.0 (length all) was.2 long c.requires)
