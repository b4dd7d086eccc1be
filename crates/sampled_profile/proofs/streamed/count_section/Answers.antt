use Rattle.std.proofs.Common.{List, Ok}
use Rattle.perf_data.specs.Streams.{due_left}
use Rattle.perf_data.proofs.StreamLemmas.{on_again}
use Rattle.stack_snapshot.specs.Origins.{OriginValue}
use Rattle.sampled_profile.specs.Profiles.{tables}
use Rattle.sampled_profile.proofs.StreamedLemmas.{counts_cut, cut_due, leads_whole}
use Rattle.sampled_profile.proofs.streamed.count_section.Goals as goal

pub returns-in_err-end_section-in-Ok-clause-counts : goal.returns-in_err-end_section-in-Ok-clause-counts
returns-in_err-end_section-in-Ok-clause-counts g c =
    let told = c.in-Ok.ensures.counts in
    counts_cut c.from_residual.result c.in_err-end_section-in-Ok.field-0.0 (λ (origins : List OriginValue). tables c.args.space.now origins c.args.limit) (due_left c.args.reader.now (g.I.Source.left c.args.input.now)) c.from_residual.ensures.1
    (cut_due c.in_err-end_section-in-Ok.field-0.0 (Ok told.0) (due_left c.args.reader.now (g.I.Source.left c.args.input.now)) (due_left c.count_records.new.reader (g.I.Source.left c.count_records.new.input)) told.2 c.in_err-end_section-in-Ok.ensures.cut)

pub returns-in_ok-end_section-in-Ok-clause-counts : goal.returns-in_ok-end_section-in-Ok-clause-counts
returns-in_ok-end_section-in-Ok-clause-counts g c =
    let told = c.in-Ok.ensures.counts in
    (told.0, told.1, leads_whole (Ok told.0) (due_left c.args.reader.now (g.I.Source.left c.args.input.now)) (due_left c.count_records.new.reader (g.I.Source.left c.count_records.new.input)) told.2 c.in_ok-end_section-in-Ok.ensures.whole)

pub returns-in_err-end_section-in-Ok-clause-on : goal.returns-in_err-end_section-in-Ok-clause-on
returns-in_err-end_section-in-Ok-clause-on g c = on_again _ _ _ _ _ _ c.count_records.ensures.on c.end_section.ensures.on

pub returns-in_ok-end_section-in-Ok-clause-on : goal.returns-in_ok-end_section-in-Ok-clause-on
returns-in_ok-end_section-in-Ok-clause-on g c = on_again _ _ _ _ _ _ c.count_records.ensures.on c.end_section.ensures.on

pub returns-in-Err-Unread-clause-on : goal.returns-in-Err-Unread-clause-on
returns-in-Err-Unread-clause-on g c = on_again _ _ _ _ _ _ c.count_records.ensures.on c.cause_of.ensures.on
