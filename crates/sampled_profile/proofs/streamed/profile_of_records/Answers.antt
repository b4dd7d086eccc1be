use Rattle.std.proofs.Common.{List}
use Rattle.perf_data.specs.Streams.{due_left}
use Rattle.stack_snapshot.specs.Origins.{OriginValue}
use Rattle.sampled_profile.specs.Profiles.{tables}
use Rattle.sampled_profile.proofs.StreamedLemmas.{profile_counted, profile_stopped}
use Rattle.sampled_profile.proofs.streamed.profile_of_records.Goals as goal

pub returns-in_err-stacks-clause-due : goal.returns-in_err-stacks-clause-due
returns-in_err-stacks-clause-due g c =
    profile_stopped c.from_residual.result c.in_err-stacks.field-0.0 (λ (origins : List OriginValue). tables c.args.space.now origins c.args.limit) (tables c.args.space.now c.args.origins.now c.args.limit)
    (due_left c.args.reader.now (g.I.Source.left c.args.input.now)) c.from_residual.ensures.1 c.in_err-stacks.ensures.counts

pub returns-clause-due : goal.returns-clause-due
returns-clause-due g c =
    profile_counted c.in_ok-stacks.stacks c.in_ok-counts.counts (λ (origins : List OriginValue). tables c.args.space.now origins c.args.limit) c.args.origins.now (due_left c.args.reader.now (g.I.Source.left c.args.input.now)) c.in_ok-stacks.ensures.counts
    c.in_ok-counts.ensures
