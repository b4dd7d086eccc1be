use Rattle.std.proofs.Common.{List, ap, sym, subst, ◌∙◌}
use Rattle.perf_data.specs.Views.{records_left}
use Rattle.stack_snapshot.specs.Origins.{OriginValue}
use Rattle.sampled_profile.specs.Profiles.{profile_of, tables}
use Rattle.sampled_profile.specs.Told.{Gives}
use Rattle.sampled_profile.specs.KnownSamples.{front_walk}
use Rattle.sampled_profile.proofs.FrontLemmas.{walk_front}
use Rattle.sampled_profile.proofs.KnownLemmas.{in_profile, profile_known, profile_popped}
use Rattle.sampled_profile.proofs.ProfileLemmas.{due_counted, failed_profile, profile_folded, profile_adds_up}
use Rattle.sampled_profile.proofs.profile.profile_of.Goals as goal

pub returns-in_err-stacks-clause-exact : goal.returns-in_err-stacks-clause-exact
returns-in_err-stacks-clause-exact c =
    let by = λ (origins : List OriginValue). tables c.args.space.now origins c.args.limit in
    let origins = c.args.origins.now in
    subst (λ rs. Gives c.from_residual.result (profile_of (by origins) rs)) c.records.ensures.left
    (failed_profile c.from_residual.result by origins (records_left c.records.result) c.in_err-stacks.field-0.0 c.from_residual.ensures.1 c.in_err-stacks.ensures)

pub returns-clause-exact : goal.returns-clause-exact
returns-clause-exact c =
    let by = λ (origins : List OriginValue). tables c.args.space.now origins c.args.limit in
    let origins = c.args.origins.now in
    ap (profile_of (by origins)) (sym c.records.ensures.left) ∙ due_counted by origins (records_left c.records.result) c.in_ok-stacks.stacks c.in_ok-counts.counts c.in_ok-stacks.ensures c.in_ok-counts.ensures

pub returns-clause-lines : goal.returns-clause-lines
returns-clause-lines c =
    let by = λ (origins : List OriginValue). tables c.args.space.now origins c.args.limit in
    let origins = c.args.origins.now in
    profile_folded (by origins) c.args.file.now.records (records_left c.records.result) c.in_ok-counts.counts c.records.ensures.left
    (due_counted by origins (records_left c.records.result) c.in_ok-stacks.stacks c.in_ok-counts.counts c.in_ok-stacks.ensures c.in_ok-counts.ensures)

pub returns-clause-adds_up : goal.returns-clause-adds_up
returns-clause-adds_up c =
    let by = λ (origins : List OriginValue). tables c.args.space.now origins c.args.limit in
    let origins = c.args.origins.now in
    profile_adds_up (by origins) c.args.file.now.records (records_left c.records.result) c.in_ok-counts.counts c.records.ensures.left
    (due_counted by origins (records_left c.records.result) c.in_ok-stacks.stacks c.in_ok-counts.counts c.in_ok-stacks.ensures c.in_ok-counts.ensures)

pub returns-clause-known : goal.returns-clause-known
returns-clause-known c = λ read earlier sample s callers reads has is.
    profile_known (tables c.args.space.now c.args.origins.now c.args.limit) c.args.file.now.records c.in_ok-counts.counts (returns-clause-lines c) read earlier sample reads has c.image.ensures.apart c.image.ensures.laid_out s callers is

pub returns-clause-known_popped : goal.returns-clause-known_popped
returns-clause-known_popped c = λ read earlier sample s callers reads has is.
    profile_popped (tables c.args.space.now c.args.origins.now c.args.limit) c.args.file.now.records c.in_ok-counts.counts (returns-clause-lines c) read earlier sample reads has c.image.ensures.apart c.image.ensures.laid_out s callers is

pub returns-clause-known_front : goal.returns-clause-known_front
returns-clause-known_front c = λ read earlier sample s callers reads has is.
    let t = tables c.args.space.now c.args.origins.now c.args.limit in
    let front = walk_front t.space t.limit c.image.ensures.apart c.image.ensures.laid_out sample s callers is in
    (front.0, front.1, in_profile t c.args.file.now.records c.in_ok-counts.counts (returns-clause-lines c) read earlier sample reads has (front_walk t.space t.limit sample s callers is front.0 front.1) front.2)
