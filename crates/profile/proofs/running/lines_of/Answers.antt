use Rattle.std.proofs.Common.{ℕ, ap, ◌∙◌}
use Rattle.perf_data.specs.Streams.{due_of}
use Rattle.stack_snapshot.specs.Content.{space_of}
use Rattle.sampled_profile.specs.Profiles.{tables}
use Rattle.profile.specs.Due.{tables_of, told_by}
use Rattle.profile.proofs.Streamed.{given_like}
use Rattle.profile.proofs.running.lines_of.Goals as goal

pub returns-clause-due : goal.returns-clause-due
returns-clause-due g c =
    let origins = c.args.origins.now in
    let snapshot = c.args.snapshot.now in
    let form = c.args.form in
    given_like c.lines_over.result (tables c.in_ok-space.space origins c.limit.result) (tables_of snapshot origins) form (due_of c.args.file (g.I.Source.left c.args.input.now))
    (λ records. c.in_ok-space.ensures origins c.limit.result form records ∙ ap (λ (n : ℕ). told_by (tables (space_of snapshot) origins n) form records) c.limit.ensures)
    c.lines_over.ensures.due
