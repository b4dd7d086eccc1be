use Rattle.std.proofs.Common.{◌≡◌, ◌∷◌, [], Ok, refl, sym, subst, ◌∙◌, List, arith}
use Rattle.perf_data.specs.Streams.{due_left}
use Rattle.perf_data.proofs.StreamLemmas.{on_again, on_nothing}
use Rattle.stack_snapshot.specs.Origins.{OriginValue}
use Rattle.sampled_profile.specs.declared.profile.Tally.{Tally}
use Rattle.sampled_profile.specs.Kept.{IsCounted}
use Rattle.sampled_profile.specs.Profiles.{tables}
use Rattle.sampled_profile.proofs.ProfileLemmas.{counts_few, noted_over, table_counted}
use Rattle.sampled_profile.proofs.StreamedLemmas.{counts_failed, leads_to, reads_nothing, reads_one}
use Rattle.sampled_profile.proofs.streamed.count_records.Goals as goal

pub loop-tally-init : goal.loop-tally-init
loop-tally-init g c = record {
  told = ([], reads_nothing (due_left c.args.reader.now (g.I.Source.left c.args.input.now)), c.in_ok-tally.ensures c.args.space.now, omega arith);
  same = c.in_ok-cache.ensures;
  on = on_nothing (g.I.Source.left c.args.input.now) (g.I.Source.faults c.args.input.now);
}

pub count_next-requires-clause-places : goal.count_next-requires-clause-places
count_next-requires-clause-places g c = (c.loop-tally.invariant.told.2 []).places

pub count_next-requires-clause-few : goal.count_next-requires-clause-few
count_next-requires-clause-few g c = λ some.
    let was = c.loop-tally.invariant.told in
    let room = c.args.reader.now.in_range in
    counts_few (tables c.args.space.now [] c.args.limit) c.loop-tally.tally was.0 c.loop-tally.reader.size c.args.reader.now.size (was.2 []) was.3 (omega arith) (omega arith)

pub returns-in_err-count_next-clause-counts : goal.returns-in_err-count_next-clause-counts
returns-in_err-count_next-clause-counts g c =
    let was = c.loop-tally.invariant.told in
    counts_failed c.from_residual-in_err-count_next.result c.in_err-count_next.field-0.0 (λ (origins : List OriginValue). tables c.args.space.now origins c.args.limit) (due_left c.args.reader.now (g.I.Source.left c.args.input.now))
    (due_left c.loop-tally.reader (g.I.Source.left c.loop-tally.input)) (due_left c.count_next.new.reader (g.I.Source.left c.count_next.new.input)) was.0 c.from_residual-in_err-count_next.ensures.1 was.1 c.in_err-count_next.ensures.failed

pub returns-in_err-count_next-clause-on : goal.returns-in_err-count_next-clause-on
returns-in_err-count_next-clause-on g c = on_again _ _ _ _ _ _ c.loop-tally.invariant.on c.count_next.ensures.on

pub loop-tally-preserved : goal.loop-tally-preserved
loop-tally-preserved g c =
    let was = c.loop-tally.invariant.told in
    let taken = c.in_ok-count_next.ensures.taken c.if-branch.true in
    let fewer = c.in_ok-count_next.ensures.fewer c.if-branch.true in
    let fits = was.3 in
    record {
      told = (
        taken.0 ∷ was.0,
        reads_one was.0 taken.0 (due_left c.args.reader.now (g.I.Source.left c.args.input.now)) (due_left c.loop-tally.reader (g.I.Source.left c.loop-tally.input)) (due_left c.count_next.new.reader (g.I.Source.left c.count_next.new.input)) was.1 taken.1,
        λ origins. noted_over c.args.limit c.loop-tally.tally c.count_next.new.tally was.0 taken.0 c.loop-tally.cache c.args.space.now c.loop-tally.invariant.same taken.2 origins (was.2 origins),
        omega arith,
      );
      same = c.count_next.ensures.same ∙ c.loop-tally.invariant.same;
      on = on_again _ _ _ _ _ _ c.loop-tally.invariant.on c.count_next.ensures.on;
    }

pub returns-clause-counts : goal.returns-clause-counts
returns-clause-counts g c =
    let was = c.loop-tally.invariant.told in
    let ends = c.in_ok-count_next.ensures.ended c.if-branch.false in
    let same : c.count_next.new.tally ≡ c.loop-tally.tally = c.in_ok-count_next.ensures.kept c.if-branch.false in
    let fits = was.3 in
    let room = c.args.reader.now.in_range in (
      was.0,
      subst (λ (t : Tally). IsCounted (λ (origins : List OriginValue). tables c.args.space.now origins c.args.limit) t.stacks was.0) (sym same)
          (table_counted c.args.space.now c.args.limit c.loop-tally.tally was.0 c.args.reader.now.size was.2 (omega arith) (omega arith)),
      leads_to was.0 [] (Ok was.0) (due_left c.args.reader.now (g.I.Source.left c.args.input.now)) (due_left c.loop-tally.reader (g.I.Source.left c.loop-tally.input)) (due_left c.count_next.new.reader (g.I.Source.left c.count_next.new.input)) refl was.1 ends,
    )

pub returns-clause-on : goal.returns-clause-on
returns-clause-on g c = on_again _ _ _ _ _ _ c.loop-tally.invariant.on c.count_next.ensures.on
