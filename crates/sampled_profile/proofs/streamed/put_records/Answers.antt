use Rattle.std.proofs.Common.{◌≡◌, ◌∷◌, [], Ok, refl, ap, ◌∙◌, arith}
use Rattle.perf_data.specs.Streams.{due_left}
use Rattle.perf_data.proofs.StreamLemmas.{on_again, on_nothing}
use Rattle.sampled_profile.specs.declared.script.Script.{Script}
use Rattle.sampled_profile.specs.Profiles.{tables}
use Rattle.sampled_profile.proofs.ScriptLemmas.{script_over}
use Rattle.sampled_profile.proofs.StreamedLemmas.{leads_to, reads_nothing, reads_one, script_stopped}
use Rattle.sampled_profile.proofs.streamed.put_records.Goals as goal

pub loop-script-init : goal.loop-script-init
loop-script-init g c = record {
  told = ([], reads_nothing (due_left c.args.reader.now (g.I.Source.left c.args.input.now)), c.in_ok-script.ensures c.args.space.now c.args.origins.now, omega arith);
  same = c.in_ok-cache.ensures;
  on = on_nothing (g.I.Source.left c.args.input.now) (g.I.Source.faults c.args.input.now);
}

pub returns-in_err-put_next-clause-script : goal.returns-in_err-put_next-clause-script
returns-in_err-put_next-clause-script g c =
    let was = c.loop-script.invariant.told in
    script_stopped c.from_residual-in_err-put_next.result c.in_err-put_next.field-0.0 (tables c.args.space.now c.args.origins.now c.args.limit) (due_left c.args.reader.now (g.I.Source.left c.args.input.now))
    (due_left c.loop-script.reader (g.I.Source.left c.loop-script.input)) (due_left c.put_next.new.reader (g.I.Source.left c.put_next.new.input)) was.0 c.from_residual-in_err-put_next.ensures.1 was.1 c.in_err-put_next.ensures.failed

pub returns-in_err-put_next-clause-on : goal.returns-in_err-put_next-clause-on
returns-in_err-put_next-clause-on g c = on_again _ _ _ _ _ _ c.loop-script.invariant.on c.put_next.ensures.on

pub loop-script-preserved : goal.loop-script-preserved
loop-script-preserved g c =
    let was = c.loop-script.invariant.told in
    let taken = c.in_ok-put_next.ensures.taken c.if-branch.true in
    let fewer = c.in_ok-put_next.ensures.fewer c.if-branch.true in
    let fits = was.3 in
    record {
      told = (
        taken.0 ∷ was.0,
        reads_one was.0 taken.0 (due_left c.args.reader.now (g.I.Source.left c.args.input.now)) (due_left c.loop-script.reader (g.I.Source.left c.loop-script.input)) (due_left c.put_next.new.reader (g.I.Source.left c.put_next.new.input)) was.1 taken.1,
        script_over c.args.origins.now c.args.limit c.loop-script.script c.put_next.new.script was.0 taken.0 c.loop-script.cache c.args.space.now c.loop-script.invariant.same taken.2 was.2,
        omega arith,
      );
      same = c.put_next.ensures.same ∙ c.loop-script.invariant.same;
      on = on_again _ _ _ _ _ _ c.loop-script.invariant.on c.put_next.ensures.on;
    }

pub returns-clause-script : goal.returns-clause-script
returns-clause-script g c =
    let was = c.loop-script.invariant.told in
    let ends = c.in_ok-put_next.ensures.ended c.if-branch.false in
    let same : c.put_next.new.script ≡ c.loop-script.script = c.in_ok-put_next.ensures.kept c.if-branch.false in (
      was.0,
      ap (λ (s : Script). s.text) same ∙ was.2.text,
      leads_to was.0 [] (Ok was.0) (due_left c.args.reader.now (g.I.Source.left c.args.input.now)) (due_left c.loop-script.reader (g.I.Source.left c.loop-script.input)) (due_left c.put_next.new.reader (g.I.Source.left c.put_next.new.input)) refl was.1 ends,
    )

pub returns-clause-on : goal.returns-clause-on
returns-clause-on g c = on_again _ _ _ _ _ _ c.loop-script.invariant.on c.put_next.ensures.on
