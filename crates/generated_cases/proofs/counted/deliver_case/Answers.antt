use Rattle.std.proofs.Common.{◌≡◌, ℕ, ◌∙◌, refl, sym, ap, subst, arith}
use Rattle.unwind_definitions.specs.Delivery.{delivery_of}
use Rattle.generated_chains.specs.Caught.{IsCaught}
use Rattle.generated_chains.specs.Outlines.{outlines}
use Rattle.generated_chains.specs.Code.{functions_of}
use Rattle.generated_chains.specs.Calls.{state_of, calls_of}
use Rattle.stack_steps.specs.Modules.{SpaceValue}
use Rattle.stack_deliver.specs.Delivering.{delivery_in}
use Rattle.stack_snapshot.specs.Content.{Content, space_of}
use Rattle.generated_cases.specs.Case.{case_of}
use Rattle.generated_cases.proofs.Pairs.{case_has_header}
use Rattle.generated_cases.proofs.Sums.{starts_chain, caught_counts, few_probes}
use Rattle.generated_cases.proofs.counted.deliver_case.Goals as goal

pub returns : goal.returns
returns c =
    let s = c.in_ok-snapshot.snapshot in
    let os = outlines c.args.seed c.args.count in
    let state = state_of c.args.seed os in
    let calls = calls_of c.args.seed os in
    let changed = c.in_ok-prepare.ensures.prepares.is in
    let starts = starts_chain s c.prepare.new.self c.start-start.result c.resumes.result.now c.limit-2.result (functions_of os) state calls
    (ap (λ (x : SpaceValue). x.image) changed ∙ ap (λ (x : SpaceValue). x.image) c.in_ok-space.ensures)
    (ap (λ (x : SpaceValue). x.modules) changed ∙ ap (λ (x : SpaceValue). x.modules) c.in_ok-space.ensures)
    c.start-start.ensures c.resumes.ensures c.limit-2.ensures c.in_ok-snapshot.ensures.described in
    let caught = subst (λ (e : ℕ). IsCaught (delivery_of e state calls) c.args.count) (sym c.exception.ensures) c.in_ok-snapshot.ensures.caught in
    let counts = caught_counts (delivery_in c.deliver_into.new.room c.in-Ok.ending) (delivery_of c.exception.result state calls) c.args.count (c.in-Ok.ensures.chain (functions_of os) state calls starts) caught in
    record {
      functions = refl;
      frames = c.visited_len.ensures ∙ counts.frames;
      cleanups = c.trail_len.ensures ∙ counts.cleanups;
      outcome = counts.outcome;
      probes = λ digits fits.
          let space = c.prepare.new.self in
          let case = c.in_ok-snapshot.ensures.case in
          let image : space.image ≡ (space_of (case_of c.args.count c.args.seed)).image =
          ap (λ (x : SpaceValue). x.image) changed ∙ ap (λ (x : SpaceValue). x.image) c.in_ok-space.ensures ∙ ap (λ (x : Content). (space_of x).image) case in
          let modules : space.modules ≡ (space_of (case_of c.args.count c.args.seed)).modules =
          ap (λ (x : SpaceValue). x.modules) changed ∙ ap (λ (x : SpaceValue). x.modules) c.in_ok-space.ensures ∙ ap (λ (x : Content). (space_of x).modules) case in
          let one = case_has_header c.args.count c.args.seed (omega arith) c.requires.some c.requires.few space digits image modules fits in
          few_probes c.args.count digits _ _ _ _ _ c.new-steps.ensures.number c.ledger.ensures.stands counts.frames counts.cleanups (c.in-Ok.ensures.chain_ticks (functions_of os) state calls digits starts one);
    }

pub unreachable-requires : goal.unreachable-requires
unreachable-requires c =
    let s = c.in_ok-snapshot.snapshot in
    let os = outlines c.args.seed c.args.count in
    let state = state_of c.args.seed os in
    let calls = calls_of c.args.seed os in
    let changed = c.in_ok-prepare.ensures.prepares.is in
    let starts = starts_chain s c.prepare.new.self c.start-start.result c.resumes.result.now c.limit-2.result (functions_of os) state calls
    (ap (λ (x : SpaceValue). x.image) changed ∙ ap (λ (x : SpaceValue). x.image) c.in_ok-space.ensures)
    (ap (λ (x : SpaceValue). x.modules) changed ∙ ap (λ (x : SpaceValue). x.modules) c.in_ok-space.ensures)
    c.start-start.ensures c.resumes.ensures c.limit-2.ensures c.in_ok-snapshot.ensures.described in
    c.in-Err.ensures.chain (functions_of os) state calls starts
