use Rattle.std.proofs.Common.{◌∙◌, sym, subst}
use Rattle.generated_chains.specs.Outlines.{outlines}
use Rattle.generated_chains.specs.Code.{functions_of}
use Rattle.generated_chains.specs.Calls.{state_of, calls_of}
use Rattle.generated_chains.proofs.Delivered.{caught}
use Rattle.stack_snapshot.specs.Content.{Content}
use Rattle.stack_snapshot.specs.Described.{DescribesChain}
use Rattle.generated_cases.proofs.Described.{parts_made, case_made, case_described}
use Rattle.generated_cases.proofs.case.make_case.Goals as goal

pub returns-in-Ok-clause-case : goal.returns-in-Ok-clause-case
returns-in-Ok-clause-case c =
    let chain = c.in_ok-chain.chain in
    let is = c.in_ok-chain.ensures in
    parts_made chain c.args.count c.args.seed c.requires.some c.requires.few is.made is.valid c.in_ok-parts.parts c.in-Ok.snapshot c.in_ok-parts.ensures c.in-Ok.ensures
    ∙ case_made chain c.args.count c.args.seed c.requires.some c.requires.few is.made is.valid

pub returns-in-Ok-clause-described : goal.returns-in-Ok-clause-described
returns-in-Ok-clause-described c =
    let chain = c.in_ok-chain.chain in
    let is = c.in_ok-chain.ensures in
    let os = outlines c.args.seed c.args.count in
    let made = parts_made chain c.args.count c.args.seed c.requires.some c.requires.few is.made is.valid c.in_ok-parts.parts c.in-Ok.snapshot c.in_ok-parts.ensures c.in-Ok.ensures in
    subst (λ (s : Content). DescribesChain s (functions_of os) (state_of c.args.seed os) (calls_of c.args.seed os)) (sym made) (case_described chain c.args.count c.args.seed c.requires.some c.requires.few is.made is.valid)

pub returns-in-Ok-clause-caught : goal.returns-in-Ok-clause-caught
returns-in-Ok-clause-caught c = caught c.in-Ok.snapshot.exception c.args.seed c.args.count c.requires.some
