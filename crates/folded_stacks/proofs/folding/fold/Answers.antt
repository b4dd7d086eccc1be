use Rattle.std.proofs.Common.{◌≡◌, rules}
use Rattle.std.specs.Prelude.{IfOk}
use Rattle.folded_stacks.specs.Folding.{fold_of}
use Rattle.folded_stacks.proofs.FoldedLines.{lines_folded, refused_folded, stack_folded, total_folded}
use Rattle.folded_stacks.proofs.KnownStacks.{known_stacked}
use Rattle.folded_stacks.proofs.Walks.{chain_stacked, stop_stacked}
use Rattle.folded_stacks.proofs.folding.fold.Goals as goal

pub returns-clause-adds_up : goal.returns-clause-adds_up
returns-clause-adds_up c =
    let exact : IfOk c.fold_within.result (λ folded. folded ≡ fold_of c.args.space.now c.args.limit c.args.samples.now) = search rules in
    total_folded c.fold_within.result c.args.space.now c.args.limit c.args.samples.now exact

pub returns-clause-lines : goal.returns-clause-lines
returns-clause-lines c =
    let exact : IfOk c.fold_within.result (λ folded. folded ≡ fold_of c.args.space.now c.args.limit c.args.samples.now) = search rules in
    lines_folded c.fold_within.result c.args.space.now c.args.limit c.args.samples.now exact

pub returns-clause-refused : goal.returns-clause-refused
returns-clause-refused c =
    let exact : IfOk c.fold_within.result (λ folded. folded ≡ fold_of c.args.space.now c.args.limit c.args.samples.now) = search rules in
    refused_folded c.fold_within.result c.args.space.now c.args.limit c.args.samples.now exact

pub returns-clause-chain : goal.returns-clause-chain
returns-clause-chain c = λ sample functions s calls has starts called.
    let exact : IfOk c.fold_within.result (λ folded. folded ≡ fold_of c.args.space.now c.args.limit c.args.samples.now) = search rules in
    let stack = chain_stacked c.args.space.now c.args.limit sample functions s calls c.image.ensures.apart c.image.ensures.laid_out starts called in
    (stack, stack_folded c.fold_within.result c.args.space.now c.args.limit c.args.samples.now exact sample _ has stack)

pub returns-clause-stopped : goal.returns-clause-stopped
returns-clause-stopped c = λ sample functions s call calls has starts marked.
    let exact : IfOk c.fold_within.result (λ folded. folded ≡ fold_of c.args.space.now c.args.limit c.args.samples.now) = search rules in
    let stack = stop_stacked c.args.space.now c.args.limit sample functions s call calls c.image.ensures.apart c.image.ensures.laid_out starts marked in
    (stack, stack_folded c.fold_within.result c.args.space.now c.args.limit c.args.samples.now exact sample _ has stack)

pub returns-clause-known : goal.returns-clause-known
returns-clause-known c = λ sample s callers has starts.
    let exact : IfOk c.fold_within.result (λ folded. folded ≡ fold_of c.args.space.now c.args.limit c.args.samples.now) = search rules in
    let stack = known_stacked c.args.space.now c.args.limit sample s callers c.image.ensures.apart c.image.ensures.laid_out starts in
    (stack, stack_folded c.fold_within.result c.args.space.now c.args.limit c.args.samples.now exact sample _ has stack)
