use Rattle.std.proofs.Common.{List, ◌∷◌, true, false, subst}
use Rattle.unwind_arch.specs.declared.x86_64.Context.{Context}
use Rattle.stack_steps.specs.declared.error.DeliverError.TheVariants.{NoMemory, FrameLimit, Unmapped}
use Rattle.stack_walks.specs.Lines.{line_of}
use Rattle.stack_walks.specs.Walking.{IsWalked, ShowChain}
use Rattle.stack_walks.proofs.LineAnswers.{line_limit, limit_line, line_fault, fault_line, line_unmapped, line_memory}
use Rattle.stack_walks.proofs.Results.{walked_fault, fault_walked, states_walked}
use Rattle.stack_walks.proofs.ChainWalked.{chain_walked}
use Rattle.stack_walks.specs.KnownWalks.{ShowStack}
use Rattle.stack_walks.proofs.KnownLines.{known_walked}
use Rattle.stack_walks.proofs.StoppedWalk.{stopped_walked}
use Rattle.stack_walks.proofs.walking.walk_into.Goals as goal

pub returns-clause-frame_limit : goal.returns-clause-frame_limit
returns-clause-frame_limit g c = (
  λ e. line_limit c.args.space.now c.args.limit c.args.start.now c.args.interrupted (walked_fault c.walk_with_rows.result c.walk_with_rows.new.room _ FrameLimit c.walk_with_rows.ensures.exact e),
  λ more. fault_walked c.walk_with_rows.result c.walk_with_rows.new.room _ FrameLimit c.walk_with_rows.ensures.exact (limit_line c.args.space.now c.args.limit c.args.start.now c.args.interrupted more),
)

pub returns-clause-step_fault : goal.returns-clause-step_fault
returns-clause-step_fault g c e other = (
  λ is. line_fault c.args.space.now c.args.limit c.args.start.now c.args.interrupted e other (walked_fault c.walk_with_rows.result c.walk_with_rows.new.room _ e c.walk_with_rows.ensures.exact is),
  λ fails. fault_walked c.walk_with_rows.result c.walk_with_rows.new.room _ e c.walk_with_rows.ensures.exact (fault_line c.args.space.now c.args.limit c.args.start.now c.args.interrupted e fails),
)

pub returns-clause-unmapped : goal.returns-clause-unmapped
returns-clause-unmapped g c a e = line_unmapped c.args.space.now c.args.limit c.args.start.now c.args.interrupted a (walked_fault c.walk_with_rows.result c.walk_with_rows.new.room _ (Unmapped a) c.walk_with_rows.ensures.exact e)

pub returns-clause-takes_no_memory : goal.returns-clause-takes_no_memory
returns-clause-takes_no_memory g c e = line_memory c.args.space.now c.args.limit c.args.start.now c.args.interrupted (walked_fault c.walk_with_rows.result c.walk_with_rows.new.room _ NoMemory c.walk_with_rows.ensures.exact e)

pub returns-clause-chain : goal.returns-clause-chain
returns-clause-chain g c functions s calls starts called =
    let w = chain_walked c.args.space.now c.args.start.now c.args.limit functions s calls c.image.ensures.apart c.image.ensures.laid_out starts in
    let exact : IsWalked c.walk_with_rows.result c.walk_with_rows.new.room (line_of c.args.space.now c.args.limit c.args.start.now false) = rw called at c.walk_with_rows.ensures.exact in
    let r = states_walked c.walk_with_rows.result c.walk_with_rows.new.room _ w.0 exact w.1 in
    (r.0, subst (λ (cs : List Context). ShowChain cs s calls) r.1 w.2)

pub returns-clause-stopped : goal.returns-clause-stopped
returns-clause-stopped g c functions s call calls starts marked =
    let w = stopped_walked c.args.space.now functions s call calls c.args.start.now c.image.ensures.apart c.image.ensures.laid_out c.args.limit starts in
    let exact : IsWalked c.walk_with_rows.result c.walk_with_rows.new.room (line_of c.args.space.now c.args.limit c.args.start.now true) = rw marked at c.walk_with_rows.ensures.exact in
    let r = states_walked c.walk_with_rows.result c.walk_with_rows.new.room _ w.0 exact w.1 in
    (r.0, subst (λ (cs : List Context). ShowChain cs s (call ∷ calls)) r.1 w.2)

pub returns-clause-known : goal.returns-clause-known
returns-clause-known g c s callers starts =
    let w = known_walked c.args.space.now c.image.ensures.apart c.image.ensures.laid_out c.args.start.now c.args.limit c.args.interrupted s callers starts in
    let r = states_walked c.walk_with_rows.result c.walk_with_rows.new.room _ w.0 c.walk_with_rows.ensures.exact w.1 in
    (r.0, subst (λ (cs : List Context). ShowStack c.args.space.now cs c.args.interrupted s callers starts.stack) r.1 w.2)
