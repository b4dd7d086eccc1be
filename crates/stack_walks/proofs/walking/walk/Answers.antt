use Rattle.std.proofs.Common.{◌≡◌, List, ◌∷◌, Ok}
use Rattle.unwind_arch.specs.declared.x86_64.Context.{Context}
use Rattle.stack_steps.specs.declared.error.DeliverError.TheVariants.{FrameLimit, Unmapped}
use Rattle.stack_walks.specs.KnownWalks.{ShowStack}
use Rattle.stack_walks.specs.Lines.{line_of}
use Rattle.stack_walks.specs.Walking.{ShowChain}
use Rattle.stack_walks.proofs.ChainWalked.{chain_walked}
use Rattle.stack_walks.proofs.KnownLines.{known_walked}
use Rattle.stack_walks.proofs.LineAnswers.{fault_line, limit_line, line_fault, line_limit, line_unmapped}
use Rattle.stack_walks.proofs.Results.{due, granted, refused}
use Rattle.stack_walks.proofs.StoppedWalk.{stopped_walked}
use Rattle.stack_walks.proofs.walking.walk.Goals as goal

pub returns-clause-frame_limit : goal.returns-clause-frame_limit
returns-clause-frame_limit c e = line_limit c.args.space.now c.args.limit c.args.start.now c.args.interrupted (refused c.walked.result _ FrameLimit c.walked.ensures.exact (λ same. absurd cc) e)

pub returns-clause-needs_more : goal.returns-clause-needs_more
returns-clause-needs_more c more = due c.walked.result _ FrameLimit c.walked.ensures.exact (limit_line c.args.space.now c.args.limit c.args.start.now c.args.interrupted more)

pub returns-clause-step_fault : goal.returns-clause-step_fault
returns-clause-step_fault c error other memory e = line_fault c.args.space.now c.args.limit c.args.start.now c.args.interrupted error other (refused c.walked.result _ error c.walked.ensures.exact memory e)

pub returns-clause-step_fails : goal.returns-clause-step_fails
returns-clause-step_fails c error other fails = due c.walked.result _ error c.walked.ensures.exact (fault_line c.args.space.now c.args.limit c.args.start.now c.args.interrupted error fails)

pub returns-clause-unmapped : goal.returns-clause-unmapped
returns-clause-unmapped c a e = line_unmapped c.args.space.now c.args.limit c.args.start.now c.args.interrupted a (refused c.walked.result _ (Unmapped a) c.walked.ensures.exact (λ same. absurd cc) e)

pub returns-clause-chain : goal.returns-clause-chain
returns-clause-chain c functions s calls starts called =
    let w = chain_walked c.args.space.now c.args.start.now c.args.limit functions s calls c.image.ensures.apart c.image.ensures.laid_out starts in
    let line : line_of c.args.space.now c.args.limit c.args.start.now c.args.interrupted ≡ Ok w.0 = rw called w.1 in
    granted c.walked.result _ w.0 (λ (cs : List Context). ShowChain cs s calls) c.walked.ensures.exact line w.2

pub returns-clause-stopped : goal.returns-clause-stopped
returns-clause-stopped c functions s call calls starts marked =
    let w = stopped_walked c.args.space.now functions s call calls c.args.start.now c.image.ensures.apart c.image.ensures.laid_out c.args.limit starts in
    let line : line_of c.args.space.now c.args.limit c.args.start.now c.args.interrupted ≡ Ok w.0 = rw marked w.1 in
    granted c.walked.result _ w.0 (λ (cs : List Context). ShowChain cs s (call ∷ calls)) c.walked.ensures.exact line w.2

pub returns-clause-known : goal.returns-clause-known
returns-clause-known c s callers starts =
    let w = known_walked c.args.space.now c.image.ensures.apart c.image.ensures.laid_out c.args.start.now c.args.limit c.args.interrupted s callers starts in
    granted c.walked.result _ w.0 (λ (cs : List Context). ShowStack c.args.space.now cs c.args.interrupted s callers starts.stack) c.walked.ensures.exact w.1 w.2
