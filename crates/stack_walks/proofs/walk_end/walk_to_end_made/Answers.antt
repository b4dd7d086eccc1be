use Rattle.std.proofs.Common.{◌≡◌, List, ◌∷◌, Ok, sym, subst, ◌∙◌}
use Rattle.unwind_definitions.specs.Chain.{last_state}
use Rattle.unwind_arch.specs.declared.x86_64.Context.{Context}
use Rattle.stack_walks.specs.declared.walk_end.EndReason.{EndReason}
use Rattle.stack_walks.specs.Lines.{line_of}
use Rattle.stack_walks.specs.Walking.{ShowChain}
use Rattle.stack_walks.specs.WalkEnds.{start_state, ComesTo, end_reason_of_chain}
use Rattle.stack_walks.proofs.ChainEnds.{chain_comes, stop_comes}
use Rattle.stack_walks.proofs.ChainWalked.{chain_walked}
use Rattle.stack_walks.proofs.StoppedWalk.{stopped_walked}
use Rattle.stack_walks.proofs.EndAnswers.{line_front, line_whole, one_front}
use Rattle.stack_walks.specs.KnownWalks.{ShowStack, end_reason_of_stack}
use Rattle.stack_walks.proofs.KnownLines.{known_walked, known_comes}
use Rattle.stack_walks.proofs.walk_end.walk_to_end_made.Goals as goal

pub returns-clause-whole : goal.returns-clause-whole
returns-clause-whole g c states is = c.walk_to_end_by_made.ensures.states ∙ line_whole c.args.space.now c.args.limit (start_state c.args.start.now c.args.interrupted) states is

pub returns-clause-front : goal.returns-clause-front
returns-clause-front g c longer states less is = c.walk_to_end_by_made.ensures.states ∙ line_front c.args.space.now c.args.limit longer (start_state c.args.start.now c.args.interrupted) states less is

pub returns-clause-why : goal.returns-clause-why
returns-clause-why g c reason = (
  λ is. subst (λ (why : EndReason). ComesTo why c.args.space.now c.args.limit c.args.start.now c.args.interrupted) is c.walk_to_end_by_made.ensures.why,
  λ why. one_front c.args.space.now c.args.limit (start_state c.args.start.now c.args.interrupted) c.walk_to_end_by_made.result reason c.walk_to_end_by_made.ensures.why why,
)

pub returns-clause-chain : goal.returns-clause-chain
returns-clause-chain g c functions s calls starts called =
    let start = start_state c.args.start.now c.args.interrupted in
    let w = chain_walked c.args.space.now c.args.start.now c.args.limit functions s calls c.image.ensures.apart c.image.ensures.laid_out starts in
    let line : line_of c.args.space.now c.args.limit c.args.start.now c.args.interrupted ≡ Ok w.0 = rw called w.1 in
    let why = end_reason_of_chain c.args.space.now.modules (last_state s calls) in
    let comes : ComesTo why c.args.space.now c.args.limit c.args.start.now c.args.interrupted =
    rw called (chain_comes c.args.space.now c.image.ensures.apart c.image.ensures.laid_out c.args.start.now c.args.limit functions s calls starts) in (
      subst (λ (cs : List Context). ShowChain cs s calls) (sym (c.walk_to_end_by_made.ensures.states ∙ line_whole c.args.space.now c.args.limit start w.0 line)) w.2,
      one_front c.args.space.now c.args.limit start c.walk_to_end_by_made.result why c.walk_to_end_by_made.ensures.why comes,
    )

pub returns-clause-stopped : goal.returns-clause-stopped
returns-clause-stopped g c functions s call calls starts marked =
    let start = start_state c.args.start.now c.args.interrupted in
    let w = stopped_walked c.args.space.now functions s call calls c.args.start.now c.image.ensures.apart c.image.ensures.laid_out c.args.limit starts in
    let line : line_of c.args.space.now c.args.limit c.args.start.now c.args.interrupted ≡ Ok w.0 = rw marked w.1 in
    let why = end_reason_of_chain c.args.space.now.modules (last_state call.caller calls) in
    let comes : ComesTo why c.args.space.now c.args.limit c.args.start.now c.args.interrupted =
    rw marked (stop_comes c.args.space.now c.image.ensures.apart c.image.ensures.laid_out c.args.start.now c.args.limit functions s call calls starts) in (
      subst (λ (cs : List Context). ShowChain cs s (call ∷ calls)) (sym (c.walk_to_end_by_made.ensures.states ∙ line_whole c.args.space.now c.args.limit start w.0 line)) w.2,
      one_front c.args.space.now c.args.limit start c.walk_to_end_by_made.result why c.walk_to_end_by_made.ensures.why comes,
    )

pub returns-clause-known : goal.returns-clause-known
returns-clause-known g c s callers starts =
    let start = start_state c.args.start.now c.args.interrupted in
    let w = known_walked c.args.space.now c.image.ensures.apart c.image.ensures.laid_out c.args.start.now c.args.limit c.args.interrupted s callers starts in
    let comes = known_comes c.args.space.now c.image.ensures.apart c.image.ensures.laid_out c.args.start.now c.args.limit c.args.interrupted s callers starts in (
      subst (λ (cs : List Context). ShowStack c.args.space.now cs c.args.interrupted s callers starts.stack) (sym (c.walk_to_end_by_made.ensures.states ∙ line_whole c.args.space.now c.args.limit start w.0 w.1)) w.2,
      one_front c.args.space.now c.args.limit start c.walk_to_end_by_made.result (end_reason_of_stack c.args.space.now c.args.interrupted s callers starts.stack) c.walk_to_end_by_made.ensures.why comes,
    )
