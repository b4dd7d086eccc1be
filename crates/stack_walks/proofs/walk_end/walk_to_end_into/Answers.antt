use Rattle.std.proofs.Common.{◌≡◌, ◌↔◌, ℕ, Bool, List, ◌∷◌, Ok, sym, ap, ◌∙◌, subst}
use Rattle.unwind_arch.specs.declared.x86_64.Context.{Context}
use Rattle.stack_steps.specs.Modules.{SpaceValue}
use Rattle.stack_walks.specs.declared.walk_end.EndReason.{EndReason}
use Rattle.stack_walks.specs.WalkEnds.{ComesTo, end_reason_of_chain}
use Rattle.unwind_definitions.specs.Chain.{last_state}
use Rattle.stack_walks.specs.Lines.{line_of}
use Rattle.stack_walks.specs.Walking.{ShowChain}
use Rattle.stack_walks.proofs.ChainEnds.{chain_comes, stop_comes}
use Rattle.stack_walks.proofs.ChainWalked.{chain_walked}
use Rattle.stack_walks.specs.KnownWalks.{ShowStack, end_reason_of_stack}
use Rattle.stack_walks.proofs.KnownLines.{known_walked, known_comes}
use Rattle.stack_walks.proofs.StoppedWalk.{stopped_walked}
use Rattle.stack_walks.proofs.walk_end.walk_to_end_into.Goals as goal

-- what is said of a walk over the space's own image is so of the space
states_over : (own space : SpaceValue) (limit : ℕ) (c : Context) (interrupted : Bool) (visited states : List Context) → own ≡ space → (line_of own limit c interrupted ≡ Ok states → visited ≡ states) → line_of space limit c interrupted ≡ Ok states → visited ≡ states
states_over own space limit c interrupted visited states same whole line = whole (ap (λ (s : SpaceValue). line_of s limit c interrupted) same ∙ line)

reason_over : (own space : SpaceValue) (limit : ℕ) (c : Context) (interrupted : Bool) (why reason : EndReason) → own ≡ space → (why ≡ reason) ↔ ComesTo reason own limit c interrupted → ComesTo reason space limit c interrupted → why ≡ reason
reason_over own space limit c interrupted why reason same says comes = says.1 (subst (λ (s : SpaceValue). ComesTo reason s limit c interrupted) (sym same) comes)

pub returns-clause-chain : goal.returns-clause-chain
returns-clause-chain g c functions s calls starts called =
    let w = chain_walked c.args.space.now c.args.start.now c.args.limit functions s calls c.image.ensures.apart c.image.ensures.laid_out starts in
    let line : line_of c.args.space.now c.args.limit c.args.start.now c.args.interrupted ≡ Ok w.0 = rw called w.1 in
    let comes : ComesTo (end_reason_of_chain c.args.space.now.modules (last_state s calls)) c.args.space.now c.args.limit c.args.start.now c.args.interrupted =
    rw called (chain_comes c.args.space.now c.image.ensures.apart c.image.ensures.laid_out c.args.start.now c.args.limit functions s calls starts) in (
      subst (λ (cs : List Context). ShowChain cs s calls) (sym (states_over c.over_own_image-own.result c.args.space.now c.args.limit c.args.start.now c.args.interrupted c.walk_to_end_over.new.room.visited w.0 c.over_own_image-own.ensures (c.walk_to_end_over.ensures.whole w.0) line)) w.2,
      reason_over c.over_own_image-own.result c.args.space.now c.args.limit c.args.start.now c.args.interrupted c.walk_to_end_over.result (end_reason_of_chain c.args.space.now.modules (last_state s calls)) c.over_own_image-own.ensures (c.walk_to_end_over.ensures.why (end_reason_of_chain c.args.space.now.modules (last_state s calls))) comes,
    )

pub returns-clause-stopped : goal.returns-clause-stopped
returns-clause-stopped g c functions s call calls starts marked =
    let w = stopped_walked c.args.space.now functions s call calls c.args.start.now c.image.ensures.apart c.image.ensures.laid_out c.args.limit starts in
    let line : line_of c.args.space.now c.args.limit c.args.start.now c.args.interrupted ≡ Ok w.0 = rw marked w.1 in
    let comes : ComesTo (end_reason_of_chain c.args.space.now.modules (last_state call.caller calls)) c.args.space.now c.args.limit c.args.start.now c.args.interrupted =
    rw marked (stop_comes c.args.space.now c.image.ensures.apart c.image.ensures.laid_out c.args.start.now c.args.limit functions s call calls starts) in (
      subst (λ (cs : List Context). ShowChain cs s (call ∷ calls)) (sym (states_over c.over_own_image-own.result c.args.space.now c.args.limit c.args.start.now c.args.interrupted c.walk_to_end_over.new.room.visited w.0 c.over_own_image-own.ensures (c.walk_to_end_over.ensures.whole w.0) line)) w.2,
      reason_over c.over_own_image-own.result c.args.space.now c.args.limit c.args.start.now c.args.interrupted c.walk_to_end_over.result (end_reason_of_chain c.args.space.now.modules (last_state call.caller calls)) c.over_own_image-own.ensures (c.walk_to_end_over.ensures.why (end_reason_of_chain c.args.space.now.modules (last_state call.caller calls))) comes,
    )

pub returns-clause-known : goal.returns-clause-known
returns-clause-known g c s callers starts =
    let w = known_walked c.args.space.now c.image.ensures.apart c.image.ensures.laid_out c.args.start.now c.args.limit c.args.interrupted s callers starts in
    let comes = known_comes c.args.space.now c.image.ensures.apart c.image.ensures.laid_out c.args.start.now c.args.limit c.args.interrupted s callers starts in (
      subst (λ (cs : List Context). ShowStack c.args.space.now cs c.args.interrupted s callers starts.stack) (sym (states_over c.over_own_image-own.result c.args.space.now c.args.limit c.args.start.now c.args.interrupted c.walk_to_end_over.new.room.visited w.0 c.over_own_image-own.ensures (c.walk_to_end_over.ensures.whole w.0) w.1)) w.2,
      reason_over c.over_own_image-own.result c.args.space.now c.args.limit c.args.start.now c.args.interrupted c.walk_to_end_over.result (end_reason_of_stack c.args.space.now c.args.interrupted s callers starts.stack) c.over_own_image-own.ensures (c.walk_to_end_over.ensures.why (end_reason_of_stack c.args.space.now c.args.interrupted s callers starts.stack)) comes,
    )
