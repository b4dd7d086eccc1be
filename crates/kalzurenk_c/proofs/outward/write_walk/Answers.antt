use Rattle.std.proofs.Common.{◌≡◌, ℕ, length, ap, ◌∙◌}
use Rattle.stack_walks.specs.declared.walk_end.EndReason.{EndReason}
use Rattle.stack_walks.specs.WalkEnds.{ComesTo}
use Rattle.stack_walks.specs.KnownWalks.{end_reason_of_stack}
use Rattle.stack_walks.proofs.EndAnswers.{one_front}
use Rattle.stack_walks.proofs.KnownLines.{known_comes}
use Rattle.kalzurenk_c.specs.Outward.{states_from}
use Rattle.kalzurenk_c.specs.Told.{TellsKnown, end_told}
use Rattle.kalzurenk_c.proofs.KnownFrames.{known_told}
use Rattle.kalzurenk_c.proofs.OutwardLemmas.{stop_comes}
use Rattle.kalzurenk_c.proofs.outward.write_walk.Goals as goal

pub returns : goal.returns
unfolding TellsKnown
returns c =
    let space = c.args.space.now in
    let limit = c.args.start.now.limit in
    let start = c.args.start.now.state in
    let stop = c.stack_frames-stop.ensures.stop in
    let came : ComesTo c.front_at-why.result space limit start.context start.signal = stop_comes space limit start c.stack_frames-stop.new.state c.stack_frames-stop.result.last c.front_at-why.result stop.1 c.front_at-why.ensures in
    let count : c.from.result ≡ length (states_from space limit start) = c.from.ensures ∙ stop.0 in
    let told : (why : EndReason) → ComesTo why space limit start.context start.signal → c.end_told.result ≡ end_told (length (states_from space limit start)) why =
    λ why comes. c.end_told.ensures ∙ ap (λ (n : ℕ). end_told n c.front_at-why.result) count ∙ ap (end_told (length (states_from space limit start))) (one_front space limit start c.front_at-why.result why came comes) in (
      c.stack_frames-stop.ensures.frames,
      told,
      λ s callers starts.
          let known = known_told space c.image.ensures.apart c.image.ensures.laid_out limit start s callers c.args.frames.now starts in
          let comes = known_comes space c.image.ensures.apart c.image.ensures.laid_out start.context limit start.signal s callers starts in (
            c.stack_frames-stop.ensures.frames ∙ known.0,
            told (end_reason_of_stack space start.signal s callers starts.stack) comes ∙ ap (λ (n : ℕ). end_told n (end_reason_of_stack space start.signal s callers starts.stack)) known.1,
          ),
    )
