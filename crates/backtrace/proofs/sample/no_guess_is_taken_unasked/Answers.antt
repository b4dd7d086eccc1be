use Rattle.std.proofs.Common.{false, []}
use Rattle.backtrace.proofs.Guesses.{one_guesses}
use Rattle.backtrace.proofs.StackTexts.{none_unasked}
use Rattle.backtrace.proofs.sample.no_guess_is_taken_unasked.Goals as goal

pub returns : goal.returns
returns c = λ space code limit n t ts guesses. one_guesses false space code limit n t ts [] guesses (none_unasked space code t)
