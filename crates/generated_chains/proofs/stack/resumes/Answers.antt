use Rattle.std.proofs.Common.{arith}
use Rattle.generated_chains.proofs.stack.resumes.Goals as goal
use Rattle.generated_chains.proofs.Loops.{index_at, resumes_turn, past}

pub put_resume-requires : goal.put_resume-requires
put_resume-requires c = let at = index_at 0 c.args.functions.now c.loop-function.function-index past c.requires.numbered (omega arith) in omega (arith, at)

pub loop-function-preserved : goal.loop-function-preserved
loop-function-preserved c = resumes_turn c.args.functions.now c.loop-function.function-index past c.loop-function.made.items c.put_resume.new.made.items (omega arith) c.loop-function.invariant c.in_ok-put_resume.ensures
