use Rattle.std.proofs.Common.{◌≡◌, take}
use Rattle.generated_chains.specs.Calls.{resumes_of}
use Rattle.generated_chains.proofs.stack.resumes.Given as goal

abbrev pub invariant-loop-function : goal.invariant-loop-function
invariant-loop-function l = l.made.items ≡ resumes_of (take l.function-index l.functions)
