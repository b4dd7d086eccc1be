use Rattle.std.proofs.Common.{◌≡◌, [], drop}
use Rattle.kalzurenk_c.specs.Deliveries.{resumes_after}
use Rattle.kalzurenk_c.proofs.delivery.resumes_of.Given as goal

abbrev pub invariant-loop-pair : goal.invariant-loop-pair
invariant-loop-pair l = record {
  place : l.place ≡ l.pair-index;
  table : resumes_after l.place l.resumes (drop l.pair-index l.pairs) ≡ resumes_after 0 [] l.pairs;
}
