use Rattle.std.proofs.Common.{◌≡◌, drop}
use Rattle.kalzurenk_c.specs.Given.{space_after}
use Rattle.kalzurenk_c.proofs.given.add_modules.Given as goal

abbrev pub invariant-loop-given : goal.invariant-loop-given
invariant-loop-given l = record {
  place : l.place ≡ l.given-index;
  space : space_after l.place l.space (drop l.given-index l.modules) ≡ space_after 0 l.fn.space l.modules;
}
