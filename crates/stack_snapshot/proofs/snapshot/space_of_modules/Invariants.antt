use Rattle.std.proofs.Common.{◌≡◌, drop, take, map, []}
use Rattle.stack_steps.specs.Modules.{without_index}
use Rattle.stack_snapshot.specs.Content.{takes_modules, modules_after}
use Rattle.stack_snapshot.proofs.snapshot.space_of_modules.Given as goal

abbrev pub invariant-loop-module : goal.invariant-loop-module
invariant-loop-module l = record {
  image : l.space.image ≡ l.initial.space.image;
  modules : modules_after l.space.modules (drop l.module-index l.modules) ≡ modules_after [] l.modules;
  added : l.space.added ≡ map without_index (take l.module-index l.modules);
  taken : takes_modules l.space.modules (drop l.module-index l.modules) ≡ takes_modules [] l.modules;
}
