use Rattle.std.proofs.Common.{◌≡◌, drop, map}
use Rattle.mapped_modules.specs.Loading.{loaded_value}
use Rattle.mapped_modules.specs.Spaces.{codes_of, with_modules}
use Rattle.mapped_modules.proofs.spaces.space_over.Given as goal

abbrev pub invariant-loop-one : goal.invariant-loop-one
invariant-loop-one l = with_modules l.space (codes_of (map loaded_value (drop l.one-index l.loaded))) ≡ with_modules l.initial.space (codes_of (map loaded_value l.loaded))
