-- Small regions and modules.
use Rattle.std.specs.Prelude.{ℕ, ◌-◌, ◌^◌, List, [], ◌∷◌}
use Rattle.memory_image.specs.Image.{Span}
use Rattle.stack_steps.specs.Modules.{SpaceValue}
use Rattle.kalzurenk_c.specs.declared.given.GivenModule.{GivenModule}
use Rattle.kalzurenk_c.specs.Given.{SizedSpan, empty_space}
use Rattle.kalzurenk_c.specs.Sizes.{module_size, region_size}

-- a region whose struct has such a size
abbrev pub sized_as : ℕ → SizedSpan → SizedSpan
sized_as size s = record s { size = size }

abbrev pub sized : Span → SizedSpan
sized s = record { size = region_size; span = s }

abbrev pub at_start : List ℕ → SizedSpan
at_start bytes = sized (record { start = 0x1000; bytes = bytes })

-- it has the highest address, and one more
abbrev pub at_end : SizedSpan
at_end = sized (record { start = 2 ^ 64 - 1; bytes = 0 ∷ 0 ∷ [] })

abbrev pub there : SpaceValue
there = let s = at_start (0 ∷ []) in empty_space (s.span ∷ [])

-- of a format, from 0x1000 on
abbrev pub given_module : ℕ → ℕ → GivenModule
given_module format end = record { size = module_size; start = 0x1000; end = end; tables = 0x1000; more = 0; format = format }
