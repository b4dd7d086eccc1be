use Rattle.std.proofs.Common.{◌≡◌, drop, map}
use Rattle.mapped_modules.specs.Spaces.{with_regions}
use Rattle.core_parts.specs.Views.{window_span}
use Rattle.core_parts.proofs.spaces.add_windows.Given as goal

abbrev pub invariant-loop-window : goal.invariant-loop-window
invariant-loop-window l = with_regions l.image (map window_span (drop l.window-index l.windows)) ≡ with_regions l.initial.image (map window_span l.windows)
