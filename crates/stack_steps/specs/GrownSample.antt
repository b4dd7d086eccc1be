-- An image of a table, and the same with a stack beside it.
use Rattle.std.specs.Prelude.{List, [], ◌∷◌}
use Rattle.memory_image.specs.Image.{Span}
use Rattle.stack_steps.specs.Modules.{SpaceValue}

abbrev pub table_span : Span
table_span = record { start = 0x1000; bytes = 7 ∷ [] }

abbrev pub stack_span : Span
stack_span = record { start = 0x7000; bytes = 9 ∷ [] }

abbrev pub table_image : List Span
table_image = table_span ∷ []

abbrev pub grown_image : List Span
grown_image = table_span ∷ stack_span ∷ []

-- without modules
abbrev pub table_space : SpaceValue
table_space = record { image = table_image; modules = []; added = [] }
