-- What words ask for.
use Rattle.std.specs.Prelude.{ℕ, true, false, List, [], ◌∷◌, Option, Some, None, codes, if◌then◌else◌, option_and_then}
use Rattle.std.specs.Str.{bytes_eq}
use Rattle.backtrace.specs.declared.options.Options.{Options}

-- without words
abbrev pub plain : Options
plain = record { registers = false; samples = false; frame_pointers = false }

-- options, and the one that a word names
abbrev pub with_option : List ℕ → Options → Option Options
with_option word o =
    if bytes_eq word (codes "--registers") then Some (record o { registers = true })
    else if bytes_eq word (codes "--samples") then Some (record o { samples = true })
    else if bytes_eq word (codes "--frame-pointers") then Some (record o { frame_pointers = true })
    else None

-- no word, or one to three that name options
abbrev pub options_of : List (List ℕ) → Option Options
options_of [] = Some plain
options_of (word ∷ []) = with_option word plain
options_of (word ∷ other ∷ []) = option_and_then (with_option other) (with_option word plain)
options_of (word ∷ other ∷ third ∷ []) = option_and_then (with_option third) (option_and_then (with_option other) (with_option word plain))
options_of (word ∷ other ∷ third ∷ fourth ∷ more) = None
