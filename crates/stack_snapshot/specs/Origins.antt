-- Where the modules of a snapshot come from: their files, and by how much they were moved when they were loaded.
use Rattle.std.specs.Prelude.{ℕ, ◌==◌, ◌&&◌, List, [], ◌∷◌, Option, Some, None, codes, nat_le, nat_lt, if◌then◌else◌, option_map, option_and_then, Result, Ok, Err}
use Rattle.serde_json.specs.Data.{Data, Items, no_items, item}
use Rattle.serde_json.specs.Find.{get, as_array, as_str}
use Rattle.stack_snapshot.specs.Fields.{word_at}

-- a module's addresses, the path of its file, and what was added to the addresses of the file
pub record OriginValue : Type 0 where
  pub start : ℕ
  pub end : ℕ
  pub path : List ℕ
  pub bias : ℕ

abbrev pub origin_with : ℕ → ℕ → ℕ → List ℕ → OriginValue
origin_with start end bias path = record { start = start; end = end; path = path; bias = bias }

-- what a module says of its file; nothing where a member is missing or is another value than a word or a text
abbrev pub origin_of : Data → Option OriginValue
origin_of d = option_and_then (λ start. option_and_then (λ end. option_and_then (λ bias. option_map (origin_with start end bias)
    (option_and_then as_str (get (codes "path") d))) (word_at (codes "bias") d)) (word_at (codes "end") d)) (word_at (codes "start") d)

abbrev pub with_origin : Option OriginValue → List OriginValue → List OriginValue
with_origin None os = os
with_origin (Some o) os = o ∷ os

-- the modules that say so, in their order
abbrev pub origin_list : Items → List OriginValue
origin_list no_items = []
origin_list (item d ds) = with_origin (origin_of d) (origin_list ds)

abbrev pub origins_in : Option Items → List OriginValue
origins_in None = []
origins_in (Some ds) = origin_list ds

unfoldable pub origins_of : Data → List OriginValue
origins_of d = origins_in (option_and_then as_array (get (codes "modules") d))

-- the first of them that holds an address
abbrev pub origin_at : List OriginValue → ℕ → Option OriginValue
origin_at [] a = None
origin_at (o ∷ os) a = if nat_le o.start a && nat_lt a o.end then Some o else origin_at os a

-- what is after the last slash, if there is one
abbrev pub after_last : List ℕ → List ℕ → List ℕ
after_last kept [] = kept
after_last kept (c ∷ cs) = if c == 47 then after_last cs cs else after_last kept cs

abbrev pub file_name : List ℕ → List ℕ
file_name path = after_last path path

-- the same of bytes, by their value as a JSON text
abbrev pub origins_by : Option Data → List OriginValue
origins_by None = []
origins_by (Some d) = origins_of d

-- the first of two that were read together
abbrev pub snapshot_in : {A B E : Type 0} → Result (A × B) E → Result A E
snapshot_in (Ok both) = Ok both.0
snapshot_in (Err e) = Err e
