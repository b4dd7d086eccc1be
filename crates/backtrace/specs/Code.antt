-- Code of which no module has a table, as a snapshot names it beside the files of its modules.
use Rattle.std.specs.Prelude.{ℕ, ◌&&◌, List, [], ◌∷◌, Option, Some, None, codes, nat_le, nat_lt, if◌then◌else◌, option_map, option_and_then}
use Rattle.serde_json.specs.Data.{Data, Items, no_items, item}
use Rattle.serde_json.specs.Find.{get, as_array, as_str}
use Rattle.stack_snapshot.specs.Fields.{word_at}
use Rattle.stack_snapshot.specs.Origins.{OriginValue, origins_of}

-- a range of addresses, and the path of the file that is mapped there, empty where none is
pub record CodeValue : Type 0 where
  pub start : ℕ
  pub end : ℕ
  pub path : List ℕ

abbrev pub range_with : List ℕ → ℕ → ℕ → CodeValue
range_with path start end = record { start = start; end = end; path = path }

abbrev pub text_or_none : Option (List ℕ) → List ℕ
text_or_none None = []
text_or_none (Some text) = text

abbrev pub path_of : Data → List ℕ
path_of d = text_or_none (option_and_then as_str (get (codes "path") d))

-- the range that an item says; none where one of its two words is missing or is none
abbrev pub range_of : Data → Option CodeValue
range_of d = option_and_then (λ start. option_map (range_with (path_of d) start) (word_at (codes "end") d)) (word_at (codes "start") d)

abbrev pub with_range : Option CodeValue → List CodeValue → List CodeValue
with_range None cs = cs
with_range (Some c) cs = c ∷ cs

-- those of the items that say one, in their order
abbrev pub code_list : Items → List CodeValue
code_list no_items = []
code_list (item d ds) = with_range (range_of d) (code_list ds)

abbrev pub code_items : Option Items → List CodeValue
code_items None = []
code_items (Some ds) = code_list ds

unfoldable pub code_of : Data → List CodeValue
code_of d = code_items (option_and_then as_array (get (codes "code") d))

-- the first of them that holds an address, from its start to before its end
abbrev pub code_at : List CodeValue → ℕ → Option CodeValue
code_at [] a = None
code_at (c ∷ cs) a = if nat_le c.start a && nat_lt a c.end then Some c else code_at cs a

-- ---- beside the files of modules

pub record PlacesValue : Type 0 where
  pub origins : List OriginValue
  pub code : List CodeValue

abbrev pub places_of : Data → PlacesValue
places_of d = record { origins = origins_of d; code = code_of d }

-- files of modules alone
abbrev pub without_code : List OriginValue → PlacesValue
without_code origins = record { origins = origins; code = [] }

-- the same of bytes, by their value as a JSON text
abbrev pub places_by : Option Data → PlacesValue
places_by None = without_code []
places_by (Some d) = places_of d
