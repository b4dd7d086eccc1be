-- The modules of parts, one part after another.
use Rattle.std.proofs.Common.{◌≡◌, ℕ, List, [], ◌∷◌, ◌++◌, map, Some, None, refl, sym, ap, ◌∙◌, append_assoc}
use Rattle.std.proofs.lemmas.List.{map-append}
use Rattle.core_file.specs.MappedParts.{PartValue}
use Rattle.mapped_modules.specs.declared.loading.LoadedModule.{LoadedModule}
use Rattle.mapped_modules.specs.declared.places.ModulePlace.{ModulePlace}
use Rattle.mapped_files.specs.Files.{front_of}
use Rattle.mapped_modules.specs.Loading.{LoadedValue, loaded_at, loaded_from, loaded_value, place_in}

-- a part that is code
pub loaded_next : (all : List ℕ → List ℕ) (items : List LoadedModule) (one : LoadedModule) (part : PartValue) (rest : List PartValue) (place : ModulePlace) (whole : List LoadedValue)
    → place_in (front_of (all part.path)) part ≡ Some place → loaded_value one ≡ loaded_at (all part.path) place → map loaded_value items ++ loaded_from all (part ∷ rest) ≡ whole
    → map loaded_value (items ++ one ∷ []) ++ loaded_from all rest ≡ whole
loaded_next all items one part rest place whole is loaded before =
    let first : loaded_from all (part ∷ rest) ≡ loaded_value one ∷ loaded_from all rest = rw (is, loaded) refl in
    ap (λ (l : List LoadedValue). l ++ loaded_from all rest) (map-append loaded_value items (one ∷ []))
    ∙ append_assoc (map loaded_value items) (loaded_value one ∷ []) (loaded_from all rest)
    ∙ ap (λ (l : List LoadedValue). map loaded_value items ++ l) (sym first) ∙ before

-- a part that is none
pub loaded_passed : (all : List ℕ → List ℕ) (items : List LoadedModule) (part : PartValue) (rest : List PartValue) (whole : List LoadedValue)
    → place_in (front_of (all part.path)) part ≡ None → map loaded_value items ++ loaded_from all (part ∷ rest) ≡ whole
    → map loaded_value items ++ loaded_from all rest ≡ whole
loaded_passed all items part rest whole none before =
    let same : loaded_from all (part ∷ rest) ≡ loaded_from all rest = rw none refl in
    ap (λ (l : List LoadedValue). map loaded_value items ++ l) (sym same) ∙ before
