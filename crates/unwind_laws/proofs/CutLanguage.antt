-- A language table that is cut inside its action table.
use Rattle.std.proofs.Common.{◌≡◌, ◌-◌, List, [], ◌∷◌, Err, refl, sym, ap, subst, ◌∙◌}
use Rattle.unwind_definitions.specs.declared.error.Error.TheVariants.{UnexpectedEof}
use Rattle.unwind_definitions.specs.Input.{Input, split}
use Rattle.unwind_definitions.specs.Pointers.{Bases}
use Rattle.unwind_definitions.specs.Function.{Site}
use Rattle.unwind_definitions.specs.LanguageTable.{input_at, AreSites, IsLanguageTable}
use Rattle.unwind_definitions.specs.LanguageSearch.{search}
use Rattle.unwind_definitions.specs.Caller.{Table}
use Rattle.unwind_laws.specs.Three.{cut_image}
use Rattle.unwind_laws.proofs.OneLanguage.{same_pair}

abbrev after : Input
after = record { base = 0x50200c; offset = 5; bytes = 0x08 ∷ 0x10 ∷ 0x20 ∷ 0x01 ∷ 0x81 ∷ [] }

abbrev listed : Input
listed = record { base = 0x50200c; offset = 5; bytes = 0x08 ∷ 0x10 ∷ 0x20 ∷ 0x01 ∷ [] }

abbrev actions : Input
actions = record { base = 0x50200c; offset = 9; bytes = 0x81 ∷ [] }

none : (sites : List Site) → AreSites 0x401050 actions listed sites → ⊥
none [] are = absurd cc
none (s ∷ ss) are = let reads = are.1 in absurd cc

pub undescribed : (sites : List Site) → IsLanguageTable cut_image 0x50200c 0x401050 sites → ⊥
undescribed sites is =
    let header = same_pair 4 is.size after is.after is.header in
    let parts = same_pair listed is.listed actions is.actions (ap (λ n. split n after) header.value ∙ ap (λ (b : Input). split is.size b) header.rest ∙ is.parts) in
    none sites (subst (λ (i : Input). AreSites 0x401050 i listed sites) (sym parts.rest) (subst (λ (i : Input). AreSites 0x401050 is.actions i sites) (sym parts.value) is.each))

pub unread : (bases : Bases) → search cut_image bases 0x401050 (0x401060 - 1) (input_at cut_image 0x50200c) ≡ Err (Table UnexpectedEof)
unfolding search
unread bases = refl
