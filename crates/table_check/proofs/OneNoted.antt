-- What is noted of the one description that has a claim's range.
use Rattle.std.proofs.Common.{◌≡◌, Bool, true, List, [], ◌∷◌, Some, None, sym, subst, ◌∙◌}
use Rattle.std.specs.Bool.{Decides}
use Rattle.std.specs.List.{Contains}
use Rattle.memory_image.specs.Image.{Span}
use Rattle.unwind_definitions.specs.Pointers.{Bases}
use Rattle.unwind_definitions.specs.Entries.{Fde}
use Rattle.unwind_definitions.specs.Function.{Function}
use Rattle.unwind_definitions.specs.FrameTable.{DescribesCode, has_range_of}
use Rattle.unwind_definitions.specs.LanguageTable.{LeadsToLanguage}
use Rattle.table_check.specs.declared.claims.Claim.{Claim}
use Rattle.table_check.specs.declared.claims.Described.{Described}
use Rattle.table_check.specs.AllEntries.{AllApart}
use Rattle.table_check.specs.ClaimViews.{function_of}
use Rattle.table_check.specs.Descriptions.{HasCode, HasLanguage, HasOne}
use Rattle.table_check.specs.Marks.{IsMarked, IsNoted, NotesRightly}
use Rattle.table_check.specs.Scanned.{IsDescribedAmong}
use Rattle.table_check.proofs.Apart.{one_has}
use Rattle.table_check.proofs.Deciding.{decides_as}

-- what is decided of it is decided of the one that has the function's range
one_decides : (P : Fde → Type 0) (f : Function) (fdes : List Fde) (fde : Fde) (b : Bool) → AllApart fdes → Contains fdes fde → has_range_of f fde ≡ true → Decides b (P fde) → Decides b (HasOne fdes f P)
one_decides P f fdes fde b apart has range d =
    let one = one_has f fdes fde apart has range in
    decides_as b (λ p. record { fde = fde; one = one; holds = p }) (λ h. subst P (same h.fde (sym h.one ∙ one)) h.holds) d
  where
    same : (x : Fde) → x ∷ [] ≡ fde ∷ [] → x ≡ fde
    same x e = cc

module _ (image : List Span) (bases : Bases) (fdes : List Fde) (apart : AllApart fdes) (c : Claim) (marked : IsMarked image bases fdes c) where
  noted : (d : Described) → c.description ≡ Some d → IsNoted image bases fdes (function_of c) d
  noted d is = subst (NotesRightly image bases fdes (function_of c)) is marked

  pub code_decides : (d : Described) → c.description ≡ Some d → Decides d.has_code (HasCode image bases fdes (function_of c))
  code_decides d is = let n = noted d is in one_decides (DescribesCode image bases (function_of c)) (function_of c) fdes n.fde d.has_code apart n.among n.range n.code

  pub language_decides : (d : Described) → c.description ≡ Some d → Decides d.has_language (HasLanguage image bases fdes (function_of c))
  language_decides d is = let n = noted d is in one_decides (λ (fde : Fde). LeadsToLanguage image (function_of c) fde.language) (function_of c) fdes n.fde d.has_language apart n.among n.range n.language

  -- one that is there is noted
  pub some_noted : IsDescribedAmong fdes (function_of c) → c.description ≡ None → ⊥
  some_noted some is = subst (NotesRightly image bases fdes (function_of c)) is marked some
