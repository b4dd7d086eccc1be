-- One more description that stands beside those before it and functions.
use Rattle.std.proofs.Common.{◌≡◌, ℕ, ◌≤◌, false, List, [], ◌∷◌, ◌++◌, Option, Some, None, sym, subst}
use Rattle.std.specs.Prelude.{is_some, MatchOption}
use Rattle.memory_image.specs.Image.{Span}
use Rattle.unwind_definitions.specs.Entries.{AFde, Entry, Fde}
use Rattle.unwind_definitions.specs.Function.{Function}
use Rattle.unwind_definitions.specs.Scan.{fdes_of}
use Rattle.fde_finders.specs.FrameTables.{FrameTable}
use Rattle.table_check.specs.declared.claims.Claim.{Claim}
use Rattle.table_check.specs.declared.header_tables.ListedSoFar.{ListedSoFar}
use Rattle.table_check.specs.Findings.{StandSoFar}
use Rattle.table_check.specs.Marks.{AreMarked}
use Rattle.table_check.specs.Pairs.{SaysListed}
use Rattle.table_check.specs.Scanned.{EndsBy, MayStand}
use Rattle.table_check.proofs.Beside.{ends_higher, ends_more, fdes_fde, stand_more}

pub if_none : (A : Type 0) (B : ℕ → Type 0) (o : Option ℕ) → is_some o ≡ false → MatchOption o A B → A
if_none A B None is told = told
if_none A B (Some n) is told = absurd cc

pub as_none : (A : Type 0) (B : ℕ → Type 0) (o : Option ℕ) → is_some o ≡ false → A → MatchOption o A B
as_none A B None is a = a
as_none A B (Some n) is a = absurd cc

module _ (image : List Span) (t : FrameTable) (functions : List Function) (claims later : List Claim) where
  pub stands_on : (before : List Entry) (fde : Fde) (highest higher : ℕ) (l more : ListedSoFar) → StandSoFar image t functions claims (fdes_of before) highest l → MayStand functions (fdes_of before) fde → highest ≤ higher → EndsBy higher fde →
      AreMarked image t.bases (fdes_of before ++ fde ∷ []) later → SaysListed t.pairs t.entries.base (fdes_of before ++ fde ∷ []) more →
      StandSoFar image t functions later (fdes_of (before ++ AFde fde ∷ [])) higher more
  stands_on before fde highest higher l more s may le ends marks listed = subst (λ fdes. StandSoFar image t functions later fdes higher more) (sym (fdes_fde before fde)) (record {
    stand = stand_more functions (fdes_of before) fde s.stand may;
    ends = ends_more higher (fdes_of before) fde (ends_higher highest higher (fdes_of before) le s.ends) ends;
    marks = marks;
    listed = listed;
  })
