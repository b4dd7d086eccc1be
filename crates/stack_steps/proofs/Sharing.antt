-- What was made for one module is made for another that names the same tables.
use Rattle.std.proofs.Common.{◌≡◌, ◌≤◌, List, Option, Some, None, Result, Ok, Err, sym, ◌∙◌, subst}
use Rattle.std.specs.Prelude.{IfOk}
use Rattle.memory_image.specs.Image.{Span}
use Rattle.eh_frame.specs.Index.{CannotBePrepared}
use Rattle.eh_frame.proofs.Exactly.{can_be}
use Rattle.fde_finders.specs.declared.custom.FrameInfo.{FrameInfo}
use Rattle.fde_finders.specs.FrameTables.{FrameTable}
use Rattle.stack_steps.specs.declared.prepared.Left.{Left}
use Rattle.stack_steps.specs.declared.prepared.PreparedTable.{PreparedTable}
use Rattle.stack_steps.specs.declared.shared_table.Tried.{Tried}
use Rattle.stack_steps.specs.AddedModule.{FitsWithin, IsMadeOf, IsTableOf, IsTried, PreparesTable, kept_table}
use Rattle.stack_steps.specs.Preparing.{HasNoIndex}

module _ (image : List Span) (tables : FrameInfo) where
  -- an index that keeps no more than is left is one that can be made
  can_be_made : (left : Left) (t : PreparedTable) → IsTableOf image tables t → t.index.row_count ≤ left.rows → t.index.rule_count ≤ left.rules → HasNoIndex image tables left.rows left.rules → ⊥
  can_be_made left t is rows rules h =
      let kept : FrameTable = kept_table t is.pairs in
      let one : ◌≡◌ {A = Option FrameTable} (Some h.table) (Some kept) = sym h.names ∙ is.names in
      let same : h.table ≡ kept = cc in
      let unfit = subst (λ (f : FrameTable). CannotBePrepared f.bases f.entries left.rows left.rules) same h.unfit in
      can_be kept.bases kept.entries left.rows left.rules t.index is.prepared rows rules unfit

  served : (left : Left) (o : Option PreparedTable) → IsMadeOf image left tables o → FitsWithin left o → PreparesTable image tables left o
  served left None is fits = is
  served left (Some t) is fits = record { is_table = is; rows_fit = fits.0; rules_fit = fits.1; fits = can_be_made left t is fits.0 fits.1 }

pub served_before : (image : List Span) (tables : FrameInfo) (left : Left) (tried : Tried) (o : Option PreparedTable) → IsTried image left (Some tried) → tried.tables ≡ tables → FitsWithin left tried.table → o ≡ tried.table → PreparesTable image tables left o
served_before image tables left tried o is same fits at =
    subst (PreparesTable image tables left) (sym at) (served image tables left tried.table (subst (λ (f : FrameInfo). IsMadeOf image left f tried.table) same is) fits)

pub served_if_ok : {E : Type 0} (image : List Span) (tables : FrameInfo) (left : Left) (tried : Tried) (r : Result (Option PreparedTable) E) → IsTried image left (Some tried) → tried.tables ≡ tables → FitsWithin left tried.table → IfOk r (λ o. o ≡ tried.table) →
    IfOk r (λ o. PreparesTable image tables left o)
served_if_ok image tables left tried (Ok o) is same fits at = served_before image tables left tried o is same fits at
served_if_ok image tables left tried (Err e) is same fits at = tt
