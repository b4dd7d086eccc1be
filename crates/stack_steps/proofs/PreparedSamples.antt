-- The module of the sample is prepared, and whatever `prepare` makes of it has an index.
use Rattle.std.proofs.Common.{◌≡◌, ℕ, ◌<◌, List, [], ◌∷◌, Option, Some, None, refl, sym, ◌∙◌, subst, inl, inr, lit<, lit≤}
use Rattle.eh_frame.specs.Index.{Index, CannotBePrepared}
use Rattle.eh_frame.specs.PreparedSample as sample
use Rattle.eh_frame.proofs.Exactly.{can_be}
use Rattle.eh_frame.proofs.SampleIndex.{is_prepared}
use Rattle.fde_finders.specs.Finding.{table_bases}
use Rattle.fde_finders.specs.FrameTables.{FrameTable, table_by}
use Rattle.stack_steps.specs.Modules.{SpaceValue, without_index}
use Rattle.stack_steps.specs.Preparing.{CannotPrepare, HasNoIndex, IsIndexOf, Make, Prepares, PreparesAt, prepared_len, rows_left, rules_left, with_indexes}
use Rattle.stack_steps.specs.PreparedSample.{image, module_there, tables_there, unprepared_space, prepared_space}

-- the table that the module names
abbrev named : FrameTable
named = record { entries = sample.table; bases = table_bases None 0x500000; pairs = None }

names : table_by tables_there image ≡ Some named
names = refl

fits : HasNoIndex image tables_there (rows_left unprepared_space.added) (rules_left unprepared_space.added) → ⊥
fits h =
    let one : ◌≡◌ {A = Option FrameTable} (Some h.table) (Some named) = sym h.names ∙ names in
    let same : h.table ≡ named = cc in
    let unfit = subst (λ (t : FrameTable). CannotBePrepared t.bases t.entries (rows_left unprepared_space.added) (rules_left unprepared_space.added)) same h.unfit in
    can_be named.bases named.entries (rows_left unprepared_space.added) (rules_left unprepared_space.added) sample.index (is_prepared named.bases) (lit≤ tt) (lit≤ tt) unfit

is_index : IsIndexOf image tables_there sample.index
is_index = record { table = named; names = names; prepared = is_prepared named.bases; listed = tt }

pub sample_prepares : Prepares unprepared_space 1 prepared_space
sample_prepares = record {
  made = Some sample.index ∷ [];
  rows_after = 1048574;
  rules_after = 4194301;
  make = (record { unprepared = refl; is_index = is_index; rows_fit = lit≤ tt; rules_fit = lit≤ tt; some = lit< tt; fits = fits }, (refl, refl));
  counted = refl;
  is = refl;
}

pub sample_prepares_at : PreparesAt unprepared_space 0x401006 prepared_space
sample_prepares_at = record {
  place = 0;
  at = record { added = without_index module_there; stands = refl; holds = refl; indexed = refl };
  index = sample.index;
  becomes = record { unprepared = refl; is_index = is_index; rows_fit = lit≤ tt; rules_fit = lit≤ tt; some = lit< tt; fits = fits };
  is = refl;
}

-- the module can be prepared
can_prepare : CannotPrepare image tables_there (rows_left unprepared_space.added) (rules_left unprepared_space.added) → ⊥
can_prepare (inl nameless) = let c = sym names ∙ nameless in cc
can_prepare (inr (inl none)) = fits none
can_prepare (inr (inr unlisted)) = unlisted.unlisted tt

some_index : (made : List (Option Index)) (rows rules : ℕ) → Make image (rows_left unprepared_space.added) (rules_left unprepared_space.added) unprepared_space.added made rows rules
    → 0 < prepared_len (record unprepared_space { added = with_indexes unprepared_space.added made }) 0x401006
some_index [] rows rules make = absurd make
some_index (None ∷ made) rows rules make = elim make.0 [
  | inl indexed ↦ absurd cc
  | inr cannot ↦ absurd (can_prepare cannot)
]
some_index (Some index ∷ []) rows rules make = make.0.is_index.prepared.some
some_index (Some index ∷ (o ∷ made)) rows rules make = absurd make.1

pub whatever_is_prepared : (count : ℕ) (space : SpaceValue) → Prepares unprepared_space count space → 0 < prepared_len space 0x401006
whatever_is_prepared count space p = subst (λ (s : SpaceValue). 0 < prepared_len s 0x401006) (sym p.is) (some_index p.made p.rows_after p.rules_after p.make)
