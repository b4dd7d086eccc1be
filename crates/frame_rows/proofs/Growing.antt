-- A table of rows grows: what stood in it still stands, and says the same.
use Rattle.std.proofs.Common.{◌≡◌, ℕ, ◌+◌, ◌^◌, ◌<◌, ◌≤◌, List, [], ◌∷◌, ◌++◌, length, map, get_or, Result, Err, refl, sym, ap, ◌∙◌, arith, length-append}
use Rattle.std.specs.List.{AllByRecursion}
use Rattle.std.proofs.lemmas.List.{append-nil, map-append, get_or_append_left}
use Rattle.unwind_definitions.specs.declared.error.Error.{Error as Fault}
use Rattle.unwind_definitions.specs.declared.error.Error.TheVariants.{NoCfaRegister}
use Rattle.frame_rows.specs.RowValue.{RowValue}
use Rattle.frame_rows.specs.KeptRows.{Kept, IsLonger}
use Rattle.frame_rows.specs.Bodies.{Grows, Says}
use Rattle.frame_rows.specs.TableRows.{HasBody, IsPushed, IsTable, kept_in}
use Rattle.frame_rows.specs.declared.row_table.TableRow.{TableRow}
use Rattle.frame_rows.specs.declared.row_table.RowLimits.{RowLimits}
use Rattle.frame_rows.proofs.BodiesGrow.{all_push}

module _ (old new : List (Result RowValue Fault)) (g : Grows old new) where
  all_still : (ks : List TableRow) → AllByRecursion (HasBody old) ks → AllByRecursion (HasBody new) ks
  all_still [] all = tt
  all_still (k ∷ ks) all = (let n = ap length g.grown in let m = length-append old g.more in let b = all.0 in omega arith, all_still ks all.1)

  all_same : (ks : List TableRow) → AllByRecursion (HasBody old) ks → map (kept_in new) ks ≡ map (kept_in old) ks
  all_same [] all = refl
  all_same (k ∷ ks) all =
      let there : get_or new k.body (Err NoCfaRegister) ≡ get_or old k.body (Err NoCfaRegister) =
      ap (λ l. get_or l k.body (Err NoCfaRegister)) g.grown ∙ get_or_append_left old g.more (Err NoCfaRegister) k.body all.0 in
      ap (λ (a : Result RowValue Fault). let r : Kept = record { location = k.distance; answer = a } in r ∷ map (kept_in new) ks) there
      ∙ ap (λ l. kept_in old k ∷ l) (all_same ks all.1)

  pub table_still : (ks : List TableRow) (count : ℕ) → IsTable old ks count → IsTable new ks count
  table_still ks count is = record { bodied = all_still ks is.bodied; counted = is.counted; fits = is.fits }

  -- what stands in the table still does
  pub still_there : (ks : List TableRow) → AllByRecursion (HasBody old) ks → IsLonger (map (kept_in old) ks) (map (kept_in new) ks)
  still_there ks all = record { more = []; grown = all_same ks all ∙ sym (append-nil (map (kept_in old) ks)) }

  module _ (distance place : ℕ) (answer : Result RowValue Fault) (says : Says new place answer) where
    abbrev pub added : TableRow
    added = record { distance = distance; body = place }

    pub table_with : (ks : List TableRow) (count : ℕ) → IsTable old ks count → count + 1 < 2 ^ 32 → IsTable new (ks ++ added ∷ []) (count + 1)
    table_with ks count is below = record {
      bodied = all_push (HasBody new) ks added (all_still ks is.bodied) says.within;
      counted = let c = is.counted in let n = length-append ks (added ∷ []) in omega arith;
      fits = below;
    }

    grown : (ks : List TableRow) → AllByRecursion (HasBody old) ks →
        map (kept_in new) (ks ++ added ∷ []) ≡ map (kept_in old) ks ++ record { location = distance; answer = answer } ∷ []
    grown ks all =
        map-append (kept_in new) ks (added ∷ [])
        ∙ ap (λ l. l ++ kept_in new added ∷ []) (all_same ks all)
        ∙ ap (λ a. let r : Kept = record { location = distance; answer = a } in map (kept_in old) ks ++ r ∷ []) (says.there (Err NoCfaRegister))

    pub one_longer : (ks : List TableRow) → AllByRecursion (HasBody old) ks → IsLonger (map (kept_in old) ks) (map (kept_in new) (ks ++ added ∷ []))
    one_longer ks all = record { more = record { location = distance; answer = answer } ∷ []; grown = grown ks all }

    pub pushed : (limits : RowLimits) (rows rules count : ℕ) (ks : List TableRow) → AllByRecursion (HasBody old) ks → rows < limits.rows → rules + count ≤ limits.rules →
        IsPushed limits distance answer count (record { rows = map (kept_in old) ks; row_count = rows; rule_count = rules }) (record { rows = map (kept_in new) (ks ++ added ∷ []); row_count = rows + 1; rule_count = rules + count })
    pushed limits rows rules count ks all rows_fit rules_fit = record {
      rows = grown ks all;
      row_count = refl;
      rule_count = refl;
      rows_fit = omega arith;
      rules_fit = rules_fit;
    }
