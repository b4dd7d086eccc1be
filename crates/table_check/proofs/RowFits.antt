-- A row that is kept is the one that is asked, exactly where the instructions that it stands for make that one.
use Rattle.std.proofs.Common.{◌≡◌, ℕ, ◌+◌, ◌-◌, ◌<◌, ◌≤◌, Bool, true, false, List, [], ◌∷◌, Some, Result, Ok, sym, ap, subst, ◌∙◌, inl, inr, arith}
use Rattle.std.specs.Prelude.{◌⊎◌}
use Rattle.std.specs.Bool.{Decides}
use Rattle.std.specs.List.{list_any}
use Rattle.std.proofs.lemmas.Bool.{and_parts, leb-true, or_cases}
use Rattle.unwind_definitions.specs.declared.error.Error.{Error as Fault}
use Rattle.unwind_definitions.specs.Columns as column
use Rattle.unwind_definitions.specs.Row.{CfaRule, RowInstructions, cfa_rule}
use Rattle.unwind_definitions.specs.State.{column_of}
use Rattle.unwind_definitions.specs.Prologue.{Step, SystemV, distance, steps_of}
use Rattle.unwind_definitions.specs.Function.{AreWithin, Function, IsFunction, Range, first_body, first_from, in_body, in_range, last_end}
use Rattle.unwind_definitions.specs.DescribedRows.{FindsRegister, IsBodyRow, IsOutermostRow, IsPrologueRow, IsUnchanged, MayFindLate, ended_by}
use Rattle.frame_rows.specs.RowValue.{RowValue}
use Rattle.frame_rows.specs.Rows.{GivesRow, IsRowOf}
use Rattle.table_check.specs.FrameRows.{IsBodyValue, IsOutermostValue, IsPrologueValue}
use Rattle.table_check.specs.Programs.{Fits, IsDue}
use Rattle.table_check.proofs.Deciding.{decides_as}
use Rattle.table_check.proofs.Prologues.{ended_all}
use Rattle.table_check.proofs.Quiet.{in_within}

module _ (row : RowValue) (run : RowInstructions) (is : IsRowOf row run) where
  same_cfa : (cfa : CfaRule) → cfa_rule run ≡ Some cfa → row.cfa ≡ cfa
  same_cfa cfa said = let h : Some row.cfa ≡ Some cfa = sym is.cfa ∙ said in cc

  body_row : (steps : List Step) → IsBodyValue steps row → IsBodyRow steps run
  body_row steps v = record {
    cfa = is.cfa ∙ ap Some v.frame.cfa;
    ret = sym (is.rules column.ra) ∙ v.frame.ret;
    saved = λ r. subst (FindsRegister (distance r steps)) (is.rules (column_of r)) (v.saved r);
    others = λ c other. sym (is.rules c) ∙ v.frame.others c other;
    arguments = sym is.arguments ∙ v.frame.arguments;
  }

  body_value : (steps : List Step) → IsBodyRow steps run → IsBodyValue steps row
  body_value steps b = record {
    frame = record {
      cfa = same_cfa _ b.cfa;
      ret = is.rules column.ra ∙ b.ret;
      arguments = is.arguments ∙ b.arguments;
      others = λ c other. is.rules c ∙ b.others c other;
    };
    saved = λ r. subst (FindsRegister (distance r steps)) (sym (is.rules (column_of r))) (b.saved r);
  }

  prologue_row : (steps : List Step) → IsPrologueValue steps row → IsPrologueRow steps run
  prologue_row steps v = record {
    cfa = is.cfa ∙ ap Some v.frame.cfa;
    ret = sym (is.rules column.ra) ∙ v.frame.ret;
    saved = λ r. subst (MayFindLate r steps) (is.rules (column_of r)) (v.saved r);
    others = λ c other. sym (is.rules c) ∙ v.frame.others c other;
    arguments = sym is.arguments ∙ v.frame.arguments;
  }

  prologue_value : (steps : List Step) → IsPrologueRow steps run → IsPrologueValue steps row
  prologue_value steps b = record {
    frame = record {
      cfa = same_cfa _ b.cfa;
      ret = is.rules column.ra ∙ b.ret;
      arguments = is.arguments ∙ b.arguments;
      others = λ c other. is.rules c ∙ b.others c other;
    };
    saved = λ r. subst (MayFindLate r steps) (sym (is.rules (column_of r))) (b.saved r);
  }

  outermost_row : IsOutermostValue row → IsOutermostRow run
  outermost_row v = record {
    cfa = is.cfa ∙ ap Some v.cfa;
    ret = sym (is.rules column.ra) ∙ v.ret;
    saved = λ r. subst IsUnchanged (is.rules (column_of r)) (v.saved r);
    others = λ c other. sym (is.rules c) ∙ v.others c other;
    arguments = sym is.arguments ∙ v.arguments;
  }

  outermost_value : IsOutermostRow run → IsOutermostValue row
  outermost_value b = record {
    cfa = same_cfa _ b.cfa;
    ret = is.rules column.ra ∙ b.ret;
    arguments = is.arguments ∙ b.arguments;
    others = λ c other. is.rules c ∙ b.others c other;
    saved = λ r. subst IsUnchanged (sym (is.rules (column_of r))) (b.saved r);
  }

-- an address of ascending ranges doesn't lie before the first
first_le : (a low high : ℕ) (rs : List Range) → AreWithin low high rs → list_any (in_range a) rs ≡ true → first_from high rs ≤ a
first_le a low high [] within is = absurd cc
first_le a low high (r ∷ rs) within is = split (or_cases (in_range a r) (list_any (in_range a) rs) is)
  where
    split : (in_range a r ≡ true) ⊎ (list_any (in_range a) rs ≡ true) → r.from ≤ a
    split (inl here) = leb-true r.from a (and_parts _ _ here).0
    split (inr later) = let w = in_within a r.to high rs within.3 later in let x = w.0 in let y = within.1 in omega (arith, x, y)

module _ (f : Function) (is : IsFunction SystemV f) (pc : ℕ) (row : RowValue) (due : Result RowInstructions Fault) (gives : GivesRow (Ok row) due) where
  abbrev run : RowInstructions
  run = gives.0

  of_run : (P : RowInstructions → Type 0) → IsDue due P → P run
  of_run P d = let a = d.1 in let b = gives.1 in let e : d.0 ≡ run = cc in subst P e d.2

  -- once all steps have ended
  all_ended : in_body f pc ≡ true → ended_by (pc - f.start) f.prologue ≡ steps_of f.prologue
  all_ended there =
      let w = in_within pc (f.start + last_end f.prologue) f.end f.bodies is.bodies there in let x = w.0 in
      ended_all (pc - f.start) 0 f.prologue is.prologue.ends (omega (arith, x))

  pub fits_body : (b : Bool) → f.outermost ≡ false → in_body f pc ≡ true → Decides b (IsBodyValue (ended_by (pc - f.start) f.prologue) row) → Decides b (Fits f pc due)
  fits_body b inner there = decides_as b
      (λ v. record {
        body = λ _ _. (run, gives.1, body_row row run gives.2 (steps_of f.prologue) (subst (λ s. IsBodyValue s row) (all_ended there) v));
        prologue = λ _ before. absurd (let h = first_le pc (f.start + last_end f.prologue) f.end f.bodies is.bodies there in omega (arith, h, before));
        outermost = λ outer _. absurd (let h : true ≡ false = sym outer ∙ inner in cc);
      })
      (λ fits. subst (λ s. IsBodyValue s row) (sym (all_ended there)) (body_value row run gives.2 (steps_of f.prologue) (of_run (IsBodyRow (steps_of f.prologue)) (fits.body inner there))))

  pub fits_prologue : (b : Bool) → f.outermost ≡ false → in_body f pc ≡ false → pc < first_body f → Decides b (IsPrologueValue (ended_by (pc - f.start) f.prologue) row) → Decides b (Fits f pc due)
  fits_prologue b inner outside before = decides_as b
      (λ v. record {
        body = λ _ there. absurd (let h : true ≡ false = sym there ∙ outside in cc);
        prologue = λ _ _. (run, gives.1, prologue_row row run gives.2 (ended_by (pc - f.start) f.prologue) v);
        outermost = λ outer _. absurd (let h : true ≡ false = sym outer ∙ inner in cc);
      })
      (λ fits. prologue_value row run gives.2 (ended_by (pc - f.start) f.prologue) (of_run (IsPrologueRow (ended_by (pc - f.start) f.prologue)) (fits.prologue inner before)))

  pub fits_outermost : (b : Bool) → f.outermost ≡ true → in_body f pc ≡ true → Decides b (IsOutermostValue row) → Decides b (Fits f pc due)
  fits_outermost b outer there = decides_as b
      (λ v. record {
        body = λ inner _. absurd (let h : true ≡ false = sym outer ∙ inner in cc);
        prologue = λ inner _. absurd (let h : true ≡ false = sym outer ∙ inner in cc);
        outermost = λ _ _. (run, gives.1, outermost_row row run gives.2 v);
      })
      (λ fits. outermost_value row run gives.2 (of_run IsOutermostRow (fits.outermost outer there)))
