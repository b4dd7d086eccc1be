-- Rows of a table that say what common information entries' programs ended with.
use Rattle.std.proofs.Common.{◌≡◌, ℕ, zero, suc, ◌<◌, List, [], ◌∷◌, length, map, get_or, Option, Some, None, Result, Ok, Err, refl, sym, ap, ◌∙◌, subst, arith, length-append}
use Rattle.std.specs.Option.{option_map}
use Rattle.std.specs.List.{AllByRecursion}
use Rattle.std.proofs.lemmas.List.{get_or_append_left, get_or-map, length-map}
use Rattle.unwind_definitions.specs.declared.error.Error.{Error as Fault}
use Rattle.unwind_definitions.specs.declared.error.Error.TheVariants.{NoCfaRegister}
use Rattle.unwind_definitions.specs.Row.{CfaRule}
use Rattle.frame_rows.specs.Bodies.{Says}
use Rattle.frame_rows.specs.FirstRows.{IsFirstRow, IsRowAt, SaysState, StandsAt}
use Rattle.frame_rows.specs.KeptRows.{IsLonger, Kept}
use Rattle.frame_rows.specs.RowValue.{RowValue}
use Rattle.frame_rows.specs.Rules.{cfa_meaning}
use Rattle.frame_rows.specs.TableRows.{HasBody, kept_in}
use Rattle.frame_rows.specs.declared.machine.RowState.{RowState}
use Rattle.frame_rows.specs.declared.row_table.TableRow.{TableRow}

pub first_longer : (old new : List Kept) → IsLonger old new → (o : Option ℕ) (state : RowState) → IsFirstRow old o state → IsFirstRow new o state
first_longer old new g None state f = tt
first_longer old new g (Some i) state f = (
  let n = ap length g.grown in let m = length-append old g.more in let b = f.0 in omega arith,
  λ d. subst (λ (k : Kept). SaysState state k.answer) (sym (ap (λ (l : List Kept). get_or l i d) g.grown ∙ get_or_append_left old g.more d i f.0)) (f.1 d),
)

-- ---- what says a state is its row

abbrev one_cfa : CfaRule → Option CfaRule → CfaRule
one_cfa r None = r
one_cfa r (Some x) = x

same_row : (state : RowState) (answer : Result RowValue Fault) (row : RowValue) → SaysState state answer → option_map cfa_meaning state.cfa ≡ Some row.cfa → row.rules ≡ state.rules → row.saved_args_size ≡ state.saved_args_size → answer ≡ Ok row
same_row state (Err e) row says cfa rules size = absurd says
same_row state (Ok r) row says cfa rules size =
    let same : r.cfa ≡ row.cfa = ap (one_cfa row.cfa) (sym says.0 ∙ cfa) in
    ap (λ (c : CfaRule). let a : Result RowValue Fault = Ok (record { cfa = c; rules = r.rules; saved_args_size = r.saved_args_size }) in a) same
    ∙ ap (λ (es : List _). let a : Result RowValue Fault = Ok (record { cfa = row.cfa; rules = es; saved_args_size = r.saved_args_size }) in a) (says.1 ∙ sym rules)
    ∙ ap (λ (n : ℕ). let a : Result RowValue Fault = Ok (record { cfa = row.cfa; rules = row.rules; saved_args_size = n }) in a) (says.2 ∙ sym size)

pub row_there : (rows : List Kept) (o : Option ℕ) (state : RowState) (row : RowValue) → IsFirstRow rows o state → option_map cfa_meaning state.cfa ≡ Some row.cfa → row.rules ≡ state.rules → row.saved_args_size ≡ state.saved_args_size → IsRowAt rows o row
row_there rows None state row f cfa rules size = tt
row_there rows (Some i) state row f cfa rules size = (f.0, λ d. same_row state (get_or rows i d).answer row (f.1 d) cfa rules size)

pub first_there : (rows : List Kept) (i : ℕ) (state : RowState) (row : RowValue) → IsRowAt rows (Some i) row → option_map cfa_meaning state.cfa ≡ Some row.cfa → row.rules ≡ state.rules → row.saved_args_size ≡ state.saved_args_size → IsFirstRow rows (Some i) state
first_there rows i state row at cfa rules size = (at.0, λ d. subst (SaysState state) (sym (at.1 d)) (cfa, rules, size))

-- ---- where the row's body stands

body_there : (bodies : List (Result RowValue Fault)) (rows : List TableRow) (i : ℕ) (d : TableRow) → AllByRecursion (HasBody bodies) rows → i < length rows → HasBody bodies (get_or rows i d)
body_there bodies [] i d all lt = absurd (omega arith)
body_there bodies (k ∷ ks) zero d all lt = all.0
body_there bodies (k ∷ ks) (suc i) d all lt = body_there bodies ks i d all.1 (omega arith)

any_body : (bodies : List (Result RowValue Fault)) (i : ℕ) (c d : Result RowValue Fault) → i < length bodies → get_or bodies i c ≡ get_or bodies i d
any_body [] i c d lt = absurd (omega arith)
any_body (b ∷ bs) zero c d lt = refl
any_body (b ∷ bs) (suc i) c d lt = any_body bs i c d (omega arith)

module _ (bodies : List (Result RowValue Fault)) (rows : List TableRow) (index : Option ℕ) (kept : TableRow) (s : StandsAt rows index kept) where
  pub kept_within : AllByRecursion (HasBody bodies) rows → kept.body < length bodies
  kept_within all = subst (HasBody bodies) (s.there kept) (body_there bodies rows s.place kept all s.within)

  pub kept_says : (row : RowValue) → AllByRecursion (HasBody bodies) rows → IsRowAt (map (kept_in bodies) rows) index row → Says bodies kept.body (Ok row)
  kept_says row all at =
      let e : Kept = record { location = 0; answer = Err NoCfaRegister } in
      let there : IsRowAt (map (kept_in bodies) rows) (Some s.place) row = subst (λ (o : Option ℕ). IsRowAt (map (kept_in bodies) rows) o row) s.given at in
      let is : (kept_in bodies kept).answer ≡ Ok row = ap (λ (k : TableRow). (kept_in bodies k).answer) (sym (s.there kept)) ∙ ap (λ (k : Kept). k.answer) (sym (get_or-map (kept_in bodies) rows s.place kept e s.within)) ∙ there.1 e in
      record { within = kept_within all; there = λ d. any_body bodies kept.body d (Err NoCfaRegister) (kept_within all) ∙ is }

  pub says_row : (row : RowValue) → Says bodies kept.body (Ok row) → IsRowAt (map (kept_in bodies) rows) index row
  says_row row says = subst (λ (o : Option ℕ). IsRowAt (map (kept_in bodies) rows) o row) (sym s.given) (
    let n = length-map rows (kept_in bodies) in let b = s.within in omega arith,
    λ d. ap (λ (k : Kept). k.answer) (get_or-map (kept_in bodies) rows s.place kept d s.within ∙ ap (kept_in bodies) (s.there kept)) ∙ says.there (Err NoCfaRegister),
  )
