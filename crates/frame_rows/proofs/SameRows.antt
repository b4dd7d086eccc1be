-- Rows whose rules are those of a machine.
use Rattle.std.proofs.Common.{◌≡◌, ℕ, zero, suc, ◌<◌, List, [], ◌∷◌, ◌++◌, length, map, get_or, Bool, true, false, Option, Some, None, Result, Ok, Err, sym, ap, ◌∙◌, subst, arith, length-append}
use Rattle.std.specs.Prelude.{IfOk, IfSome}
use Rattle.std.specs.List.{AllByRecursion}
use Rattle.std.specs.declared.alloc.AllocError.{AllocError}
use Rattle.std.proofs.lemmas.List.{get_or_append_left, get_or-map, length-map, map-append}
use Rattle.std.proofs.lemmas.Option.{IfSome_then}
use Rattle.std.proofs.lemmas.Result.{IfOk-weaker}
use Rattle.std.proofs.Math.Seq.{get_or-append_seam}
use Rattle.unwind_definitions.specs.declared.error.Error.{Error as Fault}
use Rattle.unwind_definitions.specs.declared.error.Error.TheVariants.{NoCfaRegister}
use Rattle.unwind_definitions.specs.Instructions.{Rule}
use Rattle.frame_rows.specs.Bodies.{Says, body_in, body_rules, kept_answer}
use Rattle.frame_rows.specs.RowValue.{RowValue}
use Rattle.frame_rows.specs.KeptRows.{Kept, KeptRows, IsLonger}
use Rattle.frame_rows.specs.SameRules.{HasRules, IsBodyOf, IsBodyWith, HasRulesOf, IsRowWith, KeepsRules, KnowsRows}
use Rattle.frame_rows.specs.TableRows.{HasBody, Pushes, kept_in}
use Rattle.unwind_arch.specs.declared.register.Register.{Register as Column}
use Rattle.frame_rows.specs.declared.machine.Machine.{Machine}
use Rattle.frame_rows.specs.declared.row_bodies.RowBody.{RowBody}
use Rattle.frame_rows.specs.declared.row_table.RowLimits.{RowLimits}
use Rattle.frame_rows.specs.declared.row_table.TableRow.{TableRow}
use Rattle.frame_rows.specs.declared.rule.CfaRule.{CfaRule as CodedCfa}
use Rattle.frame_rows.specs.declared.rule.RegisterRule.{RegisterRule}

-- ---- a table grows

module _ (old new : List Kept) (g : IsLonger old new) where
  row_longer : (o : Option ℕ) (rules : List (ℕ × Rule)) → IsRowWith old o rules → IsRowWith new o rules
  row_longer None rules w = tt
  row_longer (Some i) rules w = (
    let n = ap length g.grown in let m = length-append old g.more in let b = w.0 in omega arith,
    λ d. subst (λ (k : Kept). HasRules k.answer rules) (sym (ap (λ (l : List Kept). get_or l i d) g.grown ∙ get_or_append_left old g.more d i w.0)) (w.1 d),
  )

  pub knows_longer : (m : Machine) → KnowsRows old m → KnowsRows new m
  knows_longer m k = (row_longer m.rules_of m.state.rules k.0, IfSome_then m.remembered k.1 (λ s h. row_longer m.remembered_rules_of s.rules h))

-- the row that was added last has its rules
last_with : (old new : List Kept) (k : Kept) (rules : List (ℕ × Rule)) → new ≡ old ++ k ∷ [] → HasRules k.answer rules → IsRowWith new (Some (length old)) rules
last_with old new k rules grown has = (
  let n = ap length grown in let m = length-append old (k ∷ []) in omega arith,
  λ d. subst (λ (r : Kept). HasRules r.answer rules) (sym (ap (λ (l : List Kept). get_or l (length old) d) grown ∙ get_or-append_seam old k [] d)) has,
)

pub keeps_rules : (limits : RowLimits) (distance count : ℕ) (answer : Result RowValue Fault) (next : Option ℕ) (r : Result Bool AllocError) (m : Machine) (old new : KeptRows) → Pushes limits distance answer count old r new → IfSome m.state.cfa (λ _. HasRules answer m.state.rules) → KeepsRules (Ok next) r m old.rows new.rows
keeps_rules limits distance count answer next (Ok true) m old new pushes has = IfSome_then m.state.cfa has (λ _ h. last_with old.rows new.rows (record { location = distance; answer = answer }) m.state.rules pushes.rows h)
keeps_rules limits distance count answer next (Ok false) m old new pushes has = tt
keeps_rules limits distance count answer next (Err e) m old new pushes has = tt

-- a row with these rules has those of a row that has them
pub row_with : (r : Result RowValue Fault) (rows : List Kept) (o : Option ℕ) (rules : List (ℕ × Rule)) → IfOk r (λ row. row.rules ≡ rules) → IsRowWith rows o rules → IfOk r (λ row. IsRowWith rows o row.rules)
row_with r rows o rules same w = IfOk-weaker r _ _ (λ row is. subst (IsRowWith rows o) (sym is) w) same

-- ---- where the row's body stands

all_at : {X : Type 0} (P : X → Type 0) (xs : List X) (i : ℕ) (d : X) → AllByRecursion P xs → i < length xs → P (get_or xs i d)
all_at P [] i d all lt = absurd (omega arith)
all_at P (x ∷ xs) zero d all lt = all.0
all_at P (x ∷ xs) (suc i) d all lt = all_at P xs i d all.1 (omega arith)

has_within : (bodies : List (Result RowValue Fault)) (i : ℕ) (c d : Result RowValue Fault) (rules : List (ℕ × Rule)) → i < length bodies → HasRules (get_or bodies i c) rules → HasRules (get_or bodies i d) rules
has_within [] i c d rules lt h = absurd (omega arith)
has_within (b ∷ bs) zero c d rules lt h = h
has_within (b ∷ bs) (suc i) c d rules lt h = has_within bs i c d rules (omega arith) h

module _ (bodies : List (Result RowValue Fault)) (ks : List TableRow) (rules : List (ℕ × Rule)) where
  pub row_within : (o : Option ℕ) → IsRowWith (map (kept_in bodies) ks) o rules → IfSome o (λ i. i < length ks)
  row_within None w = tt
  row_within (Some i) w = let n = length-map ks (kept_in bodies) in let b = w.0 in omega arith

  pub body_with : (o place : Option ℕ) → AllByRecursion (HasBody bodies) ks → IsRowWith (map (kept_in bodies) ks) o rules → IsBodyOf ks o place → IsBodyWith bodies place rules
  body_with None place all w is = rw is tt
  body_with (Some i) place all w is =
      let k : TableRow = record { distance = 0; body = 0 } in
      let e : Kept = record { location = 0; answer = Err NoCfaRegister } in
      let n = length-map ks (kept_in bodies) in
      let b = w.0 in
      let lt : i < length ks = omega arith in
      let there = all_at (HasBody bodies) ks i k all lt in
      let has = subst (λ (r : Kept). HasRules r.answer rules) (get_or-map (kept_in bodies) ks i k e lt) (w.1 e) in
      subst (λ o. IsBodyWith bodies o rules) (sym (is k)) (there, λ d. has_within bodies (get_or ks i k).body (Err NoCfaRegister) d rules there has)

-- ---- bodies with the same rules

module _ (rs : List (Column × RegisterRule)) where
  has_those : (b : RowBody) (rules : List (ℕ × Rule)) → HasRules (body_in rs b) rules → body_rules rs b ≡ rules
  has_those b rules has = go b.cfa (body_rules rs b) b.saved_args_size has
    where
      go : (cfa : Result CodedCfa Fault) (own : List (ℕ × Rule)) (size : ℕ) → HasRules (kept_answer cfa own size) rules → own ≡ rules
      go (Ok cfa) own size h = h
      go (Err e) own size h = absurd h

  -- a body that has its rules where another has its own has the rules that this one is said to have
  pub rules_like : (ks : List RowBody) (b : RowBody) (o : Option ℕ) (rules : List (ℕ × Rule)) → HasRulesOf ks o b → IsBodyWith (map (body_in rs) ks) o rules → body_rules rs b ≡ rules
  rules_like ks b o rules has w =
      let p = has.place in
      let with = subst (λ o. IsBodyWith (map (body_in rs) ks) o rules) has.is w in
      let there = subst (λ (r : Result RowValue Fault). HasRules r rules) (get_or-map (body_in rs) ks p b (Err NoCfaRegister) has.within) (with.1 (Err NoCfaRegister)) in
      let those : body_rules rs (get_or ks p b) ≡ rules = has_those (get_or ks p b) rules there in
      rw (has.first b, has.end b) at those

  -- the body at a place says what it holds
  pub says_at : (ks : List RowBody) (place : ℕ) (b : RowBody) (answer : Result RowValue Fault) → place < length ks → ((d : RowBody) → b ≡ get_or ks place d) → body_in rs b ≡ answer → Says (map (body_in rs) ks) place answer
  says_at ks place b answer lt at is = record {
    within = let n = length-map ks (body_in rs) in omega arith;
    there = λ d. get_or-map (body_in rs) ks place b d lt ∙ ap (body_in rs) (sym (at b)) ∙ is;
  }

  abbrev like : RowBody → Result CodedCfa Fault → ℕ → RowBody
  like b cfa size = record { cfa = cfa; saved_args_size = size; first_rule = b.first_rule; end_rule = b.end_rule; reach = b.reach }

  -- one more that has its rules where another has its own
  pub grown_like : (ks : List RowBody) (place : ℕ) (b : RowBody) (cfa : Result CodedCfa Fault) (size : ℕ) (rules : List (ℕ × Rule)) → b ≡ get_or ks place b → IsBodyWith (map (body_in rs) ks) (Some place) rules →
      map (body_in rs) (ks ++ like b cfa size ∷ []) ≡ map (body_in rs) ks ++ kept_answer cfa rules size ∷ []
  grown_like ks place b cfa size rules is w =
      let n = length-map ks (body_in rs) in
      let lt : place < length ks = let at = w.0 in omega arith in
      let there = subst (λ (r : Result RowValue Fault). HasRules r rules) (get_or-map (body_in rs) ks place b (Err NoCfaRegister) lt) (w.1 (Err NoCfaRegister)) in
      let own = subst (λ (k : RowBody). HasRules (body_in rs k) rules) (sym is) there in
      map-append (body_in rs) ks (like b cfa size ∷ [])
      ∙ ap (λ l. map (body_in rs) ks ++ kept_answer cfa l size ∷ []) (has_those b rules own)
