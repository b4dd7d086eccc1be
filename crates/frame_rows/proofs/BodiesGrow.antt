-- A list of bodies grows, and that of their rules: what stood in it still stands, and says the same.
use Rattle.std.proofs.Common.{◌≡◌, ℕ, ◌+◌, ◌-◌, ◌≤◌, List, [], ◌∷◌, ◌++◌, length, map, take, drop, Result, Ok, Err, refl, sym, ap, ◌∙◌, subst, arith, length-append, length-drop}
use Rattle.std.specs.Prelude.{OnErr}
use Rattle.std.specs.List.{AllByRecursion}
use Rattle.std.proofs.lemmas.List.{take-append-le, drop-append-le, map-append}
use Rattle.std.proofs.Math.Seq.{drop-append_seam, take-length}
use Rattle.unwind_definitions.specs.declared.error.Error.{Error as Fault}
use Rattle.frame_rows.specs.Reach.{IsReach}
use Rattle.frame_rows.specs.Rules.{entry_of, AscendsFrom}
use Rattle.frame_rows.specs.Bodies.{IsInRules, body_rules, body_in, kept_answer}
use Rattle.unwind_arch.specs.declared.register.Register.{Register as Column}
use Rattle.frame_rows.specs.declared.rule.CfaRule.{CfaRule as CodedCfa}
use Rattle.frame_rows.specs.declared.rule.RegisterRule.{RegisterRule}
use Rattle.frame_rows.specs.declared.row_bodies.RowBody.{RowBody}

pub all_push : {X : Type 0} (P : X → Type 0) (xs : List X) (x : X) → AllByRecursion P xs → P x → AllByRecursion P (xs ++ x ∷ [])
all_push P [] x all one = (one, tt)
all_push P (y ∷ ys) x all one = (all.0, all_push P ys x all.1 one)

pub any_err : {A E : Type 0} {P : Type 0} → (r : Result A E) → P → OnErr r P
any_err (Ok x) p = tt
any_err (Err e) p = p

module _ (rules es : List (Column × RegisterRule)) where
  still_ruled : (k : RowBody) → IsInRules rules k → body_rules (rules ++ es) k ≡ body_rules rules k
  still_ruled k is =
      let o = is.ordered in let w = is.within in
      let n = length-drop k.first_rule rules in
      ap (λ l. map entry_of (take (k.end_rule - k.first_rule) l)) (drop-append-le k.first_rule rules es (omega arith))
      ∙ ap (map entry_of) (take-append-le (k.end_rule - k.first_rule) (drop k.first_rule rules) es (omega arith))

  still_in : (k : RowBody) → IsInRules rules k → IsInRules (rules ++ es) k
  still_in k is = record {
    ordered = is.ordered;
    within = let w = is.within in let n = length-append rules es in omega arith;
    few = is.few;
    ascending = subst (AscendsFrom 0) (sym (still_ruled k is)) is.ascending;
    reached = subst (IsReach k.reach) (sym (still_ruled k is)) is.reached;
  }

  pub all_still_in : (ks : List RowBody) → AllByRecursion (IsInRules rules) ks → AllByRecursion (IsInRules (rules ++ es)) ks
  all_still_in [] all = tt
  all_still_in (k ∷ ks) all = (still_in k all.0, all_still_in ks all.1)

  pub all_same : (ks : List RowBody) → AllByRecursion (IsInRules rules) ks → map (body_in (rules ++ es)) ks ≡ map (body_in rules) ks
  all_same [] all = refl
  all_same (k ∷ ks) all = ap (λ l. kept_answer k.cfa l k.saved_args_size ∷ map (body_in (rules ++ es)) ks) (still_ruled k all.0) ∙ ap (λ l. body_in rules k ∷ l) (all_same ks all.1)

  module _ (cfa : Result CodedCfa Fault) (size reach : ℕ) where
    abbrev pub added : RowBody
    added = record { cfa = cfa; saved_args_size = size; first_rule = length rules; end_rule = length rules + length es; reach = reach }

    added_ruled : body_rules (rules ++ es) added ≡ map entry_of es
    added_ruled =
        let n : length rules + length es - length rules ≡ length es = omega arith in
        ap (λ l. map entry_of (take (length rules + length es - length rules) l)) (drop-append_seam rules es)
        ∙ ap (λ n. map entry_of (take n es)) n ∙ ap (map entry_of) (take-length es)

    added_in : AscendsFrom 0 (map entry_of es) → length es ≤ 32 → IsReach reach (map entry_of es) → IsInRules (rules ++ es) added
    added_in ascending few reached = record {
      ordered = omega arith;
      within = let n = length-append rules es in omega arith;
      few = omega arith;
      ascending = subst (AscendsFrom 0) (sym added_ruled) ascending;
      reached = subst (IsReach reach) (sym added_ruled) reached;
    }

    pub all_in : (ks : List RowBody) → AllByRecursion (IsInRules rules) ks → AscendsFrom 0 (map entry_of es) → length es ≤ 32 → IsReach reach (map entry_of es) → AllByRecursion (IsInRules (rules ++ es)) (ks ++ added ∷ [])
    all_in ks all ascending few reached = all_push (IsInRules (rules ++ es)) ks added (all_still_in ks all) (added_in ascending few reached)

    pub grown : (ks : List RowBody) → AllByRecursion (IsInRules rules) ks →
        map (body_in (rules ++ es)) (ks ++ added ∷ []) ≡ map (body_in rules) ks ++ kept_answer cfa (map entry_of es) size ∷ []
    grown ks all =
        map-append (body_in (rules ++ es)) ks (added ∷ [])
        ∙ ap (λ l. l ++ body_in (rules ++ es) added ∷ []) (all_same ks all)
        ∙ ap (λ l. map (body_in rules) ks ++ kept_answer cfa l size ∷ []) added_ruled
