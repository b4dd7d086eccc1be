-- Descriptions whose common information entries stand in a list: the list grows, and what it says stays.
use Rattle.std.proofs.Common.{◌≡◌, ℕ, zero, suc, ◌<◌, Bool, cond, true, false, Some, List, [], ◌∷◌, ◌++◌, length, map, Ok, Result, refl, sym, ap, ◌∙◌, subst, arith, length-append}
use Rattle.std.specs.Prelude.{nat_lt}
use Rattle.std.specs.List.{AllByRecursion}
use Rattle.std.proofs.lemmas.List.{append-nil, map-append}
use Rattle.unwind_definitions.specs.Input.{Input}
use Rattle.unwind_definitions.specs.Pointers.{Bases}
use Rattle.unwind_definitions.specs.declared.error.Error.{Error as Fault}
use Rattle.unwind_definitions.specs.Entries.{Cie, Fde, AFde, cie_at}
use Rattle.eh_frame.specs.FdeLists.{IsListOf, IsFunctionIn, IsTold, KeepsCie, ListsCie, cie_in, function_in, fde_with}
use Rattle.eh_frame.specs.Listed.{nonempty}
use Rattle.eh_frame.specs.Shared.{StandsIn}
use Rattle.eh_frame.specs.EntryViews.{cie_of}
use Rattle.eh_frame.specs.declared.cie.Cie.{Cie as CodeCie}
use Rattle.eh_frame.specs.declared.prepared.PreparedFunction.{PreparedFunction}
use Rattle.eh_frame.proofs.Keeping.{all_also, all_push}

-- ---- what stands at an index

last_there : (cies : List CodeCie) (code : CodeCie) → cie_in (cies ++ code ∷ []) (length cies) ≡ cie_of code
last_there [] code = refl
last_there (c ∷ cies) code = last_there cies code

grown_cie : (cies more : List CodeCie) (i : ℕ) → i < length cies → cie_in (cies ++ more) i ≡ cie_in cies i
grown_cie [] more i lt = absurd (omega arith)
grown_cie (c ∷ cies) more zero lt = refl
grown_cie (c ∷ cies) more (suc i) lt = grown_cie cies more i (omega arith)

module _ (cies more : List CodeCie) where
  grown_listed : (f : PreparedFunction) → IsFunctionIn cies f → IsFunctionIn (cies ++ more) f
  grown_listed f is =
      let w = is.within in let n = length-append cies more in
      record { within = omega arith; told = subst (λ (c : Cie). IsTold c f.fde) (sym (grown_cie cies more f.fde.cie w)) is.told }

  grown_fdes : (fs : List PreparedFunction) → AllByRecursion (IsFunctionIn cies) fs → map (function_in (cies ++ more)) fs ≡ map (function_in cies) fs
  grown_fdes [] all = refl
  grown_fdes (f ∷ fs) all =
      ap (λ (l : List Fde). function_in (cies ++ more) f ∷ l) (grown_fdes fs all.1)
      ∙ ap (λ (c : Cie). fde_with c f.fde ∷ map (function_in cies) fs) (grown_cie cies more f.fde.cie all.0.within)

same_value : (a b : Cie) (r : Result Cie Fault) → r ≡ Ok a → r ≡ Ok b → a ≡ b
same_value a b r at_a at_b = cc

module _ (bases : Bases) (table : Input) where
  same_cie : (a b : Cie) → StandsIn bases table a → StandsIn bases table b → a.offset ≡ b.offset → a ≡ b
  same_cie a b at_a at_b same =
      same_value a b (cie_at bases table a.offset) at_a (ap (cie_at bases table) same ∙ at_b)

  pub stands_at : (cies : List CodeCie) (i : ℕ) → AllByRecursion (StandsIn bases table) (map cie_of cies) → i < length cies → StandsIn bases table (cie_in cies i)
  stands_at [] i all lt = absurd (omega arith)
  stands_at (c ∷ cies) zero all lt = all.0
  stands_at (c ∷ cies) (suc i) all lt = stands_at cies i all.1 (omega arith)

  stand_more : (cies : List CodeCie) (code : CodeCie) → AllByRecursion (StandsIn bases table) (map cie_of cies) → StandsIn bases table (cie_of code) → AllByRecursion (StandsIn bases table) (map cie_of (cies ++ code ∷ []))
  stand_more cies code all one = subst (AllByRecursion (StandsIn bases table)) (sym (map-append cie_of cies (code ∷ []))) (all_push (StandsIn bases table) (map cie_of cies) (cie_of code) all one)

-- ---- a common information entry is kept

pub added_last : (cies new : List CodeCie) (code : CodeCie) (i : ℕ) → new ≡ cies ++ code ∷ [] → i ≡ length cies → KeepsCie cies (cie_of code) i new
added_last cies new code i is at =
    let n = ap length is in let m = length-append cies (code ∷ []) in
    record {
      more = code ∷ [];
      grown = is;
      within = omega arith;
      is = λ bases table all one. ap (λ (l : List CodeCie). cie_in l i) is ∙ ap (cie_in (cies ++ code ∷ [])) at ∙ last_there cies code;
      stand = λ bases table all one. subst (λ (l : List CodeCie). AllByRecursion (StandsIn bases table) (map cie_of l)) (sym is) (stand_more bases table cies code all one);
    }

-- ---- an entry is added

pub known_listed : (bases : Bases) (table : Input) (cies : List CodeCie) (i offset : ℕ) → AllByRecursion (StandsIn bases table) (map cie_of cies) → i < length cies → (cie_in cies i).offset ≡ offset → ListsCie bases table offset cies (Some i) cies
known_listed bases table cies i offset all lt same = (
  cie_in cies i,
  ap (cie_at bases table) (sym same) ∙ stands_at bases table cies i all lt,
  record { more = []; grown = sym (append-nil cies); within = lt; is = λ bases table all one. refl; stand = λ bases table all one. all },
)

pub read_listed : (bases : Bases) (table : Input) (cies new : List CodeCie) (i offset : ℕ) (code : CodeCie) → cie_at bases table offset ≡ Ok (cie_of code) → new ≡ cies ++ code ∷ [] → i ≡ length cies → ListsCie bases table offset cies (Some i) new
read_listed bases table cies new i offset code found is at = (cie_of code, found, added_last cies new code i is at)

pub none_yet : (bases : Bases) (table : Input) (cies : List CodeCie) (listed : List PreparedFunction) → cies ≡ [] → listed ≡ [] → IsListOf bases table cies listed []
none_yet bases table cies listed no_cies no_fdes =
    subst (λ (l : List CodeCie). IsListOf bases table l listed []) (sym no_cies)
    (subst (λ (l : List PreparedFunction). IsListOf bases table [] l []) (sym no_fdes) (record { stand = tt; named = tt; are = refl }))

module _ (bases : Bases) (table : Input) (cies : List CodeCie) (listed : List PreparedFunction) (fdes : List Fde) (list : IsListOf bases table cies listed fdes) where
  pub cie_added : (new : List CodeCie) (code : CodeCie) → new ≡ cies ++ code ∷ [] → StandsIn bases table (cie_of code) → IsListOf bases table new listed (fdes ++ [])
  cie_added new code is one = subst (λ (l : List CodeCie). IsListOf bases table l listed (fdes ++ [])) (sym is) (record {
    stand = stand_more bases table cies code list.stand one;
    named = all_also (IsFunctionIn cies) (IsFunctionIn (cies ++ code ∷ [])) listed list.named (grown_listed cies (code ∷ []));
    are = grown_fdes cies (code ∷ []) listed list.named ∙ list.are ∙ sym (append-nil fdes);
  })

  pub cie_kept : (new : List CodeCie) (cie : Cie) (i : ℕ) → KeepsCie cies cie i new → StandsIn bases table cie → IsListOf bases table new listed fdes
  cie_kept new cie i k one = record {
    stand = k.stand bases table list.stand one;
    named = subst (λ (l : List CodeCie). AllByRecursion (IsFunctionIn l) listed) (sym k.grown) (all_also (IsFunctionIn cies) (IsFunctionIn (cies ++ k.more)) listed list.named (grown_listed cies k.more));
    are = subst (λ (l : List CodeCie). map (function_in l) listed ≡ map (function_in cies) listed) (sym k.grown) (grown_fdes cies k.more listed list.named) ∙ list.are;
  }

  pub function_added : (f : PreparedFunction) (more : List PreparedFunction) → IsFunctionIn cies f → more ≡ cond (nat_lt 0 f.fde.len) (listed ++ f ∷ []) listed → IsListOf bases table cies more (fdes ++ nonempty (AFde (function_in cies f) ∷ []))
  function_added f more named is = subst (λ (l : List PreparedFunction). IsListOf bases table cies l (fdes ++ nonempty (AFde (function_in cies f) ∷ []))) (sym is) (go (nat_lt 0 f.fde.len) refl)
    where
      go : (b : Bool) → nat_lt 0 f.fde.len ≡ b → IsListOf bases table cies (cond b (listed ++ f ∷ []) listed) (fdes ++ nonempty (AFde (function_in cies f) ∷ []))
      go true e =
          let one : nonempty (AFde (function_in cies f) ∷ []) ≡ function_in cies f ∷ [] = rw e refl in
          subst (λ (l : List Fde). IsListOf bases table cies (listed ++ f ∷ []) (fdes ++ l)) (sym one) (record {
            stand = list.stand;
            named = all_push (IsFunctionIn cies) listed f list.named named;
            are = map-append (function_in cies) listed (f ∷ []) ∙ ap (λ (l : List Fde). l ++ function_in cies f ∷ []) list.are;
          })
      go false e =
          let none : nonempty (AFde (function_in cies f) ∷ []) ≡ [] = rw e refl in
          subst (λ (l : List Fde). IsListOf bases table cies listed (fdes ++ l)) (sym none) (record { stand = list.stand; named = list.named; are = list.are ∙ sym (append-nil fdes) })
