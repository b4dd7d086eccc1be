-- Asking in turn: what is known after so many, and what the answer then is.
use Rattle.std.proofs.Common.{◌≡◌, ℕ, ◌+◌, ◌<◌, ◌≤◌, List, ◌∷◌, length, get_or, drop, Option, Some, None, refl, sym, ap, subst, ◌∙◌, arith}
use Rattle.std.proofs.lemmas.List.{drop_more, drop_all}
use Rattle.fde_finders.specs.Finding.{FoundFde}
use Rattle.fde_finders.specs.InTurn.{Answering, GoesOn, OrElse, FindsAmong}

module _ {A : Type 0} (finds : A → Answering) (xs : List A) where
  -- of so many none found anything: what is found among the others is found among all
  pub record Asked (i before now : ℕ) : Type 0 where
    pub taken : ℕ
    pub counted : now ≡ before + taken
    pub goes_on : (answer : Option FoundFde) (rest : ℕ) → FindsAmong finds (drop i xs) answer rest → FindsAmong finds xs answer (taken + rest)

  pub begun : (n : ℕ) → Asked 0 n n
  begun n = record { taken = 0; counted = omega arith; goes_on = λ answer rest f. (let none : rest ≡ 0 + rest = omega arith in subst (λ (k : ℕ). FindsAmong finds xs answer k) none f) }

  there : (i : ℕ) (x : A) → i < length xs → x ≡ get_or xs i x → drop i xs ≡ x ∷ drop (i + 1) xs
  there i x lt is = drop_more xs i x lt ∙ ap (λ (y : A). y ∷ drop (i + 1) xs) (sym is)

  -- what one of them finds, and what is found later
  joined : (i before now next t rest : ℕ) (x : A) (own answer : Option FoundFde) → (a : Asked i before now) → i < length xs → x ≡ get_or xs i x → finds x own t → GoesOn own (FindsAmong finds (drop (i + 1) xs)) answer rest →
      FindsAmong finds xs answer (a.taken + (t + rest))
  joined i before now next t rest x own answer a lt is f on =
      let P : List A → Type 0 = λ l. FindsAmong finds l answer (t + rest) in
      a.goes_on answer (t + rest) (subst P (sym (there i x lt is)) (record { own = own; taken = t; rest = rest; first_finds = f; counts = refl; goes_on = on }))

  pub passed : (i before now next t : ℕ) (x : A) → Asked i before now → i < length xs → x ≡ get_or xs i x → finds x None t → next ≡ now + t → Asked (i + 1) before next
  passed i before now next t x a lt is f step =
      let c = a.counted in
      record {
        taken = a.taken + t;
        counted = omega arith;
        goes_on = λ answer rest more. (
            let sum : a.taken + (t + rest) ≡ a.taken + t + rest = omega arith in
            subst (λ (k : ℕ). FindsAmong finds xs answer k) sum (joined i before now next t rest x None answer a lt is f more));
      }

  pub found : (i before now next t : ℕ) (x : A) (k : FoundFde) → Asked i before now → i < length xs → x ≡ get_or xs i x → finds x (Some k) t → next ≡ now + t → (ticks : ℕ) × (next ≡ before + ticks) × FindsAmong finds xs (Some k) ticks
  found i before now next t x k a lt is f step =
      let c = a.counted in
      (a.taken + (t + 0), omega arith, joined i before now next t 0 x (Some k) (Some k) a lt is f (refl, refl))

  pub ended : (i before now : ℕ) → Asked i before now → length xs ≤ i → (ticks : ℕ) × (now ≡ before + ticks) × FindsAmong finds xs None ticks
  ended i before now a le =
      let c = a.counted in
      let P : List A → Type 0 = λ l. FindsAmong finds l None 0 in
      (a.taken + 0, omega arith, a.goes_on None 0 (subst P (sym (drop_all i xs le)) (refl, refl)))

-- ---- the first, or else what is later
pub first_answers : (first later : Answering) (before next t : ℕ) (k : FoundFde) → next ≡ before + t → first (Some k) t → (ticks : ℕ) × (next ≡ before + ticks) × OrElse first later (Some k) ticks
first_answers first later before next t k step f = (t + 0, omega arith, record { own = Some k; taken = t; rest = 0; first_finds = f; counts = refl; goes_on = (refl, refl) })

pub later_answers : (first later : Answering) (before middle next t u : ℕ) (answer : Option FoundFde) → middle ≡ before + t → next ≡ middle + u → first None t → later answer u → (ticks : ℕ) × (next ≡ before + ticks) × OrElse first later answer ticks
later_answers first later before middle next t u answer step more f l = (t + u, omega arith, record { own = None; taken = t; rest = u; first_finds = f; counts = refl; goes_on = l })
