-- The row of a described function undoes the steps that a stopped state has run.
use Rattle.std.proofs.Common.{◌≡◌, ◌≢◌, ℕ, ◌+◌, ◌-◌, ◌<◌, ◌≤◌, false, List, [], ◌∷◌, ◌++◌, map, refl, ap, subst, ◌∙◌, arith}
use Rattle.std.specs.List.{AllByRecursion}
use Rattle.std.proofs.lemmas.Bool.{le-leb, lt-leb}
use Rattle.memory_image.specs.Image.{Span}
use Rattle.unwind_definitions.specs.Pointers.{Bases}
use Rattle.unwind_definitions.specs.Entries.{Fde}
use Rattle.unwind_definitions.specs.Row.{argument_size}
use Rattle.unwind_definitions.specs.Caller.{Evaluates, Columns}
use Rattle.unwind_definitions.specs.State.{State, IsState, Shows}
use Rattle.unwind_definitions.specs.Prologue.{SystemV, Step, PrologueStep, steps_of, Ascend, EachMayFollow}
use Rattle.unwind_definitions.specs.Function.{Function, Range, last_end, first_from, first_body, AreWithin, IsFunction}
use Rattle.unwind_definitions.specs.DescribedRows.{HasRow, IsPrologueRow, ended_by, DescribesRows}
use Rattle.unwind_definitions.specs.Stopped.{IsBelowNext, StandsAfter}
use Rattle.unwind_laws.specs.Undoes.{Undoes}
use Rattle.unwind_laws.proofs.Undo.{prologue_undone}

-- ---- ends
abbrev Ends : ℕ → List PrologueStep → Type 0
Ends low p = Ascend low (map (λ (x : PrologueStep). x.end) p)

plain_ends : (f : Function) → IsFunction SystemV f → Ends 0 f.prologue
plain_ends f is = is.prologue.ends

up_to_last : (low : ℕ) (xs : List PrologueStep) → Ends low xs → (o : ℕ) → last_end xs ≤ o → AllByRecursion (λ (x : PrologueStep). x.end ≤ o) xs
up_to_last low [] h o le = tt
up_to_last low (x ∷ []) h o le = (le, tt)
up_to_last low (x ∷ y ∷ xs) h o le = let ih = up_to_last x.end (y ∷ xs) h.1 o le in let a = h.1.0 in let b = ih.0 in (omega arith, ih)

first_ends : (low : ℕ) (xs ys : List PrologueStep) → Ends low (xs ++ ys) → Ends low xs
first_ends low [] ys h = tt
first_ends low (x ∷ xs) ys h = (h.0, first_ends x.end xs ys h.1)

rest_ends : (low : ℕ) (xs ys : List PrologueStep) → Ends low (xs ++ ys) → (l : ℕ) × Ends l ys
rest_ends low [] ys h = (low, h)
rest_ends low (x ∷ xs) ys h = rest_ends x.end xs ys h.1

all_above : (o low : ℕ) (xs : List PrologueStep) → o ≤ low → Ends low xs → AllByRecursion (λ (x : PrologueStep). o < x.end) xs
all_above o low [] le h = tt
all_above o low (x ∷ xs) le h = let a = h.0 in (omega arith, all_above o x.end xs (omega arith) h.1)

kept : (o : ℕ) (xs ys : List PrologueStep) → AllByRecursion (λ (x : PrologueStep). x.end ≤ o) xs → AllByRecursion (λ (x : PrologueStep). o < x.end) ys → ended_by o (xs ++ ys) ≡ steps_of xs
kept o [] [] low high = refl
kept o [] (y ∷ ys) low high = rw (lt-leb y.end o high.0) (kept o [] ys tt high.1)
kept o (x ∷ xs) ys low high = rw (le-leb x.end o low.0) (ap (λ l. x.step ∷ l) (kept o xs ys low.1 high))

first_may : (before xs ys : List Step) → EachMayFollow SystemV before (xs ++ ys) → EachMayFollow SystemV before xs
first_may before [] ys may = tt
first_may before (x ∷ xs) ys may = (may.0, first_may (before ++ x ∷ []) xs ys may.1)

steps_append : (xs ys : List PrologueStep) → steps_of (xs ++ ys) ≡ steps_of xs ++ steps_of ys
steps_append [] ys = refl
steps_append (x ∷ xs) ys = ap (λ l. x.step ∷ l) (steps_append xs ys)

-- the first body lies after the prologue
body_after : (f : Function) → IsFunction SystemV f → f.start + last_end f.prologue ≤ first_body f
body_after f is = go f.bodies is.has_body is.bodies
  where
    go : (bodies : List Range) → bodies ≢ [] → AreWithin (f.start + last_end f.prologue) f.end bodies → f.start + last_end f.prologue ≤ first_from f.end bodies
    go [] some within = absurd (some refl)
    go (b ∷ bodies) some within = within.0

last_of : (xs : List PrologueStep) (x : PrologueStep) (ys : List PrologueStep) → last_end (xs ++ x ∷ ys) ≡ last_end (x ∷ ys)
last_of [] x ys = refl
last_of (w ∷ []) x ys = refl
last_of (w ∷ v ∷ xs) x ys = last_of (v ∷ xs) x ys

at_most_last : (low : ℕ) (x : PrologueStep) (xs : List PrologueStep) → Ends low (x ∷ xs) → x.end ≤ last_end (x ∷ xs)
at_most_last low x [] h = omega arith
at_most_last low x (y ∷ xs) h = let ih = at_most_last x.end y xs h.1 in let a = h.1.0 in omega arith

-- a stopped state's address lies in the function
pub stands_inside : (f : Function) (image : List Span) (done later : List PrologueStep) (t s : State) → IsFunction SystemV f → StandsAfter image f done later t s → (f.start ≤ s.ra) × (s.ra < f.end)
stands_inside f image done later t s is st =
    let ends : Ends 0 (done ++ later) = subst (Ends 0) st.steps (plain_ends f is) in
    let from = st.after in
    (omega arith, below later st.below st.steps (rest_ends 0 done later ends))
  where
    inside_end : (bodies : List Range) → bodies ≢ [] → AreWithin (f.start + last_end f.prologue) f.end bodies → first_from f.end bodies < f.end
    inside_end [] some within = absurd (some refl)
    inside_end (b ∷ bodies) some within = let a = within.1 in let c = within.2 in omega arith

    below : (later : List PrologueStep) → IsBelowNext f s.ra later → f.prologue ≡ done ++ later → (l : ℕ) × Ends l later → s.ra < f.end
    below [] lt split h = let body : first_body f < f.end = inside_end f.bodies is.has_body is.bodies in let lt' : s.ra < first_body f = lt in omega arith
    below (x ∷ xs) lt split h =
        let le = at_most_last h.0 x xs h.1 in
        let last : last_end f.prologue ≡ last_end (x ∷ xs) = ap last_end split ∙ last_of done x xs in
        let after = body_after f is in
        let body : first_body f < f.end = inside_end f.bodies is.has_body is.bodies in
        let lt' : s.ra < f.start + x.end = lt in
        omega (arith, le, last, after)

-- Where a state stands in the prologue, a description's row is that of the steps that have run.
pub inside_row : (bases : Bases) (image : List Span) (f : Function) (fde : Fde) (done later : List PrologueStep) (t s : State) →
    IsFunction SystemV f → f.outermost ≡ false → DescribesRows bases f fde → StandsAfter image f done later t s → HasRow bases fde s.ra (IsPrologueRow (steps_of done))
inside_row bases image f fde done later t s is inner d st =
    let o : ℕ = s.ra - f.start in
    let from = st.after in
    let ends : Ends 0 (done ++ later) = subst (Ends 0) st.steps (plain_ends f is) in
    let low = up_to_last 0 done (first_ends 0 done later ends) o (omega arith) in
    let after = rest_ends 0 done later ends in
    let steps_are : ended_by o f.prologue ≡ steps_of done = ap (ended_by o) st.steps ∙ kept o done later low (high later st.below after) in
    let row = d.prologue inner s.ra (omega arith) (before_body later st.below st.steps after) in
    (row.0, row.1, subst (λ l. IsPrologueRow l row.0) steps_are row.2)
  where
    high : (later : List PrologueStep) → IsBelowNext f s.ra later → (l : ℕ) × Ends l later → AllByRecursion (λ (x : PrologueStep). s.ra - f.start < x.end) later
    high [] below h = tt
    high (x ∷ xs) below h = let from = st.after in let lt : s.ra - f.start < x.end = omega (arith, below) in (lt, all_above (s.ra - f.start) x.end xs (omega arith) h.1.1)

    before_body : (later : List PrologueStep) → IsBelowNext f s.ra later → f.prologue ≡ done ++ later → (l : ℕ) × Ends l later → s.ra < first_body f
    before_body [] below split h = below
    before_body (x ∷ xs) below split h =
        let le = at_most_last h.0 x xs h.1 in
        let last : last_end f.prologue ≡ last_end (x ∷ xs) = ap last_end split ∙ last_of done x xs in
        let body = body_after f is in
        let lt : s.ra < f.start + x.end = below in
        omega (arith, le, last, body, lt)

-- the steps that have run make a prologue
pub done_may : (image : List Span) (f : Function) (done later : List PrologueStep) (t s : State) → IsFunction SystemV f → StandsAfter image f done later t s → EachMayFollow SystemV [] (steps_of done)
done_may image f done later t s is st = first_may [] (steps_of done) (steps_of later) (subst (EachMayFollow SystemV []) (ap steps_of st.steps ∙ steps_append done later) is.prologue.each)

-- a description's rows undo the steps that a stopped state has run
pub stopped_row : (bases : Bases) (evaluates : Evaluates) (image : List Span) (f : Function) (fde : Fde) (done later : List PrologueStep) (t s : State) (columns : Columns) →
    IsFunction SystemV f → f.outermost ≡ false → DescribesRows bases f fde → StandsAfter image f done later t s → IsState t → Shows columns s → HasRow bases fde s.ra (λ run. Undoes evaluates image run t columns × (argument_size run ≡ 0))
stopped_row bases evaluates image f fde done later t s columns is inner d st words shows =
    let row = inside_row bases image f fde done later t s is inner d st in
    let may = done_may image f done later t s is st in
    (row.0, row.1, (prologue_undone evaluates image (steps_of done) s t columns may st.entered words shows row.0 row.2 st.intact, row.2.arguments))
