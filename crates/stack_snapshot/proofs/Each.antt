-- Lists that are read item by item.
use Rattle.std.proofs.Common.{ℕ, ◌≡◌, ◌≢◌, ◌≤◌, Bool, true, false, List, [], ◌∷◌, ◌++◌, length, Option, None, option_map, Result, Ok, refl, ap, ◌∙◌, arith}
use Rattle.std.specs.Prelude.{◌↔◌}
use Rattle.std.proofs.lemmas.List.{length_push}
use Rattle.folded_stacks.specs.declared.samples.Sample.{Sample}
use Rattle.serde_json.specs.View.{items_view}
use Rattle.serde_json.specs.declared.value.Value.{Value}
use Rattle.stack_deliver.specs.Resumes.{with_resumes}
use Rattle.stack_snapshot.specs.Snapshot.{resume_in}

-- the values before, and then those that are read
abbrev pub with_front : {A : Type 0} → List A → Option (List A) → Option (List A)
with_front front read = option_map (λ xs. front ++ xs) read

-- the table after those that are read
abbrev pub with_table : List (ℕ × ℕ) → Option (List (ℕ × ℕ)) → Option (List (ℕ × ℕ))
with_table table read = option_map (λ es. with_resumes table es) read

pub resume_in_other : (vs : List Value) → length vs ≢ 2 → resume_in (items_view vs) ≡ None
resume_in_other [] h = refl
resume_in_other (a ∷ []) h = refl
resume_in_other (a ∷ b ∷ []) h = absurd (h refl)
resume_in_other (a ∷ b ∷ c ∷ vs) h = refl

-- one more sample is held
pub few_more : {E : Type 0} (r : Result Bool E) (taken : Bool) (old new : List Sample) (s : Sample) → r ≡ Ok taken → taken ≡ true → (r ≡ Ok true → new ≡ old ++ s ∷ []) → ((r ≡ Ok false) ↔ (length old ≡ 65536)) → length old ≤ 65536 → length new ≤ 65536
few_more r taken old new s was is added full held =
    let here : r ≡ Ok true = was ∙ ap Ok is in
    let apart : length old ≢ 65536 = λ e. let refused = full.1 e in cc in
    let long = length_push old s in
    rw (added here) (omega arith)
