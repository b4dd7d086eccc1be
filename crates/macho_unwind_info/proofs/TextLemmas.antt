-- Printed registers, one after another.
use Rattle.std.proofs.Common.{◌≡◌, ℕ, ◌+◌, ◌-◌, ◌*◌, ◌<◌, List, ◌∷◌, ◌++◌, length, drop, Option, Some, None, true, false, get_or, sym, ap, ◌∙◌, append_assoc, arith}
use Rattle.std.specs.Prelude.{is_some}
use Rattle.std.proofs.lemmas.List.{drop_more}
use Rattle.macho_unwind_info.specs.RegisterText.{slot_text, slot_text_of, fields_text, registers_text}

next_is : {A : Type 0} (xs : List A) (i : ℕ) (x : A) → i < length xs → x ≡ get_or xs i x → drop i xs ≡ x ∷ drop (i + 1) xs
next_is xs i x h is = drop_more xs i x h ∙ ap (λ y. y ∷ drop (i + 1) xs) (sym is)

pub fields_step : {R : Type 0} (name : R → List ℕ) (word below : ℕ) (fields : List (Option R)) (i : ℕ) (x : Option R) (done whole : List ℕ) → i < length fields → x ≡ get_or fields i x →
    done ++ fields_text name word below (drop i fields) ≡ whole → (done ++ slot_text_of name x below) ++ fields_text name word (below - word) (drop (i + 1) fields) ≡ whole
fields_step name word below fields i x done whole h is e =
    append_assoc done (slot_text_of name x below) (fields_text name word (below - word) (drop (i + 1) fields)) ∙
    ap (λ t. done ++ t) (sym (ap (fields_text name word below) (next_is fields i x h is))) ∙ e

pub registers_step : {R : Type 0} (name : R → List ℕ) (word below : ℕ) (registers : List (Option R)) (i : ℕ) (x : Option R) (done whole : List ℕ) → is_some x ≡ true → i < length registers → x ≡ get_or registers i x →
    done ++ registers_text name word below (drop i registers) ≡ whole → (done ++ slot_text_of name x below) ++ registers_text name word (below + word) (drop (i + 1) registers) ≡ whole
registers_step name word below registers i None done whole some h is e = absurd cc
registers_step name word below registers i (Some x) done whole some h is e =
    append_assoc done (slot_text (name x) below) (registers_text name word (below + word) (drop (i + 1) registers)) ∙
    ap (λ t. done ++ t) (sym (ap (registers_text name word below) (next_is registers i (Some x) h is))) ∙ e

pub registers_pass : {R : Type 0} (name : R → List ℕ) (word below : ℕ) (registers : List (Option R)) (i : ℕ) (x : Option R) (done whole : List ℕ) → is_some x ≡ false → i < length registers → x ≡ get_or registers i x →
    done ++ registers_text name word below (drop i registers) ≡ whole → done ++ registers_text name word below (drop (i + 1) registers) ≡ whole
registers_pass name word below registers i None done whole some h is e =
    ap (λ t. done ++ t) (sym (ap (registers_text name word below) (next_is registers i None h is))) ∙ e
registers_pass name word below registers i (Some x) done whole some h is e = absurd cc

pub one_less : (w m n : ℕ) → m ≡ n + 1 → w * m ≡ w * n + w
one_less w m n e = let more : w * (n + 1) ≡ w * n + w = omega arith in ap (λ (k : ℕ). w * k) e ∙ more
