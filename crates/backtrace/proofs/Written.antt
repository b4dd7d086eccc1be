-- Frames that are written line by line.
use Rattle.std.proofs.Common.{◌≡◌, ℕ, ◌+◌, List, ◌∷◌, ◌++◌, drop, Some, ap, ◌∙◌, append_assoc, arith}
use Rattle.std.specs.List.{slice_get}
use Rattle.std.proofs.lemmas.List.{drop_more}
use Rattle.std.proofs.lemmas.Option.{slice_get_within, get_or_from_slice_get}
use Rattle.unwind_arch.specs.declared.x86_64.Context.{Context}
use Rattle.stack_deliver.specs.StateViews.{state_of}
use Rattle.backtrace.specs.Lines.{FormValue, frame_text, frame_lines, shown_states}

drop_get : {X : Type 0} (xs : List X) (i : ℕ) (x : X) → slice_get xs i ≡ Some x → drop i xs ≡ x ∷ drop (i + 1) xs
drop_get xs i x e = drop_more xs i x (slice_get_within xs i x e) ∙ ap (λ y. y ∷ drop (i + 1) xs) (get_or_from_slice_get xs i x x e)

-- one more frame, with its number from the first one's on
pub frames_more : (form : FormValue) (first : ℕ) (states : List Context) (i : ℕ) (s : Context) (text more : List ℕ) → slice_get states i ≡ Some s → more ≡ text ++ frame_text form (first + i) (state_of s)
    → more ++ frame_lines form (first + (i + 1)) (shown_states (drop (i + 1) states)) ≡ text ++ frame_lines form (first + i) (shown_states (drop i states))
frames_more form first states i s text more is e =
    let next : first + (i + 1) ≡ first + i + 1 = omega arith in
    rw (e, drop_get states i s is, next) (append_assoc text (frame_text form (first + i) (state_of s)) (frame_lines form (first + i + 1) (shown_states (drop (i + 1) states))))

pub two_pieces : (t₀ t₁ t₂ a b : List ℕ) → t₁ ≡ t₀ ++ a → t₂ ≡ t₁ ++ b → t₂ ≡ t₀ ++ (a ++ b)
two_pieces t₀ t₁ t₂ a b first second = second ∙ rw first (append_assoc t₀ a b)
