-- Text that is written line by line.
use Rattle.std.proofs.Common.{◌≡◌, ℕ, ◌+◌, List, ◌∷◌, ◌++◌, drop, Option, Some, None, option_map, ap, ◌∙◌, append_assoc}
use Rattle.std.specs.List.{slice_get}
use Rattle.std.proofs.lemmas.List.{drop_more}
use Rattle.std.proofs.lemmas.Option.{slice_get_within, get_or_from_slice_get}
use Rattle.unwind_arch.specs.declared.x86_64.Context.{Context}
use Rattle.stack_walks.specs.declared.room.Trail.{Trail}
use Rattle.folded_stacks.specs.Counts.{StackCount, stack_count}
use Rattle.stack_report.specs.Folds.{fold_line, fold_lines}
use Rattle.stack_report.specs.Report.{frame_line, frame_lines, cleanup_line, cleanup_lines}

drop_get : {X : Type 0} (xs : List X) (i : ℕ) (x : X) → slice_get xs i ≡ Some x → drop i xs ≡ x ∷ drop (i + 1) xs
drop_get xs i x e = drop_more xs i x (slice_get_within xs i x e) ∙ ap (λ y. y ∷ drop (i + 1) xs) (get_or_from_slice_get xs i x x e)

-- one more line
pub frames_more : (states : List Context) (i : ℕ) (s : Context) (text more : List ℕ) → slice_get states i ≡ Some s → more ≡ text ++ frame_line i s
    → more ++ frame_lines (i + 1) (drop (i + 1) states) ≡ text ++ frame_lines i (drop i states)
frames_more states i s text more is e = rw (e, drop_get states i s is) (append_assoc text (frame_line i s) (frame_lines (i + 1) (drop (i + 1) states)))

pub cleanups_more : (trail : List Trail) (i : ℕ) (t : Trail) (text more : List ℕ) → slice_get trail i ≡ Some t → more ≡ text ++ cleanup_line t
    → more ++ cleanup_lines (drop (i + 1) trail) ≡ text ++ cleanup_lines (drop i trail)
cleanups_more trail i t text more is e = rw (e, drop_get trail i t is) (append_assoc text (cleanup_line t) (cleanup_lines (drop (i + 1) trail)))

pub folds_more : (lines : List StackCount) (i : ℕ) (l : StackCount) (text more : List ℕ) → slice_get lines i ≡ Some l → more ≡ text ++ fold_line l
    → more ++ fold_lines (drop (i + 1) lines) ≡ text ++ fold_lines (drop i lines)
folds_more lines i l text more is e = rw (e, drop_get lines i l is) (append_assoc text (fold_line l) (fold_lines (drop (i + 1) lines)))

-- a line by its two parts
pub line_got : (o : Option StackCount) (stack : List ℕ) (count : ℕ) → Some stack ≡ option_map (λ (l : StackCount). l.stack) o → Some count ≡ option_map (λ (l : StackCount). l.count) o → o ≡ Some (stack_count stack count)
line_got None stack count is counts = absurd cc
line_got (Some l) stack count is counts =
    let same : l.stack ≡ stack = cc in
    let as_many : l.count ≡ count = cc in
    λ i. Some (stack_count (same i) (as_many i))
