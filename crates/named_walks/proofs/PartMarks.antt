-- A walk with marks over a part of the memory, where it meets nothing unmapped, is that over the whole; and of a core's thread, over
-- windows of the core's segments.
use Rattle.std.proofs.Common.{◌≡◌, ℕ, zero, suc, List, [], ◌∷◌, Option, Some, None, Result, Ok, Err, refl, sym, ap, subst, ◌∙◌}
use Rattle.memory_image.specs.Image.{Span, IsLaidOut}
use Rattle.format_frames.specs.declared.machine.Stepped.{Stepped}
use Rattle.stack_steps.specs.declared.error.DeliverError.{DeliverError}
use Rattle.stack_steps.specs.Growing.{Grows, over_image}
use Rattle.stack_steps.specs.Modules.{SpaceValue}
use Rattle.stack_steps.specs.Stepping.{step_of}
use Rattle.mapped_modules.specs.Loading.{LoadedValue}
use Rattle.mapped_modules.specs.Spaces.{codes_of, space_of_core, with_regions}
use Rattle.part_walks.specs.Parts.{HaveTables, IsMapped, IsPartOf}
use Rattle.part_walks.specs.PartSample.{loaded, space_of_part, start, window}
use Rattle.part_walks.specs.Windows.{AreWindowsOf, image_of_tables}
use Rattle.part_walks.proofs.BuiltParts.{grows_with_regions}
use Rattle.part_walks.proofs.CoreWindows.{core_part, core_space, core_tables, modules_alone}
use Rattle.part_walks.proofs.PartSamples.{called, core_of_part, first_step, last_step}
use Rattle.part_walks.proofs.PartSteps.{step_answer}
use Rattle.named_walks.specs.Marking.{before_line, marked_after, marked_line_of, stopped_at}

module _ (space : SpaceValue) (tables part whole : List Span) (have : HaveTables tables space.modules) (part_grows : Grows tables part) (whole_grows : Grows tables whole) (is_part : IsPartOf part whole) where
  pub marked_whole : (limit : ℕ) (s : Stepped) → IsMapped (marked_line_of (over_image space part) limit s) → marked_line_of (over_image space whole) limit s ≡ marked_line_of (over_image space part) limit s
  marked_whole zero s mapped = refl
  marked_whole (suc room) s mapped = go (step_of (over_image space part) s.context s.signal) refl mapped (marked_whole room)
    where
      answered : (r : Result (Option Stepped) DeliverError) → step_of (over_image space part) s.context s.signal ≡ r → IsMapped r → step_of (over_image space whole) s.context s.signal ≡ r
      answered r is known = step_answer space tables part whole have part_grows whole_grows is_part s.context s.signal r is known

      in_rest : (r : Result (List Stepped) DeliverError) → IsMapped (before_line s r) → IsMapped r
      in_rest (Ok ss) mapped = tt
      in_rest (Err e) mapped = mapped

      go : (r : Result (Option Stepped) DeliverError) → step_of (over_image space part) s.context s.signal ≡ r → IsMapped (marked_after s r (marked_line_of (over_image space part) room)) →
          ((t : Stepped) → IsMapped (marked_line_of (over_image space part) room t) → marked_line_of (over_image space whole) room t ≡ marked_line_of (over_image space part) room t) →
          marked_after s (step_of (over_image space whole) s.context s.signal) (marked_line_of (over_image space whole) room) ≡ marked_after s r (marked_line_of (over_image space part) room)
      go (Err e) is mapped outer = ap (λ r. marked_after s r (marked_line_of (over_image space whole) room)) (answered (Err e) is mapped)
      go (Ok None) is mapped outer = ap (λ r. marked_after s r (marked_line_of (over_image space whole) room)) (answered (Ok None) is tt)
      go (Ok (Some next)) is mapped outer =
          ap (λ r. marked_after s r (marked_line_of (over_image space whole) room)) (answered (Ok (Some next)) is tt)
          ∙ ap (before_line s) (outer next (in_rest (marked_line_of (over_image space part) room next) mapped))

-- ---- a core's threads

pub core_marked : (loaded : List LoadedValue) (segments windows : List Span) → HaveTables (image_of_tables loaded) (codes_of loaded) → IsLaidOut 0 segments → AreWindowsOf (image_of_tables loaded) segments windows →
    (limit : ℕ) (s : Stepped) → IsMapped (marked_line_of (space_of_core loaded windows) limit s) → marked_line_of (space_of_core loaded segments) limit s ≡ marked_line_of (space_of_core loaded windows) limit s
core_marked loaded segments windows have laid are limit s mapped =
    let tables : List Span = image_of_tables loaded in
    ap (λ space. marked_line_of space limit s) (core_space loaded segments)
    ∙ (marked_whole (modules_alone loaded) tables (with_regions tables windows) (with_regions tables segments) (core_tables loaded segments windows have laid are) (grows_with_regions tables windows) (grows_with_regions tables segments) (core_part loaded segments windows have laid are) limit s
    (subst (λ (space : SpaceValue). IsMapped (marked_line_of space limit s)) (core_space loaded windows) mapped)
    ∙ sym (ap (λ space. marked_line_of space limit s) (core_space loaded windows)))

-- ---- the worked stack of which a window is walked

sample_marks : marked_line_of space_of_part 2 (stopped_at start) ≡ Ok (stopped_at start ∷ called ∷ [])
sample_marks =
    ap (λ r. marked_after (stopped_at start) r (marked_line_of space_of_part 1)) first_step
    ∙ ap (λ r. before_line (stopped_at start) (marked_after called r (marked_line_of space_of_part 0))) last_step

pub sample_marked : IsMapped (marked_line_of space_of_part 2 (stopped_at start))
sample_marked = subst (λ q. IsMapped q) (sym sample_marks) tt

pub sample_core_marked : IsMapped (marked_line_of (space_of_core loaded (window ∷ [])) 2 (stopped_at start))
sample_core_marked = subst (λ (space : SpaceValue). IsMapped (marked_line_of space 2 (stopped_at start))) (sym core_of_part) sample_marked
