use Rattle.std.proofs.Common.{◌∙◌, List, ap, map}
use Rattle.memory_image.specs.Image.{Span}
use Rattle.core_file.specs.declared.places.SegmentPlace.{SegmentPlace}
use Rattle.core_file.specs.Fronts.{segment_by}
use Rattle.mapped_modules.specs.Loading.{loaded_value}
use Rattle.mapped_modules.specs.Spaces.{space_of_core}
use Rattle.core_parts.specs.declared.windows.Window.{Window}
use Rattle.core_parts.specs.Views.{window_span}
use Rattle.core_stacks.proofs.PartLines.{AreParts, lines_told}
use Rattle.core_stacks.proofs.Sufficing.{walked_over}
use Rattle.core_stacks.proofs.parts.lines_by_windows.Goals as goal

pub returns-clause-told : goal.returns-clause-told
returns-clause-told g c = λ all tells long.
    let bytes = all c.args.path.now in
    let front = c.args.front.now in
    let loaded = map loaded_value c.args.loaded.now in
    let parts = c.in_ok-parts.parts.items in
    let are : AreParts bytes front loaded parts = record { long = long; can = c.requires; each = c.in_ok-parts.ensures.parts } in
    let read = ap (λ (ws : List Window). map window_span ws) c.deref-2.ensures.value ∙ c.in_ok-windows.ensures.told all tells ∙ ap (λ (ps : List SegmentPlace). map (segment_by bytes) ps) c.deref.ensures.value in
    lines_told c.args.names all bytes front loaded parts c.in_ok-space.space _ c.lines_over_space.result are c.in_ok-space.ensures read (c.lines_over_space.ensures.told all tells) c.lines_over_space.ensures.walked

pub returns-clause-walked : goal.returns-clause-walked
returns-clause-walked g c = λ all tells.
    let bytes = all c.args.path.now in
    let loaded = map loaded_value c.args.loaded.now in
    let read = ap (λ (ws : List Window). map window_span ws) c.deref-2.ensures.value ∙ c.in_ok-windows.ensures.told all tells ∙ ap (λ (ps : List SegmentPlace). map (segment_by bytes) ps) (c.deref.ensures.value ∙ c.in_ok-parts.ensures.exact) in
    walked_over c.args.names _ _ _ c.lines_over_space.result (c.in_ok-space.ensures ∙ ap (λ (ws : List Span). space_of_core loaded ws) read) c.lines_over_space.ensures.walked
