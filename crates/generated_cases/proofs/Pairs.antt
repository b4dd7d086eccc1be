-- The header that a generated snapshot's module names has one pair for each function.
use Rattle.std.proofs.Common.{◌≡◌, ℕ, ◌^◌, ◌<◌, ◌≤◌, length, None, refl, ap, ◌∙◌, arith}
use Rattle.std.proofs.lemmas.List.{length-map}
use Rattle.fde_finders.specs.Named.{pairs_by}
use Rattle.stack_steps.specs.Modules.{SpaceValue}
use Rattle.stack_deliver.specs.Searches.{HasOneHeader}
use Rattle.stack_deliver.proofs.OneHeader.{header_pairs}
use Rattle.generated_chains.specs.Memory.{image_of}
use Rattle.generated_chains.specs.Outlines.{outlines}
use Rattle.generated_chains.specs.Tables.{header_place, frames_place}
use Rattle.generated_chains.proofs.Entries.{fde_by}
use Rattle.generated_chains.proofs.Headers.{header_lists}
use Rattle.generated_chains.proofs.Held.{is_laid_out, holds_tables}
use Rattle.generated_chains.proofs.Loops.{length-outlines, numbered_from}
use Rattle.stack_snapshot.specs.Content.{space_of}
use Rattle.generated_cases.specs.Case.{case_of, module_over, tables_there}
use Rattle.generated_cases.proofs.Taken.{laid_out_taken}

module _ (count seed : ℕ) (lt : seed < 2 ^ 64) (some : 0 < count) (few : count ≤ 100000) where
  long : length (outlines seed count) ≡ count
  long = length-outlines seed 0 count

  case_pairs : pairs_by tables_there (image_of seed (outlines seed count)) ≡ count
  case_pairs =
      let os = outlines seed count in
      let n = long in
      let numbered = numbered_from seed 0 count in
      let holds = holds_tables seed lt os numbered (omega arith) (omega arith) in
      header_pairs None (image_of seed os) header_place frames_place _ (header_lists (image_of seed os) os holds numbered (omega arith)) ∙ length-map os fde_by ∙ long

  case_image : (space_of (case_of count seed)).image ≡ image_of seed (outlines seed count)
  case_image =
      let n = long in
      (laid_out_taken (image_of seed (outlines seed count)) (is_laid_out seed lt (outlines seed count) (numbered_from seed 0 count) (omega arith) (omega arith))).image

  -- a space of that memory and module has one header
  pub case_has_header : (space : SpaceValue) (digits : ℕ) → space.image ≡ (space_of (case_of count seed)).image → space.modules ≡ (space_of (case_of count seed)).modules → count < 2 ^ digits → HasOneHeader space digits
  case_has_header space digits image modules fits =
      let many : pairs_by tables_there space.image ≡ count = ap (pairs_by tables_there) (image ∙ case_image) ∙ case_pairs in
      record { holder = module_over count; tables = tables_there; header = header_place; one = modules; elf = refl; names = refl; pairs = omega arith }
