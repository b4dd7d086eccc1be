-- The two language tables of generated chains are described.
use Rattle.std.proofs.Common.{◌≡◌, ℕ, ◌+◌, List, [], ◌∷◌, drop, refl, arith}
use Rattle.memory_image.specs.Image.{Span}
use Rattle.unwind_definitions.specs.Function.{Site, Cleanup, Catch, NoAction}
use Rattle.unwind_definitions.specs.LanguageTable.{IsLanguageTable, LeadsToLanguage, AreSites}
use Rattle.generated_chains.specs.declared.outline.Kind.{Kind}
use Rattle.generated_chains.specs.declared.outline.Handling.{Handling}
use Rattle.generated_chains.specs.declared.outline.Handling.TheVariants.{PassesOn, CleansUp, Catches}
use Rattle.generated_chains.specs.declared.outline.Outline.{Outline}
use Rattle.generated_chains.specs.Code.{code_at}
use Rattle.generated_chains.specs.Tables.{languages_place, language_tables}
use Rattle.generated_chains.specs.Memory.{HoldsTables}
use Rattle.generated_chains.proofs.Readers.{input}
use Rattle.generated_chains.proofs.Entries.{language_by}

abbrev cleanup_sites : ℕ → List Site
cleanup_sites start = record { range = record { from = start + 16; to = start + 40 }; action = Cleanup (start + 48) } ∷ record { range = record { from = start + 48; to = start + 64 }; action = NoAction } ∷ []

abbrev catch_sites : ℕ → List Site
catch_sites start = record { range = record { from = start + 16; to = start + 40 }; action = Catch (start + 48) } ∷ []

abbrev after_cleanup : List ℕ
after_cleanup = drop 12 language_tables

are_cleanup_sites : (start : ℕ) → AreSites start (input languages_place 12 after_cleanup) (input languages_place 4 (16 ∷ 24 ∷ 48 ∷ 0 ∷ 48 ∷ 16 ∷ 0 ∷ 0 ∷ [])) (cleanup_sites start)
are_cleanup_sites start =
    let first : (start + 16) + 24 ≡ start + 40 = omega arith in
    let second : (start + 48) + 16 ≡ start + 64 = omega arith in
    (input languages_place 8 (48 ∷ 16 ∷ 0 ∷ 0 ∷ []), rw first refl, (input languages_place 12 [], rw second refl, refl))

are_catch_sites : (start : ℕ) → AreSites start (input (languages_place + 12) 8 (1 ∷ 0 ∷ [])) (input (languages_place + 12) 4 (16 ∷ 24 ∷ 48 ∷ 1 ∷ [])) (catch_sites start)
are_catch_sites start =
    let first : (start + 16) + 24 ≡ start + 40 = omega arith in
    (input (languages_place + 12) 8 [], rw first refl, refl)

module _ (image : List Span) (os : List Outline) (holds : HoldsTables image os) where
  cleanup_table : (start : ℕ) → IsLanguageTable image languages_place start (cleanup_sites start)
  cleanup_table start = record {
    nonzero = λ e. absurd cc;
    size = 8;
    after = input languages_place 4 (16 ∷ 24 ∷ 48 ∷ 0 ∷ 48 ∷ 16 ∷ 0 ∷ 0 ∷ after_cleanup);
    header = rw (holds.cleanup) refl;
    listed = input languages_place 4 (16 ∷ 24 ∷ 48 ∷ 0 ∷ 48 ∷ 16 ∷ 0 ∷ 0 ∷ []);
    actions = input languages_place 12 after_cleanup;
    parts = refl;
    each = are_cleanup_sites start;
  }

  catch_table : (start : ℕ) → IsLanguageTable image (languages_place + 12) start (catch_sites start)
  catch_table start = record {
    nonzero = λ e. absurd cc;
    size = 4;
    after = input (languages_place + 12) 4 (16 ∷ 24 ∷ 48 ∷ 1 ∷ 1 ∷ 0 ∷ []);
    header = rw (holds.catch) refl;
    listed = input (languages_place + 12) 4 (16 ∷ 24 ∷ 48 ∷ 1 ∷ []);
    actions = input (languages_place + 12) 8 (1 ∷ 0 ∷ []);
    parts = refl;
    each = are_catch_sites start;
  }

  -- what a description names is its function's language table
  pub leads_to_language : (kind : Kind) (handling : Handling) (start : ℕ) → LeadsToLanguage image (code_at kind handling start) (language_by handling)
  leads_to_language kind PassesOn start = refl
  leads_to_language kind CleansUp start = (cleanup_sites start, refl, cleanup_table start)
  leads_to_language kind Catches start = (catch_sites start, refl, catch_table start)
