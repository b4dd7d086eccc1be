-- A generated chain is valid.
use Rattle.std.proofs.Common.{◌≡◌, ℕ, ◌+◌, ◌*◌, ◌<◌, ◌≤◌, ◌^◌, Bool, true, List, [], ◌∷◌, length, Some, refl, sym, ap, subst, arith}
use Rattle.std.specs.Prelude.{IsTrue}
use Rattle.std.specs.List.{Contains, filter, list_any}
use Rattle.std.proofs.lemmas.Bool.{le-leb, lt-ltb}
use Rattle.memory_image.specs.Image.{Span}
use Rattle.unwind_definitions.specs.Caller.{Columns}
use Rattle.unwind_definitions.specs.State.{Shows}
use Rattle.unwind_definitions.specs.Entries.{Fde}
use Rattle.unwind_definitions.specs.Function.{Function}
use Rattle.unwind_definitions.specs.Module.{Tables, in_module, address_in, frame_address, bases_of, DescribesModule, IsUncovered, IsElfProcess, AreApart, HeaderLists}
use Rattle.unwind_definitions.specs.Scan.{fdes_of}
use Rattle.unwind_definitions.specs.Valid.{IsElfValid}
use Rattle.unwind_laws.proofs.Booleans.{contains_all, first, later, pairs_one}
use Rattle.unwind_laws.proofs.ByHeader.{mapped_from}
use Rattle.generated_chains.specs.declared.outline.Outline.{Outline}
use Rattle.generated_chains.specs.Outlines.{AreNumbered}
use Rattle.generated_chains.specs.Code.{text, start_of, function_of, functions_of}
use Rattle.generated_chains.specs.Calls.{state_of, calls_of, resumes_of}
use Rattle.generated_chains.specs.Tables.{frames_place}
use Rattle.generated_chains.specs.Memory.{HoldsTables, module_by, process_by, by_frames, by_header, image_of}
use Rattle.generated_chains.proofs.ChainLaw.{generated_chain}
use Rattle.generated_chains.proofs.Functions.{are_functions}
use Rattle.generated_chains.proofs.Resumed.{inner_resume}
use Rattle.generated_chains.proofs.FrameList.{entries_of, fdes_are}
use Rattle.generated_chains.proofs.Described.{below, frames_described, descriptions_apart, descriptions_sized}
use Rattle.generated_chains.proofs.Headers.{leads, header_lists}
use Rattle.generated_chains.proofs.Held.{is_laid_out, holds_tables, holds_stack}

-- ---- the functions lie in the module

inside : (tables : Tables) (os : List Outline) → AreNumbered 0 os → (f : Function) → Contains (functions_of os) f → ((module_by tables os).start ≤ f.start) × (f.end ≤ (module_by tables os).end)
inside tables os numbered f has =
    let from = mapped_from function_of os f has in
    let o : Outline = from.0 in
    let lt = below 0 os o numbered from.1 in
    let at : (text ≤ (function_of o).start) × ((function_of o).end ≤ text + 64 * length os) = (omega arith, omega arith) in
    subst (λ (g : Function). (text ≤ g.start) × (g.end ≤ text + 64 * length os)) (sym from.2) at

starts_inside : (tables : Tables) (os : List Outline) → AreNumbered 0 os → (f : Function) → Contains (functions_of os) f → in_module f.start (module_by tables os) ≡ true
starts_inside tables os numbered f has =
    let from = mapped_from function_of os f has in
    let o : Outline = from.0 in
    let lt = below 0 os o numbered from.1 in
    let at : in_module (function_of o).start (module_by tables os) ≡ true = rw (le-leb text (start_of o.index) (omega arith), lt-ltb (start_of o.index) (text + 64 * length os) (omega arith)) refl in
    subst (λ (g : Function). in_module g.start (module_by tables os) ≡ true) (sym from.2) at

-- a part that everything is in
whole_part : {A : Type 0} (p : A → Bool) (xs : List A) → ((x : A) → Contains xs x → p x ≡ true) → filter p xs ≡ xs
whole_part p [] each = refl
whole_part p (x ∷ xs) each = rw (each x (first x xs)) (ap (λ ys. x ∷ ys) (whole_part p xs (λ y has. each y (later x xs y has))))

-- ---- the module describes them
module _ (image : List Span) (os : List Outline) (holds : HoldsTables image os) (numbered : AreNumbered 0 os) (few : length os ≤ 100000) where
  described_by : (tables : Tables) → frame_address image tables ≡ Some frames_place → HeaderLists image tables frames_place (fdes_of (entries_of os)) → DescribesModule image (module_by tables os) (functions_of os)
  described_by tables address header = record {
    frame = frames_place;
    address = address;
    entries = entries_of os;
    frames = frames_described image (bases_of (module_by tables os) frames_place) os holds numbered few;
    nonempty = descriptions_sized os;
    apart = descriptions_apart os numbered;
    inside = contains_all (λ (f : Function). (text ≤ f.start) × (f.end ≤ text + 64 * length os)) (functions_of os) (inside tables os numbered);
    header = header;
  }

  pub described_by_frames : DescribesModule image (module_by by_frames os) (functions_of os)
  described_by_frames = described_by by_frames refl tt

  pub described_by_header : DescribesModule image (module_by by_header os) (functions_of os)
  described_by_header = described_by by_header (ap address_in (leads image os holds numbered few)) (subst (λ (fs : List Fde). HeaderLists image by_header frames_place fs) (sym (fdes_are os)) (header_lists image os holds numbered few))

-- ---- all of it
module _ (seed : ℕ) (lt : seed < 2 ^ 64) (os : List Outline) (numbered : AreNumbered 0 os) (some : 0 < length os) (few : length os ≤ 100000) where
  valid_by : (tables : Tables) (start : Columns) → Shows start (state_of seed os) → DescribesModule (image_of seed os) (module_by tables os) (functions_of os) →
      IsElfValid (process_by tables seed os) start (resumes_of os) (functions_of os) (state_of seed os) (calls_of seed os)
  valid_by tables start shows described = record {
    are_functions = are_functions os;
    modules = (subst (DescribesModule (image_of seed os) (module_by tables os)) (sym (whole_part (λ (f : Function). in_module f.start (module_by tables os)) (functions_of os) (starts_inside tables os numbered))) described, tt);
    no_others = contains_all (λ (f : Function). IsTrue (list_any (in_module f.start) (module_by tables os ∷ []))) (functions_of os) (λ f has. rw (starts_inside tables os numbered f has) refl);
    shows = shows;
    chain = generated_chain (image_of seed os) seed os (IsUncovered (process_by tables seed os)) lt numbered few (holds_stack seed lt os numbered some few);
    resumed = λ f found accepted. inner_resume seed os numbered;
  }

  pub valid_by_frames : (start : Columns) → Shows start (state_of seed os) → IsElfValid (process_by by_frames seed os) start (resumes_of os) (functions_of os) (state_of seed os) (calls_of seed os)
  valid_by_frames start shows = valid_by by_frames start shows (described_by_frames (image_of seed os) os (holds_tables seed lt os numbered some few) numbered few)

  pub valid_by_header : (start : Columns) → Shows start (state_of seed os) → IsElfValid (process_by by_header seed os) start (resumes_of os) (functions_of os) (state_of seed os) (calls_of seed os)
  valid_by_header start shows = valid_by by_header start shows (described_by_header (image_of seed os) os (holds_tables seed lt os numbered some few) numbered few)

-- regions and modules share no address
pub is_process : (seed : ℕ) → seed < 2 ^ 64 → (os : List Outline) → AreNumbered 0 os → 0 < length os → length os ≤ 100000 → (tables : Tables) → IsElfProcess (process_by tables seed os)
is_process seed lt os numbered some few tables = record { regions = is_laid_out seed lt os numbered some few; ranges = ((omega arith, omega arith), tt); apart = pairs_one AreApart (module_by tables os) }
