use Rattle.std.proofs.Common.{◌≡◌, ◌∙◌, ℕ, List, ◌∷◌, ◌++◌, map, Some, sym, ap}
use Rattle.core_file.specs.MappedParts.{PartValue}
use Rattle.core_file.specs.MappedViews.{part_of, parts_left}
use Rattle.mapped_files.specs.Files.{front_of}
use Rattle.mapped_modules.specs.Loading.{loaded_from, loaded_value, place_in}
use Rattle.mapped_modules.proofs.Loadings.{loaded_next, loaded_passed}
use Rattle.mapped_modules.proofs.loading.loaded_modules.Goals as goal
use Rattle.mapped_modules.proofs.loading.loaded_modules.Goals.{in-Some-place_in+in_ok-load+in_ok-push, in_default-place_in}

pub loop-part-preserved : goal.loop-part-preserved
loop-part-preserved g c =
    let old = c.loop-part.loaded.items in
    let part : PartValue = part_of c.in-Some.part in
    let rest = parts_left c.next.new.self in
    let steps : parts_left c.loop-part.parts ≡ part ∷ rest = c.in-Some.ensures.steps in
    record {
      told = λ all tells. (
          let whole = loaded_from all (parts_left c.args.parts) in
          let before : map loaded_value old ++ loaded_from all (part ∷ rest) ≡ whole = ap (λ (ps : List PartValue). map loaded_value old ++ loaded_from all ps) (sym steps) ∙ c.loop-part.invariant.told all tells in
          let front : c.in_ok-front.front.bytes.items ≡ front_of (all part.path) = c.in_ok-front.ensures.told all tells (c.loop-part.invariant.last all tells) ∙ ap (λ (path : List ℕ). front_of (all path)) c.in_ok-front.ensures.path in
          let place : c.place_in.result ≡ place_in (front_of (all part.path)) part = c.place_in.ensures ∙ ap (λ (bytes : List ℕ). place_in bytes part) (c.deref.ensures.value ∙ front) in
          elim c.match-place_in.branch [
            | in-Some-place_in+in_ok-load+in_ok-push w ↦ (
                let is : place_in (front_of (all part.path)) part ≡ Some w.in-Some-place_in.place = sym place ∙ w.in-Some-place_in.is in
                rw (w.loaded-is, w.in_ok-push.ensures.items) (loaded_next all old _ part rest w.in-Some-place_in.place whole is (w.in_ok-load.ensures.told all tells) before)
                )
            | in_default-place_in w ↦ rw w.loaded-is (loaded_passed all old part rest whole (sym place ∙ w.in_default-place_in.is) before)
          ]
          );
      last = λ all tells. c.in_ok-front.ensures.told all tells (c.loop-part.invariant.last all tells);
    }
