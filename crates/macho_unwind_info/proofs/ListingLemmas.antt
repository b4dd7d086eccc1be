-- The places of a page.
use Rattle.std.proofs.Common.{◌≡◌, ℕ, zero, suc, ◌+◌, List, [], ◌∷◌, refl, arith, ap, ◌∙◌}
use Rattle.std.specs.Prelude.{slice_get, option_map}
use Rattle.macho_unwind_info.specs.Listing.{function_of, functions_of}
use Rattle.macho_unwind_info.specs.declared.page.Entry.{Entry}

-- the function at an index is that of the entry there and the one after it
pub slice_get-functions_of : (next : ℕ) (entries : List Entry) (i : ℕ) → slice_get (functions_of next entries) i ≡ option_map (λ e. function_of next e (slice_get entries (i + 1))) (slice_get entries i)
slice_get-functions_of next [] i = refl
slice_get-functions_of next (e ∷ es) zero = refl
slice_get-functions_of next (e ∷ es) (suc i) =
    let more : suc (i + 1) ≡ suc i + 1 = omega arith in
    slice_get-functions_of next es i ∙ ap (λ (j : ℕ). option_map (λ (e' : Entry). function_of next e' (slice_get (e ∷ es) j)) (slice_get es i)) more
