-- Of sites that ascend, the search ends at the one that holds the address.
use Rattle.std.proofs.Common.{◌≡◌, ℕ, ◌<◌, Bool, true, false, ltb, List, [], ◌∷◌, refl, sym, arith}
use Rattle.std.proofs.lemmas.Bool.{ltb-true, ltb-false, le-leb, lt-leb}
use Rattle.unwind_definitions.specs.Function.{Site, Terminate, ranges_of, AreWithin, action_among}
use Rattle.unwind_laws.specs.Searched.{action_of_sites}

-- sites that begin past an address don't hold it
none_before : (ss : List Site) (low high a : ℕ) → AreWithin low high (ranges_of ss) → a < low → action_among ss a ≡ Terminate
none_before [] low high a within lt = refl
none_before (s ∷ ss) low high a within lt =
    let w0 = within.0 in let w1 = within.1 in
    rw (lt-leb s.range.from a (omega arith)) (none_before ss s.range.to high a within.3 (omega arith))

pub searched_is : (ss : List Site) (low high a : ℕ) → AreWithin low high (ranges_of ss) → action_of_sites ss a ≡ action_among ss a
searched_is [] low high a within = refl
searched_is (s ∷ ss) low high a within = go (ltb a s.range.from) (ltb a s.range.to) refl refl (searched_is ss s.range.to high a within.3)
  where
    go : (b d : Bool) → ltb a s.range.from ≡ b → ltb a s.range.to ≡ d → action_of_sites ss a ≡ action_among ss a → action_of_sites (s ∷ ss) a ≡ action_among (s ∷ ss) a
    go true d e f ih =
        let lt = ltb-true a s.range.from e in let w1 = within.1 in
        rw (e, lt-leb s.range.from a lt) (sym (none_before ss s.range.to high a within.3 (omega arith)))
    go false true e f ih = let le = ltb-false a s.range.from e in rw (e, f, le-leb s.range.from a le) refl
    go false false e f ih = let le = ltb-false a s.range.from e in rw (e, f, le-leb s.range.from a le) ih
