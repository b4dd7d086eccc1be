-- A list of frame tables in memory, gone through from its beginning on.
use Rattle.std.proofs.Common.{◌≡◌, ℕ, ◌+◌, ◌*◌, ◌^◌, ◌<◌, ◌≤◌, List, [], ◌∷◌, ◌++◌, length, Option, Some, None, refl, sym, ap, subst, ◌∙◌, arith, length-append, inl, inr}
use Rattle.std.specs.Prelude.{◌≢◌}
use Rattle.std.specs.List.{AllByRecursion}
use Rattle.std.proofs.lemmas.Bool.{lt-ltb, le-ltb}
use Rattle.memory_image.specs.Image.{Span, word_at}
use Rattle.unwind_definitions.specs.Pointers.{Bases}
use Rattle.fde_finders.specs.Finding.{FoundFde, scanned_by}
use Rattle.fde_finders.specs.Registered.{listed_at, AreListed, ListEnds, ScansNone, FindsListed}

module _ (bases : Bases) (image : List Span) (pc : ℕ) where
  -- the tables before a place of the list, in none of which a scan finds anything
  pub record IsPast (begin place : ℕ) : Type 0 where
    pub before : List ℕ
    pub are : AreListed image begin before
    pub none_before : AllByRecursion (ScansNone bases image pc) before
    pub at : place ≡ begin + 8 * length before

  pub begun : (begin : ℕ) → IsPast begin begin
  begun begin = record { before = []; are = tt; none_before = tt; at = omega arith }

  mapped : (a : ℕ) (o : Option ℕ) → a < 2 ^ 64 → word_at image a ≡ o → listed_at image a ≡ o
  mapped a o lt is = rw (lt-ltb a (2 ^ 64) lt) is

  one_more : (begin w : ℕ) (ws : List ℕ) → AreListed image begin ws → listed_at image (begin + 8 * length ws) ≡ Some w → w ≢ 0 → AreListed image begin (ws ++ w ∷ [])
  one_more begin w [] are at some = let here : begin + 8 * 0 ≡ begin = omega arith in (ap (listed_at image) (sym here) ∙ at, some, tt)
  one_more begin w (x ∷ xs) are at some =
      let here : begin + 8 + 8 * length xs ≡ begin + 8 * length (x ∷ xs) = omega arith in
      (are.0, are.1, one_more (begin + 8) w xs are.2 (ap (listed_at image) here ∙ at) some)

  none_more : (ws : List ℕ) (w : ℕ) → AllByRecursion (ScansNone bases image pc) ws → scanned_by bases image w pc ≡ None → AllByRecursion (ScansNone bases image pc) (ws ++ w ∷ [])
  none_more [] w none is = (is, tt)
  none_more (x ∷ xs) w none is = (none.0, none_more xs w none.1 is)

  pub passed : (begin place w : ℕ) → IsPast begin place → place < 2 ^ 64 → word_at image place ≡ Some w → w ≢ 0 → scanned_by bases image w pc ≡ None → IsPast begin (place + 8)
  passed begin place w p lt at some none =
      let here = p.at in
      let many : length (p.before ++ w ∷ []) ≡ length p.before + 1 = length-append p.before (w ∷ []) in
      record {
        before = p.before ++ w ∷ [];
        are = one_more begin w p.before p.are (ap (listed_at image) (sym here) ∙ mapped place (Some w) lt at) some;
        none_before = none_more p.before w p.none_before none;
        at = rw many (omega arith);
      }

  ends_at : (begin place : ℕ) → IsPast begin place → ListEnds image place → FindsListed bases image begin pc None
  ends_at begin place p ends = record { before = p.before; are = p.are; none_before = p.none_before; decides = subst (ListEnds image) p.at ends }

  pub ends_unmapped : (begin place : ℕ) → IsPast begin place → place < 2 ^ 64 → word_at image place ≡ None → FindsListed bases image begin pc None
  ends_unmapped begin place p lt at = ends_at begin place p (inl (mapped place None lt at))

  pub ends_at_zero : (begin place : ℕ) → IsPast begin place → place < 2 ^ 64 → word_at image place ≡ Some 0 → FindsListed bases image begin pc None
  ends_at_zero begin place p lt at = ends_at begin place p (inr (mapped place (Some 0) lt at))

  pub ends_after : (begin place : ℕ) → IsPast begin place → 2 ^ 64 ≤ place → FindsListed bases image begin pc None
  ends_after begin place p le = ends_at begin place p (inl (rw (le-ltb place (2 ^ 64) le) refl))

  pub found : (begin place w : ℕ) (k : FoundFde) → IsPast begin place → place < 2 ^ 64 → word_at image place ≡ Some w → w ≢ 0 → scanned_by bases image w pc ≡ Some k → FindsListed bases image begin pc (Some k)
  found begin place w k p lt at some is =
      record { before = p.before; are = p.are; none_before = p.none_before; decides = (w, ap (listed_at image) (sym p.at) ∙ mapped place (Some w) lt at, some, is) }
