-- Lines where one thing is seen at each context: there is one line from each.
use Rattle.std.proofs.Common.{◌≡◌, ℕ, zero, suc, [], ◌∷◌, Option, Result, refl, ap, subst, ◌∙◌}
use Rattle.unwinding_frames.specs.Passes.{Marked, Undoing, Stepping, Asking, Crowded, FrameVisit, Ends, Goes, Line, IsAfter, IsLine, visit_seen}

-- the step by what is seen at each context
abbrev pub by_one : {C F E : Type 0} → (Marked C → Result (Option F) E) → Undoing C F E → Stepping C F E
by_one sees undoing = record { Sees = λ x seen. seen ≡ sees x; undoing = undoing }

abbrev pub with_rest : {C E S : Type 0} → Marked C → Line C E S → Line C E S
with_rest x rest = record rest { contexts = x ∷ rest.contexts }

abbrev pub line_after : {C E S : Type 0} → (S → Marked C → Line C E S) → Marked C → FrameVisit C E S → Line C E S
line_after outer x (Ends s end) = record { contexts = x ∷ []; end = end; state = s }
line_after outer x (Goes s next) = with_rest x (outer s next)

-- the line from a context outwards, where there is room for so many contexts
abbrev pub line_of : {C F E S : Type 0} → (Marked C → Result (Option F) E) → Undoing C F E → Asking C F E S → ℕ → S → Marked C → Line C E S
line_of sees undoing asks zero s x = record { contexts = []; end = Crowded; state = s }
line_of sees undoing asks (suc room) s x = line_after (line_of sees undoing asks room) x (visit_seen undoing asks s x (sees x))

module _ {C F E S : Type 0} (sees : Marked C → Result (Option F) E) (undoing : Undoing C F E) (asks : Asking C F E S) where
  after_is : (room : ℕ) → ((s : S) (y : Marked C) (line : Line C E S) → IsLine (by_one sees undoing) asks room s y line → line ≡ line_of sees undoing asks room s y) →
      (x : Marked C) (turn : FrameVisit C E S) (line : Line C E S) → IsAfter (IsLine (by_one sees undoing) asks room) x turn line → line ≡ line_after (line_of sees undoing asks room) x turn
  after_is room outer x (Ends s end) line is = is
  after_is room outer x (Goes s next) line is = is.2 ∙ ap (with_rest x) (outer s next is.0 is.1)

  -- a line is that one
  pub line_is : (room : ℕ) (s : S) (x : Marked C) (line : Line C E S) → IsLine (by_one sees undoing) asks room s x line → line ≡ line_of sees undoing asks room s x
  line_is zero s x line is = is
  line_is (suc room) s x line is =
      subst (λ (seen : Result (Option F) E). line ≡ line_after (line_of sees undoing asks room) x (visit_seen undoing asks s x seen)) is.1
      (after_is room (λ t y rest line. line_is room t y rest line) x (visit_seen undoing asks s x is.0) line is.2)

  is_after : (room : ℕ) → ((s : S) (y : Marked C) → IsLine (by_one sees undoing) asks room s y (line_of sees undoing asks room s y)) →
      (x : Marked C) (turn : FrameVisit C E S) → IsAfter (IsLine (by_one sees undoing) asks room) x turn (line_after (line_of sees undoing asks room) x turn)
  is_after room outer x (Ends s end) = refl
  is_after room outer x (Goes s next) = (line_of sees undoing asks room s next, outer s next, refl)

  -- that one is a line
  pub is_line : (room : ℕ) (s : S) (x : Marked C) → IsLine (by_one sees undoing) asks room s x (line_of sees undoing asks room s x)
  is_line zero s x = refl
  is_line (suc room) s x = (sees x, refl, is_after room (λ t y. is_line room t y) x (visit_seen undoing asks s x (sees x)))
