-- A line that is gone along, context by context.
use Rattle.std.proofs.Common.{◌≡◌, ℕ, zero, suc, [], ◌∷◌, Option, Result, refl, sym, subst}
use Rattle.unwinding_frames.specs.Passes.{Marked, Stepping, Asking, LineEnd, Crowded, FrameVisit, Ends, Goes, Line, IsAfter, IsLine, visit_seen}

module _ {C F E S : Type 0} (step : Stepping C F E) (asks : Asking C F E S) (limit : ℕ) (s0 : S) (x0 : Marked C) where
  -- what a line from here comes to, one from the start comes to
  pub record Reaches (room : ℕ) (s : S) (x : Marked C) : Type 0 where
    pub comes : (line : Line C E S) → IsLine step asks room s x line → (whole : Line C E S) × IsLine step asks limit s0 x0 whole × (whole.end ≡ line.end) × (whole.state ≡ line.state)

  pub reaches_start : Reaches limit s0 x0
  reaches_start = record { comes = λ line is. (line, is, refl, refl) }

  -- a line from the start that ends so
  abbrev pub EndsWith : S → LineEnd C E → Type 0
  EndsWith s end = (whole : Line C E S) × IsLine step asks limit s0 x0 whole × (end ≡ whole.end) × (s ≡ whole.state)

  pub crowded : (room : ℕ) (s : S) (x : Marked C) → room ≡ zero → Reaches room s x → EndsWith s Crowded
  crowded room s x none here =
      let at : Reaches zero s x = subst (λ (n : ℕ). Reaches n s x) none here in
      let w = at.comes (record { contexts = []; end = Crowded; state = s }) refl in (w.0, w.1, sym w.2, sym w.3)

  after_ends : (room : ℕ) (s t : S) (x : Marked C) (end : LineEnd C E) (turn : FrameVisit C E S) → turn ≡ Ends t end → IsAfter (IsLine step asks room) x turn (record { contexts = x ∷ []; end = end; state = t })
  after_ends room s t x end turn is = subst (λ (u : FrameVisit C E S). IsAfter (IsLine step asks room) x u (record { contexts = x ∷ []; end = end; state = t })) (sym is) refl

  after_goes : (room : ℕ) (t : S) (x y : Marked C) (turn : FrameVisit C E S) (rest : Line C E S) → turn ≡ Goes t y → IsLine step asks room t y rest → IsAfter (IsLine step asks room) x turn (record rest { contexts = x ∷ rest.contexts })
  after_goes room t x y turn rest is line = subst (λ (u : FrameVisit C E S). IsAfter (IsLine step asks room) x u (record rest { contexts = x ∷ rest.contexts })) (sym is) (rest, line, refl)

  pub ends : (room n : ℕ) (s t : S) (x : Marked C) (end : LineEnd C E) (seen : Result (Option F) E) → room ≡ suc n → Reaches room s x → step.Sees x seen → visit_seen step.undoing asks s x seen ≡ Ends t end → EndsWith t end
  ends room n s t x end seen some here sees is =
      let at : Reaches (suc n) s x = subst (λ (k : ℕ). Reaches k s x) some here in
      let w = at.comes (record { contexts = x ∷ []; end = end; state = t }) (seen, sees, after_ends n s t x end (visit_seen step.undoing asks s x seen) is) in (w.0, w.1, sym w.2, sym w.3)

  pub goes_on : (room n : ℕ) (s t : S) (x y : Marked C) (seen : Result (Option F) E) → room ≡ suc n → Reaches room s x → step.Sees x seen → visit_seen step.undoing asks s x seen ≡ Goes t y → Reaches n t y
  goes_on room n s t x y seen some here sees is = record {
    comes = λ rest line.
        let at : Reaches (suc n) s x = subst (λ (k : ℕ). Reaches k s x) some here in
        at.comes (record rest { contexts = x ∷ rest.contexts }) (seen, sees, after_goes n t x y (visit_seen step.undoing asks s x seen) rest is line);
  }
