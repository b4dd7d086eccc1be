-- Personalities keep no state: a line that they are asked along is one whatever is handed on.
use Rattle.std.proofs.Common.{◌≡◌, ℕ, zero, suc, Bool, true, false, cond, [], ◌∷◌, Option, Some, None, Result, Ok, Err, refl, ap, subst, ◌∙◌}
use Rattle.unwinding_frames.specs.declared.abi.UnwindReasonCode.{UnwindReasonCode}
use Rattle.unwinding_frames.specs.declared.abi.UnwindAction.{UnwindAction}
use Rattle.unwinding_frames.specs.declared.abi.TheConstants.UnwindReasonCode.{CONTINUE_UNWIND}
use Rattle.unwinding_frames.specs.Passes.{Marked, Stepping, Answering, LineEnd, Decides, Crowded, FrameVisit, Ends, Goes, Line, IsAfter, IsLine, is_code, goes, visit_seen, visit_asked, by_personality, answer_of_personality}

abbrev without_state : {C E S : Type 0} → FrameVisit C E S → FrameVisit C E (Unit {0})
without_state (Ends s end) = Ends tt end
without_state (Goes s y) = Goes tt y

-- a line that ends so, with nothing handed on
abbrev pub Plain : {C F E : Type 0} → Stepping C F E → Answering C F E → (Marked C → UnwindAction) → ℕ → Marked C → LineEnd C E → Type 0
Plain {C} {F} {E} step p actions room x end = (plain : Line C E (Unit {0})) × IsLine step (by_personality p actions) room tt x plain × (end ≡ plain.end)

module _ {C F E S : Type 0} (step : Stepping C F E) (p : Answering C F E) (actions : Marked C → UnwindAction) where
  of_caller : (s : S) (r : Result (Marked C) E) → without_state (goes s r) ≡ goes tt r
  of_caller s (Ok y) = refl
  of_caller s (Err e) = refl

  of_code : (s : S) (f : F) (x : Marked C) (code : UnwindReasonCode) (left : C) (b : Bool) →
      without_state (cond b (goes s (step.undoing.caller f left)) (Ends s (Decides x code left (step.undoing.past_arguments f left)))) ≡ cond b (goes tt (step.undoing.caller f left)) (Ends tt (Decides x code left (step.undoing.past_arguments f left)))
  of_code s f x code left true = of_caller s (step.undoing.caller f left)
  of_code s f x code left false = refl

  of_answer : (s : S) (f : F) (x : Marked C) (r : Result (UnwindReasonCode × C) E) → without_state (visit_asked step.undoing f x (s, r)) ≡ visit_asked step.undoing f x (tt, r)
  of_answer s f x (Ok (code, left)) = of_code s f x code left (is_code code CONTINUE_UNWIND)
  of_answer s f x (Err e) = refl

  of_turn : (s : S) (x : Marked C) (seen : Result (Option F) E) → without_state (visit_seen step.undoing (by_personality p actions) s x seen) ≡ visit_seen step.undoing (by_personality p actions) tt x seen
  of_turn s x (Ok None) = refl
  of_turn s x (Ok (Some f)) = of_answer s f x (answer_of_personality p (actions x) f x)
  of_turn s x (Err e) = refl

  after : (room : ℕ) → ((s : S) (y : Marked C) (line : Line C E S) → IsLine step (by_personality p actions) room s y line → Plain step p actions room y line.end) →
      (x : Marked C) (turn : FrameVisit C E S) (line : Line C E S) → IsAfter (IsLine step (by_personality p actions) room) x turn line →
      (plain : Line C E (Unit {0})) × IsAfter (IsLine step (by_personality p actions) room) x (without_state turn) plain × (line.end ≡ plain.end)
  after room outer x (Ends s end) line is = (record { contexts = x ∷ []; end = end; state = tt }, refl, ap (λ (l : Line C E S). l.end) is)
  after room outer x (Goes s y) line is =
      let later = outer s y is.0 is.1 in
      (record later.0 { contexts = x ∷ later.0.contexts }, (later.0, later.1, refl), ap (λ (l : Line C E S). l.end) is.2 ∙ later.2)

  pub stateless : (room : ℕ) (s : S) (x : Marked C) (line : Line C E S) → IsLine step (by_personality p actions) room s x line → Plain step p actions room x line.end
  stateless zero s x line is = (record { contexts = []; end = Crowded; state = tt }, refl, ap (λ (l : Line C E S). l.end) is)
  stateless (suc room) s x line is =
      let a = after room (λ t y rest line. stateless room t y rest line) x (visit_seen step.undoing (by_personality p actions) s x is.0) line is.2 in
      (a.0, (is.0, is.1, subst (λ (turn : FrameVisit C E (Unit {0})). IsAfter (IsLine step (by_personality p actions) room) x turn a.0) (of_turn s x is.0) a.1), a.2)
