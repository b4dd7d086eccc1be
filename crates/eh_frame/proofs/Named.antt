-- What the answer of a header's table says, in words.
use Rattle.std.proofs.Common.{◌≡◌, ℕ, Bool, true, false, cond, Option, Some, None, Result, Ok, Err, refl, sym, ap, subst, ◌∙◌, inl, inr}
use Rattle.std.specs.Prelude.{◌≢◌, ◌⊎◌, IfOk, IfErr}
use Rattle.unwind_definitions.specs.declared.error.Error.{Error as Fault}
use Rattle.unwind_definitions.specs.declared.error.Error.TheVariants.{NoUnwindInfoForAddress}
use Rattle.unwind_definitions.specs.Faults.{◌>>=◌}
use Rattle.unwind_definitions.specs.Input.{Input}
use Rattle.unwind_definitions.specs.Pointers.{Bases}
use Rattle.unwind_definitions.specs.Entries.{Fde}
use Rattle.unwind_definitions.specs.Row.{covers_pc}
use Rattle.unwind_definitions.specs.Header.{PairTable}
use Rattle.unwind_definitions.specs.HeaderSearch.{IsBoundary, StartsAbove, IsUnreadablePair, Finds, fde_at_address, containing, found_by, table_answer, IsTableAnswer, IsNamed, IsNamedElsewhere, IsUnreadableNamed}
use Rattle.unwind_definitions.specs.HeaderSearchLaws.{table_answer-is}
use Rattle.encoded_pointers.specs.Readers.{Answers}
use Rattle.eh_frame.specs.declared.fde.Fde.{Fde as CodeFde}
use Rattle.eh_frame.specs.EntryViews.{fde_of}
use Rattle.eh_frame.specs.HeaderViews.{answer_of}
use Rattle.eh_frame.proofs.Faults.{other_pair_at, other_fde_at_address}

-- what is answered by a view is what is given
pub answer_is : (r : Result CodeFde Fault) (given : Result Fde Fault) → Answers fde_of r given → answer_of r ≡ given
answer_is (Ok fde) given is = sym is
answer_is (Err e) given is = sym is

fde_same : (x y : Fde) → ◌≡◌ {A = Result Fde Fault} (Ok x) (Ok y) → x ≡ y
fde_same x y e = cc

fault_same : (x y : Fault) → ◌≡◌ {A = Result Fde Fault} (Err x) (Err y) → x ≡ y
fault_same x y e = cc

module _ (bases : Bases) (frame : Input) (t : PairTable) (pc : ℕ) where
  names : (fde : Fde) → IsTableAnswer bases frame t pc (Ok fde) → IsNamed bases frame t pc fde
  names fde by = go by.place by.finds by.is
    where
      covered : (p : ℕ × ℕ) (k : Fde) (b : Bool) → IsBoundary t pc p → fde_at_address bases frame p.1 ≡ Ok k → covers_pc k pc ≡ b → Ok fde ≡ cond b (Ok k) (Err NoUnwindInfoForAddress) → IsNamed bases frame t pc fde
      covered p k true boundary at is e =
          let same : k ≡ fde = fde_same k fde (sym e) in
          record { place = p; boundary = boundary; stands = at ∙ ap (λ (x : Fde). Ok x) same; contains = subst (λ (x : Fde). covers_pc x pc ≡ true) same is }
      covered p k false boundary at is e = absurd cc

      stands : (p : ℕ × ℕ) (r : Result Fde Fault) → IsBoundary t pc p → fde_at_address bases frame p.1 ≡ r → Ok fde ≡ (r >>= λ k. containing pc k) → IsNamed bases frame t pc fde
      stands p (Ok k) boundary at e = covered p k (covers_pc k pc) boundary at refl e
      stands p (Err f) boundary at e = absurd cc

      go : (place : Result (Option (ℕ × ℕ)) Fault) → Finds t pc place → Ok fde ≡ found_by bases frame pc place → IsNamed bases frame t pc fde
      go (Err f) finds e = absurd cc
      go (Ok None) finds e = absurd cc
      go (Ok (Some p)) finds e = stands p (fde_at_address bases frame p.1) finds refl e

  -- why a fault is answered
  data Cause (e : Fault) : Type 0 where
    Unread : IsUnreadablePair t e → Cause e
    Above : e ≡ NoUnwindInfoForAddress → StartsAbove t pc → Cause e
    Damaged : IsUnreadableNamed bases frame t pc e → Cause e
    Elsewhere : e ≡ NoUnwindInfoForAddress → IsNamedElsewhere bases frame t pc → Cause e

  cause : (e : Fault) → IsTableAnswer bases frame t pc (Err e) → Cause e
  cause e by = go by.place by.finds by.is
    where
      covered : (p : ℕ × ℕ) (k : Fde) (b : Bool) → IsBoundary t pc p → fde_at_address bases frame p.1 ≡ Ok k → covers_pc k pc ≡ b → Err e ≡ cond b (Ok k) (Err NoUnwindInfoForAddress) → Cause e
      covered p k true boundary at is h = absurd cc
      covered p k false boundary at is h = Elsewhere (fault_same e NoUnwindInfoForAddress h) (record { place = p; boundary = boundary; fde = k; stands = at; misses = is })

      stands : (p : ℕ × ℕ) (r : Result Fde Fault) → IsBoundary t pc p → fde_at_address bases frame p.1 ≡ r → Err e ≡ (r >>= λ k. containing pc k) → Cause e
      stands p (Ok k) boundary at h = covered p k (covers_pc k pc) boundary at refl h
      stands p (Err f) boundary at h =
          let same : f ≡ e = sym (fault_same e f h) in
          Damaged (record { place = p; boundary = boundary; unread = at ∙ ap (λ (x : Fault). Err x) same })

      go : (place : Result (Option (ℕ × ℕ)) Fault) → Finds t pc place → Err e ≡ found_by bases frame pc place → Cause e
      go (Err f) finds h = Unread (subst (IsUnreadablePair t) (sym (fault_same e f h)) finds)
      go (Ok None) finds h = Above (fault_same e NoUnwindInfoForAddress h) finds
      go (Ok (Some p)) finds h = stands p (fde_at_address bases frame p.1) finds refl h

  fails : (e : Fault) → e ≢ NoUnwindInfoForAddress → Cause e → IsUnreadablePair t e ⊎ IsUnreadableNamed bases frame t pc e
  fails e ne (Unread u) = inl u
  fails e ne (Above is s) = absurd (ne is)
  fails e ne (Damaged u) = inr u
  fails e ne (Elsewhere is n) = absurd (ne is)

  misses : (e : Fault) → e ≡ NoUnwindInfoForAddress → Cause e → StartsAbove t pc ⊎ IsNamedElsewhere bases frame t pc
  misses e is (Unread u) = absurd (other_pair_at t u.0 (u.2 ∙ ap (λ (x : Fault). Err x) is))
  misses e is (Above same s) = inl s
  misses e is (Damaged u) = absurd (other_fde_at_address bases frame u.place.1 (u.unread ∙ ap (λ (x : Fault). Err x) is))
  misses e is (Elsewhere same n) = inr n

  -- what the table answers it may answer
  pub answer_may : (r : Result CodeFde Fault) → Answers fde_of r (table_answer bases frame t pc) → IsTableAnswer bases frame t pc (answer_of r)
  answer_may r is = subst (IsTableAnswer bases frame t pc) (sym (answer_is r (table_answer bases frame t pc) is)) (table_answer-is t pc bases frame)

  pub answer_named : (r : Result CodeFde Fault) → IsTableAnswer bases frame t pc (answer_of r) → IfOk r (λ fde. IsNamed bases frame t pc (fde_of fde))
  answer_named (Ok fde) by = names (fde_of fde) by
  answer_named (Err e) by = tt

  pub answer_none : (r : Result CodeFde Fault) → IsTableAnswer bases frame t pc (answer_of r) → r ≡ Err NoUnwindInfoForAddress → StartsAbove t pc ⊎ IsNamedElsewhere bases frame t pc
  answer_none (Ok fde) by none = absurd cc
  answer_none (Err e) by none = let same : e ≡ NoUnwindInfoForAddress = cc in misses e same (cause e by)

  pub answer_fault : (r : Result CodeFde Fault) → IsTableAnswer bases frame t pc (answer_of r) → IfErr r (λ e. e ≢ NoUnwindInfoForAddress → IsUnreadablePair t e ⊎ IsUnreadableNamed bases frame t pc e)
  answer_fault (Ok fde) by = tt
  answer_fault (Err e) by = λ ne. fails e ne (cause e by)
