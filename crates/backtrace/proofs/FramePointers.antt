-- A frame pointer leads to the caller of a function that has pushed RBP and made it its frame pointer.
use Rattle.std.proofs.Common.{◌≡◌, ◌≢◌, ℕ, ◌+◌, ◌-◌, ◌%◌, ◌^◌, ◌<◌, ◌≤◌, true, false, List, length, set, get_or, Option, Some, None, refl, sym, ap, subst, ◌∙◌, leb, ltb, eqb, arith}
use Rattle.std.proofs.lemmas.Bool.Decides.{nat_tests}
use Rattle.std.proofs.lemmas.List.{get_or-set_same, get_or-set_other}
use Rattle.std.proofs.Math.ListN.{length-set}
use Rattle.std.specs.Prelude.{IsSomeAnd, IsTrue, option_and_then, option_map}
use Rattle.memory_image.specs.Image.{Span, word_at}
use Rattle.unwind_definitions.specs.State.{CalleeSaved, RBX, RBP, R12, R13, R14, R15, State, IsState, Shows, KeepsOthers, column_of, value_of, is_followed}
use Rattle.unwind_definitions.specs.Entered.{IsEntered}
use Rattle.unwind_arch.specs.declared.x86_64.Context.{Context}
use Rattle.unwind_arch.specs.ContextViews.{columns_of}
use Rattle.stack_steps.specs.Modules.{SpaceValue}
use Rattle.backtrace.specs.Code.{CodeValue}
use Rattle.backtrace.specs.FramePointers.{frame_pointer_steps, frame_pointer_of, returned_by, popped_by, pointed_caller, is_called_code, if_called}

module _ (c : Context) (whole : length c.registers ≡ 16) (pointer outer back : ℕ) where
  -- the registers after both writes
  abbrev written : List ℕ
  written = set (set c.registers 7 (pointer + 16)) 6 outer

  abbrev caller : Context
  caller = returned_by c pointer outer back

  kept : (k : ℕ) → k ≢ 7 → k ≢ 6 → get_or written k 0 ≡ get_or c.registers k 0
  kept k above other = get_or-set_other (set c.registers 7 (pointer + 16)) 6 k outer 0 other ∙ get_or-set_other c.registers 7 k (pointer + 16) 0 above

  at_sp : get_or written 7 0 ≡ pointer + 16
  at_sp =
      let within : 7 < length c.registers = omega arith in
      get_or-set_other (set c.registers 7 (pointer + 16)) 6 7 outer 0 (λ e. cc) ∙ get_or-set_same c.registers 7 (pointer + 16) 0 within

  at_rbp : get_or written 6 0 ≡ outer
  at_rbp =
      let within : 6 < length (set c.registers 7 (pointer + 16)) = omega (arith, length-set {A = ℕ}) in
      get_or-set_same (set c.registers 7 (pointer + 16)) 6 outer 0 within

  -- they show the caller's state
  returned_shows : (t s : State) → pointer + 16 ≡ t.sp → outer ≡ t.rbp → back ≡ t.ra → ((r : CalleeSaved) → r ≢ RBP → value_of r s ≡ value_of r t) → Shows (columns_of c) s → Shows (columns_of caller) t
  returned_shows t s sp_is rbp_is ra_is same shows = record { ra = ap some ra_is; sp = ap some (at_sp ∙ sp_is); saved = saved }
    where
      some : ℕ → Option ℕ
      some n = Some n

      saved : (r : CalleeSaved) → columns_of caller (column_of r) ≡ Some (value_of r t)
      saved RBX = ap some (kept 3 (λ e. cc) (λ e. cc)) ∙ shows.saved RBX ∙ ap some (same RBX (λ e. cc))
      saved RBP = ap some (at_rbp ∙ rbp_is)
      saved R12 = ap some (kept 12 (λ e. cc) (λ e. cc)) ∙ shows.saved R12 ∙ ap some (same R12 (λ e. cc))
      saved R13 = ap some (kept 13 (λ e. cc) (λ e. cc)) ∙ shows.saved R13 ∙ ap some (same R13 (λ e. cc))
      saved R14 = ap some (kept 14 (λ e. cc) (λ e. cc)) ∙ shows.saved R14 ∙ ap some (same R14 (λ e. cc))
      saved R15 = ap some (kept 15 (λ e. cc) (λ e. cc)) ∙ shows.saved R15 ∙ ap some (same R15 (λ e. cc))

  -- and what no state has stays
  returned_keeps : KeepsOthers (columns_of c) (columns_of caller)
  returned_keeps k none =
      let not_sp : k ≢ 7 = (λ e. (let bad : is_followed 7 ≡ false = subst (λ (n : ℕ). is_followed n ≡ false) e none in cc)) in
      let not_rbp : k ≢ 6 = (λ e. (let bad : is_followed 6 ≡ false = subst (λ (n : ℕ). is_followed n ≡ false) e none in cc)) in
      let not_ra : k ≢ 16 = (λ e. (let bad : is_followed 16 ≡ false = subst (λ (n : ℕ). is_followed n ≡ false) e none in cc)) in
      let other : eqb k 16 ≡ false = grind (arith, nat_tests) in
      rw (kept k not_sp not_rbp, other) refl

-- as many registers are there as before
same_length : (image : List Span) (c d : Context) → pointed_caller image c ≡ Some d → length d.registers ≡ length c.registers
same_length image c d is = at_pointer (frame_pointer_of c) is
  where
    at_back : (pointer outer : ℕ) (o : Option ℕ) → option_map (returned_by c pointer outer) o ≡ Some d → length d.registers ≡ length c.registers
    at_back pointer outer None none = absurd cc
    at_back pointer outer (Some back) some =
        let same : d ≡ returned_by c pointer outer back = cc in
        rw same (omega (arith, length-set {A = ℕ}))

    at_outer : (pointer : ℕ) (o : Option ℕ) → option_and_then (λ outer. option_map (returned_by c pointer outer) (word_at image (pointer + 8))) o ≡ Some d → length d.registers ≡ length c.registers
    at_outer pointer None none = absurd cc
    at_outer pointer (Some outer) some = at_back pointer outer (word_at image (pointer + 8)) some

    at_pointer : (o : Option ℕ) → option_and_then (popped_by image c) o ≡ Some d → length d.registers ≡ length c.registers
    at_pointer None none = absurd cc
    at_pointer (Some pointer) some = at_outer pointer (word_at image pointer) some

-- The words of such a function lead to its caller.
module _ (image : List Span) (c : Context) (t s : State) (entered : IsEntered image false frame_pointer_steps t s) (state : IsState t) (words : t.sp % 8 ≡ 0) (shows : Shows (columns_of c) s) where
  abbrev pointer : ℕ
  pointer = get_or c.registers 6 0

  stands : (get_or c.registers 7 0 ≤ pointer) × (pointer + 16 ≡ t.sp)
  stands =
      let at : get_or c.registers 7 0 ≡ s.sp = (let e : Some (get_or c.registers 7 0) ≡ Some s.sp = shows.sp in cc) in
      let base : pointer ≡ s.rbp = (let e : Some pointer ≡ Some s.rbp = shows.saved RBP in cc) in
      let room : 8 ≤ t.sp = entered.room in
      let more : 8 ≤ t.sp - 8 = entered.leaves.0 in
      let low : s.sp ≤ t.sp - 8 - 8 = entered.stack.0 in
      let set : s.rbp ≡ t.sp - 8 - 8 + 0 = entered.stack.1 in
      (omega arith, omega arith)

  is_pointer : frame_pointer_of c ≡ Some pointer
  is_pointer =
      let low : get_or c.registers 7 0 ≤ pointer = stands.0 in
      let below : pointer + 16 ≡ t.sp = stands.1 in
      let high : t.sp < 2 ^ 64 = state.sp in
      let whole_words : pointer % 8 ≡ 0 = omega arith in
      let small : pointer < 2 ^ 64 - 16 = omega arith in
      let first : leb (get_or c.registers 7 0) pointer ≡ true = grind (arith, nat_tests) in
      let second : eqb (pointer % 8) 0 ≡ true = grind (arith, nat_tests) in
      let third : ltb pointer (2 ^ 64 - 16) ≡ true = grind (arith, nat_tests) in
      rw (first, second, third) refl

  caller_is : pointed_caller image c ≡ Some (returned_by c pointer t.rbp t.ra)
  caller_is =
      let below : pointer + 16 ≡ t.sp = stands.1 in
      let lower : t.sp - 8 - 8 ≡ pointer = omega arith in
      let upper : t.sp - 8 ≡ pointer + 8 = omega arith in
      let outer : word_at image pointer ≡ Some t.rbp = subst (λ (a : ℕ). word_at image a ≡ Some t.rbp) lower entered.leaves.1 in
      let back : word_at image (pointer + 8) ≡ Some t.ra = subst (λ (a : ℕ). word_at image a ≡ Some t.ra) upper (entered.returns refl) in
      rw (is_pointer, outer, back) refl

  unsaved : (r : CalleeSaved) → r ≢ RBP → value_of r s ≡ value_of r t
  unsaved RBX other = entered.keeps RBX refl
  unsaved RBP other = absurd (other refl)
  unsaved R12 other = entered.keeps R12 refl
  unsaved R13 other = entered.keeps R13 refl
  unsaved R14 other = entered.keeps R14 refl
  unsaved R15 other = entered.keeps R15 refl

  pub entered_caller : (space : SpaceValue) (code : List CodeValue) (r result : Option Context) → ((d : Context) → r ≡ Some d → length d.registers ≡ 16) → r ≡ pointed_caller image c → result ≡ option_and_then (if_called space code) r → IsTrue (is_called_code space code t.ra) →
      IsSomeAnd result (λ caller. Shows (columns_of caller) t × KeepsOthers (columns_of c) (columns_of caller))
  entered_caller space code r result sixteen found is called =
      let led : is_called_code space code t.ra ≡ true = called in
      let some : r ≡ Some (returned_by c pointer t.rbp t.ra) = found ∙ caller_is in
      let all : option_and_then (if_called space code) r ≡ Some (returned_by c pointer t.rbp t.ra) = rw (some, led) refl in
      let whole : length c.registers ≡ 16 = sym (same_length image c (returned_by c pointer t.rbp t.ra) caller_is) ∙ sixteen (returned_by c pointer t.rbp t.ra) some in
      let both : Shows (columns_of (returned_by c pointer t.rbp t.ra)) t × KeepsOthers (columns_of c) (columns_of (returned_by c pointer t.rbp t.ra)) =
      (returned_shows c whole pointer t.rbp t.ra t s stands.1 refl refl unsaved shows, returned_keeps c whole pointer t.rbp t.ra) in
      subst (λ (o : Option Context). IsSomeAnd o (λ caller. Shows (columns_of caller) t × KeepsOthers (columns_of c) (columns_of caller))) (sym (is ∙ all)) both
