-- What the personality of Rust answers for a frame is what the passes ask of it.
use Rattle.std.proofs.Common.{inl, inr, ◌≡◌, ◌≢◌, ℕ, Bool, true, false, cond, eqb, List, set, Option, Some, None, Result, Ok, Err, refl, sym, ap, subst, ◌∙◌, arith}
use Rattle.std.specs.Prelude.{pos, ◌↔◌}
use Rattle.std.proofs.lemmas.Bool.Decides.{nat_tests}
use Rattle.memory_image.specs.Image.{Span}
use Rattle.memory_image.specs.Results.{result_map}
use Rattle.unwind_definitions.specs.Caller.{Columns, StepFault}
use Rattle.unwind_definitions.specs.Function.{Action, NoAction, Cleanup, Catch, Filter, Terminate}
use Rattle.unwind_definitions.specs.LanguageSearch.{LanguagePlace, address_of_call, language_action}
use Rattle.unwind_arch.specs.declared.x86_64.Context.{Context}
use Rattle.unwind_arch.specs.ContextViews.{columns_of}
use Rattle.unwinding_frames.specs.Columns.{with_value}
use Rattle.unwinding_frames.specs.FrameValue.{FrameValue}
use Rattle.unwinding_frames.specs.declared.abi.UnwindReasonCode.{UnwindReasonCode}
use Rattle.unwinding_frames.specs.declared.abi.TheConstants.UnwindReasonCode.{CONTINUE_UNWIND, HANDLER_FOUND}
use Rattle.unwinding_frames.specs.Personalities.{Asked, Answer, columns_at_pad, search_answer, answered_by, action_seen, rust_answers}
use Rattle.stack_steps.specs.declared.error.DeliverError.{DeliverError}
use Rattle.stack_walks.specs.declared.unwind.Phase.TheVariants as phase
use Rattle.stack_steps.specs.Asking.{or_terminate, action_if_named}
use Rattle.stack_steps.specs.Elf.{table_if_named}
use Rattle.stack_steps.specs.Languages.{asked_by_rust, is_taken}
use Rattle.stack_walks.specs.FrameVisits.{enters, stops}
use Rattle.delivery_laws.specs.Personality.{landing_columns, InSearch, InCleanup, IsAsked, AnswersCleanup, answer_for, code_of}
use Rattle.stack_steps.proofs.ContextLemmas.{IsWhole, Holds, with_column-holds}

is_same : (m n : ℕ) → eqb m n ≡ true → m ≡ n
is_same m n same = grind (arith, nat_tests)

is_other : (m n : ℕ) → eqb m n ≡ false → m ≢ n
is_other m n other = grind (arith, nat_tests)

-- ---- the registers of a landing pad

holds_columns : (c d : Context) (k v : ℕ) → Holds c d k v → with_value (columns_of c) k v ≡ columns_of d
holds_columns c d k v holds = λ i j. each j i
  where
    by_test : (j : ℕ) (b : Bool) → eqb j k ≡ b → cond b (Some v) (columns_of c j) ≡ columns_of d j
    by_test j true same = let here : j ≡ k = is_same j k same in sym holds.here ∙ ap (columns_of d) (sym here)
    by_test j false other = sym (holds.others j (is_other j k other))

    each : (j : ℕ) → with_value (columns_of c) k v j ≡ columns_of d j
    each j = by_test j (eqb j k) refl

pub landed_columns : (c : Context) (exception pad : ℕ) → IsWhole c → columns_at_pad landing_columns exception pad (columns_of c) ≡ columns_of (enters c exception 0 pad)
landed_columns c exception pad whole =
    let c1 : Context = record c { registers = set c.registers 0 exception } in
    let h1 : Holds c c1 0 exception = (with_column-holds c 0 exception whole).1 in
    let c2 : Context = record c1 { registers = set c1.registers 1 0 } in
    let h2 : Holds c1 c2 1 0 = (with_column-holds c1 1 0 h1.whole).1 in
    let h3 : Holds c2 (enters c exception 0 pad) 16 pad = (with_column-holds c2 16 pad h2.whole).1 in
    ap (λ (columns : Columns). with_value (with_value columns 1 0) 16 pad) (holds_columns c c1 0 exception h1)
    ∙ ap (λ (columns : Columns). with_value columns 16 pad) (holds_columns c1 c2 1 0 h2)
    ∙ holds_columns c2 (enters c exception 0 pad) 16 pad h3

-- ---- answers

-- by a frame, or else by the place of a language table
module _ (image : List Span) (c : Context) (interrupted : Bool) (frame : Option FrameValue) (place : Option LanguagePlace) (action : Action) (asked : Asked)
    (told : or_terminate (action_seen image frame place (address_of_call c.ra interrupted)) ≡ action) where
  abbrev table : Result Action StepFault
  table = action_seen image frame place (address_of_call c.ra interrupted)

  abbrev answer_seen : Answer
  answer_seen = rust_answers landing_columns asked (record { image = image; frame = frame; place = place; columns = columns_of c; signal = interrupted })

  pub seen_search : InSearch asked → answer_seen ≡ (search_answer action, columns_of c)
  seen_search in_search = rw in_search.version (by_table table told)
    where
      by_table : (r : Result Action StepFault) → or_terminate r ≡ action → answered_by landing_columns asked (columns_of c) r ≡ (search_answer action, columns_of c)
      by_table (Ok x) e = rw (in_search.search, e) refl
      by_table (Err fault) e = rw (← e) refl

  pub seen_cleanup : InCleanup asked → IsWhole c → AnswersCleanup action asked.exception c answer_seen
  seen_cleanup in_cleanup whole = rw in_cleanup.version (by_table table told)
    where
      by_action : (x : Action) → AnswersCleanup x asked.exception c (answered_by landing_columns asked (columns_of c) (Ok x))
      by_action NoAction = rw in_cleanup.cleanup refl
      by_action (Cleanup pad) = rw (in_cleanup.cleanup, landed_columns c asked.exception pad whole) refl
      by_action (Catch pad) = rw (in_cleanup.cleanup, landed_columns c asked.exception pad whole) refl
      by_action (Filter pad) = rw (in_cleanup.cleanup, in_cleanup.unforced, landed_columns c asked.exception pad whole) refl
      by_action Terminate = rw in_cleanup.cleanup (inl refl)

      by_table : (r : Result Action StepFault) → or_terminate r ≡ action → AnswersCleanup action asked.exception c (answered_by landing_columns asked (columns_of c) r)
      by_table (Ok x) e = subst (λ (y : Action). AnswersCleanup y asked.exception c (answered_by landing_columns asked (columns_of c) (Ok x))) e (by_action x)
      by_table (Err fault) e = subst (λ (y : Action). AnswersCleanup y asked.exception c (answered_by landing_columns asked (columns_of c) (Err fault))) e (inr refl)

module _ (image : List Span) (c : Context) (interrupted : Bool) (frame : FrameValue) (action : Action) (asked : Asked) (is : IsAsked image c interrupted frame action) where
  told : or_terminate (language_action image frame.found.bases frame.found.fde (address_of_call c.ra interrupted)) ≡ action
  told = inner (ap (λ (r : Result (Option ℕ) StepFault). result_map (action_if_named image (address_of_call c.ra interrupted)) (table_if_named image frame.found r)) (sym is.named) ∙ is.asks)
    where
      inner : ◌≡◌ {A = Result Action DeliverError} (Ok (or_terminate (language_action image frame.found.bases frame.found.fde (address_of_call c.ra interrupted)))) (Ok action) → or_terminate (language_action image frame.found.bases frame.found.fde (address_of_call c.ra interrupted)) ≡ action
      inner e = cc

  pub answers_search : InSearch asked → answer_for asked image frame c interrupted ≡ (search_answer action, columns_of c)
  answers_search in_search = seen_search image c interrupted (Some frame) None action asked told in_search

  pub answers_cleanup : InCleanup asked → IsWhole c → AnswersCleanup action asked.exception c (answer_for asked image frame c interrupted)
  answers_cleanup in_cleanup whole = seen_cleanup image c interrupted (Some frame) None action asked told in_cleanup whole

  -- ---- where a pass stops

  other_code : (a b : ℕ) → a ≢ b → {x y : UnwindReasonCode} → x.0 ≡ pos a → y.0 ≡ pos b → x ≢ y
  other_code a b apart left right same = let e : pos a ≡ pos b = sym left ∙ ap (λ (code : UnwindReasonCode). code.0) same ∙ right in apart cc

  search_code : (x : Action) → (stops phase.Search (asked_by_rust x) ≡ true) ↔ (search_answer x ≢ CONTINUE_UNWIND)
  search_code NoAction = (λ e. cc, λ other. absurd (other refl))
  search_code (Cleanup pad) = (λ e. cc, λ other. absurd (other refl))
  search_code (Catch pad) = (λ e. other_code 6 8 (λ h. omega arith) refl refl, λ other. refl)
  search_code (Filter pad) = (λ e. other_code 6 8 (λ h. omega arith) refl refl, λ other. refl)
  search_code Terminate = (λ e. other_code 3 8 (λ h. omega arith) refl refl, λ other. refl)

  takes_code : (x : Action) → (is_taken (asked_by_rust x) ≡ true) ↔ (search_answer x ≡ HANDLER_FOUND)
  takes_code NoAction = (λ e. let bad : false ≡ true = e in absurd cc, λ found. absurd (other_code 8 6 (λ h. omega arith) refl refl found))
  takes_code (Cleanup pad) = (λ e. let bad : false ≡ true = e in absurd cc, λ found. absurd (other_code 8 6 (λ h. omega arith) refl refl found))
  takes_code (Catch pad) = (λ e. refl, λ found. refl)
  takes_code (Filter pad) = (λ e. refl, λ found. refl)
  takes_code Terminate = (λ e. let bad : false ≡ true = e in absurd cc, λ found. absurd (other_code 3 6 (λ h. omega arith) refl refl found))

  pub stops_search : InSearch asked → (stops phase.Search (asked_by_rust action) ≡ true) ↔ (code_of (answer_for asked image frame c interrupted) ≢ CONTINUE_UNWIND)
  stops_search in_search = rw (answers_search in_search) (search_code action)

  pub takes_search : InSearch asked → (is_taken (asked_by_rust action) ≡ true) ↔ (code_of (answer_for asked image frame c interrupted) ≡ HANDLER_FOUND)
  takes_search in_search = rw (answers_search in_search) (takes_code action)

  cleanup_code : (x : Action) (answer : Answer) → AnswersCleanup x asked.exception c answer → (stops phase.Cleanup (asked_by_rust x) ≡ true) ↔ (code_of answer ≢ CONTINUE_UNWIND)
  cleanup_code NoAction answer is = (λ e. let bad : false ≡ true = e in absurd cc, λ other. absurd (other (ap code_of is)))
  cleanup_code (Cleanup pad) answer is = (λ e same. other_code 7 8 (λ h. omega arith) refl refl (sym (ap code_of is) ∙ same), λ other. refl)
  cleanup_code (Catch pad) answer is = (λ e same. other_code 7 8 (λ h. omega arith) refl refl (sym (ap code_of is) ∙ same), λ other. refl)
  cleanup_code (Filter pad) answer is = (λ e same. other_code 7 8 (λ h. omega arith) refl refl (sym (ap code_of is) ∙ same), λ other. refl)
  cleanup_code Terminate answer (inl is) = (λ e same. other_code 2 8 (λ h. omega arith) refl refl (sym (ap code_of is) ∙ same), λ other. refl)
  cleanup_code Terminate answer (inr is) = (λ e same. other_code 3 8 (λ h. omega arith) refl refl (sym (ap code_of is) ∙ same), λ other. refl)

  pub stops_cleanup : InCleanup asked → IsWhole c → (stops phase.Cleanup (asked_by_rust action) ≡ true) ↔ (code_of (answer_for asked image frame c interrupted) ≢ CONTINUE_UNWIND)
  stops_cleanup in_cleanup whole = cleanup_code action (answer_for asked image frame c interrupted) (answers_cleanup in_cleanup whole)
