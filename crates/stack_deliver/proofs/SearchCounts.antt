-- How many contexts a delivery meets, pass by pass.
use Rattle.std.proofs.Common.{◌≡◌, ℕ, zero, suc, ◌+◌, ◌*◌, ◌<◌, ◌≤◌, Bool, true, false, List, Option, Some, None, Result, Ok, Err, refl, sym, ap, ◌∙◌, arith}
use Rattle.std.proofs.Math.Nat.{add-mul}
use Rattle.unwind_arch.specs.declared.x86_64.Context.{Context}
use Rattle.stack_steps.specs.declared.error.DeliverError.{DeliverError}
use Rattle.stack_steps.specs.Languages.{Languages, is_taken}
use Rattle.stack_steps.specs.Modules.{SpaceValue}
use Rattle.stack_deliver.specs.Resumes.{return_of}
use Rattle.stack_walks.specs.FrameVisits.{Line, Stop, cleaning, mark_at, pass_of, searching}
use Rattle.stack_deliver.specs.Passes.{PassEnd, Finishes, Cleanup, cleanup_of, resume_at}
use Rattle.stack_steps.specs.Ticking.{RisesWithin}
use Rattle.stack_walks.specs.ContextsMet.{contexts_met}
use Rattle.stack_deliver.specs.Searches.{met_after, met_after_resume, met_in_passes, met_toward, met_after_stop, met_after_search, met_through}
use Rattle.stack_steps.proofs.Counted.{rises_up_to, rises_then}
use Rattle.stack_walks.proofs.VisitCounts.{few_met}

-- ---- the passes
module _ (languages : Languages) (space : SpaceValue) (exception kept : ℕ) (resumes : List (ℕ × ℕ)) (limit : ℕ) where
  abbrev met : ℕ → Context → ℕ
  met = met_in_passes languages space exception kept resumes limit

  abbrev one_pass : Context → ℕ
  one_pass c = contexts_met (Some (cleaning languages)) space limit c false

  -- those of the first pass among them
  first_pass : (places : ℕ) (c : Context) → one_pass c ≤ met places c
  first_pass zero c = omega arith
  first_pass (suc n) c = omega arith

  -- the last pass
  pub last_met : (places before whole start middle new : ℕ) (c : Context) → before + met places c ≡ whole → RisesWithin space before start middle → RisesWithin space (one_pass c) middle new → RisesWithin space whole start new
  last_met places before whole start middle new c is rises pass =
      let few = first_pass places c in
      rises_up_to space (before + one_pass c) whole start new (omega arith) (rises_then space before (one_pass c) start middle new rises pass)

  -- one of several
  pub next_met : (places n pad before whole : ℕ) (c entered d : Context) (r : Result Context DeliverError) → cleanup_of languages space exception kept limit c ≡ Ok (Cleanup pad entered) → places ≡ suc n →
      (0 < places → r ≡ resume_at pad entered (return_of resumes pad)) → r ≡ Ok d → before + met places c ≡ whole → (before + one_pass c) + met n d ≡ whole
  next_met places n pad before whole c entered d r goes turns resumed fine is =
      let at : resume_at pad entered (return_of resumes pad) ≡ Ok d = sym (resumed (omega arith)) ∙ fine in
      let all : met places c ≡ one_pass c + met n d = rw (turns, goes, at) refl in
      omega arith

  few_passes : (places : ℕ) (c : Context) → met places c ≤ (places + 1) * limit
  few_passes zero c = let few = few_met (Some (cleaning languages)) space limit c false in omega arith
  few_passes (suc n) c =
      let few = few_met (Some (cleaning languages)) space limit c false in
      let one_more : suc n + 1 ≡ (n + 1) + 1 = omega arith in
      let sum : (suc n + 1) * limit ≡ (n + 1) * limit + 1 * limit = ap (λ (k : ℕ). k * limit) one_more ∙ add-mul (n + 1) 1 limit in
      let later = after (cleanup_of languages space exception kept limit c) (few_passes n) in
      omega arith
    where
      resumed : (r : Result Context DeliverError) → ((d : Context) → met n d ≤ (n + 1) * limit) → met_after_resume r (met n) ≤ (n + 1) * limit
      resumed (Ok d) few = few d
      resumed (Err e) few = omega arith

      after : (r : Result PassEnd DeliverError) → ((d : Context) → met n d ≤ (n + 1) * limit) → met_after r (λ pad entered. met_after_resume (resume_at pad entered (return_of resumes pad)) (met n)) ≤ (n + 1) * limit
      after (Ok (Finishes ending)) few = omega arith
      after (Ok (Cleanup pad entered)) few = resumed (resume_at pad entered (return_of resumes pad)) few
      after (Err e) few = omega arith

-- ---- a delivery

module _ (languages : Languages) (space : SpaceValue) (c : Context) (exception : ℕ) (resumes : List (ℕ × ℕ)) (limit : ℕ) where
  abbrev searched : ℕ
  searched = contexts_met (Some (searching languages)) space limit c false

  abbrev passed : ℕ → ℕ
  passed kept = met_in_passes languages space exception kept resumes limit limit c

  abbrev all : ℕ
  all = met_through languages space c exception resumes limit

  search_among : searched ≤ all
  unfolding met_through
  search_among = omega arith

  -- the search alone
  pub search_met : (start new : ℕ) → RisesWithin space searched start new → RisesWithin space all start new
  search_met start new rises = rises_up_to space searched all start new search_among rises

  passes_among : (line : Line) (stop : Stop) → pass_of (searching languages) space limit c false ≡ Ok line → line.stop ≡ Some stop → is_taken stop.action ≡ true → searched + passed (mark_at stop.context stop.interrupted) ≤ all
  unfolding met_through
  passes_among line stop at stops named = rw (at, stops, named) (omega arith)

  -- the search, and the passes after it
  pub passes_met : (line : Line) (stop : Stop) (start middle new : ℕ) → pass_of (searching languages) space limit c false ≡ Ok line → line.stop ≡ Some stop → is_taken stop.action ≡ true →
      RisesWithin space searched start middle → RisesWithin space (passed (mark_at stop.context stop.interrupted)) middle new → RisesWithin space all start new
  passes_met line stop start middle new at stops named search passes =
      rises_up_to space (searched + passed (mark_at stop.context stop.interrupted)) all start new (passes_among line stop at stops named)
      (rises_then space searched (passed (mark_at stop.context stop.interrupted)) start middle new search passes)

  toward : (b : Bool) (n : ℕ) → n ≤ (limit + 1) * limit → met_toward b n ≤ (limit + 1) * limit
  toward false n few = omega arith
  toward true n few = few

  with_stop : (o : Option Stop) → met_after_stop o passed ≤ (limit + 1) * limit
  with_stop None = omega arith
  with_stop (Some stop) = toward (is_taken stop.action) (passed (mark_at stop.context stop.interrupted)) (few_passes languages space exception (mark_at stop.context stop.interrupted) resumes limit limit c)

  after : (r : Result Line DeliverError) → met_after_search r passed ≤ (limit + 1) * limit
  after (Ok line) = with_stop line.stop
  after (Err e) = omega arith

  -- no more than by the search and one pass more than the limit, each of as many contexts as the limit allows
  pub few_in_delivery : all ≤ (limit + 2) * limit
  unfolding met_through
  few_in_delivery =
      let few = few_met (Some (searching languages)) space limit c false in
      let two : (limit + 2) * limit ≡ limit * limit + 2 * limit = add-mul limit 2 limit in
      let one : (limit + 1) * limit ≡ limit * limit + 1 * limit = add-mul limit 1 limit in
      let later = after (pass_of (searching languages) space limit c false) in
      omega arith
