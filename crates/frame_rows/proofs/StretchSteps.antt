-- Running from one location to the next: what each instruction does, and what it ends with.
use Rattle.std.proofs.Common.{◌≡◌, ◌⊎◌, ℕ, ◌+◌, ◌^◌, ◌<◌, ◌≤◌, Bool, true, false, cond, ◌&&◌, List, [], ◌∷◌, Option, Some, None, Ok, refl, sym, ap, ◌∙◌, subst, inl, inr, arith}
use Rattle.std.specs.Prelude.{nat_lt}
use Rattle.std.proofs.lemmas.Bool.{le-ltb, lt-ltb, le-leb, lt-leb, ltb-false}
use Rattle.unwind_definitions.specs.declared.error.Error.{Error as Fault}
use Rattle.unwind_definitions.specs.declared.error.Error.TheVariants.{AddressOverflow, LocationGoesBack}
use Rattle.unwind_definitions.specs.Instructions.{Instruction, Nop, Remember, Restore, Advance, SetLocation, Write, Reset, Cfa, CfaColumn, CfaOffset, CfaExpression, Arguments, Program}
use Rattle.unwind_definitions.specs.Row.{RowInstructions, fault_of, fault_where, location, or_else}
use Rattle.frame_rows.specs.Running.{push, stops, outcome, Represents}
use Rattle.frame_rows.specs.KeptRows.{locations_after, then_location}
use Rattle.frame_rows.specs.Stretches.{IsStill, IsLastStretch, IsStretch, IsFaultyStretch}
use Rattle.frame_rows.specs.declared.machine.Machine.{Machine}
use Rattle.frame_rows.proofs.Pushed.{location-push, location_one}
use Rattle.frame_rows.proofs.Steps.{step_advance, step_set}
use Rattle.frame_rows.proofs.Reading.{nothing, unread, one}

-- ---- an instruction that doesn't lead on

and_false : (b : Bool) → (b && false) ≡ false
and_false true = refl
and_false false = refl

pub still_stops : (here pc : ℕ) (i : Instruction) → IsStill here i → here ≤ pc → stops here (Some pc) i ≡ false
still_stops here pc (Advance n) (inl none) le = rw (le-ltb pc (here + n) (omega arith)) refl
still_stops here pc (Advance n) (inr over) le = rw (le-ltb (here + n) (2 ^ 64) over) (and_false (nat_lt pc (here + n)))
still_stops here pc (SetLocation a) back le = rw (le-ltb pc a (omega arith)) refl
still_stops here pc Nop still le = refl
still_stops here pc Remember still le = refl
still_stops here pc Restore still le = refl
still_stops here pc (Write q r) still le = refl
still_stops here pc (Reset q) still le = refl
still_stops here pc (Cfa q n) still le = refl
still_stops here pc (CfaColumn q) still le = refl
still_stops here pc (CfaOffset n) still le = refl
still_stops here pc (CfaExpression b) still le = refl
still_stops here pc (Arguments n) still le = refl

still_leads : (start : ℕ) (run : RowInstructions) (i : Instruction) → IsStill (location start run.own) i → fault_of start run i ≡ None → location (location start run.own) (i ∷ []) ≡ location start run.own
still_leads start run (Advance n) (inl none) fine = omega arith
still_leads start run (Advance n) (inr over) fine =
    let crowded : fault_of start run (Advance n) ≡ Some AddressOverflow = ap (λ b. fault_where b AddressOverflow) (le-leb (2 ^ 64) (location start run.own + n) over) in
    absurd cc
still_leads start run (SetLocation a) back fine = go (nat_lt a (location start run.own)) refl
  where
    go : (b : Bool) → nat_lt a (location start run.own) ≡ b → a ≡ location start run.own
    go true e =
        let bad : fault_of start run (SetLocation a) ≡ Some LocationGoesBack = ap (λ b. fault_where b LocationGoesBack) e in
        absurd cc
    go false e = let on = ltb-false a (location start run.own) e in omega arith
still_leads start run Nop still fine = refl
still_leads start run Remember still fine = refl
still_leads start run Restore still fine = refl
still_leads start run (Write q r) still fine = refl
still_leads start run (Reset q) still fine = refl
still_leads start run (Cfa q n) still fine = refl
still_leads start run (CfaColumn q) still fine = refl
still_leads start run (CfaOffset n) still fine = refl
still_leads start run (CfaExpression b) still fine = refl
still_leads start run (Arguments n) still fine = refl

pub location_pushed : (start : ℕ) (run : RowInstructions) (i : Instruction) → location start (push run i).own ≡ location (location start run.own) (i ∷ [])
location_pushed start run i = location-push start run.own i ∙ sym (location_one (location start run.own) i)

-- ---- an instruction that leads on

-- it raises the location, or sets it
leads_by : (here next : ℕ) (i : Instruction) → location here (i ∷ []) ≡ next → here < next → ((n : ℕ) × (i ≡ Advance n) × (here + n ≡ next)) ⊎ (i ≡ SetLocation next)
leads_by here next (Advance n) is ahead = inl (n, refl, is)
leads_by here next (SetLocation a) is ahead = inr (ap SetLocation is)
leads_by here next Nop is ahead = absurd (omega arith)
leads_by here next Remember is ahead = absurd (omega arith)
leads_by here next Restore is ahead = absurd (omega arith)
leads_by here next (Write q r) is ahead = absurd (omega arith)
leads_by here next (Reset q) is ahead = absurd (omega arith)
leads_by here next (Cfa q n) is ahead = absurd (omega arith)
leads_by here next (CfaColumn q) is ahead = absurd (omega arith)
leads_by here next (CfaOffset n) is ahead = absurd (omega arith)
leads_by here next (CfaExpression b) is ahead = absurd (omega arith)
leads_by here next (Arguments n) is ahead = absurd (omega arith)

module _ (here next : ℕ) (i : Instruction) (is : location here (i ∷ []) ≡ next) (ahead : here < next) where
  leads_stops : (pc : ℕ) → next < 2 ^ 64 → pc < next → stops here (Some pc) i ≡ true
  leads_stops pc fits below = elim (leads_by here next i is ahead) [
    | inl raised ↦ let same = raised.2 in ap (stops here (Some pc)) raised.1 ∙ rw (lt-ltb pc (here + raised.0) (omega arith), lt-ltb (here + raised.0) (2 ^ 64) (omega arith)) refl
    | inr set ↦ ap (stops here (Some pc)) set ∙ rw (lt-ltb pc next below, le-leb here next (omega arith)) refl
  ]

  leads_past : (pc : ℕ) → next ≤ pc → stops here (Some pc) i ≡ false
  leads_past pc past = elim (leads_by here next i is ahead) [
    | inl raised ↦ let same = raised.2 in ap (stops here (Some pc)) raised.1 ∙ rw (le-ltb pc (here + raised.0) (omega arith)) refl
    | inr set ↦ ap (stops here (Some pc)) set ∙ rw (le-ltb pc next past) refl
  ]

leads_fine : (start next : ℕ) (run : RowInstructions) (i : Instruction) → location (location start run.own) (i ∷ []) ≡ next → location start run.own < next → next < 2 ^ 64 → fault_of start run i ≡ None
leads_fine start next run i is ahead fits = elim (leads_by (location start run.own) next i is ahead) [
  | inl raised ↦ let same = raised.2 in ap (fault_of start run) raised.1 ∙ ap (λ b. fault_where b AddressOverflow) (lt-leb (2 ^ 64) (location start run.own + raised.0) (omega arith))
  | inr set ↦ ap (fault_of start run) set ∙ ap (λ b. fault_where b LocationGoesBack) (le-ltb next (location start run.own) (omega arith))
]

-- a machine whose location is raised or set has run it
pub led_on : (start next : ℕ) (m t : Machine) (run : RowInstructions) (i : Instruction) → Represents start m run → location (location start run.own) (i ∷ []) ≡ next → location start run.own < next →
    t.location ≡ next → t.state ≡ m.state → t.remembered ≡ m.remembered → t.initial ≡ m.initial → Represents start t (push run i)
led_on start next m t run i rep is ahead there state memory initial = elim (leads_by (location start run.own) next i is ahead) [
  | inl raised ↦ let same = raised.2 in let h = rep.here in subst (λ i. Represents start t (push run i)) (sym raised.1) (step_advance start m run rep raised.0 t (omega arith) state memory initial)
  | inr set ↦ subst (λ i. Represents start t (push run i)) (sym set) (step_set start m run rep next t there state memory initial)
]

-- ---- locations

not_further : (end here next : ℕ) (rest : List ℕ) → next ≡ here → then_location end here next rest ≡ rest
not_further end here next rest same = rw (le-ltb here next (omega arith)) refl

module _ (start end : ℕ) (run : RowInstructions) (i : Instruction) (is : List Instruction) where
  no_locations : (e : Fault) → fault_of start run i ≡ Some e → locations_after start end run (i ∷ is) ≡ []
  no_locations e bad = rw bad refl

  locations_on : fault_of start run i ≡ None → locations_after start end run (i ∷ is) ≡ then_location end (location start run.own) (location (location start run.own) (i ∷ [])) (locations_after start end (push run i) is)
  locations_on fine = rw fine refl

-- ---- a stretch underway

-- what is left after some instructions gives what all give, from here on
pub record IsUnderway (start : ℕ) (run : RowInstructions) (p : Program) (now : RowInstructions) (q : Program) : Type 0 where
  pub here : location start now.own ≡ location start run.own
  pub stays : (pc : ℕ) → location start run.own ≤ pc → outcome start (Some pc) run p ≡ outcome start (Some pc) now q
  pub same : (end : ℕ) → locations_after start end run p.instructions ≡ locations_after start end now q.instructions

pub begun : (start : ℕ) (run : RowInstructions) (p : Program) → IsUnderway start run p run p
begun start run p = record { here = refl; stays = λ pc le. refl; same = λ end. refl }

abbrev first_then : Instruction → Program → Program
first_then i r = record { instructions = i ∷ r.instructions; fault = r.fault }

abbrev ended_by : Option Fault → Program
ended_by fault = record { instructions = []; fault = fault }

module _ (start : ℕ) (run : RowInstructions) (p : Program) (now : RowInstructions) (q : Program) (u : IsUnderway start run p now q) where
  -- an instruction is read
  module _ (i : Instruction) (r : Program) (reads : q ≡ record { instructions = i ∷ r.instructions; fault = r.fault }) where
    goes : (pc : ℕ) (b : Bool) → location start run.own ≤ pc → stops (location start now.own) (Some pc) i ≡ b → outcome start (Some pc) run p ≡ cond b (Ok now) (or_else (fault_of start now i) (outcome start (Some pc) (push now i) r))
    goes pc b le is = u.stays pc le ∙ ap (outcome start (Some pc) now) reads ∙ one start (Some pc) now i r b is

    listed : (end : ℕ) → locations_after start end run p.instructions ≡ locations_after start end now (i ∷ r.instructions)
    listed end = u.same end ∙ ap (λ (q : Program). locations_after start end now q.instructions) reads

    pub further : IsStill (location start now.own) i → fault_of start now i ≡ None → IsUnderway start run p (push now i) r
    further still fine =
        let h = u.here in
        let same = still_leads start now i still fine in
        record {
          here = location_pushed start now i ∙ same ∙ u.here;
          stays = λ pc le. goes pc false le (still_stops (location start now.own) pc i still (omega arith)) ∙ ap (λ o. or_else o (outcome start (Some pc) (push now i) r)) fine;
          same = λ end. listed end ∙ locations_on start end now i r.instructions fine ∙ not_further end (location start now.own) _ _ same;
        }

    pub cannot : (e : Fault) → IsStill (location start now.own) i → fault_of start now i ≡ Some e → IsFaultyStretch start run p e
    cannot e still bad =
        let h = u.here in
        record {
          stays = λ pc le. goes pc false le (still_stops (location start now.own) pc i still (omega arith)) ∙ ap (λ o. or_else o (outcome start (Some pc) (push now i) r)) bad;
          no_more = λ end. listed end ∙ no_locations start end now i r.instructions e bad;
        }

  -- an instruction leads on
  pub leads_further : (i : Instruction) (next : ℕ) (r : Program) (new : Machine) → q ≡ record { instructions = i ∷ r.instructions; fault = r.fault } → Represents start new now → location (location start now.own) (i ∷ []) ≡ next → location start now.own < next → next < 2 ^ 64 → IsStretch start run p next new r
  leads_further i next r new reads represents leads ahead fits =
      let h = u.here in
      let fine = leads_fine start next now i leads ahead fits in
      record {
        now = now;
        by = i;
        represents = represents;
        leads = leads;
        stands = u.here;
        ahead = omega arith;
        fits = fits;
        stays = λ pc le lt. goes i r reads pc true le (leads_stops (location start now.own) next i leads ahead pc fits lt);
        goes_on = λ pc le. goes i r reads pc false (omega arith) (leads_past (location start now.own) next i leads ahead pc le) ∙ ap (λ o. or_else o (outcome start (Some pc) (push now i) r)) fine;
        more = λ end. listed i r reads end ∙ locations_on start end now i r.instructions fine
            ∙ ap (λ n. then_location end (location start now.own) n (locations_after start end (push now i) r.instructions)) leads
            ∙ ap (λ n. then_location end n next (locations_after start end (push now i) r.instructions)) u.here;
      }

  pub ends : (new : Machine) → q ≡ record { instructions = []; fault = None } → Represents start new now → IsLastStretch start run p new
  ends new reads represents = record {
    now = now;
    represents = represents;
    stands = u.here;
    stays = λ pc le. u.stays pc le ∙ ap (outcome start (Some pc) now) reads ∙ nothing start (Some pc) now;
    no_more = λ end. u.same end ∙ ap (λ (q : Program). locations_after start end now q.instructions) reads;
  }

  pub unreadable : (e : Fault) → q ≡ record { instructions = []; fault = Some e } → IsFaultyStretch start run p e
  unreadable e reads = record {
    stays = λ pc le. u.stays pc le ∙ ap (outcome start (Some pc) now) reads ∙ unread start (Some pc) now e;
    no_more = λ end. u.same end ∙ ap (λ (q : Program). locations_after start end now q.instructions) reads;
  }
