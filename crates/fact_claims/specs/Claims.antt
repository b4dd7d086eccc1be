-- What a JSON value says as claims of what is known of code.
use Rattle.std.specs.Prelude.{ℕ, suc, Bool, false, ◌||◌, List, [], ◌∷◌, Option, Some, None, codes, option_map, option_and_then, Result, Ok, Err}
use Rattle.std.specs.Str.{bytes_eq}
use Rattle.serde_json.specs.Data.{Data, Items, no_items, item}
use Rattle.serde_json.specs.Find.{get, as_array, as_str}
use Rattle.memory_image.specs.Results.{◌>>=◌}
use Rattle.stack_snapshot.specs.Fields.{as_word, word_at, flag_or_false}
use Rattle.fact_checks.specs.declared.facts.ClaimedFacts.{ClaimedFacts}
use Rattle.fact_checks.specs.declared.facts.KnownRegister.{KnownRegister}
use Rattle.fact_checks.specs.declared.facts.KnownRegisters.{KnownRegisters}
use Rattle.fact_claims.specs.declared.errors.ClaimsError.{ClaimsError}
use Rattle.fact_claims.specs.declared.errors.ClaimsError.TheVariants.{Claims, Claim}

-- a word, where there is one
abbrev pub optional_word : Option Data → Option (Option ℕ)
optional_word None = Some None
optional_word (Some d) = option_map Some (as_word d)

abbrev pub optional_word_at : List ℕ → Data → Option (Option ℕ)
optional_word_at key d = optional_word (get key d)

-- how far below the CFA a register is saved, where it is
abbrev pub slot_by : List ℕ → Option Data → Option (Option ℕ)
slot_by name None = Some None
slot_by name (Some d) = optional_word_at name d

abbrev pub slot_at : List ℕ → Data → Option (Option ℕ)
slot_at name d = slot_by name (get (codes "saved") d)

-- whether a value is a name
abbrev pub named_by : List ℕ → Option (List ℕ) → Bool
named_by name None = false
named_by name (Some text) = bytes_eq text name

abbrev pub is_named : List ℕ → Data → Bool
is_named name d = named_by name (as_str d)

-- whether one of the items is a name
abbrev pub keeps : List ℕ → Items → Bool
keeps name no_items = false
keeps name (item d ds) = is_named name d || keeps name ds

-- whether a register is kept
abbrev pub kept_by : List ℕ → Option Data → Option Bool
kept_by name None = Some false
kept_by name (Some d) = option_map (keeps name) (as_array d)

abbrev pub is_kept_at : List ℕ → Data → Option Bool
is_kept_at name d = kept_by name (get (codes "kept") d)

-- what is known of a register
abbrev pub known_with : Option ℕ → Bool → KnownRegister
known_with slot kept = record { slot = slot; is_kept = kept }

unfoldable pub register_at : List ℕ → Data → Option KnownRegister
register_at name d = option_and_then (λ slot. option_map (known_with slot) (is_kept_at name d)) (slot_at name d)

abbrev pub registers_with : KnownRegister → KnownRegister → KnownRegister → KnownRegister → KnownRegister → KnownRegister → KnownRegisters
registers_with rbx rbp r12 r13 r14 r15 = record { rbx = rbx; rbp = rbp; r12 = r12; r13 = r13; r14 = r14; r15 = r15 }

-- what is known of the callee-saved registers
unfoldable pub registers_in : Data → Option KnownRegisters
registers_in d =
    option_and_then (λ rbx. option_and_then (λ rbp. option_and_then (λ r12. option_and_then (λ r13. option_and_then (λ r14. option_map (registers_with rbx rbp r12 r13 r14) (register_at (codes "r15") d)) (register_at (codes "r14") d)) (register_at (codes "r13") d)) (register_at (codes "r12") d)) (register_at (codes "rbp") d))
    (register_at (codes "rbx") d)

-- whether the frame is the outermost one, false where that is missing
unfoldable pub outermost_in : Data → Option Bool
outermost_in d = flag_or_false (get (codes "outermost") d)

abbrev pub claim_with : ℕ → ℕ → Option ℕ → Option ℕ → KnownRegisters → Bool → ClaimedFacts
claim_with from to rsp rbp registers outermost = record { from = from; to = to; rsp = rsp; rbp = rbp; registers = registers; is_outermost = outermost }

-- the claim that an object says
unfoldable pub claim_in : Data → Option ClaimedFacts
claim_in d =
    option_and_then (λ from. option_and_then (λ to. option_and_then (λ rsp. option_and_then (λ rbp. option_and_then (λ registers. option_map (claim_with from to rsp rbp registers) (outermost_in d)) (registers_in d)) (optional_word_at (codes "rbp") d)) (optional_word_at (codes "rsp") d)) (word_at (codes "to") d))
    (word_at (codes "from") d)

-- the claim of the item at a place
abbrev pub needs_claim : ℕ → Option ClaimedFacts → Result ClaimedFacts ClaimsError
needs_claim i None = Err (Claim i)
needs_claim i (Some claim) = Ok claim

-- the claims of items whose places are counted from a number on, or the place of the first item that says none
abbrev pub claims_from : ℕ → Items → Result (List ClaimedFacts) ClaimsError
claims_from i no_items = Ok []
claims_from i (item d ds) = do
  claim ← needs_claim i (claim_in d)
  claims ← claims_from (suc i) ds
  Ok (claim ∷ claims)

abbrev pub claim_list : Option Items → Result (List ClaimedFacts) ClaimsError
claim_list None = Err Claims
claim_list (Some items) = claims_from 0 items

-- the claims that are listed, or why there are none
unfoldable pub claims_in : Data → Result (List ClaimedFacts) ClaimsError
claims_in d = claim_list (option_and_then as_array (get (codes "claims") d))
