-- Sequences of instructions: how they are read one by one, and what the grammar says of them.
use Rattle.std.proofs.Common.{◌≡◌, ℕ, zero, suc, ◌+◌, ◌-◌, ◌<◌, ◌≤◌, Bool, true, false, List, [], ◌∷◌, ◌++◌, length, Option, Some, None, Ok, Err, refl, sym, ap, subst, ◌∙◌, arith, append_assoc, append-nil, length-append, ◌&&◌}
use Rattle.std.specs.Prelude.{◌==◌, is_ok}
use Rattle.pe_unwind_info.specs.declared.x86_64.registers.Register.{Register}
use Rattle.pe_unwind_info.specs.declared.x86_64.epilog.FunctionEpilogInstruction.{FunctionEpilogInstruction}
use Rattle.pe_unwind_info.specs.declared.x86_64.epilog.InstructionParseError.{InstructionParseError}
use Rattle.pe_unwind_info.specs.declared.x86_64.epilog.InstructionParseError.TheVariants.{NotEnoughData, InvalidInstruction, TooManyInstructions}
use Rattle.pe_unwind_info.specs.Epilog.{Parsed, Sequence, and_first, then_full, then_more, parsed_instruction, sequence_from, sequence_of}
use Rattle.pe_unwind_info.specs.Frame.{epilog_or_none}
use Rattle.pe_unwind_info.specs.EpilogGrammar.{BeginsWith, BeginsWithTerminator, IsCut, IsRun, IsSequence}
use Rattle.pe_unwind_info.proofs.EpilogReads.{IsReadRightly, is_read_rightly}
use Rattle.pe_unwind_info.proofs.EpilogSpelled.{differ, begins_read, terminator_read, cut_read}

-- ---- one by one
-- the sequence after those instructions, with them before it
pub and_all : List FunctionEpilogInstruction → Sequence → Sequence
and_all items (Ok later) = Ok (items ++ later)
and_all items (Err e) = Err e

pub continued : Option Register → List FunctionEpilogInstruction → List ℕ → Sequence
continued frame items bytes = and_all items (sequence_from frame (12 - length items) (length items == 0) bytes)

all_of_one : (i : FunctionEpilogInstruction) (s : Sequence) → and_all (i ∷ []) s ≡ and_first i s
unfolding and_all
all_of_one i (Ok later) = refl
all_of_one i (Err e) = refl

-- those after a first one
pub continued_later : (frame : Option Register) (first : FunctionEpilogInstruction) (bytes : List ℕ) → continued frame (first ∷ []) bytes ≡ and_first first (sequence_from frame 11 false bytes)
unfolding continued
continued_later frame first bytes = all_of_one first (sequence_from frame 11 false bytes)

-- a sequence by its first instruction
pub first_end : (frame : Option Register) (bytes : List ℕ) → parsed_instruction frame true bytes ≡ Ok None → sequence_of frame bytes ≡ Ok []
unfolding sequence_from
first_end frame bytes e = rw e refl

pub first_err : (frame : Option Register) (bytes : List ℕ) (x : InstructionParseError) → parsed_instruction frame true bytes ≡ Err x → sequence_of frame bytes ≡ Err x
unfolding sequence_from
first_err frame bytes x e = rw e refl

pub first_more : (frame : Option Register) (bytes : List ℕ) (i : FunctionEpilogInstruction) (rest : List ℕ) → parsed_instruction frame true bytes ≡ Ok (Some (i, rest)) → sequence_of frame bytes ≡ and_first i (sequence_from frame 11 false rest)
unfolding sequence_from
first_more frame bytes i rest e = rw e refl

end_from : (frame : Option Register) (items : List FunctionEpilogInstruction) (n : ℕ) (allowed : Bool) (bytes : List ℕ) → parsed_instruction frame allowed bytes ≡ Ok None → and_all items (sequence_from frame n allowed bytes) ≡ Ok items
unfolding and_all sequence_from
end_from frame items zero allowed bytes e = rw e (ap Ok (append-nil items))
end_from frame items (suc n) allowed bytes e = rw e (ap Ok (append-nil items))

err_from : (frame : Option Register) (items : List FunctionEpilogInstruction) (n : ℕ) (allowed : Bool) (bytes : List ℕ) (x : InstructionParseError) → parsed_instruction frame allowed bytes ≡ Err x → and_all items (sequence_from frame n allowed bytes) ≡ Err x
unfolding and_all sequence_from
err_from frame items zero allowed bytes x e = rw e refl
err_from frame items (suc n) allowed bytes x e = rw e refl

full_from : (frame : Option Register) (items : List FunctionEpilogInstruction) (n : ℕ) (allowed : Bool) (bytes : List ℕ) (p : FunctionEpilogInstruction × List ℕ) → n ≡ 0 → parsed_instruction frame allowed bytes ≡ Ok (Some p) → and_all items (sequence_from frame n allowed bytes) ≡ Err TooManyInstructions
unfolding and_all sequence_from
full_from frame items zero allowed bytes p none e = rw e refl
full_from frame items (suc n) allowed bytes p none e = absurd (omega arith)

and_all_first : (items : List FunctionEpilogInstruction) (i : FunctionEpilogInstruction) (s : Sequence) → and_all items (and_first i s) ≡ and_all (items ++ i ∷ []) s
unfolding and_all
and_all_first items i (Ok later) = ap Ok (sym (append_assoc items (i ∷ []) later))
and_all_first items i (Err e) = refl

more_from : (frame : Option Register) (items : List FunctionEpilogInstruction) (n m : ℕ) (allowed : Bool) (bytes : List ℕ) (i : FunctionEpilogInstruction) (rest : List ℕ) → n ≡ suc m → parsed_instruction frame allowed bytes ≡ Ok (Some (i, rest)) →
    and_all items (sequence_from frame n allowed bytes) ≡ and_all (items ++ i ∷ []) (sequence_from frame m false rest)
unfolding and_all sequence_from
more_from frame items zero m allowed bytes i rest one e = absurd (omega arith)
more_from frame items (suc n) m allowed bytes i rest one e =
    let same : n ≡ m = omega arith in rw (e, same) (and_all_first items i (sequence_from frame m false rest))

pub continued_end : (frame : Option Register) (items : List FunctionEpilogInstruction) (allowed : Bool) (bytes : List ℕ) → allowed ≡ (length items == 0) → parsed_instruction frame allowed bytes ≡ Ok None → continued frame items bytes ≡ Ok items
unfolding continued
continued_end frame items allowed bytes a e = end_from frame items (12 - length items) (length items == 0) bytes (subst (λ (b : Bool). parsed_instruction frame b bytes ≡ Ok None) a e)

pub continued_err : (frame : Option Register) (items : List FunctionEpilogInstruction) (allowed : Bool) (bytes : List ℕ) (x : InstructionParseError) → allowed ≡ (length items == 0) → parsed_instruction frame allowed bytes ≡ Err x → continued frame items bytes ≡ Err x
unfolding continued
continued_err frame items allowed bytes x a e = err_from frame items (12 - length items) (length items == 0) bytes x (subst (λ (b : Bool). parsed_instruction frame b bytes ≡ Err x) a e)

pub continued_full : (frame : Option Register) (items : List FunctionEpilogInstruction) (allowed : Bool) (bytes : List ℕ) (i : FunctionEpilogInstruction) (rest : List ℕ) → length items ≡ 12 → allowed ≡ (length items == 0) → parsed_instruction frame allowed bytes ≡ Ok (Some (i, rest)) → continued frame items bytes ≡ Err TooManyInstructions
unfolding continued
continued_full frame items allowed bytes i rest full a e =
    full_from frame items (12 - length items) (length items == 0) bytes (i, rest) (omega arith) (subst (λ (b : Bool). parsed_instruction frame b bytes ≡ Ok (Some (i, rest))) a e)

pub continued_more : (frame : Option Register) (items : List FunctionEpilogInstruction) (allowed : Bool) (bytes : List ℕ) (i : FunctionEpilogInstruction) (rest : List ℕ) → length items < 12 → allowed ≡ (length items == 0) → parsed_instruction frame allowed bytes ≡ Ok (Some (i, rest)) →
    continued frame items bytes ≡ continued frame (items ++ i ∷ []) rest
unfolding continued
continued_more frame items allowed bytes i rest room a e =
    let longer : length (items ++ i ∷ []) ≡ length items + 1 = length-append items (i ∷ []) in
    let fewer : 12 - length items ≡ suc (12 - length (items ++ i ∷ [])) = omega arith in
    let later : (length (items ++ i ∷ []) == 0) ≡ false = differ (length (items ++ i ∷ [])) 0 (λ q. omega arith) in
    more_from frame items (12 - length items) (12 - length (items ++ i ∷ [])) (length items == 0) bytes i rest fewer (subst (λ (b : Bool). parsed_instruction frame b bytes ≡ Ok (Some (i, rest))) a e)
    ∙ ap (λ (b : Bool). and_all (items ++ i ∷ []) (sequence_from frame (12 - length (items ++ i ∷ [])) b rest)) (sym later)

-- ---- what the grammar says
IsRightSequence : Option Register → ℕ → Bool → List ℕ → Sequence → Type 0
IsRightSequence frame n allowed bytes (Ok is) = (rest : List ℕ) × (length is ≤ n) × IsRun frame allowed bytes is rest × BeginsWithTerminator rest
IsRightSequence frame n allowed bytes (Err TooManyInstructions) = (is : List FunctionEpilogInstruction) × (rest : List ℕ) × (length is ≡ suc n) × IsRun frame allowed bytes is rest
IsRightSequence frame n allowed bytes (Err NotEnoughData) = (is : List FunctionEpilogInstruction) × (rest : List ℕ) × (length is ≤ n) × IsRun frame allowed bytes is rest × IsCut frame (allowed && (length is == 0)) rest
IsRightSequence frame n allowed bytes (Err InvalidInstruction) = Unit {0}

and_true : (a : Bool) → (a && true) ≡ a
and_true true = refl
and_true false = refl

and_false : (a : Bool) → (a && false) ≡ false
and_false true = refl
and_false false = refl

not_first : (allowed : Bool) (i : FunctionEpilogInstruction) (is : List FunctionEpilogInstruction) → (allowed && (length (i ∷ is) == 0)) ≡ false
not_first allowed i is = let some : (length (i ∷ is) == 0) ≡ false = differ (length (i ∷ is)) 0 (λ q. omega arith) in rw some (and_false allowed)

full_right : (frame : Option Register) (allowed : Bool) (bytes : List ℕ) (p : Parsed) → IsReadRightly frame allowed bytes p → IsRightSequence frame 0 allowed bytes (then_full p)
unfolding IsRightSequence
full_right frame allowed bytes (Ok (Some (i, rest))) r = (i ∷ [], rest, refl, (rest, r, refl))
full_right frame allowed bytes (Ok None) r = (bytes, omega arith, refl, r)
full_right frame allowed bytes (Err NotEnoughData) r = ([], bytes, omega arith, refl, subst (λ (b : Bool). IsCut frame b bytes) (sym (and_true allowed)) r)
full_right frame allowed bytes (Err InvalidInstruction) r = tt
full_right frame allowed bytes (Err TooManyInstructions) r = absurd r

first_right : (frame : Option Register) (n : ℕ) (allowed : Bool) (bytes : List ℕ) (i : FunctionEpilogInstruction) (after : List ℕ) (s : Sequence) → BeginsWith frame allowed bytes i after → IsRightSequence frame n false after s → IsRightSequence frame (suc n) allowed bytes (and_first i s)
unfolding IsRightSequence
first_right frame n allowed bytes i after (Ok is) b r = (r.0, omega (arith, r.1), (after, b, r.2), r.3)
first_right frame n allowed bytes i after (Err TooManyInstructions) b r = (i ∷ r.0, r.1, omega (arith, r.2), (after, b, r.3))
first_right frame n allowed bytes i after (Err NotEnoughData) b r = (i ∷ r.0, r.1, omega (arith, r.2), (after, b, r.3), subst (λ (f : Bool). IsCut frame f r.1) (sym (not_first allowed i r.0)) r.4)
first_right frame n allowed bytes i after (Err InvalidInstruction) b r = tt

more_right : (frame : Option Register) (n : ℕ) (allowed : Bool) (bytes : List ℕ) (p : Parsed) → IsReadRightly frame allowed bytes p → (later : List ℕ → Sequence) → ((after : List ℕ) → IsRightSequence frame n false after (later after)) → IsRightSequence frame (suc n) allowed bytes (then_more p later)
unfolding IsRightSequence
more_right frame n allowed bytes (Ok (Some (i, rest))) r later h = first_right frame n allowed bytes i rest (later rest) r (h rest)
more_right frame n allowed bytes (Ok None) r later h = (bytes, omega arith, refl, r)
more_right frame n allowed bytes (Err NotEnoughData) r later h = ([], bytes, omega arith, refl, subst (λ (b : Bool). IsCut frame b bytes) (sym (and_true allowed)) r)
more_right frame n allowed bytes (Err InvalidInstruction) r later h = tt
more_right frame n allowed bytes (Err TooManyInstructions) r later h = absurd r

sequence_right : (frame : Option Register) (n : ℕ) (allowed : Bool) (bytes : List ℕ) → IsRightSequence frame n allowed bytes (sequence_from frame n allowed bytes)
unfolding sequence_from
sequence_right frame zero allowed bytes = full_right frame allowed bytes (parsed_instruction frame allowed bytes) (is_read_rightly frame allowed bytes)
sequence_right frame (suc n) allowed bytes =
    more_right frame n allowed bytes (parsed_instruction frame allowed bytes) (is_read_rightly frame allowed bytes) (sequence_from frame n false) (λ after. sequence_right frame n false after)

-- ---- each run of the grammar is read
run_ends : (frame : Option Register) (n : ℕ) (allowed : Bool) (bytes : List ℕ) (is : List FunctionEpilogInstruction) (rest : List ℕ) → IsRun frame allowed bytes is rest → BeginsWithTerminator rest → length is ≤ n → sequence_from frame n allowed bytes ≡ Ok is
unfolding sequence_from
run_ends frame zero allowed bytes [] rest run t few = rw (run, terminator_read frame allowed rest t) refl
run_ends frame (suc n) allowed bytes [] rest run t few = rw (run, terminator_read frame allowed rest t) refl
run_ends frame zero allowed bytes (i ∷ is) rest run t few = absurd (omega arith)
run_ends frame (suc n) allowed bytes (i ∷ is) rest run t few =
    rw (begins_read frame allowed bytes i run.0 run.1) (ap (and_first i) (run_ends frame n false run.0 is rest run.2 t (omega arith)))

run_exceeds : (frame : Option Register) (n : ℕ) (allowed : Bool) (bytes : List ℕ) (is : List FunctionEpilogInstruction) (rest : List ℕ) → IsRun frame allowed bytes is rest → length is ≡ suc n → sequence_from frame n allowed bytes ≡ Err TooManyInstructions
unfolding sequence_from
run_exceeds frame n allowed bytes [] rest run many = absurd (omega arith)
run_exceeds frame zero allowed bytes (i ∷ is) rest run many = rw (begins_read frame allowed bytes i run.0 run.1) refl
run_exceeds frame (suc n) allowed bytes (i ∷ is) rest run many =
    rw (begins_read frame allowed bytes i run.0 run.1) (ap (and_first i) (run_exceeds frame n false run.0 is rest run.2 (omega arith)))

run_is_cut : (frame : Option Register) (n : ℕ) (allowed : Bool) (bytes : List ℕ) (is : List FunctionEpilogInstruction) (rest : List ℕ) → IsRun frame allowed bytes is rest → IsCut frame (allowed && (length is == 0)) rest → length is ≤ n → sequence_from frame n allowed bytes ≡ Err NotEnoughData
unfolding sequence_from
run_is_cut frame zero allowed bytes [] rest run cut few = rw (run, cut_read frame allowed rest (subst (λ (b : Bool). IsCut frame b rest) (and_true allowed) cut)) refl
run_is_cut frame (suc n) allowed bytes [] rest run cut few = rw (run, cut_read frame allowed rest (subst (λ (b : Bool). IsCut frame b rest) (and_true allowed) cut)) refl
run_is_cut frame zero allowed bytes (i ∷ is) rest run cut few = absurd (omega arith)
run_is_cut frame (suc n) allowed bytes (i ∷ is) rest run cut few =
    rw (begins_read frame allowed bytes i run.0 run.1)
    (ap (and_first i) (run_is_cut frame n false run.0 is rest run.2 (subst (λ (b : Bool). IsCut frame b rest) (not_first allowed i is) cut) (omega arith)))

-- ---- what is answered for a sequence
pub sequence_is : (frame : Option Register) (bytes : List ℕ) → IsSequence frame bytes (sequence_of frame bytes)
unfolding IsRightSequence
sequence_is frame bytes =
    let right = sequence_right frame 12 true bytes in
    let P : Sequence → Type 0 = IsRightSequence frame 12 true bytes in
    record {
      epilog = λ is. (λ e. (let r = subst P e right in (r.1, (r.0, r.2, r.3))), λ p. run_ends frame 12 true bytes is p.1.0 p.1.1 p.1.2 p.0);
      too_many = (λ e. subst P e right, λ p. run_exceeds frame 12 true bytes p.0 p.1 p.3 p.2);
      cut = (λ e. subst P e right, λ p. run_is_cut frame 12 true bytes p.0 p.1 p.3 p.4 p.2);
    }

-- code that begins with no epilog has no instructions of one
pub none_begins : (frame : Option Register) (code : List ℕ) → is_ok (sequence_of frame code) ≡ false → epilog_or_none (sequence_of frame code) ≡ None
none_begins frame code e = go (sequence_of frame code) e
  where
    go : (s : Sequence) → is_ok s ≡ false → epilog_or_none s ≡ None
    go (Ok instructions) e = absurd cc
    go (Err x) e = refl
