-- What is read from bytes is what the grammar says of them.
use Rattle.std.proofs.Common.{◌≡◌, ℕ, ◌+◌, ◌/◌, ◌%◌, ◌<◌, Bool, true, false, cond, eqb, ltb, ◌||◌, ◌&&◌, List, [], ◌∷◌, ◌++◌, length, Option, Some, None, Ok, Err, refl, sym, ap, subst, arith, inl, inr, append_assoc}
use Rattle.std.specs.Prelude.{◌⊎◌}
use Rattle.std.proofs.lemmas.Bool.{eqb-true, le-ltb}
use Rattle.pe_unwind_info.specs.declared.x86_64.registers.Register.{Register}
use Rattle.pe_unwind_info.specs.declared.x86_64.epilog.FunctionEpilogInstruction.{FunctionEpilogInstruction}
use Rattle.pe_unwind_info.specs.declared.x86_64.epilog.FunctionEpilogInstruction.TheVariants.{AddSP, AddSPFromFP}
use Rattle.pe_unwind_info.specs.declared.x86_64.epilog.InstructionParseError.TheVariants.{NotEnoughData, InvalidInstruction, TooManyInstructions}
use Rattle.pe_unwind_info.specs.Numbers.{u32_at}
use Rattle.pe_unwind_info.specs.Registers.{register_number}
use Rattle.pe_unwind_info.specs.Epilog.{with_word, Read, Parsed, lea_from, lea_of, adjustment_of, pop_of, is_jump, two_bytes_of, pop_or_terminator_of, adjusted_or, after_rex, split_after, parsed_instruction}
use Rattle.pe_unwind_info.specs.EpilogGrammar.{IsRexW, IsPrefix, no_rex, one_rex, NamesFrame, add_word, add_byte, lea_byte, lea_word, pop, pop_long, IsTerminator, ret, short_jump, near_jump, memory_jump, BeginsWith, BeginsWithTerminator, IsCut, empty, add_cut, lea_cut}

-- what the grammar says of bytes, by what was read from them
abbrev pub IsReadRightly : Option Register → Bool → List ℕ → Parsed → Type 0
IsReadRightly frame allowed bytes (Ok (Some (instruction, rest))) = BeginsWith frame allowed bytes instruction rest
IsReadRightly frame allowed bytes (Ok None) = BeginsWithTerminator bytes
IsReadRightly frame allowed bytes (Err NotEnoughData) = IsCut frame allowed bytes
IsReadRightly frame allowed bytes (Err InvalidInstruction) = Unit {0}
IsReadRightly frame allowed bytes (Err TooManyInstructions) = ⊥

-- a choice by a test, with what the test says
by_test : {A : Type 0} (P : A → Type 0) (test : Bool) (x y : A) → (test ≡ true → P x) → (test ≡ false → P y) → P (cond test x y)
by_test P true x y p q = p refl
by_test P false x y p q = q refl

both : (a b : Bool) → (a && b) ≡ true → (a ≡ true) × (b ≡ true)
both true b e = (refl, e)
both false b e = absurd (cc)

either : (a b : Bool) → (a || b) ≡ true → (a ≡ true) ⊎ (b ≡ true)
either true b e = inl refl
either false b e = inr e

-- ---- pops and terminators
jump_is : (frame : Option Register) (allowed : Bool) (prefix : List ℕ) (bit opcode next : ℕ) (rest : List ℕ) → IsPrefix prefix bit → is_jump opcode next ≡ true → BeginsWithTerminator (prefix ++ opcode ∷ next ∷ rest)
jump_is frame allowed prefix bit opcode next rest p e = go (either (eqb opcode 0xeb || eqb opcode 0xe9) _ e)
  where
    memory : (eqb (next / 8) 4 ≡ true) ⊎ (eqb (next / 8) 5 ≡ true) → (next / 8 ≡ 4) ⊎ (next / 8 ≡ 5)
    memory (inl f) = inl (eqb-true _ _ f)
    memory (inr f) = inr (eqb-true _ _ f)

    with_opcode : (k : ℕ) → opcode ≡ k → IsTerminator (prefix ++ k ∷ next ∷ []) → BeginsWithTerminator (prefix ++ opcode ∷ next ∷ rest)
    with_opcode k f t = (prefix ++ k ∷ next ∷ [], rest, rw f (sym (append_assoc prefix (k ∷ next ∷ []) rest)), t)

    by_distance : (eqb opcode 0xeb ≡ true) ⊎ (eqb opcode 0xe9 ≡ true) → BeginsWithTerminator (prefix ++ opcode ∷ next ∷ rest)
    by_distance (inl f) = with_opcode 0xeb (eqb-true _ _ f) (short_jump p next)
    by_distance (inr f) = with_opcode 0xe9 (eqb-true _ _ f) (near_jump p next)

    by_memory : (eqb opcode 0xff ≡ true) × ((eqb (next / 8) 4 || eqb (next / 8) 5) ≡ true) → BeginsWithTerminator (prefix ++ opcode ∷ next ∷ rest)
    by_memory f = with_opcode 0xff (eqb-true _ _ f.0) (memory_jump p next (memory (either _ _ f.1)))

    go : ((eqb opcode 0xeb || eqb opcode 0xe9) ≡ true) ⊎ ((eqb opcode 0xff && (eqb (next / 8) 4 || eqb (next / 8) 5)) ≡ true) → BeginsWithTerminator (prefix ++ opcode ∷ next ∷ rest)
    go (inl f) = by_distance (either _ _ f)
    go (inr f) = by_memory (both _ _ f)

two_bytes_are : (frame : Option Register) (allowed : Bool) (prefix : List ℕ) (rex : ℕ) → IsPrefix prefix (rex % 2) → (opcode : ℕ) (rest : List ℕ) → IsReadRightly frame allowed (prefix ++ opcode ∷ rest) (two_bytes_of rex opcode rest)
two_bytes_are frame allowed prefix rex p opcode [] = tt
two_bytes_are frame allowed prefix rex p opcode (next ∷ rest) =
    let P : Parsed → Type 0 = IsReadRightly frame allowed (prefix ++ opcode ∷ next ∷ rest) in
    by_test P (eqb opcode 0x8f && eqb (next / 8) 24) _ _ (λ e. long (both _ _ e))
    (λ _. by_test P (is_jump opcode next) (Ok None) (Err InvalidInstruction) (λ e. jump_is frame allowed prefix (rex % 2) opcode next rest p e) (λ _. tt))
  where
    long : (eqb opcode 0x8f ≡ true) × (eqb (next / 8) 24 ≡ true) → BeginsWith frame allowed (prefix ++ opcode ∷ next ∷ rest) (pop_of rex next) rest
    long f = (prefix ++ 0x8f ∷ next ∷ [], rw (eqb-true opcode 0x8f f.0) (sym (append_assoc prefix (0x8f ∷ next ∷ []) rest)), pop_long p next (eqb-true _ _ f.1))

pop_or_terminator_is : (frame : Option Register) (allowed : Bool) (prefix : List ℕ) (rex : ℕ) → IsPrefix prefix (rex % 2) → (code : List ℕ) → IsReadRightly frame allowed (prefix ++ code) (pop_or_terminator_of rex code)
pop_or_terminator_is frame allowed prefix rex p [] = tt
pop_or_terminator_is frame allowed prefix rex p (opcode ∷ rest) =
    let P : Parsed → Type 0 = IsReadRightly frame allowed (prefix ++ opcode ∷ rest) in
    by_test P (eqb (opcode / 8) 11) _ _ (λ e. (prefix ++ opcode ∷ [], sym (append_assoc prefix (opcode ∷ []) rest), pop p opcode (eqb-true _ _ e)))
    (λ _. by_test P (eqb opcode 0xc3) _ _ returns (λ _. two_bytes_are frame allowed prefix rex p opcode rest))
  where
    returns : eqb opcode 0xc3 ≡ true → BeginsWithTerminator (prefix ++ opcode ∷ rest)
    returns e = (prefix ++ 0xc3 ∷ [], rest, rw (eqb-true opcode 0xc3 e) (sym (append_assoc prefix (0xc3 ∷ []) rest)), ret p)

-- ---- adjustments of the stack pointer
abbrev IsAdjustedRightly : Option Register → List ℕ → Option Read → Type 0
IsAdjustedRightly frame bytes None = Unit {0}
IsAdjustedRightly frame bytes (Some (Ok (instruction, rest))) = BeginsWith frame true bytes instruction rest
IsAdjustedRightly frame bytes (Some (Err NotEnoughData)) = IsCut frame true bytes
IsAdjustedRightly frame bytes (Some (Err InvalidInstruction)) = Unit {0}
IsAdjustedRightly frame bytes (Some (Err TooManyInstructions)) = ⊥

-- a number of four bytes, where they are there
word_is : (P : Read → Type 0) (instruction : ℕ → FunctionEpilogInstruction) (bytes : List ℕ) →
    (length bytes < 4 → P (Err NotEnoughData)) → ((n0 n1 n2 n3 : ℕ) (rest : List ℕ) → bytes ≡ n0 ∷ n1 ∷ n2 ∷ n3 ∷ rest → P (Ok (instruction (u32_at 0 (n0 ∷ n1 ∷ n2 ∷ n3 ∷ [])), rest))) → P (with_word instruction bytes)
word_is P instruction [] short long = short (omega arith)
word_is P instruction (n0 ∷ []) short long = short (omega arith)
word_is P instruction (n0 ∷ n1 ∷ []) short long = short (omega arith)
word_is P instruction (n0 ∷ n1 ∷ n2 ∷ []) short long = short (omega arith)
word_is P instruction (n0 ∷ n1 ∷ n2 ∷ n3 ∷ rest) short long =
    let enough : ltb (length (n0 ∷ n1 ∷ n2 ∷ n3 ∷ rest)) 4 ≡ false = le-ltb (length (n0 ∷ n1 ∷ n2 ∷ n3 ∷ rest)) 4 (omega arith) in
    rw enough (long n0 n1 n2 n3 rest refl)

lea_is : (frame : Option Register) (rex : ℕ) (base : Register) → NamesFrame frame rex base → (modrm next : ℕ) (rest : List ℕ) → IsAdjustedRightly frame (rex ∷ 0x8d ∷ modrm ∷ next ∷ rest) (Some (lea_from (register_number base) (modrm ∷ next ∷ rest)))
lea_is frame rex base named modrm next rest =
    let P : Read → Type 0 = λ r. IsAdjustedRightly frame (rex ∷ 0x8d ∷ modrm ∷ next ∷ rest) (Some r) in
    by_test P (eqb (modrm % 64) (32 + register_number base % 8)) _ _
    (λ e. by_test P (eqb (modrm / 64) 1) _ _ (λ f. byte (eqb-true _ _ e) (eqb-true _ _ f))
    (λ _. by_test P (eqb (modrm / 64) 2) _ _ (λ f. word (eqb-true _ _ e) (eqb-true _ _ f)) (λ _. tt)))
    (λ _. tt)
  where
    byte : modrm % 64 ≡ 32 + register_number base % 8 → modrm / 64 ≡ 1 → BeginsWith frame true (rex ∷ 0x8d ∷ modrm ∷ next ∷ rest) (AddSPFromFP next) rest
    byte e f = let m : modrm ≡ 0x60 + register_number base % 8 = omega arith in (rex ∷ 0x8d ∷ (0x60 + register_number base % 8) ∷ next ∷ [], ap (λ (k : ℕ). rex ∷ 0x8d ∷ k ∷ next ∷ rest) m, lea_byte named)

    word : modrm % 64 ≡ 32 + register_number base % 8 → modrm / 64 ≡ 2 → IsAdjustedRightly frame (rex ∷ 0x8d ∷ modrm ∷ next ∷ rest) (Some (with_word AddSPFromFP (next ∷ rest)))
    word e f =
        let m : modrm ≡ 0xa0 + register_number base % 8 = omega arith in
        rw m (word_is (λ (r : Read). IsAdjustedRightly frame (rex ∷ 0x8d ∷ (0xa0 + register_number base % 8) ∷ next ∷ rest) (Some r)) AddSPFromFP (next ∷ rest)
        (λ short. lea_cut named (omega arith) short)
        (λ n0 n1 n2 n3 later same. (rex ∷ 0x8d ∷ (0xa0 + register_number base % 8) ∷ n0 ∷ n1 ∷ n2 ∷ n3 ∷ [], ap (λ (bytes : List ℕ). rex ∷ 0x8d ∷ (0xa0 + register_number base % 8) ∷ bytes) same, lea_word named)))

frame_lea_is : (frame : Option Register) (rex : ℕ) → IsRexW rex → (modrm next : ℕ) (rest : List ℕ) → IsAdjustedRightly frame (rex ∷ 0x8d ∷ modrm ∷ next ∷ rest) (lea_of frame (rex % 16) (modrm ∷ next ∷ rest))
frame_lea_is None rex wide modrm next rest = tt
frame_lea_is (Some base) rex wide modrm next rest =
    by_test (IsAdjustedRightly (Some base) (rex ∷ 0x8d ∷ modrm ∷ next ∷ rest)) (eqb ((rex % 16) % 2) (register_number base / 8)) _ _
    (λ e. let f : (rex % 16) % 2 ≡ register_number base / 8 = eqb-true _ _ e in lea_is (Some base) rex base (record { is_frame = refl; wide = wide; bit = omega arith }) modrm next rest)
    (λ _. tt)

adjustment_is : (frame : Option Register) (rex : ℕ) → IsRexW rex → (code : List ℕ) → IsAdjustedRightly frame (rex ∷ code) (adjustment_of frame (rex % 16) code)
adjustment_is frame rex wide [] = tt
adjustment_is frame rex wide (opcode ∷ []) = tt
adjustment_is frame rex wide (opcode ∷ modrm ∷ []) = tt
adjustment_is frame rex wide (opcode ∷ modrm ∷ next ∷ rest) =
    let P : Option Read → Type 0 = IsAdjustedRightly frame (rex ∷ opcode ∷ modrm ∷ next ∷ rest) in
    by_test P (eqb opcode 0x81 && eqb modrm 0xc4) _ _ (λ e. word (both _ _ e))
    (λ _. by_test P (eqb opcode 0x83 && eqb modrm 0xc4) _ _ (λ e. byte (both _ _ e))
    (λ _. by_test P (eqb opcode 0x8d) _ _ (λ e. lea (eqb-true opcode 0x8d e)) (λ _. tt)))
  where
    word : (eqb opcode 0x81 ≡ true) × (eqb modrm 0xc4 ≡ true) → IsAdjustedRightly frame (rex ∷ opcode ∷ modrm ∷ next ∷ rest) (Some (with_word AddSP (next ∷ rest)))
    word e =
        rw (eqb-true opcode 0x81 e.0, eqb-true modrm 0xc4 e.1)
        (word_is (λ (r : Read). IsAdjustedRightly frame (rex ∷ 0x81 ∷ 0xc4 ∷ next ∷ rest) (Some r)) AddSP (next ∷ rest)
        (λ short. add_cut wide (omega arith) short)
        (λ n0 n1 n2 n3 later same. (rex ∷ 0x81 ∷ 0xc4 ∷ n0 ∷ n1 ∷ n2 ∷ n3 ∷ [], ap (λ (bytes : List ℕ). rex ∷ 0x81 ∷ 0xc4 ∷ bytes) same, add_word wide)))

    byte : (eqb opcode 0x83 ≡ true) × (eqb modrm 0xc4 ≡ true) → BeginsWith frame true (rex ∷ opcode ∷ modrm ∷ next ∷ rest) (AddSP next) rest
    byte e = rw (eqb-true opcode 0x83 e.0, eqb-true modrm 0xc4 e.1) (rex ∷ 0x83 ∷ 0xc4 ∷ next ∷ [], refl, add_byte wide)

    lea : opcode ≡ 0x8d → IsAdjustedRightly frame (rex ∷ opcode ∷ modrm ∷ next ∷ rest) (lea_of frame (rex % 16) (modrm ∷ next ∷ rest))
    lea e = rw e (frame_lea_is frame rex wide modrm next rest)

-- ---- one instruction
adjusted_is : (frame : Option Register) (bytes : List ℕ) (adjusted : Option Read) (later : Parsed) → IsAdjustedRightly frame bytes adjusted → IsReadRightly frame true bytes later → IsReadRightly frame true bytes (adjusted_or adjusted later)
adjusted_is frame bytes None later a b = b
adjusted_is frame bytes (Some (Ok (instruction, rest))) later a b = a
adjusted_is frame bytes (Some (Err NotEnoughData)) later a b = a
adjusted_is frame bytes (Some (Err InvalidInstruction)) later a b = tt
adjusted_is frame bytes (Some (Err TooManyInstructions)) later a b = a

with_prefix : (frame : Option Register) (allowed : Bool) (first : ℕ) (code : List ℕ) → first / 16 ≡ 4 → IsReadRightly frame allowed (first ∷ code) (after_rex frame allowed (first % 16) code)
with_prefix frame allowed first code e = go allowed (eqb ((first % 16) / 8) 1) refl
  where
    bit : (first % 16) % 2 ≡ first % 2
    bit = omega arith

    plain : (allowed : Bool) → IsReadRightly frame allowed (first ∷ code) (pop_or_terminator_of (first % 16) code)
    plain allowed = pop_or_terminator_is frame allowed (first ∷ []) (first % 16) (subst (IsPrefix (first ∷ [])) (sym bit) (one_rex (record { high = e }))) code

    wide : eqb ((first % 16) / 8) 1 ≡ true → IsRexW first
    wide f = let g : (first % 16) / 8 ≡ 1 = eqb-true _ _ f in record { high = omega arith }

    go : (allowed w : Bool) → eqb ((first % 16) / 8) 1 ≡ w → IsReadRightly frame allowed (first ∷ code) (after_rex frame allowed (first % 16) code)
    go true true f = rw f (adjusted_is frame (first ∷ code) (adjustment_of frame (first % 16) code) _ (adjustment_is frame first (wide f) code) (plain true))
    go true false f = rw f (plain true)
    go false w f = plain false

without_prefix : (frame : Option Register) (allowed : Bool) (code : List ℕ) → IsReadRightly frame allowed code (after_rex frame allowed 0 code)
without_prefix frame true code = pop_or_terminator_is frame true [] 0 no_rex code
without_prefix frame false code = pop_or_terminator_is frame false [] 0 no_rex code

pub is_read_rightly : (frame : Option Register) (allowed : Bool) (bytes : List ℕ) → IsReadRightly frame allowed bytes (parsed_instruction frame allowed bytes)
unfolding parsed_instruction
is_read_rightly frame allowed [] = empty
is_read_rightly frame allowed (first ∷ code) = go (eqb (first / 16) 4) refl
  where
    go : (rexed : Bool) → eqb (first / 16) 4 ≡ rexed → IsReadRightly frame allowed (first ∷ code) (split_after frame allowed (cond (eqb (first / 16) 4) (Some (first % 16, code)) (Some (0, first ∷ code))))
    go true e = rw e (with_prefix frame allowed first code (eqb-true _ _ e))
    go false e = rw e (without_prefix frame allowed (first ∷ code))
