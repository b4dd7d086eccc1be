-- What the grammar spells is read as it says, and so each answer is the grammar's.
use Rattle.std.proofs.Common.{◌≡◌, ◌≢◌, ℕ, ◌+◌, ◌*◌, ◌/◌, ◌%◌, ◌<◌, ◌≤◌, Bool, true, false, cond, eqb, ltb, ◌||◌, ◌&&◌, List, [], ◌∷◌, ◌++◌, length, Option, Some, None, Ok, Err, refl, ap, subst, ◌∙◌, arith, inl, inr, append_assoc}
use Rattle.std.specs.Prelude.{◌⊎◌}
use Rattle.std.proofs.lemmas.Bool.{eqb-true, eq-eqb, le-ltb, lt-ltb}
use Rattle.pe_unwind_info.specs.declared.x86_64.registers.Register.{Register}
use Rattle.pe_unwind_info.specs.declared.x86_64.epilog.FunctionEpilogInstruction.{FunctionEpilogInstruction}
use Rattle.pe_unwind_info.specs.declared.x86_64.epilog.FunctionEpilogInstruction.TheVariants.{AddSP, AddSPFromFP, Pop}
use Rattle.pe_unwind_info.specs.declared.x86_64.epilog.InstructionParseError.TheVariants.{NotEnoughData, InvalidInstruction}
use Rattle.pe_unwind_info.specs.Numbers.{u32_at}
use Rattle.pe_unwind_info.specs.Registers.{register_number, register_of}
use Rattle.pe_unwind_info.specs.Epilog.{with_word, Read, Parsed, lea_from, adjustment_of, is_jump, pop_or_terminator_of, adjusted_or, after_rex, parsed_instruction}
use Rattle.pe_unwind_info.specs.EpilogGrammar.{IsRexW, IsPrefix, no_rex, one_rex, NamesFrame, IsInstruction, add_word, add_byte, lea_byte, lea_word, pop, pop_long, IsTerminator, ret, short_jump, near_jump, memory_jump, BeginsWith, BeginsWithTerminator, IsCut, empty, add_cut, lea_cut, IsParsed}
use Rattle.pe_unwind_info.proofs.EpilogReads.{IsReadRightly, is_read_rightly}

pub differ : (a b : ℕ) → a ≢ b → eqb a b ≡ false
differ a b h = go (eqb a b) refl
  where
    go : (v : Bool) → eqb a b ≡ v → v ≡ false
    go true e = absurd (h (eqb-true a b e))
    go false e = refl

-- ---- after a REX byte or none
rexed : (frame : Option Register) (allowed : Bool) (rex : ℕ) (code : List ℕ) → rex / 16 ≡ 4 → parsed_instruction frame allowed (rex ∷ code) ≡ after_rex frame allowed (rex % 16) code
unfolding parsed_instruction
rexed frame allowed rex code e = rw e refl

unrexed : (frame : Option Register) (allowed : Bool) (opcode : ℕ) (code : List ℕ) → eqb (opcode / 16) 4 ≡ false → parsed_instruction frame allowed (opcode ∷ code) ≡ after_rex frame allowed 0 (opcode ∷ code)
unfolding parsed_instruction
unrexed frame allowed opcode code e = rw e refl

-- an opcode that is no REX byte and begins no adjustment of the stack pointer
record IsPlain (opcode : ℕ) : Type 0 where
  no_rex_byte : eqb (opcode / 16) 4 ≡ false
  no_add : eqb opcode 0x81 ≡ false
  no_short_add : eqb opcode 0x83 ≡ false
  no_lea : eqb opcode 0x8d ≡ false

no_adjustment : (frame : Option Register) (rex opcode : ℕ) (code : List ℕ) → IsPlain opcode → adjustment_of frame rex (opcode ∷ code) ≡ None
no_adjustment frame rex opcode [] p = refl
no_adjustment frame rex opcode (b ∷ []) p = refl
no_adjustment frame rex opcode (b ∷ c ∷ code) p = rw (p.no_add, p.no_short_add, p.no_lea) refl

plain_after : (frame : Option Register) (allowed : Bool) (rex opcode : ℕ) (code : List ℕ) → IsPlain opcode → after_rex frame allowed rex (opcode ∷ code) ≡ pop_or_terminator_of rex (opcode ∷ code)
plain_after frame allowed rex opcode code p = go (allowed && eqb (rex / 8) 1)
  where
    go : (w : Bool) → adjusted_or (cond w (adjustment_of frame rex (opcode ∷ code)) None) (pop_or_terminator_of rex (opcode ∷ code)) ≡ pop_or_terminator_of rex (opcode ∷ code)
    go true = rw (no_adjustment frame rex opcode code p) refl
    go false = refl

-- the bit of the REX byte is what the prefix puts
pub record IsReadAs (bit : ℕ) (code : List ℕ) (answer : Parsed) : Type 0 where
  rex : ℕ
  same_bit : rex % 2 ≡ bit
  reads : answer ≡ pop_or_terminator_of rex code

prefixed : (frame : Option Register) (allowed : Bool) (prefix : List ℕ) (bit : ℕ) → IsPrefix prefix bit → (opcode : ℕ) (code : List ℕ) → IsPlain opcode → IsReadAs bit (opcode ∷ code) (parsed_instruction frame allowed (prefix ++ (opcode ∷ code)))
prefixed frame allowed prefix bit no_rex opcode code p =
    record { rex = 0; same_bit = refl; reads = unrexed frame allowed opcode code p.no_rex_byte ∙ plain_after frame allowed 0 opcode code p }
prefixed frame allowed prefix bit (one_rex {byte} x) opcode code p =
    record { rex = byte % 16; same_bit = omega arith; reads = rexed frame allowed byte (opcode ∷ code) x.high ∙ plain_after frame allowed (byte % 16) opcode code p }

pop_is_plain : (opcode : ℕ) → opcode / 8 ≡ 11 → IsPlain opcode
pop_is_plain opcode e = record {
  no_rex_byte = differ _ _ (λ q. omega arith);
  no_add = differ _ _ (λ q. omega arith);
  no_short_add = differ _ _ (λ q. omega arith);
  no_lea = differ _ _ (λ q. omega arith);
}

long_is_plain : IsPlain 0x8f
long_is_plain = record { no_rex_byte = refl; no_add = refl; no_short_add = refl; no_lea = refl }

-- ---- pops
reads_pop : (rex bit opcode : ℕ) (rest : List ℕ) → rex % 2 ≡ bit → opcode / 8 ≡ 11 → pop_or_terminator_of rex (opcode ∷ rest) ≡ Ok (Some (Pop (register_of (opcode % 8 + 8 * bit)), rest))
reads_pop rex bit opcode rest same e = rw (e, same) refl

reads_long_pop : (rex bit modrm : ℕ) (rest : List ℕ) → rex % 2 ≡ bit → modrm / 8 ≡ 24 → pop_or_terminator_of rex (0x8f ∷ modrm ∷ rest) ≡ Ok (Some (Pop (register_of (modrm % 8 + 8 * bit)), rest))
reads_long_pop rex bit modrm rest same e = rw (e, same) refl

-- ---- adjustments
wide_rex : (rex : ℕ) → IsRexW rex → rex / 16 ≡ 4
wide_rex rex w = let h : rex / 8 ≡ 9 = w.high in omega arith

wide_bit : (rex : ℕ) → IsRexW rex → eqb ((rex % 16) / 8) 1 ≡ true
wide_bit rex w = let h : rex / 8 ≡ 9 = w.high in eq-eqb _ _ (omega arith)

adjusts : (frame : Option Register) (rex : ℕ) (code : List ℕ) (read : Read) → IsRexW rex → adjustment_of frame (rex % 16) code ≡ Some read → parsed_instruction frame true (rex ∷ code) ≡ adjusted_or (Some read) (Err InvalidInstruction)
adjusts frame rex code read w e = rexed frame true rex code (wide_rex rex w) ∙ rw (wide_bit rex w, e) (any read)
  where
    any : (read : Read) → adjusted_or (Some read) (pop_or_terminator_of (rex % 16) code) ≡ adjusted_or (Some read) (Err InvalidInstruction)
    any (Ok p) = refl
    any (Err x) = refl

word_reads : (instruction : ℕ → FunctionEpilogInstruction) (n0 n1 n2 n3 : ℕ) (rest : List ℕ) → with_word instruction (n0 ∷ n1 ∷ n2 ∷ n3 ∷ rest) ≡ Ok (instruction (u32_at 0 (n0 ∷ n1 ∷ n2 ∷ n3 ∷ [])), rest)
word_reads instruction n0 n1 n2 n3 rest =
    let enough : ltb (length (n0 ∷ n1 ∷ n2 ∷ n3 ∷ rest)) 4 ≡ false = le-ltb (length (n0 ∷ n1 ∷ n2 ∷ n3 ∷ rest)) 4 (omega arith) in rw enough refl

word_lacks : (instruction : ℕ → FunctionEpilogInstruction) (bytes : List ℕ) → length bytes < 4 → with_word instruction bytes ≡ Err NotEnoughData
word_lacks instruction bytes lt = let short : ltb (length bytes) 4 ≡ true = lt-ltb (length bytes) 4 lt in rw short refl

-- a `lea` from the frame register is one
is_lea : (frame : Option Register) (rex : ℕ) (base : Register) → NamesFrame frame rex base → (modrm next : ℕ) (rest : List ℕ) → adjustment_of frame (rex % 16) (0x8d ∷ modrm ∷ next ∷ rest) ≡ Some (lea_from (register_number base) (modrm ∷ next ∷ rest))
is_lea frame rex base named modrm next rest =
    let bit : (rex % 16) % 2 ≡ register_number base / 8 = (let b : rex % 2 ≡ register_number base / 8 = named.bit in omega arith) in
    rw (named.is_frame, eq-eqb _ _ bit) refl

lea_reads_byte : (base next : ℕ) (rest : List ℕ) → lea_from base ((0x60 + base % 8) ∷ next ∷ rest) ≡ Ok (AddSPFromFP next, rest)
lea_reads_byte base next rest =
    let low : eqb ((0x60 + base % 8) % 64) (32 + base % 8) ≡ true = eq-eqb _ _ (omega arith) in
    let mode : eqb ((0x60 + base % 8) / 64) 1 ≡ true = eq-eqb _ _ (omega arith) in
    rw (low, mode) refl

lea_reads_word : (base next : ℕ) (rest : List ℕ) → lea_from base ((0xa0 + base % 8) ∷ next ∷ rest) ≡ with_word AddSPFromFP (next ∷ rest)
lea_reads_word base next rest =
    let low : eqb ((0xa0 + base % 8) % 64) (32 + base % 8) ≡ true = eq-eqb _ _ (omega arith) in
    let other : eqb ((0xa0 + base % 8) / 64) 1 ≡ false = differ _ _ (λ q. omega arith) in
    let mode : eqb ((0xa0 + base % 8) / 64) 2 ≡ true = eq-eqb _ _ (omega arith) in
    rw (low, other, mode) refl

-- ---- each instruction
pub reads_instruction : (frame : Option Register) (allowed : Bool) (code : List ℕ) (i : FunctionEpilogInstruction) (rest : List ℕ) → IsInstruction frame allowed code i → parsed_instruction frame allowed (code ++ rest) ≡ Ok (Some (i, rest))
reads_instruction frame allowed code i rest (add_word {rex} {n0} {n1} {n2} {n3} w) =
    adjusts frame rex (0x81 ∷ 0xc4 ∷ n0 ∷ n1 ∷ n2 ∷ n3 ∷ rest) (with_word AddSP (n0 ∷ n1 ∷ n2 ∷ n3 ∷ rest)) w refl ∙ rw (word_reads AddSP n0 n1 n2 n3 rest) refl
reads_instruction frame allowed code i rest (add_byte {rex} {n} w) = adjusts frame rex (0x83 ∷ 0xc4 ∷ n ∷ rest) (Ok (AddSP n, rest)) w refl
reads_instruction frame allowed code i rest (lea_byte {rex} {n} {base} named) =
    adjusts frame rex (0x8d ∷ (0x60 + register_number base % 8) ∷ n ∷ rest) (Ok (AddSPFromFP n, rest)) named.wide
    (is_lea frame rex base named (0x60 + register_number base % 8) n rest ∙ ap Some (lea_reads_byte (register_number base) n rest))
reads_instruction frame allowed code i rest (lea_word {rex} {n0} {n1} {n2} {n3} {base} named) =
    adjusts frame rex (0x8d ∷ (0xa0 + register_number base % 8) ∷ n0 ∷ n1 ∷ n2 ∷ n3 ∷ rest) (Ok (AddSPFromFP (u32_at 0 (n0 ∷ n1 ∷ n2 ∷ n3 ∷ [])), rest)) named.wide
    (is_lea frame rex base named (0xa0 + register_number base % 8) n0 (n1 ∷ n2 ∷ n3 ∷ rest) ∙ ap Some (lea_reads_word (register_number base) n0 (n1 ∷ n2 ∷ n3 ∷ rest) ∙ word_reads AddSPFromFP n0 n1 n2 n3 rest))
reads_instruction frame allowed code i rest (pop {prefix = prefix} {bit = bit} p opcode e) =
    let r = prefixed frame allowed prefix bit p opcode rest (pop_is_plain opcode e) in
    rw (append_assoc prefix (opcode ∷ []) rest) (r.reads ∙ reads_pop r.rex bit opcode rest r.same_bit e)
reads_instruction frame allowed code i rest (pop_long {prefix = prefix} {bit = bit} p modrm e) =
    let r = prefixed frame allowed prefix bit p 0x8f (modrm ∷ rest) long_is_plain in
    rw (append_assoc prefix (0x8f ∷ modrm ∷ []) rest) (r.reads ∙ reads_long_pop r.rex bit modrm rest r.same_bit e)

pub begins_read : (frame : Option Register) (allowed : Bool) (bytes : List ℕ) (i : FunctionEpilogInstruction) (rest : List ℕ) → BeginsWith frame allowed bytes i rest → parsed_instruction frame allowed bytes ≡ Ok (Some (i, rest))
begins_read frame allowed bytes i rest b = rw b.1 (reads_instruction frame allowed b.0 i rest b.2)

-- ---- terminators
memory_jumps : (modrm : ℕ) → (modrm / 8 ≡ 4) ⊎ (modrm / 8 ≡ 5) → is_jump 0xff modrm ≡ true
memory_jumps modrm (inl e) = rw (eq-eqb (modrm / 8) 4 e) refl
memory_jumps modrm (inr e) = go (eqb (modrm / 8) 4) (eq-eqb (modrm / 8) 5 e)
  where
    go : (v : Bool) → eqb (modrm / 8) 5 ≡ true → (v || eqb (modrm / 8) 5) ≡ true
    go true h = refl
    go false h = h

reads_terminator : (frame : Option Register) (allowed : Bool) (code rest : List ℕ) → IsTerminator code → parsed_instruction frame allowed (code ++ rest) ≡ Ok None
reads_terminator frame allowed code rest (ret {prefix} {bit} p) =
    let r = prefixed frame allowed prefix bit p 0xc3 rest (record { no_rex_byte = refl; no_add = refl; no_short_add = refl; no_lea = refl }) in
    rw (append_assoc prefix (0xc3 ∷ []) rest) r.reads
reads_terminator frame allowed code rest (short_jump {prefix} {bit} p next) =
    let r = prefixed frame allowed prefix bit p 0xeb (next ∷ rest) (record { no_rex_byte = refl; no_add = refl; no_short_add = refl; no_lea = refl }) in
    rw (append_assoc prefix (0xeb ∷ next ∷ []) rest) r.reads
reads_terminator frame allowed code rest (near_jump {prefix} {bit} p next) =
    let r = prefixed frame allowed prefix bit p 0xe9 (next ∷ rest) (record { no_rex_byte = refl; no_add = refl; no_short_add = refl; no_lea = refl }) in
    rw (append_assoc prefix (0xe9 ∷ next ∷ []) rest) r.reads
reads_terminator frame allowed code rest (memory_jump {prefix} {bit} p modrm e) =
    let r = prefixed frame allowed prefix bit p 0xff (modrm ∷ rest) (record { no_rex_byte = refl; no_add = refl; no_short_add = refl; no_lea = refl }) in
    rw (append_assoc prefix (0xff ∷ modrm ∷ []) rest) (r.reads ∙ rw (memory_jumps modrm e) refl)

pub terminator_read : (frame : Option Register) (allowed : Bool) (bytes : List ℕ) → BeginsWithTerminator bytes → parsed_instruction frame allowed bytes ≡ Ok None
terminator_read frame allowed bytes b = rw b.2 (reads_terminator frame allowed b.0 b.1 b.3)

-- ---- bytes that are missing
cut_add : (frame : Option Register) (rex : ℕ) (number : List ℕ) → IsRexW rex → 1 ≤ length number → length number < 4 → parsed_instruction frame true (rex ∷ 0x81 ∷ 0xc4 ∷ number) ≡ Err NotEnoughData
cut_add frame rex [] w some few = absurd (omega arith)
cut_add frame rex (n ∷ rest) w some few = adjusts frame rex (0x81 ∷ 0xc4 ∷ n ∷ rest) (with_word AddSP (n ∷ rest)) w refl ∙ rw (word_lacks AddSP (n ∷ rest) few) refl

cut_lea : (frame : Option Register) (rex : ℕ) (base : Register) (number : List ℕ) → NamesFrame frame rex base → 1 ≤ length number → length number < 4 → parsed_instruction frame true (rex ∷ 0x8d ∷ (0xa0 + register_number base % 8) ∷ number) ≡ Err NotEnoughData
cut_lea frame rex base [] named some few = absurd (omega arith)
cut_lea frame rex base (n ∷ rest) named some few =
    adjusts frame rex (0x8d ∷ (0xa0 + register_number base % 8) ∷ n ∷ rest) (Err NotEnoughData) named.wide
    (is_lea frame rex base named (0xa0 + register_number base % 8) n rest ∙ ap Some (lea_reads_word (register_number base) n rest ∙ word_lacks AddSPFromFP (n ∷ rest) few))

parsed_empty : (frame : Option Register) (allowed : Bool) → parsed_instruction frame allowed [] ≡ Err NotEnoughData
unfolding parsed_instruction
parsed_empty frame allowed = refl

pub cut_read : (frame : Option Register) (allowed : Bool) (bytes : List ℕ) → IsCut frame allowed bytes → parsed_instruction frame allowed bytes ≡ Err NotEnoughData
cut_read frame allowed bytes empty = parsed_empty frame allowed
cut_read frame allowed bytes (add_cut {rex} {number} w some few) = cut_add frame rex number w some few
cut_read frame allowed bytes (lea_cut {rex} {base} {number} named some few) = cut_lea frame rex base number named some few

-- ---- what is answered for one instruction
pub parsed_is : (frame : Option Register) (allowed : Bool) (bytes : List ℕ) → IsParsed frame allowed bytes (parsed_instruction frame allowed bytes)
parsed_is frame allowed bytes =
    let right = is_read_rightly frame allowed bytes in
    record {
      instruction = λ i rest. (λ e. subst (IsReadRightly frame allowed bytes) e right, begins_read frame allowed bytes i rest);
      terminator = (λ e. subst (IsReadRightly frame allowed bytes) e right, terminator_read frame allowed bytes);
      cut = (λ e. subst (IsReadRightly frame allowed bytes) e right, cut_read frame allowed bytes);
      one = λ e. subst (IsReadRightly frame allowed bytes) e right;
    }
