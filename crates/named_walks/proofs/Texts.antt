-- The lines of states and of threads, one after another; and where no file was mapped they are those without names.
use Rattle.std.proofs.Common.{◌≡◌, ℕ, ◌+◌, ◌-◌, ◌^◌, ◌<◌, ◌≤◌, List, [], ◌∷◌, ◌++◌, length, map, drop, get_or, slice_index, Result, Ok, Err, false, Bool, refl, sym, ap, ◌∙◌, arith, append_assoc, length-append}
use Rattle.std.specs.Prelude.{codes, min, IsTrue, OnOk}
use Rattle.std.proofs.lemmas.List.{append-nil, drop_more}
use Rattle.std.specs.Fmt.{decimal}
use Rattle.memory_image.specs.Results.{result_map}
use Rattle.core_file.specs.MappedParts.{PartValue}
use Rattle.unwind_definitions.specs.Columns as column
use Rattle.unwind_arch.specs.declared.x86_64.Context.{Context}
use Rattle.format_frames.specs.declared.machine.Stepped.{Stepped}
use Rattle.stack_steps.specs.declared.error.DeliverError.{DeliverError}
use Rattle.stack_steps.specs.Modules.{SpaceValue}
use Rattle.stack_report.specs.Digits.{hexadecimal}
use Rattle.stack_report.specs.Report.{end_line, fields_text, frame_line, frame_lines, line, state_fields, state_line}
use Rattle.core_walks.specs.MappedWalks.{is_mapped}
use Rattle.core_walks.specs.Lines.{thread_text, threads_text, walked_text}
use Rattle.mapped_names.specs.Places.{place_of}
use Rattle.named_walks.specs.Marking.{AreMarkedMapped, context_of, marked_line_of, stopped_at}
use Rattle.named_walks.specs.Named.{frame_head, name_text, named_line, named_lines, named_thread_text, named_threads_text, named_walk_text}
use Rattle.named_walks.proofs.Marks.{without_marks}

abbrev pub no_state : Stepped
no_state = record { context = record { registers = []; ra = 0; mcxsr = 0; fcw = 0 }; signal = false }

-- a state's line, and then those of the states after it
pub lines_more : (files : List ℕ → List ℕ) (parts : List PartValue) (visited : List Stepped) (i : ℕ) (old new : List ℕ) → i < length visited → new ≡ old ++ named_line files parts i (get_or visited i no_state)
    → new ++ named_lines files parts (i + 1) (drop (i + 1) visited) ≡ old ++ named_lines files parts i (drop i visited)
lines_more files parts visited i old new within put =
    rw put (append_assoc old (named_line files parts i (get_or visited i no_state)) (named_lines files parts (i + 1) (drop (i + 1) visited)))
    ∙ ap (λ (ss : List Stepped). old ++ named_lines files parts i ss) (sym (drop_more visited i no_state within))

-- a thread's lines, and then those of the threads after it
pub threads_more : (files : List ℕ → List ℕ) (parts : List PartValue) (space : SpaceValue) (limit index : ℕ) (c : Context) (cs all : List Context) (old new : List ℕ) → all ≡ c ∷ cs → new ≡ old ++ named_thread_text files parts space limit index c
    → new ++ named_threads_text files parts space limit (index + 1) cs ≡ old ++ named_threads_text files parts space limit index all
threads_more files parts space limit index c cs all old new steps put =
    rw put (append_assoc old (named_thread_text files parts space limit index c) (named_threads_text files parts space limit (index + 1) cs))
    ∙ ap (λ (ts : List Context). old ++ named_threads_text files parts space limit index ts) (sym steps)

-- what was put, and a label and a number after it
pair_put : (old one two text label number : List ℕ) → one ≡ old ++ text → two ≡ one ++ label ++ number → two ≡ old ++ (text ++ label ++ number)
pair_put old one two text label number is put =
    put ∙ ap (λ (t : List ℕ). t ++ label ++ number) is ∙ ap (λ (t : List ℕ). t ++ number) (append_assoc old text label) ∙ append_assoc old (text ++ label) number

-- the registers of a state, put one after another
pub fields_put : (c : Context) (r0 r1 r2 r3 r4 r5 r6 r7 r8 : List ℕ) → r1 ≡ r0 ++ codes " ra=" ++ hexadecimal c.ra → r2 ≡ r1 ++ codes " sp=" ++ hexadecimal (slice_index c.registers column.rsp)
    → r3 ≡ r2 ++ codes " rbx=" ++ hexadecimal (slice_index c.registers column.rbx) → r4 ≡ r3 ++ codes " rbp=" ++ hexadecimal (slice_index c.registers column.rbp)
    → r5 ≡ r4 ++ codes " r12=" ++ hexadecimal (slice_index c.registers column.r12) → r6 ≡ r5 ++ codes " r13=" ++ hexadecimal (slice_index c.registers column.r13)
    → r7 ≡ r6 ++ codes " r14=" ++ hexadecimal (slice_index c.registers column.r14) → r8 ≡ r7 ++ codes " r15=" ++ hexadecimal (slice_index c.registers column.r15) → r8 ≡ r0 ++ fields_text c
unfolding fields_text state_fields
fields_put c r0 r1 r2 r3 r4 r5 r6 r7 r8 e1 e2 e3 e4 e5 e6 e7 e8 =
    let register : ℕ → List ℕ = λ (n : ℕ). hexadecimal (slice_index c.registers n) in
    let t1 : List ℕ = codes " ra=" ++ hexadecimal c.ra in
    let t2 : List ℕ = t1 ++ codes " sp=" ++ register column.rsp in
    let t3 : List ℕ = t2 ++ codes " rbx=" ++ register column.rbx in
    let t4 : List ℕ = t3 ++ codes " rbp=" ++ register column.rbp in
    let t5 : List ℕ = t4 ++ codes " r12=" ++ register column.r12 in
    let t6 : List ℕ = t5 ++ codes " r13=" ++ register column.r13 in
    let t7 : List ℕ = t6 ++ codes " r14=" ++ register column.r14 in
    let p1 : r1 ≡ r0 ++ t1 = e1 ∙ append_assoc r0 (codes " ra=") (hexadecimal c.ra) in
    let p2 : r2 ≡ r0 ++ t2 = pair_put r0 r1 r2 t1 (codes " sp=") (register column.rsp) p1 e2 in
    let p3 : r3 ≡ r0 ++ t3 = pair_put r0 r2 r3 t2 (codes " rbx=") (register column.rbx) p2 e3 in
    let p4 : r4 ≡ r0 ++ t4 = pair_put r0 r3 r4 t3 (codes " rbp=") (register column.rbp) p3 e4 in
    let p5 : r5 ≡ r0 ++ t5 = pair_put r0 r4 r5 t4 (codes " r12=") (register column.r12) p4 e5 in
    let p6 : r6 ≡ r0 ++ t6 = pair_put r0 r5 r6 t5 (codes " r13=") (register column.r13) p5 e6 in
    let p7 : r7 ≡ r0 ++ t7 = pair_put r0 r6 r7 t6 (codes " r14=") (register column.r14) p6 e7 in
    pair_put r0 r7 r8 t7 (codes " r15=") (register column.r15) p7 e8

-- a state's number and its registers
pub head_put : (old one two label number fields : List ℕ) → one ≡ old ++ label ++ number → two ≡ one ++ fields → two ≡ old ++ (label ++ number ++ fields)
head_put old one two label number fields put last = last ∙ ap (λ (t : List ℕ). t ++ fields) (put ∙ append_assoc old label number) ∙ append_assoc old (label ++ number) fields

-- a thread has some text
pub text_some : (files : List ℕ → List ℕ) (parts : List PartValue) (space : SpaceValue) (limit index : ℕ) (c : Context) → 0 < length (named_thread_text files parts space limit index c)
unfolding named_thread_text
text_some files parts space limit index c = omega arith

-- a thread's number and its walk, put one after the other
pub thread_put : {E : Type 0} (files : List ℕ → List ℕ) (parts : List PartValue) (space : SpaceValue) (limit index : ℕ) (c : Context) (old one two new : List ℕ) (walk : Result (List Stepped) DeliverError) (r : Result (Unit {0}) E)
    → one ≡ old ++ codes "thread " ++ decimal index → two ≡ one ++ 10 ∷ [] → walk ≡ marked_line_of space limit (stopped_at c)
    → OnOk r (new ≡ two ++ named_walk_text files parts walk) → OnOk r (new ≡ old ++ named_thread_text files parts space limit index c)
unfolding named_thread_text
thread_put files parts space limit index c old one two new walk (Ok done) head ended walked put =
    let first : two ≡ old ++ line (codes "thread " ++ decimal index) = ended ∙ ap (λ (t : List ℕ). t ++ 10 ∷ []) (head ∙ append_assoc old (codes "thread ") (decimal index)) ∙ append_assoc old (codes "thread " ++ decimal index) (10 ∷ []) in
    put ∙ ap (λ (t : List ℕ). t ++ named_walk_text files parts walk) first ∙ append_assoc old (line (codes "thread " ++ decimal index)) (named_walk_text files parts walk)
    ∙ ap (λ (w : Result (List Stepped) DeliverError). old ++ (line (codes "thread " ++ decimal index) ++ named_walk_text files parts w)) walked
thread_put files parts space limit index c old one two new walk (Err error) head ended walked put = tt

-- whether a walk met nothing that isn't mapped, by what was answered of it
pub mapped_same : (r : Result (Unit {0}) DeliverError) (visited : List Stepped) (due : Result (List Stepped) DeliverError) → result_map (λ done. visited) r ≡ due → is_mapped r ≡ is_mapped due
mapped_same (Ok done) visited due is = ap (λ (w : Result (List Stepped) DeliverError). is_mapped w) is
mapped_same (Err error) visited due is = ap (λ (w : Result (List Stepped) DeliverError). is_mapped w) is

-- there is a text after each thread that is longer than there are threads so far
pub count_fits : (files : List ℕ → List ℕ) (parts : List PartValue) (space : SpaceValue) (limit index : ℕ) (c : Context) (old new : List ℕ) → new ≡ old ++ named_thread_text files parts space limit index c
    → index ≤ length old → length new < 2 ^ 64 → (min (index + 1) (2 ^ 64 - 1) ≡ index + 1) × (index + 1 ≤ length new)
count_fits files parts space limit index c old new put fits long =
    let some = text_some files parts space limit index c in
    let size : length new ≡ length old + length (named_thread_text files parts space limit index c) = ap length put ∙ length-append old (named_thread_text files parts space limit index c) in
    (omega arith, omega arith)

-- ---- over a part of the memory

thread_same : (files : List ℕ → List ℕ) (parts : List PartValue) (part whole : SpaceValue) (limit index : ℕ) (c : Context) → marked_line_of whole limit (stopped_at c) ≡ marked_line_of part limit (stopped_at c)
    → named_thread_text files parts whole limit index c ≡ named_thread_text files parts part limit index c
unfolding named_thread_text
thread_same files parts part whole limit index c same = ap (λ (w : Result (List Stepped) DeliverError). line (codes "thread " ++ decimal index) ++ named_walk_text files parts w) same

-- the texts are the same over a space over which each walk is the same that met nothing unmapped
pub threads_mapped : (files : List ℕ → List ℕ) (parts : List PartValue) (part whole : SpaceValue) (limit : ℕ) →
    ((c : Context) → IsTrue (is_mapped (marked_line_of part limit (stopped_at c))) → marked_line_of whole limit (stopped_at c) ≡ marked_line_of part limit (stopped_at c))
    → (index : ℕ) (cs : List Context) → AreMarkedMapped part limit cs → named_threads_text files parts whole limit index cs ≡ named_threads_text files parts part limit index cs
threads_mapped files parts part whole limit same index [] mapped = refl
threads_mapped files parts part whole limit same index (c ∷ cs) mapped =
    let later = threads_mapped files parts part whole limit same (index + 1) cs mapped.1 in
    let here = thread_same files parts part whole limit index c (same c mapped.0) in
    rw (here, later) refl

-- ---- without names

pub no_name : (files : List ℕ → List ℕ) (interrupted : Bool) (a : ℕ) → name_text files [] interrupted a ≡ []
unfolding name_text place_of
no_name files interrupted a = refl

pub head_is : (i : ℕ) (c : Context) → line (frame_head i c) ≡ frame_line i c
unfolding frame_line state_line fields_text
head_is i c = refl

line_is : (files : List ℕ → List ℕ) (i : ℕ) (s : Stepped) → named_line files [] i s ≡ frame_line i s.context
line_is files i s =
    ap (λ (text : List ℕ). line (frame_head i s.context ++ text)) (no_name files s.signal s.context.ra) ∙ ap (λ (text : List ℕ). line text) (append-nil (frame_head i s.context)) ∙ head_is i s.context

lines_are : (files : List ℕ → List ℕ) (i : ℕ) (ss : List Stepped) → named_lines files [] i ss ≡ frame_lines i (map context_of ss)
lines_are files i [] = refl
lines_are files i (s ∷ ss) =
    ap (λ (text : List ℕ). text ++ named_lines files [] (i + 1) ss) (line_is files i s) ∙ ap (λ (text : List ℕ). frame_line i s.context ++ text) (lines_are files (i + 1) ss)

walk_is : (files : List ℕ → List ℕ) (r : Result (List Stepped) DeliverError) → named_walk_text files [] r ≡ walked_text (result_map (map context_of) r)
walk_is files (Ok ss) = ap (λ (text : List ℕ). text ++ end_line) (lines_are files 0 ss)
walk_is files (Err e) = refl

thread_is : (files : List ℕ → List ℕ) (space : SpaceValue) (limit index : ℕ) (c : Context) → named_thread_text files [] space limit index c ≡ thread_text space limit index c
unfolding named_thread_text thread_text
thread_is files space limit index c =
    ap (λ (text : List ℕ). line (codes "thread " ++ decimal index) ++ text) (walk_is files (marked_line_of space limit (stopped_at c)) ∙ ap walked_text (without_marks space limit (stopped_at c)))

pub threads_are : (files : List ℕ → List ℕ) (space : SpaceValue) (limit index : ℕ) (cs : List Context) → named_threads_text files [] space limit index cs ≡ threads_text space limit index cs
threads_are files space limit index [] = refl
threads_are files space limit index (c ∷ cs) =
    ap (λ (text : List ℕ). text ++ named_threads_text files [] space limit (index + 1) cs) (thread_is files space limit index c)
    ∙ ap (λ (text : List ℕ). thread_text space limit index c ++ text) (threads_are files space limit (index + 1) cs)
