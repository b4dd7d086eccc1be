-- The handler that a record of a function names: record by record, and where the memory of the image is a function.
use Rattle.std.proofs.Common.{◌≡◌, ℕ, zero, suc, ◌+◌, ◌-◌, ◌*◌, ◌%◌, ◌<◌, Bool, true, false, cond, ltb, List, [], ◌∷◌, length, take, drop, Option, Some, None, Result, Ok, Err, refl, sym, ap, subst, ◌∙◌, arith, inl, inr}
use Rattle.std.specs.Prelude.{◌||◌, ◌⊎◌, ◌==◌}
use Rattle.std.proofs.lemmas.List.{drop-drop}
use Rattle.pe_unwind_info.specs.declared.x86_64.fault.FrameFault.{FrameFault}
use Rattle.pe_unwind_info.specs.declared.x86_64.fault.FrameFault.TheVariants.{Info as InfoFault, ChainLimit}
use Rattle.pe_unwind_info.specs.declared.x86_64.function_table.RuntimeFunction.{RuntimeFunction}
use Rattle.pe_unwind_info.specs.declared.x86_64.handler.Handler.{Handler}
use Rattle.pe_unwind_info.specs.declared.x86_64.unwind_info.UnwindInfoHeader.{UnwindInfoHeader}
use Rattle.pe_unwind_info.specs.Header.{version_of, has_flag}
use Rattle.pe_unwind_info.specs.Numbers.{u32_at}
use Rattle.pe_unwind_info.specs.Info.{Info, Trailer, OnException, OnTermination, ChainedTo, handler_in, chained_trailer, chained_in, trailer_of, with_header, parsed_info}
use Rattle.pe_unwind_info.specs.Frame.{info_in, chained_by, chained_of}
use Rattle.pe_unwind_info.specs.FrameOf.{Image}
use Rattle.pe_unwind_info.specs.Chain.{with_first, then_chain, chain_of}
use Rattle.pe_unwind_info.specs.Epilog.{result_map}
use Rattle.pe_unwind_info.specs.HandlerData.{names_handler, data_offset}
use Rattle.pe_unwind_info.specs.Handlers.{OwnRecord, handler_if_named, with_own, then_records, records_of, handler_among, handler_of, Naming, Answers, GoesOn, naming_of, ByNaming, IsNamed, IsHandler, first_naming, infos_of, handler_named, handler_or_fault, NamesNone, HasHandler, HasFault}

-- ---- record by record
module _ (gives : ℕ → Option (List ℕ) → Type 0) where
  pub named_none : (n : ℕ) (answer : Result (Option Handler) FrameFault) → answer ≡ Ok None → IsNamed gives n None answer
  unfolding IsNamed
  named_none zero answer e = e
  named_none (suc n) answer e = e

  pub named_limit : (n : ℕ) (function : RuntimeFunction) (answer : Result (Option Handler) FrameFault) → n ≡ 0 → answer ≡ Err ChainLimit → IsNamed gives n (Some function) answer
  unfolding IsNamed
  named_limit zero function answer z e = e
  named_limit (suc n) function answer z e = absurd (omega arith)

  -- a record that was read, with the memory that was given for it
  pub record IsReadAs (function : RuntimeFunction) (naming : Naming) : Type 0 where
    pub memory : Option (List ℕ)
    pub given : gives function.unwind_info_address memory
    pub is : naming_of function (info_in function.unwind_info_address memory) ≡ naming

  pub read_as : (function : RuntimeFunction) (naming : Naming) → ((memory : Option (List ℕ)) × gives function.unwind_info_address memory × (naming ≡ naming_of function (info_in function.unwind_info_address memory))) → IsReadAs function naming
  read_as function naming l = record { memory = l.0; given = l.1; is = sym l.2 }

  pub named_goes : (n : ℕ) (function : RuntimeFunction) (next : Option RuntimeFunction) (answer : Result (Option Handler) FrameFault) → 0 < n → IsReadAs function (GoesOn next) → IsNamed gives (n - 1) next answer → IsNamed gives n (Some function) answer
  unfolding IsNamed
  named_goes zero function next answer lt read later = absurd (omega arith)
  named_goes (suc n) function next answer lt read later =
      let less : suc n - 1 ≡ n = omega arith in
      let P : Naming → Type 0 = λ naming. ByNaming naming (IsNamed gives n) answer in
      (read.memory, read.given, subst P (sym read.is) (subst (λ (m : ℕ). IsNamed gives m next answer) less later))

  pub named_answers : (n : ℕ) (function : RuntimeFunction) (given answer : Result (Option Handler) FrameFault) → 0 < n → IsReadAs function (Answers given) → answer ≡ given → IsNamed gives n (Some function) answer
  unfolding IsNamed
  named_answers zero function given answer lt read e = absurd (omega arith)
  named_answers (suc n) function given answer lt read e =
      let P : Naming → Type 0 = λ naming. ByNaming naming (IsNamed gives n) answer in
      (read.memory, read.given, subst P (sym read.is) e)

-- ---- a record that names a handler is the last
no_chain : (make : ℕ → List ℕ → Trailer) → ((address : ℕ) (bytes : List ℕ) → chained_by (Some (make address bytes)) ≡ None) → (after : List ℕ) → chained_by (handler_in make after) ≡ None
no_chain make none after = go (ltb (length after) 4)
  where
    go : (c : Bool) → chained_by (cond c None (Some (make (u32_at 0 after) (drop 4 after)))) ≡ None
    go true = refl
    go false = none (u32_at 0 after) (drop 4 after)

pub naming_ends : (info : Info) → names_handler info ≡ true → chained_of info ≡ None
naming_ends info e = go (has_flag 1 info.header) refl (has_flag 2 info.header) refl e
  where
    go : (a : Bool) → has_flag 1 info.header ≡ a → (b : Bool) → has_flag 2 info.header ≡ b → (a || b) ≡ true → chained_of info ≡ None
    go true p b q e = rw p (no_chain OnException (λ address bytes. refl) info.after)
    go false p true q e = rw (p, q) (no_chain OnTermination (λ address bytes. refl) info.after)
    go false p false q e = absurd cc

none_after : (memory : Image) (n : ℕ) → records_of memory n None ≡ Ok []
unfolding records_of
none_after memory zero = refl
none_after memory (suc n) = refl

passed : (own : OwnRecord) (r : Result (List OwnRecord) FrameFault) → names_handler own.1 ≡ false → handler_among (with_own own r) ≡ handler_among r
passed own (Ok records) e = rw e refl
passed own (Err fault) e = refl

-- ---- where the memory of the image is a function
module _ (gives : ℕ → Option (List ℕ) → Type 0) (memory : Image) (only : (rva : ℕ) (given : Option (List ℕ)) → gives rva given → given ≡ memory rva) where
  after_record : (n : ℕ) (function : RuntimeFunction) (r : Result Info FrameFault) (answer : Result (Option Handler) FrameFault) → ((next : Option RuntimeFunction) → IsNamed gives n next answer → answer ≡ handler_among (records_of memory n next)) →
      ByNaming (naming_of function r) (IsNamed gives n) answer → answer ≡ handler_among (then_records function r (λ info. records_of memory n (chained_of info)))
  after_record n function (Err fault) answer later by = by
  after_record n function (Ok info) answer later by = go (names_handler info) refl by
    where
      go : (c : Bool) → names_handler info ≡ c → ByNaming (cond c (Answers (handler_if_named (Some (function, info)))) (GoesOn (chained_of info))) (IsNamed gives n) answer → answer ≡ handler_among (with_own (function, info) (records_of memory n (chained_of info)))
      go true e by = rw (naming_ends info e, none_after memory n, e) by
      go false e by = later (chained_of info) by ∙ sym (passed (function, info) (records_of memory n (chained_of info)) e)

  named_is : (n : ℕ) (next : Option RuntimeFunction) (answer : Result (Option Handler) FrameFault) → IsNamed gives n next answer → answer ≡ handler_among (records_of memory n next)
  unfolding IsNamed records_of
  named_is zero None answer l = l
  named_is zero (Some function) answer l = l
  named_is (suc n) None answer l = l
  named_is (suc n) (Some function) answer l =
      let rva = function.unwind_info_address in
      after_record n function (info_in rva l.0) answer (λ next. named_is n next answer) l.2
      ∙ ap (λ (m : Option (List ℕ)). handler_among (then_records function (info_in rva m) (λ info. records_of memory n (chained_of info)))) (only rva l.0 l.1)

  pub handler_is : (function : Option RuntimeFunction) (answer : Result (Option Handler) FrameFault) → IsHandler gives function answer → answer ≡ handler_of memory function
  handler_is function answer is = named_is 33 function answer is

-- ---- why there is a handler, none or a fault
module _ (memory : Image) (function : Option RuntimeFunction) where
  pub some_by : (handler : Handler) → (handler_of memory function ≡ Ok (Some handler) → HasHandler memory function handler) × (HasHandler memory function handler → handler_of memory function ≡ Ok (Some handler))
  some_by handler = (λ e. go (records_of memory 33 function) refl e, λ has. rw (has.1.are, has.1.first, has.2) refl)
    where
      found : (records : List OwnRecord) → records_of memory 33 function ≡ Ok records → (o : Option OwnRecord) → first_naming records ≡ o → handler_if_named o ≡ Ok (Some handler) → HasHandler memory function handler
      found records are None first e = absurd cc
      found records are (Some own) first e = named (handler_named own) refl e
        where
          named : (h : Option Handler) → handler_named own ≡ h → handler_or_fault own.0.unwind_info_address h ≡ Ok (Some handler) → HasHandler memory function handler
          named None is e = absurd cc
          named (Some h) is e = (own, record { records = records; are = are; first = first }, is ∙ (let same : h ≡ handler = cc in ap Some same))

      go : (r : Result (List OwnRecord) FrameFault) → records_of memory 33 function ≡ r → handler_among r ≡ Ok (Some handler) → HasHandler memory function handler
      go (Err fault) are e = absurd cc
      go (Ok records) are e = found records are (first_naming records) refl e

  pub none_by : (handler_of memory function ≡ Ok None → NamesNone memory function) × (NamesNone memory function → handler_of memory function ≡ Ok None)
  none_by = (λ e. go (records_of memory 33 function) refl e, λ names. rw (names.1, names.2) refl)
    where
      found : (records : List OwnRecord) → records_of memory 33 function ≡ Ok records → (o : Option OwnRecord) → first_naming records ≡ o → handler_if_named o ≡ Ok None → NamesNone memory function
      found records are None first e = (records, are, first)
      found records are (Some own) first e = named (handler_named own) e
        where
          named : (h : Option Handler) → handler_or_fault own.0.unwind_info_address h ≡ Ok None → NamesNone memory function
          named None e = absurd cc
          named (Some h) e = absurd cc

      go : (r : Result (List OwnRecord) FrameFault) → records_of memory 33 function ≡ r → handler_among r ≡ Ok None → NamesNone memory function
      go (Err fault) are e = absurd cc
      go (Ok records) are e = found records are (first_naming records) refl e

  pub fault_by : (fault : FrameFault) → (handler_of memory function ≡ Err fault → HasFault memory function fault) × (HasFault memory function fault → handler_of memory function ≡ Err fault)
  fault_by fault = (λ e. go (records_of memory 33 function) refl e, back)
    where
      found : (records : List OwnRecord) → records_of memory 33 function ≡ Ok records → (o : Option OwnRecord) → first_naming records ≡ o → handler_if_named o ≡ Err fault → HasFault memory function fault
      found records are None first e = absurd cc
      found records are (Some own) first e = named (handler_named own) refl e
        where
          named : (h : Option Handler) → handler_named own ≡ h → handler_or_fault own.0.unwind_info_address h ≡ Err fault → HasFault memory function fault
          named None is e = inr (own, record { records = records; are = are; first = first }, is, (let same : InfoFault own.0.unwind_info_address ≡ fault = cc in sym same))
          named (Some h) is e = absurd cc

      go : (r : Result (List OwnRecord) FrameFault) → records_of memory 33 function ≡ r → handler_among r ≡ Err fault → HasFault memory function fault
      go (Err other) are e = inl (are ∙ (let same : other ≡ fault = cc in ap Err same))
      go (Ok records) are e = found records are (first_naming records) refl e

      back : HasFault memory function fault → handler_of memory function ≡ Err fault
      back (inl are) = rw are refl
      back (inr named) = rw (named.1.are, named.1.first, named.2, named.3) refl

-- ---- the records of a function as a list of records alone
pub chain_is : (memory : Image) (n : ℕ) (function : Option RuntimeFunction) → chain_of memory n function ≡ result_map infos_of (records_of memory n function)
unfolding chain_of records_of
chain_is memory zero None = refl
chain_is memory zero (Some function) = refl
chain_is memory (suc n) None = refl
chain_is memory (suc n) (Some function) = go (info_in function.unwind_info_address (memory function.unwind_info_address)) (λ next. chain_is memory n next)
  where
    joined : (info : Info) (r : Result (List OwnRecord) FrameFault) → with_first info (result_map infos_of r) ≡ result_map infos_of (with_own (function, info) r)
    joined info (Ok records) = refl
    joined info (Err fault) = refl

    go : (r : Result Info FrameFault) → ((next : Option RuntimeFunction) → chain_of memory n next ≡ result_map infos_of (records_of memory n next)) →
        then_chain r (λ info. chain_of memory n (chained_of info)) ≡ result_map infos_of (then_records function r (λ info. records_of memory n (chained_of info)))
    go (Err fault) later = refl
    go (Ok info) later = ap (with_first info) (later (chained_of info)) ∙ joined info (records_of memory n (chained_of info))

-- ---- the data of a record's handler
data_in : (make : ℕ → List ℕ → Trailer) (after : List ℕ) (t : Trailer) → handler_in make after ≡ Some t → make (u32_at 0 after) (drop 4 after) ≡ t
data_in make after t e = go (ltb (length after) 4) e
  where
    go : (c : Bool) → cond c None (Some (make (u32_at 0 after) (drop 4 after))) ≡ Some t → make (u32_at 0 after) (drop 4 after) ≡ t
    go true e = absurd cc
    go false e = cc

data_of : Trailer → Option (List ℕ)
data_of (OnException address content) = Some content
data_of (OnTermination address content) = Some content
data_of (ChainedTo function) = None

-- what stands after the handler's address
data_stands : (info : Info) (t : Trailer) (content : List ℕ) → trailer_of info ≡ Some t → data_of t ≡ Some content → drop 4 info.after ≡ content
unfolding data_of
data_stands info t content is has = go (has_flag 1 info.header) (has_flag 2 info.header) (has_flag 4 info.header) is
  where
    same : (xs ys : List ℕ) → ◌≡◌ {A = Option (List ℕ)} (Some xs) (Some ys) → xs ≡ ys
    same xs ys e = cc

    chained : (o : Option RuntimeFunction) → chained_trailer o ≡ Some t → drop 4 info.after ≡ content
    chained None e = absurd cc
    chained (Some function) e = (let other : ChainedTo function ≡ t = cc in let none : None ≡ Some content = ap data_of other ∙ has in absurd cc)

    go : (a b c : Bool) → cond a (handler_in OnException info.after) (cond b (handler_in OnTermination info.after) (cond c (chained_trailer (chained_in info.after)) None)) ≡ Some t → drop 4 info.after ≡ content
    go true b c e = same (drop 4 info.after) content (ap data_of (data_in OnException info.after t e) ∙ has)
    go false true c e = same (drop 4 info.after) content (ap data_of (data_in OnTermination info.after t e) ∙ has)
    go false false true e = chained (chained_in info.after) e
    go false false false e = absurd cc

-- what a record that was read holds
abbrev record_of : UnwindInfoHeader → List ℕ → Info
record_of header rest = record { header = header; slots = take (2 * header.unwind_codes_len) rest; after = drop (2 * (header.unwind_codes_len + header.unwind_codes_len % 2)) rest }

parsed_after : (header : UnwindInfoHeader) (rest : List ℕ) (info : Info) → with_header header rest ≡ Some info → (info.header ≡ header) × (info.after ≡ drop (2 * (header.unwind_codes_len + header.unwind_codes_len % 2)) rest)
parsed_after header rest info e = go ((version_of header == 1) || (version_of header == 2)) (ltb (length rest) (2 * header.unwind_codes_len)) e
  where
    go : (a b : Bool) → cond a (cond b None (Some (record_of header rest))) None ≡ Some info → (info.header ≡ header) × (info.after ≡ drop (2 * (header.unwind_codes_len + header.unwind_codes_len % 2)) rest)
    go true true e = absurd cc
    go true false e = (let is : record_of header rest ≡ info = cc in (ap (λ (i : Info). i.header) (sym is), ap (λ (i : Info). i.after) (sym is)))
    go false b e = absurd cc

record_data : (bytes : List ℕ) (info : Info) (t : Trailer) (content : List ℕ) → parsed_info bytes ≡ Some info → trailer_of info ≡ Some t → data_of t ≡ Some content → drop (data_offset info.header) bytes ≡ content
record_data [] info t content parsed is has = absurd cc
record_data (a ∷ []) info t content parsed is has = absurd cc
record_data (a ∷ b ∷ []) info t content parsed is has = absurd cc
record_data (a ∷ b ∷ c ∷ []) info t content parsed is has = absurd cc
record_data (a ∷ b ∷ c ∷ d ∷ rest) info t content parsed is has =
    let bytes : List ℕ = a ∷ b ∷ c ∷ d ∷ rest in
    let header : UnwindInfoHeader = record { version_and_flags = a; prolog_size = b; unwind_codes_len = c; frame_register_and_offset = d } in
    let made = parsed_after header rest info parsed in
    let even : ℕ = 2 * (c + c % 2) in
    let count : info.header.unwind_codes_len ≡ c = ap (λ (h : UnwindInfoHeader). h.unwind_codes_len) made.0 in
    let far : data_offset info.header ≡ 4 + even + 4 = rw count (omega arith) in
    ap (λ (n : ℕ). drop n bytes) far
    ∙ sym (drop-drop 4 (4 + even) bytes)
    ∙ ap (drop 4) (sym (drop-drop even 4 bytes))
    ∙ ap (drop 4) (sym made.1)
    ∙ data_stands info t content is has

pub data_at_offset : (bytes : List ℕ) (info : Info) (address : ℕ) (content : List ℕ) → parsed_info bytes ≡ Some info → (trailer_of info ≡ Some (OnException address content)) ⊎ (trailer_of info ≡ Some (OnTermination address content)) → drop (data_offset info.header) bytes ≡ content
unfolding data_of
data_at_offset bytes info address content parsed (inl is) = record_data bytes info (OnException address content) content parsed is refl
data_at_offset bytes info address content parsed (inr is) = record_data bytes info (OnTermination address content) content parsed is refl
