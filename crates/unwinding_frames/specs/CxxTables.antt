-- What C++ functions ask of an exception, on any bytes whatever: the call site that decides, the chain of action records that its
-- index leads to, and the types that these name.
-- Itanium C++ ABI, exception handling, level II, section 2.5, and the language-specific data area as it lays it out.
use Rattle.std.specs.Prelude.{ℕ, zero, suc, ◌+◌, ◌-◌, ◌*◌, ◌^◌, Bool, true, false, not, ◌&&◌, ◌||◌, List, length, Option, Some, None, Result, Ok, Err, nat_lt, nat_le, ◌==◌, if◌then◌else◌}
use Rattle.std.specs.List.{list_any}
use Rattle.std.specs.Result.{result_map_both}
use Rattle.memory_image.specs.Image.{Span}
use Rattle.memory_image.specs.Results.{result_map}
use Rattle.unwind_definitions.specs.Faults.{◌>>=◌}
use Rattle.unwind_definitions.specs.declared.error.Error.TheVariants.{UnsupportedPointerEncoding}
use Rattle.unwind_definitions.specs.Input.{Input, address_of, skip, split, uleb, sleb}
use Rattle.unwind_definitions.specs.PointerEncodings.{DW_EH_PE_absptr, DW_EH_PE_udata2, DW_EH_PE_udata4, DW_EH_PE_udata8, DW_EH_PE_sdata2, DW_EH_PE_sdata4, DW_EH_PE_sdata8, DW_EH_PE_omit}
use Rattle.unwind_definitions.specs.Pointers.{Bases, encoding, format_of, value}
use Rattle.unwind_definitions.specs.LanguageTable.{input_at}
use Rattle.unwind_definitions.specs.Caller.{StepFault}
use Rattle.unwind_definitions.specs.Caller as step
use Rattle.unwind_definitions.specs.LanguageSearch.{Head, CallSite, LanguagePlace, table_reading, address, sum_below, pad_base, call_site}
use Rattle.unwinding_frames.specs.declared.cxx.error.CxxError.{CxxError}
use Rattle.unwinding_frames.specs.declared.cxx.error.CxxError.TheVariants.{Table, Unmapped, NoTypes, TypeOutside, RecordOutside, RecordsLoop}
use Rattle.unwinding_frames.specs.declared.cxx.runtime.ExceptionKind.{ExceptionKind}
use Rattle.unwinding_frames.specs.declared.cxx.runtime.ExceptionKind.TheVariants.{Native, Foreign, Forced}
use Rattle.unwinding_frames.specs.declared.cxx.runtime.CxxRuntime.{CxxRuntime}
use Rattle.unwinding_frames.specs.declared.cxx.runtime.CxxRuntime.TheVariants.{Libstdcxx, Libcxxabi}

-- what a function asks of an exception: nothing, to enter a landing pad for a cleanup, or for the handler or the violated
-- specification of this number, or to end the program
pub data CxxAction : Type 0 where
  NoAction : CxxAction
  Cleanup : ℕ → CxxAction
  Handler : ℕ → ℕ → CxxAction
  Terminate : CxxAction

-- An exception as handlers see it: the addresses of the type descriptions by which it is caught, its own and those of its
-- accessible bases; what it is to the runtime whose personality reads the tables; and which runtime that is.
pub record Exception : Type 0 where
  pub types : List ℕ
  pub kind : ExceptionKind
  pub runtime : CxxRuntime

abbrev pub contains : List ℕ → ℕ → Bool
contains types t = list_any (λ u. u == t) types

-- ---- faults of readings, by their causes

abbrev pub cxx_fault : StepFault → CxxError
cxx_fault (step.Table e) = Table e
cxx_fault (step.Unmapped a) = Unmapped a

abbrev pub reading : {A : Type 0} → Result A StepFault → Result A CxxError
reading = result_map_both (λ x. x) cxx_fault

-- ---- a table's head

-- how the types are encoded, and the address that their entries count down from
pub record Types : Type 0 where
  pub encoding : ℕ
  pub end : ℕ

-- an encoding of types and, unless there are none, how far after this number they end
abbrev pub types_named : Input → Result (Option Types × Input) StepFault
types_named c = do
  e ← table_reading (encoding c)
  if e.0 == DW_EH_PE_omit then Ok (None, e.1) else (do
    n ← table_reading (uleb e.1)
    end ← sum_below (address_of n.1) n.0
    Ok (Some (record { encoding = e.0; end = end }), n.1))

pub record CxxTable : Type 0 where
  pub head : Head
  pub types : Option Types

abbrev pub cxx_table : List Span → Bases → ℕ → Input → Result CxxTable StepFault
cxx_table image bases start c = do
  base ← pad_base image bases start c
  named ← types_named base.1
  site ← table_reading (encoding named.1)
  size ← table_reading (uleb site.1)
  parts ← table_reading (split size.0 size.1)
  Ok (record { head = record { pad_base = base.0; site_encoding = site.0; sites = parts.0; actions = parts.1 }; types = named.0 })

-- ---- the call site that decides

-- what a call site is to an address: the program ends where it begins past it; it decides where it holds it; or it ends before it
abbrev pub site_decision : ℕ → ℕ → CallSite → Result (Option (Option CallSite)) StepFault
site_decision start a s = do
  from ← sum_below start s.from
  if nat_lt a from then Ok (Some None) else (do
    to ← sum_below from s.size
    if nat_lt a to then Ok (Some (Some s)) else Ok None)

abbrev pub site_or : Option (Option CallSite) → Result (Option CallSite) StepFault → Result (Option CallSite) StepFault
site_or (Some s) later = Ok s
site_or None later = later

-- the first call site that decides, among at most so many; none where the program ends
abbrev pub site_from : ℕ → List Span → Bases → ℕ → ℕ → ℕ → Input → Result (Option CallSite) StepFault
site_from zero image bases start a e c = Ok None
site_from (suc turns) image bases start a e c =
    if length c.bytes == 0 then Ok None
    else (call_site image bases e c >>= λ s. site_decision start a s.0 >>= λ d. site_or d (site_from turns image bases start a e s.1))

-- ---- types

-- how many bytes an entry takes; a format of no fixed size is none of a table of types
abbrev pub entry_size : ℕ → Result ℕ CxxError
entry_size format =
    if (format == DW_EH_PE_udata2) || (format == DW_EH_PE_sdata2) then Ok 2
    else (if (format == DW_EH_PE_udata4) || (format == DW_EH_PE_sdata4) then Ok 4
    else (if (format == DW_EH_PE_absptr) || ((format == DW_EH_PE_udata8) || (format == DW_EH_PE_sdata8)) then Ok 8
    else Err (Table UnsupportedPointerEncoding)))

-- the address of a type's entry: they count down from the types' end
abbrev pub entry_address : Types → ℕ → Result ℕ CxxError
entry_address t index = do
  size ← entry_size (format_of t.encoding)
  if nat_le (index * size) t.end then Ok (t.end - index * size) else Err (TypeOutside index)

-- The type that an entry names, by the address of its description. The number 0 names none, whatever numbers are relative to.
abbrev pub type_named : List Span → Bases → ℕ → Input → Result ℕ CxxError
type_named image bases e c = do
  n ← reading (table_reading (value (format_of e) c))
  if n.0 == 0 then Ok 0 else (reading (address image e bases c) >>= λ a. Ok a.0)

abbrev pub type_at : List Span → Bases → Types → ℕ → Result ℕ CxxError
type_at image bases t index = do
  a ← entry_address t index
  type_named image bases t.encoding (input_at image a)

-- whether the handler of a type takes an exception; one of no type takes all
abbrev pub catches : List Span → Bases → Exception → Types → ℕ → Result Bool CxxError
catches image bases x t index = type_at image bases t index >>= λ type. Ok ((type == 0) || contains x.types type)

-- ---- exception specifications

-- whether one of the types that a specification lists, by their indices and 0 after the last, is one of the exception's; at
-- most so many are read
abbrev pub allows_from : ℕ → List Span → Bases → Exception → Types → Input → Result Bool CxxError
allows_from zero image bases x t c = Ok false
allows_from (suc turns) image bases x t c = do
  index ← reading (table_reading (uleb c))
  if index.0 == 0 then Ok false else (do
    type ← type_at image bases t index.0
    if contains x.types type then Ok true else allows_from turns image bases x t index.1)

-- Whether a specification lists no type: 0 stands first.
abbrev pub lists_nothing : Input → Result Bool CxxError
lists_nothing c = reading (table_reading (uleb c)) >>= λ index. Ok (index.0 == 0)

-- Whether a list stops an exception of a kind: a native one that has none of its types, and any other where it lists nothing.
abbrev pub list_stops : List Span → Bases → Exception → Types → Input → ExceptionKind → Result Bool CxxError
list_stops image bases x t c Native = allows_from (length c.bytes + 1) image bases x t c >>= λ allowed. Ok (not allowed)
list_stops image bases x t c Foreign = lists_nothing c
list_stops image bases x t c Forced = lists_nothing c

abbrev pub violates_list : List Span → Bases → Exception → Types → Input → Result Bool CxxError
violates_list image bases x t c = list_stops image bases x t c x.kind

-- Whether an exception violates a specification by its list, which begins so many bytes after the types' end.
abbrev pub violates : List Span → Bases → Exception → Types → ℕ → Result Bool CxxError
violates image bases x t offset = do
  a ← reading (sum_below t.end offset)
  violates_list image bases x t (input_at image a)

-- What decides without a look at the list: by libc++abi every specification stops a foreign exception, and none a forced unwinding.
abbrev pub unread : CxxRuntime → ExceptionKind → Option Bool
unread Libstdcxx kind = None
unread Libcxxabi Native = None
unread Libcxxabi Foreign = Some true
unread Libcxxabi Forced = Some false

-- ---- the chain of action records

-- whether the handler of an index takes an exception, in a table that may have no types
abbrev pub handler_takes : List Span → Bases → Exception → Option Types → ℕ → Result Bool CxxError
handler_takes image bases x None index = Err NoTypes
handler_takes image bases x (Some t) index = catches image bases x t index

-- whether a specification does by its list, which stands by the types
abbrev pub listed_takes : List Span → Bases → Exception → Option Types → ℕ → Result Bool CxxError
listed_takes image bases x None offset = Err NoTypes
listed_takes image bases x (Some t) offset = violates image bases x t offset

abbrev pub unless_unread : Option Bool → Result Bool CxxError → Result Bool CxxError
unless_unread (Some taken) listed = Ok taken
unless_unread None listed = listed

-- Whether a specification takes an exception. Where that is decided unread, there need be no list and no types.
abbrev pub specification_takes : List Span → Bases → Exception → Option Types → ℕ → Result Bool CxxError
specification_takes image bases x types offset = unless_unread (unread x.runtime x.kind) (listed_takes image bases x types offset)

-- Whether an action record is the one that takes an exception: 0 is a cleanup, a number above 0 the index of a handler's type,
-- and one below 0 says where a specification lists its types: the list of -1 begins where the types end.
abbrev pub record_takes : List Span → Bases → Exception → Option Types → ℕ → Result Bool CxxError
record_takes image bases x types filter =
    if filter == 0 then Ok false
    else (if nat_lt filter (2 ^ 63) then handler_takes image bases x types filter else specification_takes image bases x types (2 ^ 64 - 1 - filter))

-- an action record: its number, and how far from the first byte of this distance the next one begins, 0 after the last
pub record ActionRecord : Type 0 where
  pub filter : ℕ
  pub distance : ℕ
  -- how far from the action table's first byte the distance begins
  pub counted_from : ℕ

abbrev pub action_record : Input → ℕ → Result ActionRecord StepFault
action_record actions place = do
  filter ← table_reading (sleb (skip place actions))
  next ← table_reading (sleb filter.1)
  Ok (record { filter = filter.0; distance = next.0; counted_from = length actions.bytes - length filter.1.bytes })

-- where the next record begins, which has to be inside the table
abbrev pub next_record : ℕ → ActionRecord → Result ℕ CxxError
next_record size r =
    if nat_lt r.distance (2 ^ 63) then (if nat_lt (r.counted_from + r.distance) size then Ok (r.counted_from + r.distance) else Err RecordOutside)
    else (if nat_le (2 ^ 64 - r.distance) r.counted_from then Ok (r.counted_from - (2 ^ 64 - r.distance)) else Err RecordOutside)

-- what a chain asks that no record of it takes: to enter its landing pad if there is a cleanup in it
abbrev pub untaken : ℕ → Bool → CxxAction
untaken pad true = Cleanup pad
untaken pad false = NoAction

-- What the chain from a record on asks: the first record that takes the exception, or else a cleanup if one was met. It has at
-- most so many records.
abbrev pub chain_from : ℕ → List Span → Bases → Exception → CxxTable → ℕ → ℕ → Bool → Result CxxAction CxxError
chain_from zero image bases x t pad place met = Err RecordsLoop
chain_from (suc turns) image bases x t pad place met = do
  r ← reading (action_record t.head.actions place)
  taken ← record_takes image bases x t.types r.filter
  if taken then Ok (Handler pad r.filter) else (if r.distance == 0 then Ok (untaken pad (met || (r.filter == 0))) else
      (next_record (length t.head.actions.bytes) r >>= λ next. chain_from turns image bases x t pad next (met || (r.filter == 0))))

-- the chain of an index into the action table, which counts from 1; a cleanup alone at the index 0
abbrev pub indexed_action : List Span → Bases → Exception → CxxTable → ℕ → ℕ → Result CxxAction CxxError
indexed_action image bases x t pad index =
    if index == 0 then Ok (Cleanup pad)
    else (if nat_lt (index - 1) (length t.head.actions.bytes) then chain_from (length t.head.actions.bytes) image bases x t pad (index - 1) false else Err RecordOutside)

-- what the call site that decides asks: nothing without a landing pad; and without a call site the program ends
abbrev pub cxx_site_action : List Span → Bases → Exception → CxxTable → Option CallSite → Result CxxAction CxxError
cxx_site_action image bases x t None = Ok Terminate
cxx_site_action image bases x t (Some s) =
    if s.pad == 0 then Ok NoAction
    else (reading (sum_below t.head.pad_base s.pad) >>= λ pad. indexed_action image bases x t pad s.index)

-- ---- what a function asks

-- what a language table asks at an address of a function that starts here
unfoldable pub cxx_search : List Span → Bases → Exception → ℕ → ℕ → Input → Result CxxAction CxxError
cxx_search image bases x start a c = do
  t ← reading (cxx_table image bases start c)
  s ← reading (site_from (length t.head.sites.bytes) image bases start a t.head.site_encoding t.head.sites)
  cxx_site_action image bases x t s

-- what the table at a place asks; nothing without a language table, whose address is 0 then
abbrev pub cxx_place_search : List Span → Exception → LanguagePlace → ℕ → Result CxxAction CxxError
cxx_place_search image x p a =
    if p.lsda == 0 then Ok NoAction else cxx_search image (record p.bases { func = Some p.start }) x p.start a (input_at image p.lsda)

-- libstdc++ enters the landing pad of a specification for a native exception alone: for another it ends the program there.
abbrev pub ends_at_specifications : CxxRuntime → ExceptionKind → Bool
ends_at_specifications Libstdcxx Native = false
ends_at_specifications Libstdcxx Foreign = true
ends_at_specifications Libstdcxx Forced = true
ends_at_specifications Libcxxabi kind = false

abbrev pub ends_instead : Exception → ℕ → Bool
ends_instead x filter = ends_at_specifications x.runtime x.kind && nat_le (2 ^ 63) filter

abbrev pub entered : Exception → CxxAction → CxxAction
entered x (Handler pad filter) = if ends_instead x filter then Terminate else Handler pad filter
entered x action = action

abbrev pub cxx_place_action : List Span → Exception → LanguagePlace → ℕ → Result CxxAction CxxError
cxx_place_action image x p a = result_map (entered x) (cxx_place_search image x p a)

abbrev pub cxx_table_action : List Span → Exception → ℕ → Result LanguagePlace StepFault → Result CxxAction CxxError
cxx_table_action image x a place = reading place >>= λ p. cxx_place_action image x p a
