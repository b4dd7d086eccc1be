-- What a JSON value says as functions that are claimed.
use Rattle.std.specs.Prelude.{ℕ, Bool, List, Option, Some, None, codes, if◌then◌else◌, option_map, option_and_then}
use Rattle.std.specs.Str.{bytes_eq}
use Rattle.serde_json.specs.Data.{Data, Items, no_items, item}
use Rattle.serde_json.specs.Find.{get, as_array, as_str}
use Rattle.unwind_definitions.specs.Columns as column
use Rattle.unwind_definitions.specs.Function.{Function}
use Rattle.unwind_arch.specs.declared.register.Register.{Register}
use Rattle.unwinding_frames.specs.declared.language_table.EhAction.{EhAction}
use Rattle.unwinding_frames.specs.declared.language_table.EhAction.TheVariants as action
use Rattle.table_check.specs.declared.claims.ClaimStep.{ClaimStep}
use Rattle.table_check.specs.declared.claims.ClaimStep.TheVariants.{Push, Allocate, Set, Store}
use Rattle.stack_snapshot.specs.Fields.{as_word, word_at, flag_or_false}
use Rattle.stack_snapshot.specs.Snapshot.{each_of}
use Rattle.table_check.specs.declared.claims.AddressRange.{AddressRange}
use Rattle.table_check.specs.declared.claims.ClaimedSite.{ClaimedSite}
use Rattle.table_check.specs.declared.claims.ClaimedStep.{ClaimedStep}
use Rattle.claim_checks.specs.Views.{function_with}

-- ---- steps

-- the registers that calls keep
abbrev pub register_named : List ℕ → Option Register
register_named name =
    if bytes_eq name (codes "rbx") then Some (record { 0 = column.rbx })
    else (if bytes_eq name (codes "rbp") then Some (record { 0 = column.rbp })
    else (if bytes_eq name (codes "r12") then Some (record { 0 = column.r12 })
    else (if bytes_eq name (codes "r13") then Some (record { 0 = column.r13 })
    else (if bytes_eq name (codes "r14") then Some (record { 0 = column.r14 })
    else (if bytes_eq name (codes "r15") then Some (record { 0 = column.r15 }) else None)))))

abbrev pub register_in : Data → Option Register
register_in d = option_and_then register_named (as_str d)

-- a register that is stored, and how far above the stack pointer
abbrev pub store_of : Data → Data → Option ClaimStep
store_of name d = option_and_then (λ r. option_map (λ at. Store r at) (word_at (codes "at") d)) (register_in name)

-- what a step does, of which exactly one is named
abbrev pub step_by : Data → Option Data → Option Data → Option Data → Option Data → Option ClaimStep
step_by d (Some name) None None None = option_map Push (register_in name)
step_by d None (Some size) None None = option_map Allocate (as_word size)
step_by d None None (Some above) None = option_map Set (as_word above)
step_by d None None None (Some name) = store_of name d
step_by d push allocate set store = None

abbrev pub step_in : Data → Option ClaimStep
step_in d = step_by d (get (codes "push") d) (get (codes "allocate") d) (get (codes "set") d) (get (codes "store") d)

-- a step, and the offset in the function's code at which it has ended
abbrev pub ended_with : ℕ → ClaimStep → ClaimedStep
ended_with end step = record { end = end; step = step }

abbrev pub ended_step_of : Data → Option ClaimedStep
ended_step_of d = option_and_then (λ end. option_map (ended_with end) (step_in d)) (word_at (codes "end") d)

abbrev pub step_list : Items → Option (List ClaimedStep)
step_list = each_of ended_step_of

unfoldable pub steps_of : Data → Option (List ClaimedStep)
steps_of d = option_and_then step_list (option_and_then as_array (get (codes "steps") d))

-- ---- bodies

-- the addresses from one word to before another
abbrev pub range_with : Data → Data → Option AddressRange
range_with from to = option_and_then (λ from. option_map (λ to. record { from = from; to = to }) (as_word to)) (as_word from)

-- exactly two words
abbrev pub range_in : Items → Option AddressRange
range_in no_items = None
range_in (item from no_items) = None
range_in (item from (item to no_items)) = range_with from to
range_in (item from (item to (item d ds))) = None

abbrev pub range_of : Data → Option AddressRange
range_of d = option_and_then range_in (as_array d)

abbrev pub range_list : Items → Option (List AddressRange)
range_list = each_of range_of

unfoldable pub bodies_of : Data → Option (List AddressRange)
bodies_of d = option_and_then range_list (option_and_then as_array (get (codes "body") d))

-- ---- call sites

-- what calls ask, by its name and a landing pad
abbrev pub action_at : List ℕ → ℕ → Option EhAction
action_at name pad =
    if bytes_eq name (codes "cleanup") then Some (action.Cleanup pad)
    else (if bytes_eq name (codes "catch") then Some (action.Catch pad)
    else (if bytes_eq name (codes "filter") then Some (action.Filter pad) else None))

abbrev pub action_with : Data → Data → Option EhAction
action_with name pad = option_and_then (λ name. option_and_then (action_at name) (as_word pad)) (as_str name)

-- calls that ask nothing name no landing pad
abbrev pub no_action_named : List ℕ → Option EhAction
no_action_named name = if bytes_eq name (codes "none") then Some action.None else None

abbrev pub no_action : Data → Option EhAction
no_action name = option_and_then no_action_named (as_str name)

abbrev pub site_with : Data → Data → Option EhAction → Option ClaimedSite
site_with from to asks = option_and_then (λ range. option_map (λ action. record { range = range; action = action }) asks) (range_with from to)

-- two words, what the calls between ask, and perhaps a landing pad
abbrev pub site_in : Items → Option ClaimedSite
site_in no_items = None
site_in (item from no_items) = None
site_in (item from (item to no_items)) = None
site_in (item from (item to (item name no_items))) = site_with from to (no_action name)
site_in (item from (item to (item name (item pad no_items)))) = site_with from to (action_with name pad)
site_in (item from (item to (item name (item pad (item d ds))))) = None

abbrev pub site_of : Data → Option ClaimedSite
site_of d = option_and_then site_in (as_array d)

abbrev pub site_list : Items → Option (List ClaimedSite)
site_list = each_of site_of

-- the call sites, where a language table is given
abbrev pub sites_by : Option Data → Option (Option (List ClaimedSite))
sites_by None = Some None
sites_by (Some d) = option_map Some (option_and_then site_list (as_array d))

unfoldable pub sites_of : Data → Option (Option (List ClaimedSite))
sites_of d = sites_by (get (codes "sites") d)

-- ---- functions

-- whether a function is the first of a stack, false where that is missing
unfoldable pub outermost_of : Data → Option Bool
outermost_of d = flag_or_false (get (codes "outermost") d)

-- the function that an object says
unfoldable pub function_in : Data → Option Function
function_in d =
    option_and_then (λ start. option_and_then (λ end. option_and_then (λ outermost. option_and_then (λ steps. option_and_then (λ bodies. option_map (function_with start end outermost steps bodies) (sites_of d)) (bodies_of d)) (steps_of d)) (outermost_of d)) (word_at (codes "end") d))
    (word_at (codes "start") d)

abbrev pub function_list : Items → Option (List Function)
function_list = each_of function_in

-- the functions that are listed
unfoldable pub functions_of : Data → Option (List Function)
functions_of d = option_and_then function_list (option_and_then as_array (get (codes "functions") d))
