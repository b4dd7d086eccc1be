use Rattle.std.proofs.Common.{◌≡◌, ap, ◌∙◌, Some}
use Rattle.unwind_definitions.specs.Entries.{Fde}
use Rattle.encoded_pointers.specs.PointerViews.{bases_of}
use Rattle.eh_frame.specs.EntryViews.{table_of}
use Rattle.stack_steps.specs.Functions.{function_of}
use Rattle.stack_steps.proofs.IndexFinds.{none_described, one_described, seen_by}
use Rattle.stack_steps.proofs.functions.indexed_function.Goals as goal

pub returns-in-Some : goal.returns-in-Some
returns-in-Some c image tables laid is =
    let t = c.args.table.now in
    let frame = c.in-Some.frame in
    let scanned = c.in-Some.ensures.scan (bases_of t.bases) (table_of t.frames) is.prepared in
    let start = c.initial_address.ensures ∙ ap (λ (f : Fde). f.start) c.fde.ensures in
    let signal = c.is_signal_trampoline.ensures in
    let same : Some (record { start = c.initial_address.result; signal = c.is_signal_trampoline.result }) ≡ Some (function_of (seen_by t frame.fde)) = (λ i. Some (record { start = start i; signal = signal i })) in
    same ∙ one_described image tables t c.args.address frame.fde laid is scanned

pub returns : goal.returns
returns c image tables laid is =
    let t = c.args.table.now in
    let scanned = c.in-None.ensures.scan (bases_of t.bases) (table_of t.frames) is.prepared in
    none_described image tables t c.args.address laid is scanned
