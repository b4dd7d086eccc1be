use Rattle.std.proofs.Common.{◌≡◌, ℕ, List, Some, sym, ap, ◌∙◌}
use Rattle.pe_unwind_info.specs.Machine.{registers_of}
use Rattle.pe_unwind_info.specs.Search.{boundary_in}
use Rattle.pe_unwind_info.specs.Sections.{headers_of, image_of, sections_in, section_table, memory_by, virtual_address, IsMemoryAt}
use Rattle.pe_unwind_info.proofs.FrameLemmas.{widened}
use Rattle.pe_unwind_info.proofs.SearchLemmas.{boundary_in-searched}
use Rattle.pe_unwind_info.proofs.x86_64.function_table.FunctionTableEntries.unwind_frame_with_image.Goals as goal

pub returns-in-Some-clause-frame : goal.returns-in-Some-clause-frame
returns-in-Some-clause-frame g c =
    let r = c.unwind_frame.ensures.frame in
    let headers : section_table c.args.image.now ≡ Some (headers_of c.in-Some.sections) = sym c.in-Some.ensures.headers in
    let image : image_of c.in-Some.sections ≡ c.args.image.now = cc (c.in-Some.ensures.image) in
    let sections = sections_in (headers_of c.in-Some.sections) in
    rw headers (
      r.0,
      (
        r.1.0,
        r.1.1,
        widened _ (IsMemoryAt c.args.image.now sections) (g.S.UnwindState.stack c.args.state.now) c.args.address r.1.0 (registers_of (g.S.UnwindState.registers c.args.state.now) (g.S.UnwindState.xmm_registers c.args.state.now)) r.0 r.1.2
            (λ rva memory given. (boundary_in virtual_address sections rva, boundary_in-searched virtual_address sections rva, sym given.3 ∙ given.2 ∙ ap (λ (bytes : List ℕ). memory_by bytes sections rva) image)),
      ),
      r.2,
    )

pub returns-in-Some-clause-repeats : goal.returns-in-Some-clause-repeats
returns-in-Some-clause-repeats g c =
    let headers : section_table c.args.image.now ≡ Some (headers_of c.in-Some.sections) = sym c.in-Some.ensures.headers in
    let image : image_of c.in-Some.sections ≡ c.args.image.now = cc (c.in-Some.ensures.image) in
    let sections = sections_in (headers_of c.in-Some.sections) in
    rw headers (c.unwind_frame.ensures.repeats (memory_by c.args.image.now sections) (λ rva given gives. sym gives.3 ∙ gives.2 ∙ ap (λ (bytes : List ℕ). memory_by bytes sections rva) image))
