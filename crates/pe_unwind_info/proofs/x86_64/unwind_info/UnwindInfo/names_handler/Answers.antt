use Rattle.std.proofs.Common.{◌≡◌, false, refl, sym, ◌∙◌}
use Rattle.pe_unwind_info.specs.Header.{flags_of, has_flag}
use Rattle.pe_unwind_info.proofs.FlagLemmas.{has_first, has_second}
use Rattle.pe_unwind_info.proofs.x86_64.unwind_info.UnwindInfo.names_handler.Goals as goal

pub returns-else-contains : goal.returns-else-contains
returns-else-contains c =
    let header = c.args.self.now.header in
    let flags = c.flags-flags.result.0 in
    let one : has_flag 1 header ≡ false = sym (has_first flags (flags_of header) c.flags-flags.ensures) ∙ sym (c.contains.ensures tt) ∙ c.if-contains.false in
    let two : c.contains-else-contains.result ≡ has_flag 2 header = c.contains-else-contains.ensures tt ∙ has_second flags (flags_of header) c.flags-flags.ensures in
    two ∙ rw one refl
