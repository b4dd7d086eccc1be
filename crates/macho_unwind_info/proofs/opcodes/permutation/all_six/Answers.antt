use Rattle.macho_unwind_info.proofs.PermutationRows.{whole_is}
use Rattle.macho_unwind_info.proofs.opcodes.permutation.all_six.Goals as goal

pub returns : goal.returns
returns c =
    rw (c.register_at.ensures, c.register_at-2.ensures, c.register_at-3.ensures, c.register_at-4.ensures) (whole_is _ c.args.number c.requires)
