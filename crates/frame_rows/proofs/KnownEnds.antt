-- What a common information entry's program ends with that sets no location, wherever the same bytes stand.
use Rattle.std.proofs.Common.{◌≡◌, List, ℕ, None, sym, subst, ◌∙◌}
use Rattle.unwind_definitions.specs.Input.{Input}
use Rattle.unwind_definitions.specs.Instructions.{Coding, program}
use Rattle.frame_rows.specs.Movable.{IsMovable}
use Rattle.frame_rows.specs.Running.{IsEndOf}
use Rattle.frame_rows.specs.KnownCommons.{KnowsEnd}
use Rattle.frame_rows.specs.declared.machine.RowState.{RowState}
use Rattle.frame_rows.proofs.ByBytes.{program_by_bytes}

pub knows_end : (k : Coding) (c : Input) (bytes : List ℕ) (state new : RowState) → bytes ≡ c.bytes → new ≡ state → IsMovable (program k c) → IsEndOf state None (program k c) → KnowsEnd bytes k.code_factor k.data_factor new
knows_end k c bytes state new same is movable ended = record {
  ends = λ j d code units those. subst (λ (s : RowState). IsEndOf s None (program j d)) (sym is)
      (subst (IsEndOf state None) (sym (program_by_bytes k j (sym code) (sym units) c d (sym (those ∙ same)) movable)) ended);
}
