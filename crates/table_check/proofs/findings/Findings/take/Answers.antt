use Rattle.std.proofs.Common.{◌≡◌, ◌++◌, ◌∷◌, [], Ok, Some, map, sym, ap, subst}
use Rattle.unwind_definitions.specs.Entries.{Entry, entry_at}
use Rattle.unwind_definitions.specs.Scan.{fdes_of}
use Rattle.encoded_pointers.specs.PointerViews.{bases_of}
use Rattle.eh_frame.specs.EntryViews.{cie_of, entry_of, table_of}
use Rattle.fde_finders.specs.NamedTables.{named_of}
use Rattle.table_check.specs.ClaimViews.{function_of}
use Rattle.table_check.specs.Findings.{Tells}
use Rattle.table_check.proofs.Beside.{fdes_cie}
use Rattle.table_check.proofs.findings.Findings.take.Goals as goal

pub returns-in-Cie-clause-tells : goal.returns-in-Cie-clause-tells
returns-in-Cie-clause-tells c before at next count many read there told =
    let t = named_of c.args.table.now in
    let fs = map function_of c.args.claims.now in
    subst (λ (e : Entry). Tells c.args.image.now t fs c.args.claims.now (fdes_of (before ++ e ∷ [])) c.args.self.now) (sym (ap entry_of c.in-Cie.is))
    (subst (λ fdes. Tells c.args.image.now t fs c.args.claims.now fdes c.args.self.now) (sym (fdes_cie before (cie_of c.in-Cie.field-0))) told)

pub returns-in-Fde-clause-tells : goal.returns-in-Fde-clause-tells
returns-in-Fde-clause-tells c before at next count many read there told =
    let t = named_of c.args.table.now in
    let fs = map function_of c.args.claims.now in
    let same = ap entry_of c.in-Fde.is in
    subst (λ (e : Entry). Tells c.args.image.now t fs c.take_description.new.claims (fdes_of (before ++ e ∷ [])) c.take_description.new.self) (sym same)
    (c.take_description.ensures.tells before at next count many read (subst (λ (e : Entry). entry_at (bases_of c.args.table.now.bases) (table_of c.args.table.now.frames) at ≡ Ok (Some (record { entry = e; next = next }))) same there) told)
