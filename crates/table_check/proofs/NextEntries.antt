-- The next entry of a table that is gone through.
use Rattle.std.proofs.Common.{◌≡◌, false, Option, Some, None, Result, Ok, Err, sym, ap, subst, ◌∙◌}
use Rattle.std.specs.Prelude.{IfSome}
use Rattle.std.specs.Option.{option_map}
use Rattle.unwind_definitions.specs.declared.error.Error.{Error as Fault}
use Rattle.unwind_definitions.specs.Entries.{entry_at}
use Rattle.eh_frame.specs.declared.entries.Entry.{Entry as CodeEntry}
use Rattle.eh_frame.specs.EntryViews.{entry_of}
use Rattle.eh_frame.specs.Listing.{Listing, MovesAhead, after, entry_in, upcoming}
use Rattle.table_check.specs.NextEntry.{IsNextEntry}
use Rattle.table_check.proofs.Standing.{reads_end, reads_entry, reads_fault}

none_some : {A : Type 0} (r : Result (Option A) Fault) (x : A) → r ≡ Ok None → r ≡ Ok (Some x) → ⊥
none_some (Ok None) x a b = absurd cc
none_some (Ok (Some y)) x a b = absurd cc
none_some (Err e) x a b = absurd cc

err_some : {A : Type 0} (r : Result (Option A) Fault) (x : A) (e : Fault) → r ≡ Err e → r ≡ Ok (Some x) → ⊥
err_some (Ok o) x e a b = absurd cc
err_some (Err d) x e a b = absurd cc

pub next_read : (l new : Listing) (o : Option CodeEntry) → l.is_over ≡ false → entry_in (upcoming l) ≡ Ok (option_map entry_of o) → new ≡ after l (upcoming l) → IfSome o (λ _. MovesAhead l new) → IsNextEntry l o new
next_read l new None going is rest ahead = λ e next at. none_some (entry_at l.bases l.table l.offset) (record { entry = e; next = next }) (reads_end l going is) at
next_read l new (Some e) going is rest ahead =
    let f = reads_entry l going (entry_of e) is in
    let same : new ≡ record l { offset = f.0 } = rest ∙ f.2 in
    let off : new.offset ≡ f.0 = ap (λ (x : Listing). x.offset) same in (
      subst (λ n. entry_at l.bases l.table l.offset ≡ Ok (Some (record { entry = entry_of e; next = n }))) (sym off) f.1,
      same ∙ ap (λ n. record l { offset = n }) (sym off),
      ahead,
    )

pub next_unread : (l new : Listing) (e : Fault) → l.is_over ≡ false → entry_in (upcoming l) ≡ Err e → IsNextEntry l None new
next_unread l new e going is = λ x next at. err_some (entry_at l.bases l.table l.offset) (record { entry = x; next = next }) e (reads_fault l going e is) at
