-- Each error of a file comes for its cause.
use Rattle.std.proofs.Common.{◌≡◌, ℕ, Bool, true, false, cond, ◌⊎◌, inl, inr, List, Option, Some, None, Result, Ok, Err, refl, ap}
use Rattle.std.specs.Prelude.{◌↔◌, IsTrue, IsFalse}
use Rattle.perf_data.specs.declared.errors.PerfError.{PerfError}
use Rattle.perf_data.specs.declared.errors.PerfError.TheVariants as errors
use Rattle.perf_data.specs.declared.layout.Layout.{Layout}
use Rattle.perf_data.specs.FileHeader.{is_foreign, is_pipe, has_file_header, attribute_size, section, attributes_place, records_place, is_unfinished}
use Rattle.perf_data.specs.Layouts.{first_layout, is_of_other_machine, share_layout}
use Rattle.perf_data.specs.FileValue.{PerfValue, layout_shared, layout_among, shared_layout, records_after, with_records, perf_of, HasHeader}

-- ---- the errors of the attributes

abbrev IsOfAttributes : Result Layout PerfError → Type 0
IsOfAttributes (Ok layout) = Unit {0}
IsOfAttributes (Err e) = (e ≡ errors.Attributes) ⊎ ((e ≡ errors.Layouts) ⊎ (e ≡ errors.Machine))

shared_fault : (size : ℕ) (attributes : List ℕ) (first : Option Layout) → IsOfAttributes (layout_shared size attributes first)
shared_fault size attributes None = inl refl
shared_fault size attributes (Some layout) = go (share_layout layout size attributes) (is_of_other_machine layout)
  where
    go : (shared other : Bool) → IsOfAttributes (cond shared (cond other (Err errors.Machine) (Ok layout)) (Err errors.Layouts))
    go true false = tt
    go true true = inr (inr refl)
    go false other = inr (inl refl)

among_fault : (size : ℕ) (o : Option (ℕ × List ℕ)) → IsOfAttributes (layout_among size o)
among_fault size None = inl refl
among_fault size (Some p) = shared_fault size p.1 (first_layout size p.1)

-- ---- the errors before the records

abbrev IsBefore : Result Layout PerfError → Type 0
IsBefore (Ok layout) = Unit {0}
IsBefore (Err e) = (e ≡ errors.Unfinished) ⊎ ((e ≡ errors.Attributes) ⊎ ((e ≡ errors.Layouts) ⊎ (e ≡ errors.Machine)))

abbrev ended : Bool → Result Layout PerfError → Result Layout PerfError
ended unfinished layout = cond unfinished (Err errors.Unfinished) layout

before_fault : (unfinished : Bool) (layout : Result Layout PerfError) → IsOfAttributes layout → IsBefore (ended unfinished layout)
before_fault true layout named = inl refl
before_fault false (Ok layout) named = tt
before_fault false (Err x) named = inr named

layout_fault : (bytes : List ℕ) → IsBefore (shared_layout bytes)
unfolding shared_layout
layout_fault bytes = before_fault (is_unfinished bytes) (layout_among (attribute_size bytes) (section bytes attributes_place)) (among_fault (attribute_size bytes) (section bytes attributes_place))

ended_fault : (unfinished : Bool) (layout : Result Layout PerfError) → IsOfAttributes layout → (ended unfinished layout ≡ Err errors.Unfinished) ↔ (unfinished ≡ true)
ended_fault true layout named = (λ e. refl, λ q. refl)
ended_fault false (Ok layout) named = (λ e. absurd cc, λ q. absurd cc)
ended_fault false (Err x) (inl is) = (λ e. absurd cc, λ q. absurd cc)
ended_fault false (Err x) (inr (inl is)) = (λ e. absurd cc, λ q. absurd cc)
ended_fault false (Err x) (inr (inr is)) = (λ e. absurd cc, λ q. absurd cc)

layout_unfinished : (bytes : List ℕ) → (shared_layout bytes ≡ Err errors.Unfinished) ↔ IsTrue (is_unfinished bytes)
unfolding shared_layout
layout_unfinished bytes = ended_fault (is_unfinished bytes) (layout_among (attribute_size bytes) (section bytes attributes_place)) (among_fault (attribute_size bytes) (section bytes attributes_place))

-- ---- which part is the first faulty one

abbrev then_records : Result Layout PerfError → Option (ℕ × List ℕ) → Result PerfValue PerfError
then_records (Err e) o = Err e
then_records (Ok layout) o = records_after layout o

abbrev answer : Bool → Bool → Bool → Result Layout PerfError → Option (ℕ × List ℕ) → Result PerfValue PerfError
answer foreign pipe header layout o = cond foreign (Err errors.ByteOrder) (cond pipe (Err errors.Pipe) (cond header (then_records layout o) (Err errors.Header)))

foreign_fault : (foreign pipe header : Bool) (layout : Result Layout PerfError) (o : Option (ℕ × List ℕ)) → IsBefore layout → (answer foreign pipe header layout o ≡ Err errors.ByteOrder) ↔ (foreign ≡ true)
foreign_fault true pipe header layout o named = (λ e. refl, λ q. refl)
foreign_fault false true header layout o named = (λ e. absurd cc, λ q. absurd cc)
foreign_fault false false false layout o named = (λ e. absurd cc, λ q. absurd cc)
foreign_fault false false true (Ok layout) None named = (λ e. absurd cc, λ q. absurd cc)
foreign_fault false false true (Ok layout) (Some p) named = (λ e. absurd cc, λ q. absurd cc)
foreign_fault false false true (Err x) o (inl is) = (λ e. absurd cc, λ q. absurd cc)
foreign_fault false false true (Err x) o (inr (inl is)) = (λ e. absurd cc, λ q. absurd cc)
foreign_fault false false true (Err x) o (inr (inr (inl is))) = (λ e. absurd cc, λ q. absurd cc)
foreign_fault false false true (Err x) o (inr (inr (inr is))) = (λ e. absurd cc, λ q. absurd cc)

pipe_fault : (foreign pipe header : Bool) (layout : Result Layout PerfError) (o : Option (ℕ × List ℕ)) → IsBefore layout → (answer foreign pipe header layout o ≡ Err errors.Pipe) ↔ ((foreign ≡ false) × (pipe ≡ true))
pipe_fault true pipe header layout o named = (λ e. absurd cc, λ q. let r = q.0 in absurd cc)
pipe_fault false true header layout o named = (λ e. (refl, refl), λ q. refl)
pipe_fault false false false layout o named = (λ e. absurd cc, λ q. let r = q.1 in absurd cc)
pipe_fault false false true (Ok layout) None named = (λ e. absurd cc, λ q. let r = q.1 in absurd cc)
pipe_fault false false true (Ok layout) (Some p) named = (λ e. absurd cc, λ q. let r = q.1 in absurd cc)
pipe_fault false false true (Err x) o (inl is) = (λ e. absurd cc, λ q. let r = q.1 in absurd cc)
pipe_fault false false true (Err x) o (inr (inl is)) = (λ e. absurd cc, λ q. let r = q.1 in absurd cc)
pipe_fault false false true (Err x) o (inr (inr (inl is))) = (λ e. absurd cc, λ q. let r = q.1 in absurd cc)
pipe_fault false false true (Err x) o (inr (inr (inr is))) = (λ e. absurd cc, λ q. let r = q.1 in absurd cc)

header_fault : (foreign pipe header : Bool) (layout : Result Layout PerfError) (o : Option (ℕ × List ℕ)) → IsBefore layout → (answer foreign pipe header layout o ≡ Err errors.Header) ↔ ((foreign ≡ false) × (pipe ≡ false) × (header ≡ false))
header_fault true pipe header layout o named = (λ e. absurd cc, λ q. let r = q.0 in absurd cc)
header_fault false true header layout o named = (λ e. absurd cc, λ q. let r = q.1 in absurd cc)
header_fault false false false layout o named = (λ e. (refl, refl, refl), λ q. refl)
header_fault false false true (Ok layout) None named = (λ e. absurd cc, λ q. let r = q.2 in absurd cc)
header_fault false false true (Ok layout) (Some p) named = (λ e. absurd cc, λ q. let r = q.2 in absurd cc)
header_fault false false true (Err x) o (inl is) = (λ e. absurd cc, λ q. let r = q.2 in absurd cc)
header_fault false false true (Err x) o (inr (inl is)) = (λ e. absurd cc, λ q. let r = q.2 in absurd cc)
header_fault false false true (Err x) o (inr (inr (inl is))) = (λ e. absurd cc, λ q. let r = q.2 in absurd cc)
header_fault false false true (Err x) o (inr (inr (inr is))) = (λ e. absurd cc, λ q. let r = q.2 in absurd cc)

unfinished_fault : (foreign pipe header : Bool) (layout : Result Layout PerfError) (o : Option (ℕ × List ℕ)) → IsBefore layout → (answer foreign pipe header layout o ≡ Err errors.Unfinished) ↔ (((foreign ≡ false) × (pipe ≡ false) × (header ≡ true)) × (layout ≡ Err errors.Unfinished))
unfinished_fault true pipe header layout o named = (λ e. absurd cc, λ q. let r = q.0.0 in absurd cc)
unfinished_fault false true header layout o named = (λ e. absurd cc, λ q. let r = q.0.1 in absurd cc)
unfinished_fault false false false layout o named = (λ e. absurd cc, λ q. let r = q.0.2 in absurd cc)
unfinished_fault false false true (Ok layout) None named = (λ e. absurd cc, λ q. let r = q.1 in absurd cc)
unfinished_fault false false true (Ok layout) (Some p) named = (λ e. absurd cc, λ q. let r = q.1 in absurd cc)
unfinished_fault false false true (Err x) o named = (λ e. ((refl, refl, refl), cc), λ q. let r = q.1 in cc)

attributes_fault : (foreign pipe header : Bool) (layout : Result Layout PerfError) (o : Option (ℕ × List ℕ)) → IsBefore layout → (answer foreign pipe header layout o ≡ Err errors.Attributes) ↔ (((foreign ≡ false) × (pipe ≡ false) × (header ≡ true)) × (layout ≡ Err errors.Attributes))
attributes_fault true pipe header layout o named = (λ e. absurd cc, λ q. let r = q.0.0 in absurd cc)
attributes_fault false true header layout o named = (λ e. absurd cc, λ q. let r = q.0.1 in absurd cc)
attributes_fault false false false layout o named = (λ e. absurd cc, λ q. let r = q.0.2 in absurd cc)
attributes_fault false false true (Ok layout) None named = (λ e. absurd cc, λ q. let r = q.1 in absurd cc)
attributes_fault false false true (Ok layout) (Some p) named = (λ e. absurd cc, λ q. let r = q.1 in absurd cc)
attributes_fault false false true (Err x) o named = (λ e. ((refl, refl, refl), cc), λ q. let r = q.1 in cc)

layouts_fault : (foreign pipe header : Bool) (layout : Result Layout PerfError) (o : Option (ℕ × List ℕ)) → IsBefore layout → (answer foreign pipe header layout o ≡ Err errors.Layouts) ↔ (((foreign ≡ false) × (pipe ≡ false) × (header ≡ true)) × (layout ≡ Err errors.Layouts))
layouts_fault true pipe header layout o named = (λ e. absurd cc, λ q. let r = q.0.0 in absurd cc)
layouts_fault false true header layout o named = (λ e. absurd cc, λ q. let r = q.0.1 in absurd cc)
layouts_fault false false false layout o named = (λ e. absurd cc, λ q. let r = q.0.2 in absurd cc)
layouts_fault false false true (Ok layout) None named = (λ e. absurd cc, λ q. let r = q.1 in absurd cc)
layouts_fault false false true (Ok layout) (Some p) named = (λ e. absurd cc, λ q. let r = q.1 in absurd cc)
layouts_fault false false true (Err x) o named = (λ e. ((refl, refl, refl), cc), λ q. let r = q.1 in cc)

machine_fault : (foreign pipe header : Bool) (layout : Result Layout PerfError) (o : Option (ℕ × List ℕ)) → IsBefore layout → (answer foreign pipe header layout o ≡ Err errors.Machine) ↔ (((foreign ≡ false) × (pipe ≡ false) × (header ≡ true)) × (layout ≡ Err errors.Machine))
machine_fault true pipe header layout o named = (λ e. absurd cc, λ q. let r = q.0.0 in absurd cc)
machine_fault false true header layout o named = (λ e. absurd cc, λ q. let r = q.0.1 in absurd cc)
machine_fault false false false layout o named = (λ e. absurd cc, λ q. let r = q.0.2 in absurd cc)
machine_fault false false true (Ok layout) None named = (λ e. absurd cc, λ q. let r = q.1 in absurd cc)
machine_fault false false true (Ok layout) (Some p) named = (λ e. absurd cc, λ q. let r = q.1 in absurd cc)
machine_fault false false true (Err x) o named = (λ e. ((refl, refl, refl), cc), λ q. let r = q.1 in cc)

records_fault : (foreign pipe header : Bool) (layout : Result Layout PerfError) (o : Option (ℕ × List ℕ)) → IsBefore layout → (answer foreign pipe header layout o ≡ Err errors.Records) ↔ (((foreign ≡ false) × (pipe ≡ false) × (header ≡ true)) × ((l : Layout) × (layout ≡ Ok l)) × (o ≡ None))
records_fault true pipe header layout o named = (λ e. absurd cc, λ q. let r = q.0.0 in absurd cc)
records_fault false true header layout o named = (λ e. absurd cc, λ q. let r = q.0.1 in absurd cc)
records_fault false false false layout o named = (λ e. absurd cc, λ q. let r = q.0.2 in absurd cc)
records_fault false false true (Ok layout) None named = (λ e. ((refl, refl, refl), (layout, refl), refl), λ q. refl)
records_fault false false true (Ok layout) (Some p) named = (λ e. absurd cc, λ q. let r = q.2 in absurd cc)
records_fault false false true (Err x) o (inl is) = (λ e. absurd cc, λ q. let r = q.1.1 in absurd cc)
records_fault false false true (Err x) o (inr (inl is)) = (λ e. absurd cc, λ q. let r = q.1.1 in absurd cc)
records_fault false false true (Err x) o (inr (inr (inl is))) = (λ e. absurd cc, λ q. let r = q.1.1 in absurd cc)
records_fault false false true (Err x) o (inr (inr (inr is))) = (λ e. absurd cc, λ q. let r = q.1.1 in absurd cc)

-- ---- each error of a file

same_records : (bytes : List ℕ) (layout : Result Layout PerfError) → with_records bytes layout ≡ then_records layout (section bytes records_place)
same_records bytes (Ok layout) = refl
same_records bytes (Err e) = refl

as_answer : (bytes : List ℕ) → perf_of bytes ≡ answer (is_foreign bytes) (is_pipe bytes) (has_file_header bytes) (shared_layout bytes) (section bytes records_place)
unfolding perf_of
as_answer bytes = ap (λ (r : Result PerfValue PerfError). cond (is_foreign bytes) (Err errors.ByteOrder) (cond (is_pipe bytes) (Err errors.Pipe) (cond (has_file_header bytes) r (Err errors.Header)))) (same_records bytes (shared_layout bytes))

pub foreign_cause : (bytes : List ℕ) → (perf_of bytes ≡ Err errors.ByteOrder) ↔ IsTrue (is_foreign bytes)
foreign_cause bytes = rw (as_answer bytes) (foreign_fault (is_foreign bytes) (is_pipe bytes) (has_file_header bytes) (shared_layout bytes) (section bytes records_place) (layout_fault bytes))

pub pipe_cause : (bytes : List ℕ) → (perf_of bytes ≡ Err errors.Pipe) ↔ (IsFalse (is_foreign bytes) × IsTrue (is_pipe bytes))
pipe_cause bytes = rw (as_answer bytes) (pipe_fault (is_foreign bytes) (is_pipe bytes) (has_file_header bytes) (shared_layout bytes) (section bytes records_place) (layout_fault bytes))

pub header_cause : (bytes : List ℕ) → (perf_of bytes ≡ Err errors.Header) ↔ (IsFalse (is_foreign bytes) × IsFalse (is_pipe bytes) × IsFalse (has_file_header bytes))
header_cause bytes = rw (as_answer bytes) (header_fault (is_foreign bytes) (is_pipe bytes) (has_file_header bytes) (shared_layout bytes) (section bytes records_place) (layout_fault bytes))

unfinished_by_layout : (bytes : List ℕ) → (perf_of bytes ≡ Err errors.Unfinished) ↔ (HasHeader bytes × (shared_layout bytes ≡ Err errors.Unfinished))
unfinished_by_layout bytes = rw (as_answer bytes) (unfinished_fault (is_foreign bytes) (is_pipe bytes) (has_file_header bytes) (shared_layout bytes) (section bytes records_place) (layout_fault bytes))

pub unfinished_cause : (bytes : List ℕ) → (perf_of bytes ≡ Err errors.Unfinished) ↔ (HasHeader bytes × IsTrue (is_unfinished bytes))
unfinished_cause bytes = (
  λ e. let is = (unfinished_by_layout bytes).0 e in (is.0, (layout_unfinished bytes).0 is.1),
  λ is. (unfinished_by_layout bytes).1 (is.0, (layout_unfinished bytes).1 is.1),
)

pub attributes_cause : (bytes : List ℕ) → (perf_of bytes ≡ Err errors.Attributes) ↔ (HasHeader bytes × (shared_layout bytes ≡ Err errors.Attributes))
attributes_cause bytes = rw (as_answer bytes) (attributes_fault (is_foreign bytes) (is_pipe bytes) (has_file_header bytes) (shared_layout bytes) (section bytes records_place) (layout_fault bytes))

pub layouts_cause : (bytes : List ℕ) → (perf_of bytes ≡ Err errors.Layouts) ↔ (HasHeader bytes × (shared_layout bytes ≡ Err errors.Layouts))
layouts_cause bytes = rw (as_answer bytes) (layouts_fault (is_foreign bytes) (is_pipe bytes) (has_file_header bytes) (shared_layout bytes) (section bytes records_place) (layout_fault bytes))

pub machine_cause : (bytes : List ℕ) → (perf_of bytes ≡ Err errors.Machine) ↔ (HasHeader bytes × (shared_layout bytes ≡ Err errors.Machine))
machine_cause bytes = rw (as_answer bytes) (machine_fault (is_foreign bytes) (is_pipe bytes) (has_file_header bytes) (shared_layout bytes) (section bytes records_place) (layout_fault bytes))

pub records_cause : (bytes : List ℕ) → (perf_of bytes ≡ Err errors.Records) ↔ (HasHeader bytes × ((layout : Layout) × (shared_layout bytes ≡ Ok layout)) × (section bytes records_place ≡ None))
records_cause bytes = rw (as_answer bytes) (records_fault (is_foreign bytes) (is_pipe bytes) (has_file_header bytes) (shared_layout bytes) (section bytes records_place) (layout_fault bytes))
