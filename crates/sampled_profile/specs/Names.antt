-- The names of threads and of their processes, as the records of a perf.data file say them.
use Rattle.std.specs.Prelude.{ℕ, zero, suc, ◌==◌, List, [], ◌∷◌, Option, Some, None, if◌then◌else◌}
use Rattle.perf_data.specs.declared.sample.Thread.{Thread}
use Rattle.perf_data.specs.Records.{RecordValue, Sampled, Mapped, Named, Forked, Exited, OtherKind}

-- the name of its own that a thread has after a record, and the thread that started it
abbrev pub own_after : RecordValue → (ℕ → Option (List ℕ)) → ℕ → Option (List ℕ)
own_after (Named n) before thread = if n.thread.tid == thread then Some n.name else before thread
own_after (Forked t) before thread = before thread
own_after (Sampled s) before thread = before thread
own_after (Mapped m) before thread = before thread
own_after (Exited t) before thread = before thread
own_after (OtherKind k) before thread = before thread

abbrev pub parent_after : RecordValue → (ℕ → Option ℕ) → ℕ → Option ℕ
parent_after (Forked t) before thread = if t.thread.tid == thread then Some t.parent.tid else before thread
parent_after (Named n) before thread = before thread
parent_after (Sampled s) before thread = before thread
parent_after (Mapped m) before thread = before thread
parent_after (Exited t) before thread = before thread
parent_after (OtherKind k) before thread = before thread

-- after these records, the latest first
abbrev pub own_name : List RecordValue → ℕ → Option (List ℕ)
own_name [] thread = None
own_name (r ∷ earlier) thread = own_after r (own_name earlier) thread

abbrev pub parent_of : List RecordValue → ℕ → Option ℕ
parent_of [] thread = None
parent_of (r ∷ earlier) thread = parent_after r (parent_of earlier) thread

-- A thread's own name or, where it has none, that of the thread that started it, and so on, of a number of threads. perf writes the
-- records of several processors one after another, so that a thread's start may stand before its parent's name.
abbrev pub name_by : Option (List ℕ) → Option ℕ → (ℕ → Option (List ℕ)) → Option (List ℕ)
name_by (Some name) parent upwards = Some name
name_by None None upwards = None
name_by None (Some p) upwards = upwards p

abbrev pub name_within : ℕ → (ℕ → Option (List ℕ)) → (ℕ → Option ℕ) → ℕ → Option (List ℕ)
name_within zero own parent thread = None
name_within (suc most) own parent thread = name_by (own thread) (parent thread) (name_within most own parent)

-- the name of a thread by some records, of at most sixteen threads
unfoldable pub name_in : List RecordValue → ℕ → Option (List ℕ)
name_in earlier thread = name_within 16 (own_name earlier) (parent_of earlier) thread

-- of a sample's thread
abbrev pub name_of : List RecordValue → Option Thread → Option (List ℕ)
name_of earlier None = None
name_of earlier (Some t) = name_in earlier t.tid

-- Of its process: the name of the thread that has the process's number or, where no record says that, the thread's own.
abbrev pub first_name : Option (List ℕ) → Option (List ℕ) → Option (List ℕ)
first_name (Some name) other = Some name
first_name None other = other

abbrev pub process_name_of : List RecordValue → Option Thread → Option (List ℕ)
process_name_of earlier None = None
process_name_of earlier (Some t) = first_name (name_in earlier t.pid) (name_in earlier t.tid)
