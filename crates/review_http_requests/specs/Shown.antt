-- What clauses see of a reader or a writer that counts.
use Rattle.{std.specs.Prelude.ℕ, review_http_requests.specs.declared.counted.Counted.Counted}

-- what is wrapped
abbrev pub inner_of : {T : Type 0} → Counted T → T
inner_of c = c.inner

-- how many reads there were
abbrev pub reads_of : {T : Type 0} → Counted T → ℕ
reads_of c = c.reads

-- how many faults there were
abbrev pub faults_of : {T : Type 0} → Counted T → ℕ
faults_of c = c.faults
