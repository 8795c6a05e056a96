use Rattle.std.proofs.Common.{◌≡◌, ◌∙◌, List, [], true, inl, inr, refl, sym, ap, subst, ◌⊎◌, Result, Err}
use Rattle.clap.proofs.OnLiterals.{clap_on_literals}
use Rattle.clap.specs.Words.{App, HasKind, HasMatchesOf, Kinds, Text, fault_of, is_simple, is_simple_and_free, kind_of, subcommand_of, subcommand_rows_of}
use Rattle.clap.specs.declared.{error.Error.Error, parser.matches.ArgMatches.ArgMatches}
use Rattle.review_desk_work.{proofs.Refusals.Agree, proofs.Refusals.desk_agrees, specs.CommandLine.desk}
use Rattle.review_desk_work.specs.Jobs.{Spelled, job_found, job_taken, fault_of_kind, refusal, unless}
use Rattle.review_desk_work.specs.declared.words_fault.WordsFault.{WordsFault}
use Rattle.review_desk_work.specs.declared.words_fault.WordsFault.TheVariants as fault

is_free : is_simple_and_free desk ≡ true
unfolding clap_on_literals
is_free = refl

-- an error with one of the kinds, all of one fault, gives that fault
refused : (ks : Kinds) (found : Result Spelled WordsFault) (e : Error) → Agree ks → HasKind ks e
    → (fault_of_kind (kind_of e) ≡ fault.Memory) ⊎ (unless (refusal ks) found ≡ Err (fault_of_kind (kind_of e)))
refused ks found e agree (inl h) = inl (ap fault_of_kind h)
refused ks found e agree (inr h) = inr (ap (λ r. unless r found) (agree.same (kind_of e) h))

-- an error of the command line gives the fault that its words spell
pub no_job : (words : List Text) (a : App) (e : Error) (f : WordsFault) → a ≡ desk → (is_simple_and_free a ≡ true → HasKind (fault_of a words) e)
    → f ≡ fault_of_kind (kind_of e) → (f ≡ fault.Memory) ⊎ (job_taken words ≡ Err f)
unfolding job_taken
no_job words a e f is fails told =
    let Fails : App → Type 0 = λ x. is_simple_and_free x ≡ true → HasKind (fault_of x words) e in
    rw told (refused _ _ e (desk_agrees words) (subst Fails is fails is_free))

is_simple_desk : is_simple desk ≡ true
unfolding clap_on_literals
is_simple_desk = refl

-- the matches of words without a fault give the job that these spell
pub found_job : (words : List Text) (a : App) (m : ArgMatches) → a ≡ desk → HasMatchesOf a words m → (is_simple_and_free a ≡ true → fault_of a words ≡ [])
    → job_found (subcommand_rows_of m) ≡ job_taken words
unfolding job_taken
found_job words a m is has fails =
    let Rows : App → Type 0 = λ x. HasMatchesOf x words m in
    let Faults : App → Type 0 = λ x. is_simple_and_free x ≡ true → fault_of x words ≡ [] in
    let rows : subcommand_rows_of m ≡ subcommand_of desk words = (subst Rows is has is_simple_desk).1 in
    let clean : fault_of desk words ≡ [] = subst Faults is fails is_free in
    ap job_found rows ∙ sym (ap (λ (ks : Kinds). unless (refusal ks) (job_found (subcommand_of desk words))) clean)
