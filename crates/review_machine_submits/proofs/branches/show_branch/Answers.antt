use Rattle.std.proofs.Common.{◌∙◌, true, false, refl, sym, ap}
use Rattle.review_words.specs.{History.bases, History.is_branch, declared.command.Query.TheVariants.Branch}
use Rattle.review_words.specs.declared.reply.Refusal.TheVariants.{NoProject, NoBranch}
use Rattle.review_machine_rows.specs.Known.{known, commits_of, joined_of}
use Rattle.review_machine_laws.proofs.Told.{refused_question, told_question}
use Rattle.review_machine_submits.proofs.Loaded.{joined_asked, project_asked, bases_asked, none_there, some_there, branch_refused}
use Rattle.review_words.specs.declared.reply.Answer.TheVariants as made
use Rattle.review_machine_rows.specs.declared.rows.Want.TheVariants as want
use Rattle.review_machine_submits.proofs.branches.show_branch.Goals as goal

pub returns-then-not-known-clause-shown : goal.returns-then-not-known-clause-shown
returns-then-not-known-clause-shown c = λ reading effective h history l.
    let a = c.args in c.is_asker-known.ensures.refused c.if-not-known.true reading effective h (Branch a.project.now a.branch.now) l

pub returns-then-not-there-clause-shown : goal.returns-then-not-there-clause-shown
returns-then-not-there-clause-shown c = λ reading effective h history l.
    let a = c.args in
    let there_is = sym (c.is_asker-known.ensures.told reading effective h (Branch a.project.now a.branch.now) l) ∙ c.if-not-known.false in
    let absent = sym (project_asked h a.caller a.project.now a.branch.now a.rows.now l) ∙ (sym c.in_ok-there.ensures ∙ c.if-not-there.true) in
    refused_question reading h a.caller (Branch a.project.now a.branch.now) NoProject
    (branch_refused reading h a.caller a.project.now a.branch.now true false (is_branch h a.project.now a.branch.now) there_is absent refl)

pub returns-then-is_empty-clause-shown : goal.returns-then-is_empty-clause-shown
returns-then-is_empty-clause-shown c = λ reading effective h history l.
    let a = c.args in
    let there_is = sym (c.is_asker-known.ensures.told reading effective h (Branch a.project.now a.branch.now) l) ∙ c.if-not-known.false in
    let there = sym (project_asked h a.caller a.project.now a.branch.now a.rows.now l) ∙ (sym c.in_ok-there.ensures ∙ c.if-not-there.false) in
    let all = c.in_ok-bases.ensures ∙ (ap (λ k. commits_of (known a.rows.now (want.Bases k))) c.in_ok-branch_of.ensures ∙ bases_asked h a.caller a.project.now a.branch.now a.rows.now l) in
    let none = sym all ∙ c.is_empty.ensures.0 c.if-is_empty.true in
    refused_question reading h a.caller (Branch a.project.now a.branch.now) NoBranch
    (branch_refused reading h a.caller a.project.now a.branch.now true true false there_is there (none_there (bases h a.project.now a.branch.now) none))

pub returns-clause-shown : goal.returns-clause-shown
returns-clause-shown c = λ reading effective h history l.
    let a = c.args in
    let there_is = sym (c.is_asker-known.ensures.told reading effective h (Branch a.project.now a.branch.now) l) ∙ c.if-not-known.false in
    let there = sym (project_asked h a.caller a.project.now a.branch.now a.rows.now l) ∙ (sym c.in_ok-there.ensures ∙ c.if-not-there.false) in
    let all = c.in_ok-bases.ensures ∙ (ap (λ k. commits_of (known a.rows.now (want.Bases k))) c.in_ok-branch_of.ensures ∙ bases_asked h a.caller a.project.now a.branch.now a.rows.now l) in
    let joined = c.in_ok-joined.ensures ∙ (ap (λ k. joined_of (known a.rows.now (want.Joined k))) c.in_ok-branch_of-2.ensures ∙ joined_asked h a.caller a.project.now a.branch.now a.rows.now history l) in
    let empty = c.if-is_empty.false in
    told_question reading h a.caller (Branch a.project.now a.branch.now) (made.Branch c.in_ok-bases.bases c.in_ok-joined.joined)
    (branch_refused reading h a.caller a.project.now a.branch.now true true true there_is there
    (some_there (bases h a.project.now a.branch.now) (λ e. let t = c.is_empty.ensures.1 (all ∙ e) in absurd (cc))))
    (λ i. made.Branch (all i) (joined i))
