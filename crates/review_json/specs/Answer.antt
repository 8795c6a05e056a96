-- The JSON of a reply.
use Rattle.std.specs.Prelude.{ℕ, List, codes}
use Rattle.serde_json.specs.Data.{Data, string, array, object, no_members, member}
use Rattle.review_words.specs.{Faults.code_name, Faults.file_fault_name, Refusals.refusal_number, Refusals.refusal_name}
use Rattle.review_words.specs.declared.faults.FileFault.{FileFault, TheVariants.Expr}
use Rattle.review_words.specs.declared.reply.Answer.{Answer}
use Rattle.review_words.specs.declared.reply.Answer.TheVariants.{Account, Nothing, Change, Patch, Reviewed, Submitted, Branch, Shown, Requirements, Threads, Attention}
use Rattle.review_words.specs.declared.reply.NotTaken.{NotTaken as Cause}
use Rattle.review_words.specs.declared.reply.NotTaken.TheVariants.{Memory, Store, Damaged, Pattern, Full}
use Rattle.review_words.specs.declared.reply.Refusal.{Refusal, TheVariants.BadFile, TheVariants.RequirementUnsatisfied}
use Rattle.review_words.specs.declared.reply.Reply.{Reply}
use Rattle.review_words.specs.declared.reply.Reply.TheVariants.{Done, Refused, IdentityReused, EpochClosed, NotTaken}
use Rattle.review_json.specs.Shown.{joined_data, change_data, requirements_data, threads_data, attention_data, number_data, texts_data, numbers_data}

-- the name of a cause for which a delivery was not taken
abbrev pub cause_name : Cause → List ℕ
cause_name Memory = codes "MEMORY"
cause_name Store = codes "STORE"
cause_name Damaged = codes "DAMAGED"
cause_name Pattern = codes "PATTERN"
cause_name Full = codes "FULL"

-- what a command that was done gave, or what a query found
abbrev pub answer_data : Answer → Data
answer_data (Account account) = object (member (codes "account") (number_data account) no_members)
answer_data Nothing = object no_members
answer_data (Change change patch) = object (member (codes "change") (number_data change) (member (codes "patch_set") (number_data patch) no_members))
answer_data (Patch change patch copied outdated) =
    object (member (codes "change") (number_data change)
    (member (codes "copied") (number_data copied)
    (member (codes "outdated") (number_data outdated)
    (member (codes "patch_set") (number_data patch) no_members))))
answer_data (Reviewed comments) = object (member (codes "comments") (array (numbers_data comments)) no_members)
answer_data (Submitted joined) = object (member (codes "joined") (array (numbers_data joined)) no_members)
answer_data (Branch bases joined) = object (member (codes "bases") (array (texts_data bases)) (member (codes "joined") (array (joined_data joined)) no_members))
answer_data (Shown change) = change_data change
answer_data (Requirements requirements) = array (requirements_data requirements)
answer_data (Threads threads) = array (threads_data threads)
answer_data (Attention calls) = array (attention_data calls)

-- a refusal for a file with a fault of this name
abbrev pub named_fault_data : List ℕ → Data
named_fault_data name =
    object (member (codes "number") (number_data 26)
    (member (codes "reason") (string name)
    (member (codes "refused") (string (codes "BAD_FILE")) no_members)))

-- a refusal for a file with this fault; for an expression's fault with its code and its place
abbrev pub bad_file_data : FileFault → Data
bad_file_data (Expr fault) =
    object (member (codes "expr") (string (code_name fault.code))
    (member (codes "number") (number_data 26)
    (member (codes "place") (number_data fault.place)
    (member (codes "reason") (string (codes "EXPR"))
    (member (codes "refused") (string (codes "BAD_FILE")) no_members)))))
bad_file_data fault = named_fault_data (file_fault_name fault)

-- a refusal for a change whose requirement is unsatisfied
abbrev pub unsatisfied_data : ℕ → List ℕ → Data
unsatisfied_data change requirement =
    object (member (codes "change") (number_data change)
    (member (codes "number") (number_data 23)
    (member (codes "refused") (string (codes "REQUIREMENT_UNSATISFIED"))
    (member (codes "requirement") (string requirement) no_members))))

-- a refusal by its number and its name
abbrev pub refusal_data : Refusal → Data
refusal_data (BadFile fault) = bad_file_data fault
refusal_data (RequirementUnsatisfied change requirement) = unsatisfied_data change requirement
refusal_data refusal = object (member (codes "number") (number_data (refusal_number refusal)) (member (codes "refused") (string (refusal_name refusal)) no_members))

-- the value of a reply; the members of an object stand in the order of their keys
abbrev pub reply_data : Reply → Data
reply_data (Done answer) = answer_data answer
reply_data (Refused refusal) = refusal_data refusal
reply_data IdentityReused = object (member (codes "refused") (string (codes "IDENTITY_REUSED")) no_members)
reply_data EpochClosed = object (member (codes "refused") (string (codes "EPOCH_CLOSED")) no_members)
reply_data (NotTaken cause) = object (member (codes "not_taken") (string (cause_name cause)) no_members)
