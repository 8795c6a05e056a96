-- The command line of the program, as `clap` takes it: each argument may be given once, and which are wanted is for the job to say.
use Rattle.std.specs.Prelude.{◌≡◌, true, false, Some, Result, IfOk, codes}
use Rattle.std.specs.declared.alloc.AllocError.{AllocError}
use Rattle.clap.specs.Words.{App, Rule, app_of, new_app, new_rule, with_rule, with_subcommand}
use Rattle.clap.specs.declared.builder.action.ArgAction.TheVariants.{Set}
use Rattle.clap.specs.declared.builder.command.Command.{Command, TheViews.out-Command}

-- FILE
abbrev pub file : Rule
file = record (new_rule (codes "file")) { action = Some Set }

-- --change N
abbrev pub change : Rule
change = record (new_rule (codes "change")) { long = Some (codes "change"); action = Some Set }

-- --project P
abbrev pub project : Rule
project = record (new_rule (codes "project")) { long = Some (codes "project"); action = Some Set }

-- --branch B
abbrev pub branch : Rule
branch = record (new_rule (codes "branch")) { long = Some (codes "branch"); action = Some Set }

-- --port P
abbrev pub port : Rule
port = record (new_rule (codes "port")) { long = Some (codes "port"); action = Some Set }

-- --count N
abbrev pub count : Rule
count = record (new_rule (codes "count")) { long = Some (codes "count"); action = Some Set }

-- init FILE
abbrev pub init : App
init = with_rule (new_app (codes "init")) file

-- migrate FILE
abbrev pub migrate : App
migrate = with_rule (new_app (codes "migrate")) file

-- apply FILE
abbrev pub apply : App
apply = with_rule (new_app (codes "apply")) file

-- serve FILE --port P --count N
abbrev pub serve : App
serve = with_rule (with_rule (with_rule (new_app (codes "serve")) file) port) count

-- show FILE --change N
abbrev pub show : App
show = with_rule (with_rule (new_app (codes "show")) file) change

-- joined FILE --project P --branch B
abbrev pub joined : App
joined = with_rule (with_rule (with_rule (new_app (codes "joined")) file) project) branch

-- the program's own words: it wants a command, and `help` is none
abbrev pub top : App
top = record (new_app (codes "review_desk")) { top = record (new_app (codes "review_desk")).top { no_binary_name = true; subcommand_required = true; disable_help_subcommand = true } }

-- the program with the commands that make a desk, or make it one of version 3
abbrev pub making : App
making = with_subcommand (with_subcommand top init.top) migrate.top

-- the program with the commands that may change a desk
abbrev pub changing : App
changing = with_subcommand (with_subcommand making apply.top) serve.top

-- the program with all its commands
abbrev pub desk : App
desk = with_subcommand (with_subcommand changing show.top) joined.top

-- a command with no argument that goes to those below it
abbrev pub IsLocal : Command → Type 0
IsLocal c = (out-Command c).has_globals ≡ false

-- where a command was made, it is this one by the rules of `clap`, and has no argument that goes to those below it
abbrev pub Makes : App → Result Command AllocError → Type 0
Makes a made = IfOk made (λ c. (app_of c ≡ a) × IsLocal c)
