-- The kinds that an error of the command line may have give one fault.
use Rattle.std.proofs.Common.{◌≡◌, ℕ, Bool, true, false, not, List, [], ◌∷◌, Option, Some, None, zero, suc, inl, inr, refl, sym, ap, ◌&&◌, ◌||◌, codes, if◌then◌else◌, find, length, encode_utf8, drop, is_some, bytes_eq}
use Rattle.std.specs.{List.list_all, Option.option_map_or}
use Rattle.clap.proofs.{OnLiterals.clap_on_literals, WalkLemmas.both}
use Rattle.clap.specs.Faults.{action_fault, bundle_step_fault, built_fault, count_fault, default_fault, defaults_fault, entered_fault, fault_of, flag_word_fault, flags_fault, level_fault, long_fault, option_fault, other_fault, positional_fault, react_fault, settle_fault, short_fault, step_fault, stray_fault, turn_fault, use_fault, walk_fault, word_fault}
use Rattle.clap.specs.Kinds.{IsAmong, Kinds, check_kinds, or_else, range_kinds, request_kinds, values_kinds}
use Rattle.clap.specs.Lexer.{long_of, short_of}
use Rattle.clap.specs.Simple.{App, Shape, argument_words, built, label_of, names_of}
use Rattle.clap.specs.Walk.{Held, Names, Row, Rule, Step, Text, Waiting, Walk, action_of, arg_by_id, arg_by_index, arg_by_long, arg_by_short, has_row, is_empty, is_pending, nothing_held, settled, answers_to, takes_several, next, trailing, subcommand, value, subcommand_met, walk_from, walked, walk, word_met, with_default}
use Rattle.clap.specs.declared.builder.{action.ArgAction.ArgAction, value_parser.ValueParser.ValueParser}
use Rattle.clap.specs.declared.error.kind.ErrorKind.{ErrorKind}
use Rattle.review_desk_work.specs.{CommandLine.desk, Jobs.fault_of_kind, Jobs.refusal}
use Rattle.clap.specs.declared.builder.action.ArgAction.TheVariants as action
use Rattle.clap.specs.declared.error.kind.ErrorKind.TheVariants as kind

-- each of the kinds gives the fault of the first
pub record Agree (ks : Kinds) : Type 0 where
  pub same : (k : ErrorKind) → IsAmong k ks → refusal ks ≡ Some (fault_of_kind k)

none : Agree []
none = record { same = λ k h. absurd h }

among_one : (x k : ErrorKind) → IsAmong k (x ∷ []) → refusal (x ∷ []) ≡ Some (fault_of_kind k)
among_one x k (inl e) = ap (λ j. Some (fault_of_kind j)) (sym e)
among_one x k (inr h) = absurd h

one : (x : ErrorKind) → Agree (x ∷ [])
one x = record { same = among_one x }

among_words : (k : ErrorKind) → IsAmong k (kind.UnknownArgument ∷ kind.InvalidSubcommand ∷ []) → refusal (kind.UnknownArgument ∷ kind.InvalidSubcommand ∷ []) ≡ Some (fault_of_kind k)
among_words k (inl e) = ap (λ j. Some (fault_of_kind j)) (sym e)
among_words k (inr (inl e)) = ap (λ j. Some (fault_of_kind j)) (sym e)
among_words k (inr (inr h)) = absurd h

either : (b : Bool) {xs ys : Kinds} → Agree xs → Agree ys → Agree (if b then xs else ys)
either true first second = first
either false first second = second

one_of : (xs : Kinds) {ys : Kinds} → Agree xs → Agree ys → Agree (or_else xs ys)
one_of [] first second = second
one_of (k ∷ ks) first second = first

each : {A : Type 0} (o : Option A) {f : A → Kinds} → ((x : A) → Agree (f x)) → Agree (option_map_or f o [])
each None all = none
each (Some x) all = all x

-- ---- one use of an argument

of_values : (ignore_case : Bool) (parser : ValueParser) (values : List Text) → Agree (values_kinds ignore_case parser values)
of_values ignore_case parser [] = none
of_values ignore_case parser (v ∷ vs) = one_of _ (either _ none (one _)) (of_values ignore_case parser vs)

of_range : (least most n : ℕ) → Agree (range_kinds least most n)
of_range least most n = search (either, one, none)

of_request : (a : ArgAction) → Agree (request_kinds a)
of_request action.Help = one _
of_request action.HelpShort = one _
of_request action.HelpLong = one _
of_request action.Version = one _
of_request _ = none

of_count : (a : Rule) (values : List Text) (rows : List Row) → Agree (count_fault a values rows)
of_count a [] rows = either _ none (one _)
of_count a (v ∷ vs) rows = of_values _ _ (v ∷ vs)

of_action : (act : ArgAction) (again : Bool) (a : Rule) (values : List Text) (rows : List Row) → Agree (action_fault act again a values rows)
of_action action.Append again a values rows = of_values _ _ values
of_action action.Count again a values rows = of_count a values rows
of_action action.Help again a values rows = one _
of_action action.HelpShort again a values rows = one _
of_action action.HelpLong again a values rows = one _
of_action action.Version again a values rows = one _
of_action _ again a values rows = one_of _ (either _ (one _) none) (of_values _ _ values)

of_use : (again : Bool) (a : Rule) (values : List Text) (rows : List Row) → Agree (use_fault again a values rows)
of_use again a values rows = search (one_of, of_range, of_action)

-- ---- one word

of_settle : (c : List Rule) (again : Bool) (h : Held) → Agree (settle_fault c again h)
of_settle c again h = each h.pending (λ p. each (arg_by_id c p.0) (λ a. of_use again a p.1 h.rows))

of_react : (c : List Rule) (again : Bool) (a : Rule) (values : List Text) (h : Held) → Agree (react_fault c again a values h)
of_react c again a values h = one_of _ (of_settle c again h) (of_use again a values _)

of_option : (c : List Rule) (again : Bool) (a : Rule) (v : Option Text) (h : Held) → Agree (option_fault c again a v h)
of_option c again a (Some v) h = of_react c again a (v ∷ []) h
of_option c again a None h = of_settle c again h

of_long : (c : List Rule) (again : Bool) (a : Option Rule) (v : Option Text) (h : Held) → Agree (long_fault c again a v h)
of_long c again None v h = one _
of_long c again (Some a) v h = either _ (of_option c again a v h) (either _ (one _) (of_react c again a [] h))

of_short : (c : List Rule) (again : Bool) (a : Option Rule) (rest : Text) (h : Held) (after : Held → Kinds) → ((g : Held) → Agree (after g)) → Agree (short_fault c again a rest h after)
of_short c again None rest h after all = one _
of_short c again (Some a) rest h after all = either _ (of_option c again a _ h) (one_of _ (of_react c again a [] h) (all _))

of_bundle_step : (c : List Rule) (again : Bool) (x : Option ℕ) (flags : Text) (skip : ℕ) (h : Held) (after : Text → ℕ → Held → Kinds)
    → ((t : Text) (n : ℕ) (g : Held) → Agree (after t n g)) → Agree (bundle_step_fault c again x flags skip h after)
of_bundle_step c again None flags skip h after all = none
of_bundle_step c again (Some x) flags zero h after all = of_short c again (arg_by_short c x) (drop (length (encode_utf8 x)) flags) h _ (λ g. all (drop (length (encode_utf8 x)) flags) 0 g)
of_bundle_step c again (Some x) flags (suc skip) h after all = all _ skip h

of_flags : (c : List Rule) (again : Bool) (k : ℕ) (flags : Text) (skip : ℕ) (h : Held) → Agree (flags_fault c again k flags skip h)
unfolding flags_fault
of_flags c again zero flags skip h = none
of_flags c again (suc k) flags skip h = of_bundle_step c again _ flags skip h _ (of_flags c again k)

of_flag_word : (c : List Rule) (again : Bool) (p : Option (Text × Option Text)) (word : Text) (h : Held) → Agree (flag_word_fault c again p word h)
of_flag_word c again (Some p) word h = of_long c again (arg_by_long c p.0) p.1 h
of_flag_word c again None word h = each (short_of word) (λ flags. of_flags c again _ flags _ _)

no_help : (b : Bool) → Agree (if b && not true then kind.DisplayHelp ∷ kind.InvalidSubcommand ∷ [] else [])
no_help true = none
no_help false = none

of_other : (s : Shape) → s.disable_help_subcommand ≡ true → (name : Option Text) (word : Text) (h : Held) → Agree (other_fault s name word h)
of_other s alone (Some name) word h = rw alone (no_help (bytes_eq name (codes "help")))
of_other s alone None word h = either (bytes_eq word (45 ∷ 45 ∷ [])) none (of_flag_word s.rules s.args_override_self (long_of word) word h)

of_stray : (s : Shape) → Agree (stray_fault s)
of_stray s = either s.is_leaf (one kind.UnknownArgument) (record { same = among_words })

of_positional : (c : List Rule) (again : Bool) (a : Rule) (h : Held) → Agree (positional_fault c again a h)
of_positional c again a h = either (is_pending a h.pending && takes_several a) none (of_settle c again h)

at_position : (s : Shape) (h : Held) (a : Option Rule) → Agree (option_map_or (λ a. positional_fault s.rules s.args_override_self a h) a (stray_fault s))
at_position s h None = of_stray s
at_position s h (Some a) = of_positional s.rules s.args_override_self a h

of_step : (s : Shape) (position : ℕ) (h : Held) (step : Step) → Agree (step_fault s position h step)
of_step s position h value = at_position s h (arg_by_index s.rules position)
of_step s position h (next waiting) = none
of_step s position h (trailing p) = none
of_step s position h (subcommand name) = none

of_word : (s : Shape) → s.disable_help_subcommand ≡ true → (names : Names) (is_trailing : Bool) (waiting : Waiting) (word : Text) (h : Held)
    → Agree (word_fault s names is_trailing waiting word h)
of_word s alone names is_trailing waiting word h = either is_trailing none (of_other s alone (subcommand_met names waiting word) word h)

of_turn : (s : Shape) → s.disable_help_subcommand ≡ true → (names : Names) (w : Walk) (word : Text) → Agree (turn_fault s names w word)
of_turn s alone names w word =
    let met = word_met s.rules names w.is_trailing w.waiting w.position word w.held in
    either (is_some w.stopped) none (one_of _ (of_word s alone names w.is_trailing w.waiting word w.held) (of_step s w.position met.0 met.1))

of_walk : (s : Shape) → s.disable_help_subcommand ≡ true → (names : Names) (w : Walk) (words : List Text) → Agree (walk_fault s names w words)
unfolding walk_fault
of_walk s alone names w [] = none
of_walk s alone names w (word ∷ rest) = one_of _ (of_turn s alone names w word) (of_walk s alone names (walked s.rules names w word) rest)

-- ---- all the words

of_default : (rows : List Row) (a : Rule) → Agree (default_fault rows a)
of_default rows a = either (has_row a.id rows || is_empty a.defaults) none (one_of _ (of_request (action_of a)) (of_values _ _ a.defaults))

of_defaults : (rows : List Row) (rules : List Rule) → Agree (defaults_fault rows rules)
unfolding defaults_fault
of_defaults rows [] = none
of_defaults rows (a ∷ rest) = one_of _ (of_default rows a) (of_defaults (with_default rows a) rest)

of_checks : (a b c : Bool) → Agree (check_kinds a b c)
of_checks true b c = one _
of_checks false true c = one _
of_checks false false true = one _
of_checks false false false = none

of_level : (s : Shape) → s.disable_help_subcommand ≡ true → (names : Names) (h : Held) (words : List Text) (has_subcommand : Bool) (below : Kinds) → Agree below
    → Agree (level_fault s names h words has_subcommand below)
of_level s alone names h words has_subcommand below agree =
    let end = (walk s.rules names h words).held in
    one_of (walk_fault s names (walk_from h) words) (of_walk s alone names (walk_from h) words)
    (one_of below agree (one_of (settle_fault s.rules s.args_override_self end) (of_settle s.rules s.args_override_self end)
    (one_of (defaults_fault (settled s.rules end).rows s.rules) (of_defaults (settled s.rules end).rows s.rules) (of_checks _ _ _))))

of_found : (subs : List Shape) → list_all (λ s. s.disable_help_subcommand) subs ≡ true → (words : List Text) (is_it : Shape → Bool)
    → Agree (option_map_or (λ s. level_fault s [] nothing_held words false []) (find is_it subs) [])
of_found [] alone words is_it = none
of_found (s ∷ rest) alone words is_it =
    let parts = both _ _ alone in
    elim (is_it s) as (λ b. Agree (option_map_or (λ s. level_fault s [] nothing_held words false []) (if b then Some s else find is_it rest) [])) [
      | true ↦ of_level s parts.0 [] nothing_held words false [] none
      | false ↦ of_found rest parts.1 words is_it
    ]

of_entered : (a : App) → list_all (λ s. s.disable_help_subcommand) a.subs ≡ true → (stop : Option (Text × List Text)) → Agree (entered_fault a stop)
of_entered a alone stop = each stop (λ p. of_found a.subs alone p.1 (λ s. answers_to p.0 (label_of s)))

of_built : (a : App) → a.top.disable_help_subcommand ≡ true → list_all (λ s. s.disable_help_subcommand) a.subs ≡ true → (words : List Text)
    → Agree (built_fault a nothing_held words)
of_built a alone subs words =
    of_level a.top alone (names_of a) nothing_held words _ _ (of_entered a subs ((walk a.top.rules (names_of a) nothing_held words).stopped))

-- the kinds that an error of the program's command line may have give one fault
pub desk_agrees : (words : List Text) → Agree (fault_of desk words)
unfolding clap_on_literals
desk_agrees words = of_built (built desk) refl refl (argument_words desk words)
