-- The answers to lines, one by one.
use Rattle.std.proofs.Common.{◌≡◌, ◌<◌, ◌++◌, ◌==◌, ℕ, List, [], ◌∷◌, length, refl, false, Option, Some, None, arith, sym, ap, ◌∙◌, append_assoc, append-nil, inl, inr, subst, suc, ◌&&◌, Bool, true, length-append, Result, Ok, Err, IfOk, OnOk, take, drop, take-append-drop, IfErr, IsErrAnd, ◌+◌, ◌≤◌}
use Rattle.std.proofs.KnownBytes.{Appends-nil, Appends-trans}
use Rattle.std.proofs.{Math.Bool.and_assoc, Math.Bool.and-true, Math.Seq.take-add, lemmas.Bool.Decides.nat_tests}
use Rattle.std.specs.{Io.KnownBytes.IsAtEnd, Io.KnownBytes.Appends, declared.alloc.AllocError.AllocError}
use Rattle.review_words.specs.declared.{command.Delivery.Delivery, reply.Reply.Reply}
use Rattle.review_machine_rows.specs.Shelf.{Shown}
use Rattle.review_machine_deliveries.{proofs.Ran.ran_none, proofs.Ran.ran-append, specs.Delivered.WasRun}
use Rattle.review_json_lines.specs.Answers.{lines_of, HasLines, HasFirst, asked, with_asked, deliveries, answered, answers, bad_line, reply_line, is_taken, is_done, all_done, IsPartOf, IsLeftBy}
use Rattle.review_json_lines.specs.{Lines.HasNoEnd, Lines.GaveLine, Lines.line_feed, declared.apply.Asked.Asked}
use Rattle.review_json_lines.specs.declared.apply.Asked.TheVariants.{Nothing, Unreadable, Asks}
use Rattle.review_json_lines.specs.declared.fault.Fault.{Fault}
use Rattle.review_json_lines.specs.declared.fault.Fault.TheVariants.{Memory, Input, Output}
use Rattle.review_json_lines.specs.{declared.fault.Outcome.Outcome, inner.Words.IsRunOf}

-- ==== the lines of an input, one by one

-- an input began with these lines
abbrev pub GaveLines : Option (List ℕ) → Option (List ℕ) → List (List ℕ) → Type 0
GaveLines None new lines = Unit {0}
GaveLines (Some xs) None lines = ⊥
GaveLines (Some xs) (Some ys) lines = lines_of xs ≡ lines ++ lines_of ys

differs : (b : ℕ) → (b ≡ line_feed → ⊥) → (b == line_feed) ≡ false
differs b other = grind (arith, nat_tests)

tail : (b : ℕ) (bytes : List ℕ) → HasNoEnd (b ∷ bytes) → HasNoEnd bytes
tail b bytes plain = λ k d lt is. plain (suc k) d (omega (arith, lt)) is

head : (b : ℕ) (bytes : List ℕ) → HasNoEnd (b ∷ bytes) → (b == line_feed) ≡ false
head b bytes plain = differs b (plain 0 0 (omega arith))

-- a line and what comes after its end
line_then : (bytes rest : List ℕ) → HasNoEnd bytes → lines_of (bytes ++ line_feed ∷ rest) ≡ bytes ∷ lines_of rest
line_then [] rest plain = refl
line_then (b ∷ bytes) rest plain = rw (head b bytes plain, line_then bytes rest (tail b bytes plain))

-- a last line without its end
last_line : (bytes : List ℕ) → HasNoEnd bytes → 0 < length bytes → lines_of bytes ≡ bytes ∷ []
last_line [] plain some = absurd (omega (arith, some))
last_line (b ∷ []) plain some = rw (head b [] plain)
last_line (b ∷ (c ∷ bytes)) plain some = rw (head b (c ∷ bytes) plain, last_line (c ∷ bytes) (tail b (c ∷ bytes) plain) (omega arith))

one_line : (ys zs bytes : List ℕ) → HasNoEnd bytes → GaveLine (Some ys) (Some zs) bytes → lines_of ys ≡ bytes ∷ lines_of zs
one_line ys zs bytes plain (inl gave) = ap lines_of (gave ∙ append_assoc bytes (line_feed ∷ []) zs) ∙ line_then bytes zs plain
one_line ys zs bytes plain (inr gave) =
    let whole : ys ≡ bytes = gave.0 ∙ (ap (λ l. bytes ++ l) gave.1 ∙ append-nil bytes) in
    ap lines_of whole ∙ (last_line bytes plain gave.2 ∙ ap (λ l. bytes ∷ lines_of l) (sym gave.1))

no_line : (ys bytes : List ℕ) → GaveLine (Some ys) None bytes → ⊥
no_line ys bytes (inl gave) = gave
no_line ys bytes (inr gave) = gave.0

-- one line more
pub gave_more : (i l m : Option (List ℕ)) (lines : List (List ℕ)) (bytes : List ℕ) → GaveLines i l lines → HasNoEnd bytes → GaveLine l m bytes → GaveLines i m (lines ++ bytes ∷ [])
gave_more None l m lines bytes was plain gave = tt
gave_more (Some xs) None m lines bytes was plain gave = absurd was
gave_more (Some xs) (Some ys) None lines bytes was plain gave = absurd (no_line ys bytes gave)
gave_more (Some xs) (Some ys) (Some zs) lines bytes was plain gave =
    was ∙ (ap (λ l. lines ++ l) (one_line ys zs bytes plain gave) ∙ sym (append_assoc lines (bytes ∷ []) (lines_of zs)))

pub gave_all : (i l : Option (List ℕ)) (lines : List (List ℕ)) → GaveLines i l lines → IsAtEnd l → HasLines i lines
gave_all None l lines was end = tt
gave_all (Some xs) None lines was end = absurd was
gave_all (Some xs) (Some ys) lines was end = was ∙ (ap (λ l. lines ++ lines_of l) end ∙ append-nil lines)

pub gave_first : (i l : Option (List ℕ)) (lines : List (List ℕ)) → GaveLines i l lines → HasFirst i lines
gave_first None l lines was = tt
gave_first (Some xs) None lines was = absurd was
gave_first (Some xs) (Some ys) lines was = (lines_of ys, was)

same_lines : (i l : Option (List ℕ)) → l ≡ i → GaveLines i i [] → GaveLines i l []
same_lines i l same was = subst (λ (m : Option (List ℕ)). GaveLines i m []) (sym same) was

none_yet : (i : Option (List ℕ)) → GaveLines i i []
none_yet None = tt
none_yet (Some xs) = refl

pub gave_none : (i l : Option (List ℕ)) → l ≡ i → GaveLines i l []
gave_none i l same = same_lines i l same (none_yet i)

pub nothing_first : (i : Option (List ℕ)) → HasFirst i []
nothing_first None = tt
nothing_first (Some xs) = (lines_of xs, refl)

-- ==== the answers to lines, one by one

-- These lines were read, what they ask for was done, and their answers were sent or wait.
pub record AreAnswered (lines : List (List ℕ)) (replies : List Reply) (complete : Bool) (input left before after : Option (List ℕ)) (waiting : List ℕ) (old new : Shown) : Type 0 where
  pub count : length replies ≡ length (deliveries lines)
  pub read : GaveLines input left lines
  pub sent : List ℕ
  pub written : Appends before after sent
  pub whole : sent ++ waiting ≡ answers lines replies
  pub ran : IsRunOf lines replies old new
  pub done : all_done lines replies ≡ complete

with_asked-append : (a : Asked) (ds es : List Delivery) → with_asked a (ds ++ es) ≡ with_asked a ds ++ es
with_asked-append Nothing ds es = refl
with_asked-append _ ds es = refl

deliveries-append : (lines more : List (List ℕ)) → deliveries (lines ++ more) ≡ deliveries lines ++ deliveries more
deliveries-append [] more = refl
deliveries-append (line ∷ lines) more = ap (with_asked (asked line)) (deliveries-append lines more) ∙ with_asked-append (asked line) (deliveries lines) (deliveries more)

answered-append : (a : Asked) (lines more : List (List ℕ)) (rs qs : List Reply)
    → ((ss : List Reply) → length ss ≡ length (deliveries lines) → answers (lines ++ more) (ss ++ qs) ≡ answers lines ss ++ answers more qs)
    → length rs ≡ length (with_asked a (deliveries lines)) → answered a (rs ++ qs) (answers (lines ++ more)) ≡ answered a rs (answers lines) ++ answers more qs
answered-append Nothing lines more rs qs later count = later rs count
answered-append Unreadable lines more rs qs later count = ap (λ l. bad_line ++ l) (later rs count) ∙ sym (append_assoc bad_line (answers lines rs) (answers more qs))
answered-append (Asks d) lines more [] qs later count = absurd (omega (arith, count))
answered-append (Asks d) lines more (r ∷ rs) qs later count =
    ap (λ l. reply_line r ++ l) (later rs (omega (arith, count))) ∙ sym (append_assoc (reply_line r) (answers lines rs) (answers more qs))

pub answers-append : (lines more : List (List ℕ)) (qs rs : List Reply) → length rs ≡ length (deliveries lines) → answers (lines ++ more) (rs ++ qs) ≡ answers lines rs ++ answers more qs
answers-append [] more qs [] count = refl
answers-append [] more qs (r ∷ rs) count = absurd (omega (arith, count))
answers-append (line ∷ lines) more qs rs count = answered-append (asked line) lines more rs qs (answers-append lines more qs) count

is_done-append : (a : Asked) (lines more : List (List ℕ)) (rs qs : List Reply)
    → ((ss : List Reply) → length ss ≡ length (deliveries lines) → all_done (lines ++ more) (ss ++ qs) ≡ (all_done lines ss && all_done more qs))
    → length rs ≡ length (with_asked a (deliveries lines)) → is_done a (rs ++ qs) (all_done (lines ++ more)) ≡ (is_done a rs (all_done lines) && all_done more qs)
is_done-append Nothing lines more rs qs later count = later rs count
is_done-append Unreadable lines more rs qs later count = refl
is_done-append (Asks d) lines more [] qs later count = absurd (omega (arith, count))
is_done-append (Asks d) lines more (r ∷ rs) qs later count =
    ap (λ b. is_taken r && b) (later rs (omega (arith, count))) ∙ sym (and_assoc (is_taken r) (all_done lines rs) (all_done more qs))

all_done-append : (lines more : List (List ℕ)) (qs rs : List Reply) → length rs ≡ length (deliveries lines) → all_done (lines ++ more) (rs ++ qs) ≡ (all_done lines rs && all_done more qs)
all_done-append [] more qs [] count = refl
all_done-append [] more qs (r ∷ rs) count = absurd (omega (arith, count))
all_done-append (line ∷ lines) more qs rs count = is_done-append (asked line) lines more rs qs (all_done-append lines more qs) count

-- before the first line
pub started : (input left output : Option (List ℕ)) (waiting : List ℕ) (s : Shown) → left ≡ input → waiting ≡ [] → AreAnswered [] [] true input left output output waiting s s
started input left output waiting s same none = record {
  count = refl;
  read = gave_none input left same;
  sent = [];
  written = Appends-nil output;
  whole = none;
  ran = ran_none s;
  done = refl;
}

-- some of what waits is sent
pub kept : (lines : List (List ℕ)) (rs : List Reply) (done : Bool) (input left before output after : Option (List ℕ)) (waiting text rest : List ℕ) (old new : Shown)
    → AreAnswered lines rs done input left before output waiting old new → waiting ≡ text ++ rest → Appends output after text
    → AreAnswered lines rs done input left before after rest old new
kept lines rs done input left before output after waiting text rest old new was parts wrote = record {
  count = was.count;
  read = was.read;
  sent = was.sent ++ text;
  written = Appends-trans _ _ _ _ _ was.written wrote;
  whole = append_assoc was.sent text rest ∙ ap (λ l. was.sent ++ l) (sym parts) ∙ was.whole;
  ran = was.ran;
  done = was.done;
}

pub counted : (lines more : List (List ℕ)) (rs qs : List Reply) → length rs ≡ length (deliveries lines) → length qs ≡ length (deliveries more) → length (rs ++ qs) ≡ length (deliveries (lines ++ more))
counted lines more rs qs one other =
    let all : length (deliveries (lines ++ more)) ≡ length (deliveries lines ++ deliveries more) = ap length (deliveries-append lines more) in
    omega (arith, one, other, all, length-append rs qs, length-append (deliveries lines) (deliveries more))

-- one run more
pub ran_more : (lines : List (List ℕ)) (rs qs : List Reply) (bytes : List ℕ) (a : Asked) (old mid new : Shown) → IsRunOf lines rs old mid → a ≡ asked bytes
    → WasRun (with_asked a []) qs mid new
    → IsRunOf (lines ++ bytes ∷ []) (rs ++ qs) old new
ran_more lines rs qs bytes a old mid new was same ran =
    let both : deliveries lines ++ with_asked a [] ≡ deliveries (lines ++ bytes ∷ []) =
    ap (λ x. deliveries lines ++ with_asked x []) same ∙ sym (deliveries-append lines (bytes ∷ [])) in
    subst (λ (ds : List Delivery). WasRun ds (rs ++ qs) old new) both (ran-append (deliveries lines) (with_asked a []) rs qs old mid new was ran)

-- one line more, with its answer
pub one_more : (lines : List (List ℕ)) (rs qs : List Reply) (bytes : List ℕ) (a : Asked) (done now all : Bool) (input left after before output : Option (List ℕ)) (waiting more : List ℕ) (old mid new : Shown)
    → AreAnswered lines rs done input left before output waiting old mid → a ≡ asked bytes → HasNoEnd bytes → GaveLine left after bytes
    → length qs ≡ length (with_asked a [])
    → WasRun (with_asked a []) qs mid new
    → (more ≡ waiting ++ answered a qs (answers [])) × (now ≡ is_done a qs (all_done []))
    → all ≡ (done && now)
    → AreAnswered (lines ++ bytes ∷ []) (rs ++ qs) all input after before output more old new
one_more lines rs qs bytes a done now all input left after before output waiting more old mid new was same plain gave count ran added both =
    let text : more ≡ waiting ++ answers (bytes ∷ []) qs = added.0 ∙ ap (λ x. waiting ++ answered x qs (answers [])) same in
    record {
      count = counted lines (bytes ∷ []) rs qs was.count (count ∙ ap (λ x. length (with_asked x [])) same);
      read = gave_more input left after lines bytes was.read plain gave;
      sent = was.sent;
      written = was.written;
      whole = ap (λ l. was.sent ++ l) text ∙ sym (append_assoc was.sent waiting (answers (bytes ∷ []) qs)) ∙ ap (λ l. l ++ answers (bytes ∷ []) qs) was.whole
          ∙ sym (answers-append lines (bytes ∷ []) qs rs was.count);
      ran = ran_more lines rs qs bytes a old mid new was.ran same ran;
      done = all_done-append lines (bytes ∷ []) qs rs was.count
          ∙ ((λ i. was.done i && (ap (λ x. is_done x qs (all_done [])) (sym same) ∙ sym added.1) i) ∙ sym both);
    }

-- the answer to a line that is no delivery
pub told_bad : (a : Asked) (text : List ℕ) → a ≡ Unreadable → text ≡ bad_line → answered a [] (answers []) ≡ text
told_bad a text is same = ap (λ x. answered x [] (answers [])) is ∙ (append-nil bad_line ∙ sym same)

-- the delivery was taken or not
pub done_reply : (a : Asked) (d : Delivery) (r : Reply) → a ≡ Asks d → is_done a (r ∷ []) (all_done []) ≡ is_taken r
done_reply a d r is = ap (λ x. is_done x (r ∷ []) (all_done [])) is ∙ and-true (is_taken r)

-- the answer to a delivery
pub told_reply : (a : Asked) (d : Delivery) (r : Reply) (text : List ℕ) → a ≡ Asks d → text ≡ reply_line r → answered a (r ∷ []) (answers []) ≡ text
told_reply a d r text is same = ap (λ x. answered x (r ∷ []) (answers [])) is ∙ (append-nil (reply_line r) ∙ sym same)

-- what a line asked for was done, and Q holds of the replies
abbrev pub Did : Asked → Shown → Shown → (List Reply → Type 0) → Type 0
Did a s t Q = (replies : List Reply) × (length replies ≡ length (with_asked a []))
    × WasRun (with_asked a []) replies s t × Q replies

-- it asked for no delivery
pub did_nothing : (a b : Asked) (s : Shown) (Q : List Reply → Type 0) → b ≡ a → with_asked b [] ≡ [] → Q [] → Did a s s Q
did_nothing a b s Q same none q =
    subst (λ (x : Asked). Did x s s Q) same
    ([], sym (ap length none), subst (λ (ds : List Delivery). WasRun ds [] s s) (sym none) (ran_none s), q)

-- it asked for a delivery
pub did_one : (a : Asked) (d : Delivery) (r : Reply) (s t : Shown) (Q : List Reply → Type 0) → Asks d ≡ a
    → WasRun (d ∷ []) (r ∷ []) s t → Q (r ∷ []) → Did a s t Q
did_one a d r s t Q same ran q = subst (λ (x : Asked). Did x s t Q) same (r ∷ [], refl, ran, q)

-- an answer that was told, and what is known of it
pub if_told : (r : Result Outcome AllocError) (A B : Type 0) (T U : Outcome → Type 0) → OnOk r A → IfOk r T → (A → B) → ((o : Outcome) → T o → U o) → IfOk r (λ o. B × U o)
if_told (Ok o) A B T U a t f g = (f a, g o t)
if_told (Err e) A B T U a t f g = tt

-- ==== what a fault leaves of the answers

-- a first part by its length
pub taken_part : (n : ℕ) (bytes : List ℕ) → IsPartOf (take n bytes) bytes
taken_part n bytes = (drop n bytes, sym (take-append-drop n bytes))

pub whole_part : (bytes : List ℕ) → IsPartOf bytes bytes
whole_part bytes = ([], sym (append-nil bytes))

-- a first part of what comes after others
part_after : (front text whole : List ℕ) → IsPartOf text whole → IsPartOf (front ++ text) (front ++ whole)
part_after front text whole part = (part.0, ap (λ l. front ++ l) part.1 ∙ sym (append_assoc front text part.0))

part_of_part : (a b c : List ℕ) → IsPartOf a b → IsPartOf b c → IsPartOf a c
part_of_part a b c one two = (one.0 ++ two.0, two.1 ∙ ap (λ l. l ++ two.0) one.1 ∙ append_assoc a one.0 two.0)

-- the answer to one line, and a first part of those to the later ones
answered_part : (a : Asked) (rs : List Reply) (few all : List Reply → List ℕ) → ((ss : List Reply) → IsPartOf (few ss) (all ss)) → IsPartOf (answered a rs few) (answered a rs all)
answered_part Nothing rs few all part = part rs
answered_part Unreadable rs few all part = part_after bad_line _ _ (part rs)
answered_part (Asks d) [] few all part = whole_part []
answered_part (Asks d) (r ∷ rs) few all part = part_after (reply_line r) _ _ (part rs)

-- the answers to the first lines are a first part of those to all
answers_part : (before last : List (List ℕ)) (rs : List Reply) → IsPartOf (answers before rs) (answers (before ++ last) rs)
answers_part [] last rs = (answers last rs, refl)
answers_part (line ∷ before) last rs = answered_part (asked line) rs (answers before) (answers (before ++ last)) (answers_part before last)

-- what any fault leaves is a first part of the answers
left_part : (fault : Fault) (lines : List (List ℕ)) (rs : List Reply) (text : List ℕ) → IsLeftBy fault lines rs text → IsPartOf text (answers lines rs)
left_part Input lines rs text left = ([], sym (append-nil text ∙ left))
left_part Memory lines rs text left =
    let P : List (List ℕ) → Type 0 = λ all. IsPartOf text (answers all rs) in
    let Q : List ℕ → Type 0 = λ t. IsPartOf t (answers (left.0 ++ left.1) rs) in
    subst P (sym left.2) (subst Q (sym left.4) (answers_part left.0 left.1 rs))
left_part Output lines rs text left = left

-- what waits is sent in part
pub sent_less : (sent part waiting whole : List ℕ) → IsPartOf part waiting → IsPartOf (sent ++ waiting) whole → IsPartOf (sent ++ part) whole
sent_less sent part waiting whole less all = part_of_part _ _ _ (part_after sent part waiting less) all

-- whether a fault came or not, what is left is a first part of the answers
pub part_either : (P Q : Outcome → Type 0) (end : Result Outcome Fault) (lines : List (List ℕ)) (rs : List Reply) (text : List ℕ) →
    IfOk end (λ o. P o × (text ≡ answers lines rs) × Q o) → IfErr end (λ f. IsLeftBy f lines rs text) → IsPartOf text (answers lines rs)
part_either P Q (Ok o) lines rs text whole left = ([], sym (append-nil text ∙ whole.1))
part_either P Q (Err f) lines rs text whole left = left_part f lines rs text left

-- all lines are answered, whatever the fault
pub all_left : (f : Fault) (lines : List (List ℕ)) (rs : List Reply) (text : List ℕ) → text ≡ answers lines rs → IsLeftBy f lines rs text
all_left Input lines rs text whole = whole
all_left Memory lines rs text whole = (lines, [], sym (append-nil lines), omega arith, whole)
all_left Output lines rs text whole = ([], sym (append-nil text ∙ whole))

-- all lines but one are answered
pub memory_left : (f : Fault) (lines : List (List ℕ)) (line : List ℕ) (rs qs : List Reply) (text : List ℕ) → f ≡ Memory → length rs ≡ length (deliveries lines)
    → text ≡ answers lines rs → IsLeftBy f (lines ++ line ∷ []) (rs ++ qs) text
memory_left f lines line rs qs text is count whole =
    let same : answers (lines ++ []) (rs ++ qs) ≡ answers lines rs = answers-append lines [] qs rs count ∙ append-nil (answers lines rs) in
    let kept : answers lines (rs ++ qs) ≡ answers lines rs = ap (λ l. answers l (rs ++ qs)) (sym (append-nil lines)) ∙ same in
    subst (λ (x : Fault). IsLeftBy x (lines ++ line ∷ []) (rs ++ qs) text) (sym is) (lines, line ∷ [], refl, omega arith, whole ∙ sym kept)

-- what waited was sent in part, and the rest is lost
pub output_left : (f : Fault) (lines : List (List ℕ)) (rs : List Reply) (sent part waiting rest : List ℕ) → f ≡ Output → IsPartOf part waiting
    → sent ++ waiting ≡ answers lines rs → rest ≡ [] → IsLeftBy f lines rs ((sent ++ part) ++ rest)
output_left f lines rs sent part waiting rest is less whole none =
    let all : IsPartOf (sent ++ waiting) (answers lines rs) = ([], sym (append-nil (sent ++ waiting) ∙ whole)) in
    let text : (sent ++ part) ++ rest ≡ sent ++ part = ap (λ l. (sent ++ part) ++ l) none ∙ append-nil (sent ++ part) in
    let P : List ℕ → Type 0 = λ t. IsPartOf t (answers lines rs) in
    subst (λ (x : Fault). IsLeftBy x lines rs ((sent ++ part) ++ rest)) (sym is) (subst P (sym text) (sent_less sent part waiting _ less all))

pub part_left : (f : Fault) (lines : List (List ℕ)) (rs : List Reply) (text : List ℕ) → f ≡ Output → IsPartOf text (answers lines rs) → IsLeftBy f lines rs text
part_left f lines rs text is part = subst (λ (x : Fault). IsLeftBy x lines rs text) (sym is) part

-- what is so of the fault that came
pub if_err : (P Q : Fault → Type 0) (end : Result Outcome Fault) → IsErrAnd end P → ((f : Fault) → P f → Q f) → IfErr end Q
if_err P Q (Ok o) came so = tt
if_err P Q (Err f) came so = so f came

-- all lines are answered, whether a fault came or not
pub any_left : (end : Result Outcome Fault) (lines : List (List ℕ)) (rs : List Reply) (text : List ℕ) → text ≡ answers lines rs → IfErr end (λ f. IsLeftBy f lines rs text)
any_left (Ok o) lines rs text whole = tt
any_left (Err f) lines rs text whole = all_left f lines rs text whole

-- ==== bytes that were written in two steps

pub wrote_more : (x y z : Option (List ℕ)) (a n : ℕ) (bs : List ℕ) → a ≤ length bs → Appends x y (take a bs) → Appends y z (take n (drop a bs)) → Appends x z (take (a + n) bs)
wrote_more x y z a n bs within before more = subst (λ (l : List ℕ). Appends x z l) (sym (take-add a n bs)) (Appends-trans x y z _ _ before more)
