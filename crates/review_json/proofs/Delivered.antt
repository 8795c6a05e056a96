-- Comments in the order of their places, whatever a text spells.
use Rattle.std.proofs.Common.{◌≡◌, ℕ, List, Bool, true, false, Option, Some, None, option_map, option_and_then, Ordering, Less, Equal, Greater, cond, refl, ap, ◌∙◌, nat_cmp, IfSome, suc, zero, ◌<◌, [], ◌∷◌, ◌++◌, length, sym, subst, slice_index_or, add-one, arith, IsSortedByKey, is_lt, codes, ◌==◌}
use Rattle.std.proofs.lemmas.Cmp.{nat_list_cmp_total, tied_itself}
use Rattle.std.specs.Cmp.Lexicographic.{slice_cmp, nat_list_cmp_total}
use Rattle.std.specs.{List.AllByRecursion, Ordering.match_ordering, Ordering.ordering_reverse, Prelude.⊤}
use Rattle.json.specs.Lex.{tokens}
use Rattle.serde_json.specs.Data.{Data, null, boolean, number, string, array, object, Items, no_items, item, Members, no_members, member, put}
use Rattle.serde_json.specs.Find.{get, get_member, as_object, as_array}
use Rattle.serde_json.specs.Read.{number_of, of_json, of_items, of_members, max_depth, read}
use Rattle.review_names.specs.Forms.{is_message, is_place, is_commit, is_line}
use Rattle.review_names.specs.{Names.is_word, Numerals.◌>>=◌}
use Rattle.review_words.specs.{Reviews.all_written, declared.changes.NewComment.NewComment}
use Rattle.review_words.specs.declared.command.{ChangeCommand.ChangeCommand, Command.Command, Delivery.Delivery}
use Rattle.review_json_routes.specs.Commands.{new_change, new_patch, change_command_in, command_in, command_of, query_of, is_question, account_named_at, role_in}
use Rattle.review_json_routes.specs.Parts.{formed, or_absent, name_at, flag_at, text_at, members_at, account_at, epoch_at, epoch_or_first, text_of, value_spelled, if_object, body_spelled}
use Rattle.review_json_routes.specs.Reviews.{line_in, answered_in, comment_of, comments_on, comments_at, comments_from, written, comments_of, comments_in, message_in, has_refused, said, labels_in}
use Rattle.review_json_routes.specs.declared.route.ChangeRoute.{ChangeRoute}
use Rattle.review_json_routes.specs.declared.route.ChangeRoute.TheVariants.{Upload, Review, AddReviewer, AddAttention, RemoveAttention}
use Rattle.review_json_routes.specs.declared.route.Route.{Route}
use Rattle.review_json_routes.specs.declared.route.Route.TheVariants.{CreateAccount, PutGroup, PutProject, RecordBase, CreateChange, OnChange, CloseEpoch}
use Rattle.review_json.specs.Laws.{asked_comments, made_comments, delivered_comments, CommentsOfBodiesGoByPlace, CommentsGoByPlace}
use Rattle.review_json.specs.Line.{body_in, command_in_line, write_in, read_in, delivery_in, delivery_spelled, route_named}
use Rattle.json.specs.Json as json

-- ==== what a text spells has the members of each object in the order of their keys

pub map_some : {A B : Type 0} (P : A → Type 0) (Q : B → Type 0) (f : A → B) → ((a : A) → P a → Q (f a)) → (o : Option A) → IfSome o P → IfSome (option_map f o) Q
map_some P Q f h None x = tt
map_some P Q f h (Some a) x = h a x

pub then_some : {A B : Type 0} (P : A → Type 0) (Q : B → Type 0) (f : A → Option B) → ((a : A) → P a → IfSome (f a) Q) → (o : Option A) → IfSome o P → IfSome (option_and_then f o) Q
then_some P Q f h None x = tt
then_some P Q f h (Some a) x = h a x

pub map_any : {A B : Type 0} (Q : B → Type 0) (f : A → B) → ((a : A) → Q (f a)) → (o : Option A) → IfSome (option_map f o) Q
map_any Q f h None = tt
map_any Q f h (Some a) = h a

pub then_any : {A B : Type 0} (Q : B → Type 0) (f : A → Option B) → ((a : A) → IfSome (f a) Q) → (o : Option A) → IfSome (option_and_then f o) Q
then_any Q f h None = tt
then_any Q f h (Some a) = h a

pub either_some : {A : Type 0} (P : A → Type 0) (b : Bool) (x y : Option A) → IfSome x P → IfSome y P → IfSome (cond b x y) P
either_some P true x y p q = p
either_some P false x y p q = q

abbrev pub IsBelow : List ℕ → List ℕ → Type 0
IsBelow k l = slice_cmp nat_cmp k l ≡ Less

-- each key is above k
abbrev pub AreAbove : List ℕ → Members → Type 0
AreAbove k no_members = ⊤
AreAbove k (member l d ms) = IsBelow k l × AreAbove k ms

abbrev mutual
  pub IsInOrder : Data → Type 0
  IsInOrder null = ⊤
  IsInOrder (boolean b) = ⊤
  IsInOrder (number n) = ⊤
  IsInOrder (string s) = ⊤
  IsInOrder (array ds) = ItemsInOrder ds
  IsInOrder (object ms) = MembersInOrder ms

  pub ItemsInOrder : Items → Type 0
  ItemsInOrder no_items = ⊤
  ItemsInOrder (item d ds) = IsInOrder d × ItemsInOrder ds

  pub MembersInOrder : Members → Type 0
  MembersInOrder no_members = ⊤
  MembersInOrder (member k d ms) = AreAbove k ms × (IsInOrder d × MembersInOrder ms)

above_match : (o : Ordering) (j : List ℕ) (a b c : Members) → AreAbove j a → AreAbove j b → AreAbove j c → AreAbove j (match_ordering o a b c)
above_match Less j a b c p q r = p
above_match Equal j a b c p q r = q
above_match Greater j a b c p q r = r

above_put : (j k : List ℕ) (d : Data) (ms : Members) → IsBelow j k → AreAbove j ms → AreAbove j (put k d ms)
above_put j k d no_members h t = (h, tt)
above_put j k d (member l e ms) h t =
    above_match (slice_cmp nat_cmp k l) j (member k d (member l e ms)) (member l d ms) (member l e (put k d ms)) (h, t) t (t.0, above_put j k d ms h t.1)

above_more : (j k : List ℕ) (ms : Members) → IsBelow j k → AreAbove k ms → AreAbove j ms
above_more j k no_members h t = tt
above_more j k (member l d ms) h t = (nat_list_cmp_total.trans j k l h t.0, above_more j k ms h t.1)

turned : (k l : List ℕ) → slice_cmp nat_cmp k l ≡ Greater → IsBelow l k
turned k l is = nat_list_cmp_total.antisymm l k ∙ ap ordering_reverse is

placed : (o : Ordering) (k l : List ℕ) (d e : Data) (ms : Members) → slice_cmp nat_cmp k l ≡ o → IsInOrder d → MembersInOrder (member l e ms) → MembersInOrder (put k d ms)
    → MembersInOrder (match_ordering o (member k d (member l e ms)) (member l d ms) (member l e (put k d ms)))
placed Less k l d e ms is p q r = ((is, above_more k l ms is q.0), (p, q))
placed Equal k l d e ms is p q r = (q.0, (p, q.1.1))
placed Greater k l d e ms is p q r = (above_put l k d ms (turned k l is) q.0, (q.1.0, r))

put_in_order : (k : List ℕ) (d : Data) (ms : Members) → IsInOrder d → MembersInOrder ms → MembersInOrder (put k d ms)
put_in_order k d no_members p q = (tt, (p, tt))
put_in_order k d (member l e ms) p q = placed (slice_cmp nat_cmp k l) k l d e ms refl p q (put_in_order k d ms p q.1.1)

mutual
  json_in_order : (j : json.Json) → IfSome (of_json j) IsInOrder
  json_in_order json.null = tt
  json_in_order (json.boolean b) = tt
  json_in_order (json.number s) = map_any IsInOrder number (λ n. tt) (number_of s)
  json_in_order (json.string s) = tt
  json_in_order (json.array js) = map_some ItemsInOrder IsInOrder array (λ ds x. x) (of_items js) (items_in_order js)
  json_in_order (json.object ms) = map_some MembersInOrder IsInOrder object (λ found x. x) (of_members ms no_members) (members_in_order ms no_members tt)

  items_in_order : (js : json.Items) → IfSome (of_items js) ItemsInOrder
  items_in_order json.no_items = tt
  items_in_order (json.item j js) =
      then_some IsInOrder ItemsInOrder (λ d. option_map (item d) (of_items js)) (λ d x. map_some ItemsInOrder ItemsInOrder (item d) (λ ds y. (x, y)) (of_items js) (items_in_order js)) (of_json j) (json_in_order j)

  members_in_order : (ms : json.Members) (found : Members) → MembersInOrder found → IfSome (of_members ms found) MembersInOrder
  members_in_order json.no_members found h = h
  members_in_order (json.member k j ms) found h =
      then_some IsInOrder MembersInOrder (λ d. of_members ms (put k d found)) (λ d x. members_in_order ms (put k d found) (put_in_order k d found x h)) (of_json j) (json_in_order j)

pub read_in_order : (text : List ℕ) → IfSome (read text) IsInOrder
read_in_order text = then_any IsInOrder of_json json_in_order (option_and_then (λ p. json.if_last p.0 p.1) (json.value max_depth (tokens text)))

found_in_order : (o : Ordering) (e : Data) (rest : Option Data) → IsInOrder e → IfSome rest IsInOrder → IfSome (match_ordering o rest (Some e) rest) IsInOrder
found_in_order Equal e rest p q = p
found_in_order _ e rest p q = q

member_in_order : (k : List ℕ) (ms : Members) → MembersInOrder ms → IfSome (get_member k ms) IsInOrder
member_in_order k no_members h = tt
member_in_order k (member l e ms) h = found_in_order (slice_cmp nat_cmp k l) e (get_member k ms) h.1.0 (member_in_order k ms h.1.1)

pub get_in_order : (k : List ℕ) (d : Data) → IsInOrder d → IfSome (get k d) IsInOrder
get_in_order k null h = tt
get_in_order k (boolean b) h = tt
get_in_order k (number n) h = tt
get_in_order k (string s) h = tt
get_in_order k (array ds) h = tt
get_in_order k (object ms) h = member_in_order k ms h

pub object_in_order : (d : Data) → IsInOrder d → IfSome (as_object d) MembersInOrder
object_in_order null h = tt
object_in_order (boolean b) h = tt
object_in_order (number n) h = tt
object_in_order (string s) h = tt
object_in_order (array ds) h = tt
object_in_order (object ms) h = h

-- ==== the comments that a line spells go by the bytes of their places

pub bind_some : {A B : Type 0} (P : A → Type 0) (Q : B → Type 0) (f : A → Option B) → ((a : A) → P a → IfSome (f a) Q) → (o : Option A) → IfSome o P → IfSome (o >>= f) Q
bind_some P Q f h None x = tt
bind_some P Q f h (Some a) x = h a x

pub next_some : {A B : Type 0} (Q : B → Type 0) (f : A → Option B) → ((a : A) → IfSome (f a) Q) → (o : Option A) → IfSome (o >>= f) Q
next_some Q f h None = tt
next_some Q f h (Some a) = h a

-- no place is above that of a later comment
abbrev pub GoByPlace : List NewComment → Type 0
GoByPlace [] = ⊤
GoByPlace (c ∷ cs) = AllByRecursion (λ later. is_lt (slice_cmp nat_cmp later.path c.path) ≡ false) cs × GoByPlace cs

abbrev AreOn : List ℕ → List NewComment → Type 0
AreOn place cs = AllByRecursion (λ c. c.path ≡ place) cs

abbrev AreBehind : List ℕ → List NewComment → Type 0
AreBehind place cs = AllByRecursion (λ c. IsBelow place c.path) cs

comment_of_parts : (place : List ℕ) (line : Option ℕ) (message : Option (List ℕ)) (unresolved : Option (Option Bool)) (answered : Option (Option ℕ))
    → IfSome (line >>= (λ l. message >>= (λ m. unresolved >>= (λ u. answered >>= (λ a. Some (record { path = place; line = l; message = m; unresolved = u; in_reply_to = a })))))) (λ (c : NewComment). c.path ≡ place)
comment_of_parts place None message unresolved answered = tt
comment_of_parts place (Some l) None unresolved answered = tt
comment_of_parts place (Some l) (Some m) None answered = tt
comment_of_parts place (Some l) (Some m) (Some u) None = tt
comment_of_parts place (Some l) (Some m) (Some u) (Some a) = refl

comment_on : (place : List ℕ) (d : Data) → IfSome (comment_of place d) (λ c. c.path ≡ place)
unfolding comment_of
comment_on place d = comment_of_parts place (line_in d) (name_at is_message (codes "message") d) (flag_at (codes "unresolved") d) (answered_in d)

list_on : (place : List ℕ) (ds : Items) → IfSome (comments_on place ds) (AreOn place)
list_on place no_items = tt
list_on place (item d ds) =
    then_some (λ c. c.path ≡ place) (AreOn place) _ (λ one p. map_some (AreOn place) (AreOn place) (λ more. one ∷ more) (λ more q. (p, q)) (comments_on place ds) (list_on place ds)) (comment_of place d) (comment_on place d)

formed_same : (is_form : List ℕ → Bool) (text : List ℕ) → IfSome (formed is_form text) (λ t. t ≡ text)
formed_same is_form text = either_some (λ t. t ≡ text) (is_form text) (Some text) None refl tt

at_key : (key : List ℕ) (d : Data) → IfSome (comments_at key d) (AreOn key)
unfolding comments_at
at_key key d =
    bind_some (λ t. t ≡ key) (AreOn key) _ (λ place e. next_some (AreOn key) _ (λ list. subst (λ k. IfSome (comments_on place list) (AreOn k)) e (list_on place list)) (as_array d)) (formed is_place key) (formed_same is_place key)

below_not : (k l : List ℕ) → IsBelow k l → is_lt (slice_cmp nat_cmp l k) ≡ false
below_not k l h = ap is_lt (nat_list_cmp_total.antisymm l k ∙ ap ordering_reverse h)

same_not : (k l : List ℕ) → l ≡ k → is_lt (slice_cmp nat_cmp l k) ≡ false
same_not k l e = rw e (ap is_lt (tied_itself nat_list_cmp_total k))

all_append : {A : Type 0} (P : A → Type 0) (xs ys : List A) → AllByRecursion P xs → AllByRecursion P ys → AllByRecursion P (xs ++ ys)
all_append P [] ys p q = q
all_append P (x ∷ xs) ys p q = (p.0, all_append P xs ys p.1 q)

all_weaker : {A : Type 0} (P Q : A → Type 0) → ((a : A) → P a → Q a) → (xs : List A) → AllByRecursion P xs → AllByRecursion Q xs
all_weaker P Q h [] p = tt
all_weaker P Q h (x ∷ xs) p = (h x p.0, all_weaker P Q h xs p.1)

-- what stands on one place, and then what stands behind it
joined : (place : List ℕ) (here more : List NewComment) → AreOn place here → AreBehind place more → GoByPlace more → GoByPlace (here ++ more)
joined place [] more p q g = g
joined place (c ∷ cs) more p q g = (
  all_append (λ later. is_lt (slice_cmp nat_cmp later.path c.path) ≡ false) cs more
      (all_weaker (λ d. d.path ≡ place) (λ later. is_lt (slice_cmp nat_cmp later.path c.path) ≡ false) (λ d e. same_not c.path d.path (e ∙ sym p.0)) cs p.1)
      (all_weaker (λ d. IsBelow place d.path) (λ later. is_lt (slice_cmp nat_cmp later.path c.path) ≡ false) (λ d b. below_not c.path d.path (subst (λ k. IsBelow k d.path) (sym p.0) b)) more q),
  joined place cs more p.1 q g,
)

-- the comments of the members whose keys are above k are behind k
behind : (k : List ℕ) (ms : Members) → AreAbove k ms → IfSome (comments_from ms) (AreBehind k)
behind k no_members h = tt
behind k (member l d ms) h =
    then_some (AreOn l) (AreBehind k) _ (λ here p. map_some (AreBehind k) (AreBehind k) (λ more. here ++ more)
    (λ more q. all_append (λ c. IsBelow k c.path) here more (all_weaker (λ c. c.path ≡ l) (λ c. IsBelow k c.path) (λ c e. subst (IsBelow k) (sym e) h.0) here p) q)
    (comments_from ms) (behind k ms h.1)) (comments_at l d) (at_key l d)

both_some : {A : Type 0} (P Q : A → Type 0) (o : Option A) → IfSome o P → IfSome o Q → IfSome o (λ a. P a × Q a)
both_some P Q None p q = tt
both_some P Q (Some a) p q = (p, q)

from_members : (ms : Members) → MembersInOrder ms → IfSome (comments_from ms) GoByPlace
from_members no_members h = tt
from_members (member l d ms) h =
    then_some (AreOn l) GoByPlace _ (λ here p. map_some (λ more. AreBehind l more × GoByPlace more) GoByPlace (λ more. here ++ more)
    (λ more q. joined l here more p q.0 q.1)
    (comments_from ms) (both_some (AreBehind l) GoByPlace (comments_from ms) (behind l ms h.0) (from_members ms h.1.1))) (comments_at l d) (at_key l d)

from_object : (d : Data) → IsInOrder d → IfSome (comments_of d) GoByPlace
unfolding comments_of
from_object d h =
    then_some GoByPlace GoByPlace written (λ cs p. either_some GoByPlace (all_written cs) (Some cs) None p tt) _
    (then_some MembersInOrder GoByPlace comments_from (λ ms p. from_members ms p) (as_object d) (object_in_order d h))

pub absent_some : {X : Type 0} (P : Data → Type 0) (Q : X → Type 0) (absent : X) (spelled : Data → Option X) (o : Option Data) → Q absent → ((d : Data) → P d → IfSome (spelled d) Q) → IfSome o P → IfSome (or_absent absent spelled o) Q
absent_some P Q absent spelled None p q x = p
absent_some P Q absent spelled (Some d) p q x = q d x

pub comments_by_place : (body : Data) → IsInOrder body → IfSome (comments_in body) GoByPlace
unfolding comments_in
comments_by_place body h = absent_some IsInOrder GoByPlace [] comments_of (get (codes "comments") body) tt (λ d p. from_object d p) (get_in_order (codes "comments") body h)

-- an element of a list whose elements all have a property
all_at : {A : Type 0} (P : A → Type 0) (xs : List A) (k : ℕ) (d : A) → AllByRecursion P xs → k < length xs → P (slice_index_or xs k d)
all_at P [] k d p h = absurd (omega arith)
all_at P (x ∷ xs) zero d p h = p.0
all_at P (x ∷ xs) (suc k) d p h = all_at P xs k d p.1 (omega arith)

-- comments that go by place are in order by the word of the library
sorted_at : (cs : List NewComment) (k : ℕ) (d : NewComment) → GoByPlace cs → suc k < length cs → is_lt (slice_cmp nat_cmp (slice_index_or cs (suc k) d).path (slice_index_or cs k d).path) ≡ false
sorted_at [] k d g h = absurd (omega arith)
sorted_at (c ∷ cs) zero d g h = all_at (λ later. is_lt (slice_cmp nat_cmp later.path c.path) ≡ false) cs 0 d g.0 (omega arith)
sorted_at (c ∷ cs) (suc k) d g h = sorted_at cs k d g.1 (omega arith)

pub sorted : (cs : List NewComment) → GoByPlace cs → IsSortedByKey (λ c. c.path) (slice_cmp nat_cmp) cs
sorted cs g = λ k d low high. rw add-one (sorted_at cs k d g (omega arith))

-- ==== the comments of whatever a line or a body spells go by the bytes of their places

in_said : (patch : Option ℕ) (body : Data) → IsInOrder body → IfSome (said patch body) (λ r. GoByPlace r.comments)
unfolding said
in_said patch body h =
    next_some (λ r. GoByPlace r.comments) _ (λ message. next_some (λ r. GoByPlace r.comments) _ (λ labels. bind_some GoByPlace (λ r. GoByPlace r.comments) _ (λ comments p. p) (comments_in body) (comments_by_place body h)) (labels_in body)) (message_in body)

-- the comments of what is asked of a change go by place
abbrev IsAskedByPlace : ChangeCommand → Type 0
IsAskedByPlace command = GoByPlace (asked_comments command)

in_change_command : (asked : ChangeRoute) (body : Data) → IsInOrder body → IfSome (change_command_in asked body) IsAskedByPlace
unfolding change_command_in
in_change_command Upload body h = map_any IsAskedByPlace _ (λ patch. tt) (new_patch body)
in_change_command (Review patch) body h =
    either_some IsAskedByPlace (has_refused body) None _ tt (map_some (λ r. GoByPlace r.comments) IsAskedByPlace _ (λ what p. p) (said patch body) (in_said patch body h))
in_change_command AddReviewer body h = next_some IsAskedByPlace _ (λ account. next_some IsAskedByPlace _ (λ role. tt) (role_in body)) (account_named_at (codes "reviewer") body)
in_change_command AddAttention body h = next_some IsAskedByPlace _ (λ account. next_some IsAskedByPlace _ (λ reason. tt) (name_at is_line (codes "reason") body)) (account_named_at (codes "user") body)
in_change_command (RemoveAttention account) body h = map_any IsAskedByPlace _ (λ reason. tt) (name_at is_line (codes "reason") body)
in_change_command _ body h = tt

-- the comments of a command go by place
abbrev IsByPlace : Command → Type 0
IsByPlace command = GoByPlace (made_comments command)

in_command : (route : Route) (body : Data) → IsInOrder body → IfSome (command_in route body) IsByPlace
unfolding command_in
in_command CreateAccount body h = map_any IsByPlace _ (λ name. tt) (name_at is_word (codes "name") body)
in_command (PutGroup group) body h = map_any IsByPlace _ (λ members. tt) (members_at (codes "members") body)
in_command (PutProject project) body h = map_any IsByPlace _ (λ file. tt) (text_at (codes "file") body)
in_command (RecordBase project branch) body h = map_any IsByPlace _ (λ commit. tt) (name_at is_commit (codes "commit") body)
in_command CreateChange body h = map_any IsByPlace _ (λ change. tt) (new_change body)
in_command (OnChange change asked) body h = map_some IsAskedByPlace IsByPlace _ (λ what p. p) (change_command_in asked body) (in_change_command asked body h)
in_command CloseEpoch body h = map_any IsByPlace _ (λ epoch. tt) (epoch_at (codes "epoch") body)
in_command _ body h = tt

in_object : (d : Data) → IsInOrder d → IfSome (if_object d) IsInOrder
in_object d h = map_any IsInOrder (λ _. d) (λ ms. h) (as_object d)

in_value : (bytes : List ℕ) → IfSome (value_spelled bytes) IsInOrder
unfolding value_spelled
in_value bytes = then_any IsInOrder read read_in_order (text_of bytes)

in_body_spelled : (bytes : List ℕ) → IfSome (body_spelled bytes) IsInOrder
unfolding body_spelled
in_body_spelled bytes = either_some IsInOrder (length bytes == 0) (Some (object no_members)) _ tt (then_some IsInOrder IsInOrder if_object in_object (value_spelled bytes) (in_value bytes))

some_sorted : {A : Type 0} (comments : A → List NewComment) (o : Option A) → IfSome o (λ a. GoByPlace (comments a)) → IfSome o (λ a. IsSortedByKey (λ c. c.path) (slice_cmp nat_cmp) (comments a))
some_sorted comments None h = tt
some_sorted comments (Some a) h = sorted (comments a) h

pub bodies_by_place : CommentsOfBodiesGoByPlace
unfolding command_of
bodies_by_place route bytes =
    some_sorted made_comments (command_of route bytes) (then_some IsInOrder IsByPlace (command_in route) (in_command route) (body_spelled bytes) (in_body_spelled bytes))

in_body : (line : Data) → IsInOrder line → IfSome (body_in line) IsInOrder
unfolding body_in
in_body line h = absent_some IsInOrder IsInOrder (object no_members) if_object (get (codes "body") line) tt in_object (get_in_order (codes "body") line h)

in_command_in_line : (route : Route) (line : Data) → IsInOrder line → IfSome (command_in_line route line) IsByPlace
unfolding command_in_line
in_command_in_line route line h = then_some IsInOrder IsByPlace (command_in route) (in_command route) (body_in line) (in_body line h)

-- the comments of a delivery go by place
abbrev IsDeliveredByPlace : Delivery → Type 0
IsDeliveredByPlace delivery = GoByPlace (delivered_comments delivery)

in_write : (caller : ℕ) (route : Route) (line : Data) → IsInOrder line → IfSome (write_in caller route line) IsDeliveredByPlace
unfolding write_in
in_write caller route line h =
    next_some IsDeliveredByPlace _ (λ id. next_some IsDeliveredByPlace _
    (λ epoch. bind_some IsByPlace IsDeliveredByPlace _ (λ command p. p) (command_in_line route line) (in_command_in_line route line h)) (epoch_or_first (codes "epoch") line)) (name_at is_word (codes "id") line)

in_read : (caller : ℕ) (route : Route) → IfSome (read_in caller route) IsDeliveredByPlace
unfolding read_in
in_read caller route = map_any IsDeliveredByPlace _ (λ query. tt) (query_of route)

in_delivery : (line : Data) → IsInOrder line → IfSome (delivery_in line) IsDeliveredByPlace
unfolding delivery_in
in_delivery line h =
    next_some IsDeliveredByPlace _ (λ caller. next_some IsDeliveredByPlace _ (λ name. next_some IsDeliveredByPlace _
    (λ route. either_some IsDeliveredByPlace (is_question route) _ _ (in_read caller route) (in_write caller route line h)) (route_named name line)) (text_at (codes "do") line)) (account_at (codes "caller") line)

pub delivered_by_place : CommentsGoByPlace
unfolding delivery_spelled
delivered_by_place bytes =
    some_sorted delivered_comments (delivery_spelled bytes) (then_some IsInOrder IsDeliveredByPlace delivery_in in_delivery (value_spelled bytes) (in_value bytes))
