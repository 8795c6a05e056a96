-- What is said of lines and bodies in other words than those by which they are read.
use Rattle.std.specs.{Cmp.Lexicographic.slice_cmp, List.Sorted.IsSortedByKey, Ordering.nat_cmp}
use Rattle.std.specs.Prelude.{ℕ, List, [], IfSome}
use Rattle.review_words.specs.declared.changes.NewComment.{NewComment}
use Rattle.review_words.specs.declared.command.ChangeCommand.{ChangeCommand, TheVariants.Review}
use Rattle.review_words.specs.declared.command.Command.{Command, TheVariants.OnChange}
use Rattle.review_words.specs.declared.command.Delivery.{Delivery, TheVariants.Write, TheVariants.Read}
use Rattle.review_json_routes.specs.{Commands.command_of, declared.route.Route.Route}
use Rattle.review_json.specs.Line.{delivery_spelled}

-- the comments that something asked of a change makes, which is a review alone
abbrev pub asked_comments : ChangeCommand → List NewComment
asked_comments (Review review) = review.comments
asked_comments _ = []

-- the comments that a command makes
abbrev pub made_comments : Command → List NewComment
made_comments (OnChange change command) = asked_comments command
made_comments _ = []

-- the comments that a delivery is to make
abbrev pub delivered_comments : Delivery → List NewComment
delivered_comments (Write caller epoch id command) = made_comments command
delivered_comments (Read caller query) = []

-- Whatever the order in a body, the comments of the command to which it completes a route go by the bytes of their places.
abbrev pub CommentsOfBodiesGoByPlace : Type 0
CommentsOfBodiesGoByPlace = (route : Route) (bytes : List ℕ) → IfSome (command_of route bytes) (λ command. IsSortedByKey (λ comment. comment.path) (slice_cmp nat_cmp) (made_comments command))

-- Whatever the order in a line, the comments that it spells go by the bytes of their places.
abbrev pub CommentsGoByPlace : Type 0
CommentsGoByPlace = (bytes : List ℕ) → IfSome (delivery_spelled bytes) (λ delivery. IsSortedByKey (λ comment. comment.path) (slice_cmp nat_cmp) (delivered_comments delivery))
