-- The names that most proofs of decisions and of the tables in memory cite, passed on from one place. Declares nothing.
pub use Rattle.std.proofs.Math.Bool.{or-true}
pub use Rattle.std.proofs.lemmas.Bool.{and_from, and_parts, cases_Bool, cases_lt, not-true, or_cases, Decides.nat_tests}
pub use Rattle.std.proofs.lemmas.Cmp.{nat_cmp_total, nat_list_cmp_total, on_total, then_total, tied_itself}
pub use Rattle.std.proofs.lemmas.{Grind.common_steps, List.append-nil, List.map-append, List.take_more}
pub use Rattle.std.proofs.lemmas.List.Elements.{All-from_recursion, All-head, All-tail, recursion_from_All}
pub use Rattle.std.proofs.lemmas.{List.Folds.list_any-append, Map.Lookups.exact_unsigned, Map.Text.is_eq-slice_cmp}
pub use Rattle.std.proofs.lemmas.{Map.Views.tells_apart, Option.same_Some, Result.IfErr-weaker, Result.IfOk-weaker}
pub use Rattle.std.{proofs.lemmas.Slice.Eq.bytes_eq-Decides, specs.BTreeMap.is_at, specs.BTreeMap.Range.range_contains}
pub use Rattle.std.specs.Cmp.{IsTotalOrder, nat_cmp_is, unsigned_tied, unsigned_ties, Lexicographic.slice_cmp}
pub use Rattle.std.specs.{List.AllByRecursion, List.filter, List.list_all, List.list_any, Map.keys_of}
pub use Rattle.std.specs.{Map.Iter.deref_pair, Option.option_copied, Option.option_map_or, Option.option_or}
pub use Rattle.std.specs.Ordering.{match_ordering, nat_cmp, ordering_then}
pub use Rattle.std.specs.declared.{alloc.AllocError.AllocError, cmp.Ordering.Ordering}
pub use Rattle.std.specs.declared.cmp.Ordering.TheVariants.{Equal, Greater, Less}
pub use Rattle.std.specs.declared.ops.Bound.TheVariants.{Included}
pub use Rattle.review_names.specs.Forms.{is_label, most_changes, most_comments, most_patches}
pub use Rattle.review_names.specs.{Groups.GroupList, Groups.has_account, Names.administrators, Names.registered_users}
pub use Rattle.review_table.proofs.Plain.{some_mapped, some_or}
pub use Rattle.review_table.specs.Rows.{HasEmptyOnly, HavePlaces, NamesOnce, after_row_edit, changed, is_named, row_in, rows_of}
pub use Rattle.review_table.specs.declared.table.RowEdit.{RowEdit}
pub use Rattle.review_words.specs.History.{Entry, Identity, IsFirst, account_count, base_count, bases, entry_of, file_text, is_account, is_closed, is_project, is_same, least_open, name_taken, stored}
pub use Rattle.review_words.specs.Texts.{IsCommentNumber, IsStored, reply_text}
pub use Rattle.review_words.specs.declared.changes.{Given.Given, NewChange.NewChange, NewPatch.NewPatch, Role.Role}
pub use Rattle.review_words.specs.declared.command.{ChangeCommand.ChangeCommand, Command.Command}
pub use Rattle.review_words.specs.declared.command.Command.TheVariants.{CloseEpoch, CreateAccount, CreateChange, OnChange, PutGroup, PutProject, RecordBase, Submit}
pub use Rattle.review_words.specs.declared.command.Delivery.{Delivery, TheVariants.Read, TheVariants.Write}
pub use Rattle.review_words.specs.declared.{faults.FileFault.TheVariants.UnknownLabel, reply.Answer.Answer}
pub use Rattle.review_words.specs.declared.reply.Answer.TheVariants.{Nothing, Patch, Reviewed, Submitted}
pub use Rattle.review_words.specs.declared.reply.NotTaken.TheVariants.{Damaged, Memory}
pub use Rattle.review_words.specs.declared.reply.Refusal.{Refusal}
pub use Rattle.review_words.specs.declared.reply.Refusal.TheVariants.{BadFile, CommitKnown, EpochAhead, Limit, NameTaken, NoAccount, NoChange, NoProject, NotAdmin, SameState, UnknownCaller}
pub use Rattle.review_words.specs.declared.reply.Reply.{Reply}
pub use Rattle.review_words.specs.declared.reply.Reply.TheVariants.{Done, EpochClosed, NotTaken, Refused}
pub use Rattle.review_words.specs.declared.shown.{JoinedChange.JoinedChange, ShownRequirement.ShownRequirement}
pub use Rattle.review_words.specs.declared.shown.State.TheVariants.{Merged}
pub use Rattle.review_chain.{proofs.Walking.chain_ready, specs.Branches.Branch, specs.Steps.wanted, specs.Walks.IsReady}
pub use Rattle.review_chain.specs.declared.links.{Link.Link, Standing.Standing}
pub use Rattle.review_chain.specs.declared.links.Standing.TheVariants.{InBranch, Nowhere, PatchSet}
pub use Rattle.{review_chain.specs.declared.walks.ChainFault.ChainFault, review_expr.specs.declared.expr.Expr.Expr}
pub use Rattle.review_file_rules.proofs.Trees.{OneFile}
pub use Rattle.review_file_rules.specs.Inherited.{IsEffective, inherit, inherits_unknown_label}
pub use Rattle.review_file_rules.specs.{Reading.named_parent, Rights.covers, Trees.ExprTree, Trees.file_trees}
pub use Rattle.review_file_rules.specs.View.{FileView, LabelView, RequirementView}
pub use Rattle.review_core_rules.proofs.Stays.{within_parts}
pub use Rattle.review_core_rules.specs.Change.{Change, Setting, after, after_plain, begun, current, current_patch, is_open, joined_at, of_number, said}
pub use Rattle.review_core_rules.specs.{Counts.AreMany, EditedChanges.after_edits}
pub use Rattle.review_core_rules.specs.Facts.{AreStanding, IsFirstUnsatisfied, unsatisfied_in}
pub use Rattle.review_core_rules.specs.Parts.{AHeader, APatch, Part, PartRow, PatchOf, TheHeader, part_row}
pub use Rattle.review_core_rules.specs.{Seen.seen, Seen.vote_cmp, Sound.IsSound, Sound.fits, Votes.voted}
pub use Rattle.review_core_rules.specs.declared.rows.{ChangeRows.ChangeRows, CommentRow.CommentRow, Header.Header}
pub use Rattle.review_core_rules.specs.declared.rows.{PatchRow.PatchRow, VoteKey.VoteKey}
pub use Rattle.review_machine_rows.specs.Answer.{IsAnswer, IsHistory, first_refusal, has_role, most_requests}
pub use Rattle.review_machine_rows.specs.Changes.{IsReadRight, Reading, Reads, change, effective_of, is_known, own_of, place_in, placed, texts_of}
pub use Rattle.review_machine_rows.specs.Decisions.{IsDoneOrRefused, IsUndecided, IsUnread, NamesEachOnce, NamesRowsOnce, RestsOn, SomePattern}
pub use Rattle.review_machine_rows.specs.Files.{File, IsRead}
pub use Rattle.review_machine_rows.specs.Known.{Agrees, IsAtPlace, IsCurrent, IsJoinedAt, IsKnown, IsLastJoined, IsSender, IsSentBy, at_place, file_in, known, number_of, part_of}
pub use Rattle.review_machine_rows.specs.{Limits.most_projects, Lines.line_of, Lines.most_depth, Lines.with_above}
pub use Rattle.review_machine_rows.specs.{Links.link_for, Questions.IsQueryAnswerBy}
pub use Rattle.review_machine_rows.specs.Rows.{APart, AccountRow, AnswerRow, BaseRow, FileRow, HasNoEffect, Key, MemberRow, PartKey, Row, Tables, branch_cmp, edited, kept_row, member_change, member_cmp, part_change, place_cmp, vote_row}
pub use Rattle.review_machine_rows.specs.Shelf.{IsCommitted, IsCounted, IsDamaged, Shows, cause_of}
pub use Rattle.review_machine_rows.specs.Steps.{HasFile, OfCommand, OfQuery, look_up}
pub use Rattle.review_machine_rows.specs.Submits.{is_merged}
pub use Rattle.review_machine_rows.specs.View.{AreEnough, IsDecided, IsView, answer_row, counted, fact, view}
pub use Rattle.review_machine_rows.specs.declared.rows.{Base.Base, BranchKey.BranchKey, ChangeEdit.ChangeEdit}
pub use Rattle.review_machine_rows.specs.declared.rows.{Delta.Delta, PlaceKey.PlaceKey, Put.Put, Rows.Rows}
pub use Rattle.review_machine_rows.specs.declared.rows.{StoredFile.StoredFile, Want.Want}
pub use Rattle.review_machine_rows.specs.declared.shelf.ShelfFault.{ShelfFault}
