-- The names of rows, and of lemmas on tables, that most proofs of look-ups and stores cite, passed on from one place. Declares nothing.
pub use Rattle.review_names.specs.Forms.{is_commit, is_slashed_name, most_changes, most_patches}
pub use Rattle.review_names.specs.Names.{is_word}
pub use Rattle.review_words.specs.History.{Entry, Identity, bases as history_bases, is_listed, is_same}
pub use Rattle.review_words.specs.declared.{changes.Role.Role, shown.JoinedChange.JoinedChange}
pub use Rattle.review_sql_tables.proofs.{ByTree.at_tree, Counting.asked_count, Found.look_both, Found.look_on}
pub use Rattle.review_sql_tables.proofs.Keys.{equal_is, itself, same_text}
pub use Rattle.review_sql_tables.proofs.{Meaning.all_pass, OneSchema.one_schema}
pub use Rattle.review_sql_tables.proofs.Sequences.{Next, begun, ended, failed, follow, look, look_ended, look_failed, next}
pub use Rattle.review_machine_rows.{proofs.Readings.reading_of, specs.Answer.IsHistory}
pub use Rattle.review_machine_rows.specs.Changes.{Reading, own_of}
pub use Rattle.review_machine_rows.specs.Known.{AgreesBeside, AreAsked, HasMembers, HaveJoined, IsAtPlace, IsBaseOrNot, IsCurrent, IsLast, at_place}
pub use Rattle.review_machine_rows.specs.Limits.{most_bases}
pub use Rattle.review_machine_rows.specs.Rows.{APart, AccountKey, AccountRow, AnswerRow, Answered, BaseKey, BaseRow, BasesOf, ClosedEpochs, Count}
pub use Rattle.review_machine_rows.specs.Rows.{FileKey, FileRow, Key, MemberKey, MemberRow, OddKey, OddRow, PartKey, Projects, Tables, count_put}
pub use Rattle.review_machine_rows.specs.Rows.{edited, kept_row, vote_row}
pub use Rattle.review_machine_rows.specs.Shelf.{Blames, BlamesTables, IsCommitted, IsDamaged, IsRecalled, KeepsTables, LeavesBy, Shows, cause_of}
pub use Rattle.review_machine_rows.specs.View.{IsView, IsViewBy, counted, fact, kept_answer}
pub use Rattle.review_machine_rows.specs.declared.rows.{Base.Base, BranchKey.BranchKey, ChangeEdit.ChangeEdit}
pub use Rattle.review_machine_rows.specs.declared.rows.{Delta.Delta, Kept.Kept, PlaceKey.PlaceKey, Put.Put, Rows.Rows}
pub use Rattle.review_machine_rows.specs.declared.rows.{StoredFile.StoredFile, Want.Want}
pub use Rattle.review_machine_rows.specs.declared.shelf.ShelfFault.{ShelfFault, TheVariants.Damaged}
pub use Rattle.review_sql_records.specs.Forms.{account_names, account_numbers, answers, base_commits, base_parts, base_places, both, branch_bases}
pub use Rattle.review_sql_records.specs.Forms.{earlier_answers, earlier_key, file_without_parent, first_epoch, group_members, is_of_lower}
pub use Rattle.review_sql_records.specs.Forms.{member_parts, projects, request_key, where_is, answer_keyed, earlier_answer_keyed, is_small}
pub use Rattle.review_sql_records.specs.Forms.{project_keyed}
pub use Rattle.review_sql_records.specs.Laws.{at_number, both_are, number_is, one_number, passed}
pub use Rattle.review_sql_records.specs.declared.rows.{Answered.Answered as Rest, DeskRow.DeskRow}
unfoldable pub use Rattle.review_names.specs.Forms.{is_within}
