-- The names that most proofs of tables, look-ups and stores cite, passed on from one place. Declares nothing.
pub use Rattle.std.proofs.Common.{All, Bool, Equal, Err, Global, Greater, IfErr, IfOk, IfSome, IsSome, IsTrue, Less, List, None, Ok, OnErr, OnOk}
pub use Rattle.std.proofs.Common.{Option, Ordering, Result, Some, Vec, [], ap, append-nil, arith, codes, cond, drop, eq-eqb, eqb, eqb-true, false}
pub use Rattle.std.proofs.Common.{filter, get_or, inl, inr, int_cmp, int_eq, int_lt, is_eq, is_gt, is_lt, is_some, leb-false, leb-true, length, map}
pub use Rattle.std.proofs.Common.{nat_cmp, nat_eq, nat_le, nat_lt, negsuc, not, option_map, pos, refl, rules, slice_get, slice_index_or, string_bytes}
pub use Rattle.std.proofs.Common.{subst, subst₂, suc, sym, take, true, unwrap_or, zero, ℕ, ℤ, ⊎_elim, ◌&&◌, ◌++◌, ◌+◌, ◌-◌, ◌/◌, ◌<◌, ◌==◌, ◌||◌, ◌∙◌}
pub use Rattle.std.proofs.Common.{◌∷◌, ◌≡◌, ◌≢◌, ◌≤◌, ◌⊎◌}
pub use Rattle.std.proofs.Math.Seq.{drop-cons}
pub use Rattle.std.proofs.lemmas.Bool.{and_from, and_parts, both_ways, cases_Bool, cases_lt, eqb-false, lt-ltb, not-true, or_cases, or_parts}
pub use Rattle.std.proofs.lemmas.Bool.Decides.{leb_tells, nat_tests}
pub use Rattle.std.proofs.lemmas.Cmp.{nat_list_cmp_total, tied_itself}
pub use Rattle.std.proofs.lemmas.List.{append_assoc, length-map, map-append, take_all, take_more}
pub use Rattle.std.proofs.lemmas.List.Elements.{All-from_recursion, recursion_from_All}
pub use Rattle.std.proofs.lemmas.List.Sorted.{All-permutation, IsPermutation-map, IsPermutation-sym, IsPermutation-trans, length_permutation}
pub use Rattle.std.proofs.lemmas.{Map.Lookups.exact_bytes, Option.same_Some, Str.is_utf8-from_IsUtf8}
pub use Rattle.std.specs.{BTreeMap.is_at, Bool.Decides, Cmp.Lexicographic.slice_cmp}
pub use Rattle.std.specs.List.{AllByRecursion, AllZip, list_all, list_any, Sorted.IsPermutation}
pub use Rattle.std.specs.Ordering.{match_ordering, ordering_reverse, ordering_then}
pub use Rattle.std.specs.{Result.is_ok, Str.bytes_eq, Str.is_utf8, declared.alloc.AllocError.AllocError}
pub use Rattle.sqlite.proofs.Callers.{IsPlain, command_of, one_permutation, reads_as, runs_as, statement_of}
pub use Rattle.sqlite.proofs.StateLemmas.{clean_if_open, survives_then, survives_weaker}
pub use Rattle.sqlite.specs.Does.{Tally, is_acted_on}
pub use Rattle.sqlite.specs.{Effect.Database, Effect.IsDatabase, Effect.Reads, Effect.value_rows, Held.Held, Held.state}
pub use Rattle.sqlite.specs.State.{Executes, FailsToShow, HasCleanDisk, IsRolledBack, IsUnchanged, State, Survives, store_error}
pub use Rattle.sqlite.specs.{Values.bound, declared.error.Error.Error}
pub use Rattle.sqlite_catalog.proofs.AlterLemmas.{keys_are_unique}
pub use Rattle.sqlite_catalog.specs.{Change.KeepsRows, Change.next_tree, Change.without_table, Listing.IsSound}
pub use Rattle.sqlite_keyed.proofs.ListLemmas.{IsPermutation-filter, all_map, all_unmap, all_weaker, filter-filter, filter-map, filter_same, map-map}
pub use Rattle.sqlite_resolve.specs.{Compile.table_defined_by, Lowering.Checked, declared.compiled.Compiled.Compiled}
pub use Rattle.sqlite_rules.{proofs.TableLemmas.int_is, specs.Cast.cast, specs.Cast.cast_row}
pub use Rattle.sqlite_rules.specs.Edit.{are_fresh, edit_of, have_rowids, id_in, is_taken, numbered, put_all, without_all}
pub use Rattle.sqlite_rules.specs.Lists.{Has}
pub use Rattle.sqlite_rules.specs.declared.error.Rowids.TheVariants.{Chosen, Given}
pub use Rattle.sqlite_schema.specs.Rules.{agree, differ}
pub use Rattle.sqlite_schema.specs.declared.command.Command.TheVariants.{Delete, DropTable, Insert, Update}
pub use Rattle.sqlite_schema.specs.declared.command.Returning.{Returning}
pub use Rattle.sqlite_schema.specs.declared.schema.{Column.Column, Keys.TheVariants.Enforced, Kind.TheVariants.Integer}
pub use Rattle.sqlite_schema.specs.declared.schema.{Schema.Schema, Table.Table}
pub use Rattle.sqlite_sql.specs.{Ops.is_null, Program.overlay, Query.IsAnswer, Query.Output, Query.Query, Query.output}
pub use Rattle.sqlite_sql.specs.Term.{Term, col, eval_all, holds, lit}
pub use Rattle.sqlite_trees.{proofs.ListLemmas.all-permutation, specs.Tree.Trees, specs.Tree.put_row, specs.Tree.rowid}
pub use Rattle.sqlite_trees.specs.{View.is_int, declared.error.StoreError.StoreError}
pub use Rattle.sqlite_trees.specs.declared.{error.StoreError.TheVariants.OutOfMemory, store.Store.Ghosts}
pub use Rattle.sqlite_value.proofs.OrderLemmas.{value_cmp-Int, value_cmp-Null, value_cmp-Text, value_cmp_total}
pub use Rattle.sqlite_value.specs.{Keys.plain, Order.Row, Order.Row as Raw, Order.column}
pub use Rattle.sqlite_value.specs.declared.{keys.Collation.TheVariants.Binary, value.Value.Value}
pub use Rattle.sqlite_value.specs.declared.value.Value.TheVariants.{Blob, Int, Null, Real, Text}
pub use Rattle.review_table.specs.Rows.{after_row_edit, row_edit_of, row_in, rows_of}
pub use Rattle.review_table.specs.declared.table.RowEdit.{RowEdit}
pub use Rattle.review_sql_tables.specs.Content.{Adds, AreApart, IsAdded, Remakes, Removes, RemovesWhere, SparesOthers, has_key, is_natural}
pub use Rattle.review_sql_tables.specs.Content.{is_number_below, is_text, is_value}
pub use Rattle.review_sql_tables.specs.Desk.{accounts, answers_3, attention, bases, changes, comments, desk, desk_schema, desk_tables, epochs}
pub use Rattle.review_sql_tables.specs.Desk.{is_tree, members, patches, projects_2, reviewers, schema_0, schema_1, schema_2, schema_of, simple}
pub use Rattle.review_sql_tables.specs.Desk.{tables_1, tables_2, votes}
pub use Rattle.review_sql_tables.specs.Ran.{Inside, IsDeskIfOpen, IsReady, Looks, OnDesk, Serves, Transacts, Within}
pub use Rattle.review_sql_tables.specs.Search.{number_in, text_in, AreParts, HaveRows, IsExact, SetsParts, HasGreatest, HasOne, as_counted, AreFound}
pub use Rattle.review_sql_tables.specs.Search.{At, Finds, Search, SetsRow, SetsRows, only, reads, row_at, rows_at, shown}
pub use Rattle.review_sql_tables.specs.Texts.{Asks, Deletes, Inserts, Updates, last_where, over_table, rows_where, tests_from, values_of}
pub use Rattle.review_sql_tables.specs.Versions.{Grows, IsBlank, IsMade, MakesBy, MakesText, Migrates, Moves, AreMoved, Move, answers_move}
pub use Rattle.review_sql_tables.specs.Versions.{columns_of, projects_move, with_first_epoch, without_parent, is_new, schema_at, version_number}
pub use Rattle.review_sql_tables.specs.Versions.{version_of}
pub use Rattle.review_sql_tables.specs.declared.texts.TheConstants.{ANY_ROW, DROP_ANSWERS, DROP_PROJECTS, FIND_ANSWER, FIND_DESK, FIND_EPOCHS}
pub use Rattle.review_sql_tables.specs.declared.texts.TheConstants.{MOVE_ANSWERS, MOVE_PROJECTS}
pub use Rattle.review_sql_tables.specs.declared.versions.{EarlierVersion.EarlierVersion, TablesVersion.TablesVersion}
pub use Rattle.review_sql_tables.specs.declared.versions.TablesVersion.TheVariants.{First, Second, Third}
pub use Rattle.review_sql_tables.specs.inner.Words.{Drops, DropsBy, DropsText, Fills, FillsBy, FillsText, HasNoKeys, IsSimple, with_both, AreIds}
pub use Rattle.review_sql_tables.specs.inner.Words.{AreOwn, firsts, DeletesBelow, FindsIds, ShowsCount, Then, WereApart, WereRead, WereSorted}
pub use Rattle.review_sql_tables.specs.inner.Words.{count_where, first_as, table_at, tests_below}
unfoldable pub use Rattle.std.specs.List.{IsDistinct}
unfoldable pub use Rattle.sqlite.specs.Listing.{listing_schema, understood}
unfoldable pub use Rattle.sqlite.specs.State.{FailsToQuery, IsNotRun, Shown}
unfoldable pub use Rattle.{sqlite_sql.specs.Ops.binary, sqlite_tied.specs.Compute.everything}
unfoldable pub use Rattle.sqlite_value.specs.{Keys.first_key, Order.value_cmp}
