-- A look at tables that is taken back.
use Rattle.review_sql_tables.proofs.Common.{◌≡◌, ◌∙◌, ◌⊎◌, inl, inr, ℕ, List, Some, None, Bool, Ok, Err, Result, IfOk, IfErr, IsTrue, refl, sym, subst, arith, Option, IfSome, Decides, survives_then, Database, IsDatabase, State, HasCleanDisk, Survives, IsRolledBack, Error, Trees, Row, AreApart, desk_schema, Looks, version_number}
use Rattle.review_sql_tables.proofs.Sequences.{taken_back, survives_from}
use Rattle.review_sql_tables.specs.declared.versions.TablesVersion.{TablesVersion, TheVariants.Third}
use Rattle.review_sql_records.proofs.Common.{at_tree, begun}
use Rattle.{review_sql_writes.specs.declared.numbers.Numbers.Numbers, review_sql.proofs.Saying.desk_of_ours}
use Rattle.review_sql.specs.Opened.{AreAllApart, Peeks, IsLacking, IsSeen, IsRefused, IsSaid, IsDeskThere, IsNone, IsThere, LacksLeast, SaysLeast, least_shown, ShowsEpochs}
use Rattle.review_sql.specs.Shelf.{AreAllRead}
use Rattle.review_sql.specs.declared.{faults.DeskFault.DeskFault, faults.DeskFault.TheVariants.NotADesk, seen.Said.Said}

pub peeked : {X : Type 0} (Found : Trees → X → Type 0) (s0 s2 s3 : State) (settled : IsTrue s0.is_open → s0.now ≡ s0.committed) (open_clean : IsTrue s3.is_open → HasCleanDisk s3) (r : Result X Error)
    → Looks Found (begun s0) s2 r → (HasCleanDisk s3 → IsRolledBack s2 s3) → Survives s2 s3 (λ _. ⊥) → Peeks Found s0 s3 r
peeked {X} Found s0 s2 s3 settled open_clean r looks undone last = record {
  found = λ clean desk. by_result r (looks.found (omega (arith, last.clean, clean)) refl desk);
  stays = record {
    kept = λ is_open.
        let clean = open_clean is_open in
        taken_back s0 s2 s3 settled (looks.kept (omega (arith, last.clean, clean)) refl).0 (undone clean) is_open;
    survives = survives_from s0 s3 _ (survives_then (begun s0) s2 s3 _ _ _ (λ _ db h. h) (λ _ db h. h) looks.survives last);
  };
}
  where
    by_result : (r : Result X Error) → IfOk r (λ x. (s2.now ≡ s0.now) × IsTrue s2.is_open × Found s0.now.trees x) → IfOk r (λ x. IsTrue s3.is_open → Found s0.now.trees x)
    by_result (Ok x) h = λ is_open. h.2
    by_result (Err e) h = tt

-- what is seen of tables of our form, whose rows were looked at
pub seen_ours : (s : State) (numbers : Numbers) (is_apart : Bool) → s.now.schema ≡ desk_schema → IsDatabase s.now → IsDeskThere s.now numbers → Decides is_apart (AreAllApart s.now.trees) → IsSeen s (record { is_ours = is_apart; numbers = numbers })
seen_ours s numbers is_apart has sound there apart = record {
  ready = λ yes. (record { schema = has; sound = sound; apart = λ t listed. at_tree (λ n. AreApart (s.now.trees n)) desk_schema.tables (apart.0 yes) t listed }, desk_of_ours s.now has numbers there);
  ours = λ same all. apart.1 all;
  there = there;
}

-- ---- why tables are refused

-- tables that lack something of a desk
pub lacking : (s : State) (version : TablesVersion) → IsNone version s.now → IsLacking version s NotADesk
lacking s version none = record { no_desk = λ is. none; no_other = ((λ is. cc), (λ is. cc), (λ is. cc)) }

-- the same, of tables that are as they were
pub refused_third : {X : Type 0} (s t : State) (r : Result X DeskFault) → t.now ≡ s.now → IfErr r (IsLacking Third t) → IfErr r (IsRefused s)
refused_third s t (Ok x) same it = tt
refused_third s t (Err fault) same it = record {
  no_desk = λ is. subst (IsNone Third) same (it.no_desk is);
  other_version = λ is. absurd (it.no_other.0 is);
  not_ours = λ is. absurd (it.no_other.2 is);
  not_empty = it.no_other.1;
}

-- nothing is said of a version
pub none_said : (s : State) (said : Said) (version : TablesVersion) → IsSaid s.now said → said.version ≡ None → IsNone version s.now
none_said s said version it none = inr (it.rows, it.shown, inl (sym it.version_is ∙ none))

module _ (s : State) (said : Said) (version : TablesVersion) (it : IsSaid s.now said) (is : said.version ≡ Some (version_number version)) where
  -- a table is missing, or no least open epoch is said
  pub part_missing : (AreAllRead version s.now.schema → ⊥) ⊎ LacksLeast version s.now → IsNone version s.now
  part_missing missing = inr (it.rows, it.shown, inr (sym it.version_is ∙ is, inr missing))

  pub tables_there : (numbers : Numbers) → said.requests ≡ Some numbers.requests → AreAllRead version s.now.schema × SaysLeast version s.now numbers.least → IsThere version s.now numbers
  tables_there numbers some whole = record { rows = it.rows; shown = it.shown; version_is = sym it.version_is ∙ is; requests_are = sym it.requests_are ∙ some; tables = whole.0; least = whole.1 }

-- ---- all columns are there, and then the least open epoch was asked

module _ (version : TablesVersion) (s t : State) (r : Result (Option ℕ) Error) (same : t.now ≡ s.now) where
  pub whole_after : AreAllRead version s.now.schema → IfOk r (λ said. IfSome said (SaysLeast version t.now)) → IfOk r (λ said. IfSome said (λ least. AreAllRead version s.now.schema × SaysLeast version s.now least))
  whole_after all says = by r says
    where
      by : (q : Result (Option ℕ) Error) → IfOk q (λ said. IfSome said (SaysLeast version t.now)) → IfOk q (λ said. IfSome said (λ least. AreAllRead version s.now.schema × SaysLeast version s.now least))
      by (Ok None) it = tt
      by (Ok (Some least)) it = (all, subst (λ (d : Database). SaysLeast version d least) same it)
      by (Err e) it = tt

  pub part_after : IfOk r (λ said. said ≡ None → LacksLeast version t.now) → IfOk r (λ said. said ≡ None → (AreAllRead version s.now.schema → ⊥) ⊎ LacksLeast version s.now)
  part_after lacks = by r lacks
    where
      by : (q : Result (Option ℕ) Error) → IfOk q (λ said. said ≡ None → LacksLeast version t.now) → IfOk q (λ said. said ≡ None → (AreAllRead version s.now.schema → ⊥) ⊎ LacksLeast version s.now)
      by (Ok said) it = λ fails. inr (subst (LacksLeast version) same (it fails))
      by (Err e) it = tt

-- what the rows of the epochs say, or that they say none
module _ (db : Database) (rows : List Row) (shown : ShowsEpochs db rows) where
  pub says_if : (said : Option ℕ) → said ≡ least_shown rows → IfSome said (SaysLeast Third db)
  says_if None is = tt
  says_if (Some least) is = (rows, shown, sym is)

  pub lacks_if : (said : Option ℕ) → said ≡ least_shown rows → said ≡ None → LacksLeast Third db
  lacks_if said is none = (rows, shown, sym is ∙ none)
