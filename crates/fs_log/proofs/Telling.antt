-- What a stat, a list and a read tell of the directory of a log and of the files in it.
use Rattle.std.proofs.Common.{◌≡◌, ◌≢◌, ◌⊎◌, inl, inr, ⊎_elim, ℕ, ◌*◌, ◌^◌, ◌≤◌, true, false, List, length, take, drop, Option, Some, None, refl, sym, ◌∙◌, ap, subst, arith}
use Rattle.std.proofs.lemmas.Bool.{false≢true}
use Rattle.std.specs.FinMap.{get}
use Rattle.lang_tree.specs.declared.command.Cmd.TheVariants.{List as ListNames, Read, Stat as StatCmd}
use Rattle.lang_tree.specs.declared.command.Kind.TheVariants.{Dir as DirKind, File as FileKind}
use Rattle.lang_tree.specs.declared.command.Refusal.{Refusal}
use Rattle.lang_tree.specs.declared.command.Refusal.TheVariants.{NotFound}
use Rattle.lang_tree.specs.declared.command.Reply.{Reply}
use Rattle.lang_tree.specs.declared.command.Reply.TheVariants.{Bytes, Names as NamesReply, Refused, Stat as StatReply}
use Rattle.lang_tree.specs.declared.command.Stat.{Stat}
use Rattle.lang_tree.specs.Names.{names_in, path_count}
use Rattle.lang_tree.specs.Run.{is_of_disk}
use Rattle.lang_tree.specs.Step.{Session, stat_of, step}
use Rattle.lang_tree.specs.Tree.{Dir, File, IsSound, Thing, Tree}
use Rattle.lang_log.specs.Log.{HasNoLog}
use Rattle.lang_log.specs.Names.{log_path, path_in_log, segment_path, segment_name}
use Rattle.fs_log.specs.declared.refusal.OpenRefusal.{OpenRefusal}
use Rattle.fs_log.specs.declared.refusal.OpenRefusal.TheVariants.{BadLog, Fs as FsRefused}
use Rattle.fs_log.specs.Asked.{is_bytes}
use Rattle.fs_log.specs.Finding.{AnswersQuestion, HasAtLog, HasDirectory, HasFile, is_names, is_stat, refusal_by}

-- a refusal is none that what lies there is no log
pub refused_not_bad : (reply : Reply) (why : OpenRefusal) (cause : Refusal) → why ≡ refusal_by reply → reply ≡ Refused cause → why ≢ BadLog
refused_not_bad reply why cause is refused bad = same (sym (ap refusal_by refused) ∙ (sym is ∙ bad))
  where
    same : FsRefused cause ≡ BadLog → ⊥
    same e = cc

-- it was refused for a reason of the disk
abbrev pub IsOfDisk : Reply → Type 0
IsOfDisk reply = (why : Refusal) × (is_of_disk why ≡ true) × (reply ≡ Refused why)

same_refusal : (a b : Refusal) → Refused a ≡ Refused b → a ≡ b
same_refusal a b e = cc

not_of_disk : (reply : Reply) → IsOfDisk reply → reply ≢ Refused NotFound
not_of_disk reply (why, outside, is) e = false≢true (sym (ap is_of_disk (same_refusal why NotFound (sym is ∙ e))) ∙ outside)

same_stat : (a b : Stat) → StatReply a ≡ StatReply b → a ≡ b
same_stat a b e = cc

same_names : (a b : List (List ℕ)) → NamesReply a ≡ NamesReply b → a ≡ b
same_names a b e = cc

same_bytes : (a b : List ℕ) → Bytes a ≡ Bytes b → a ≡ b
same_bytes a b e = cc

stat_not_refused : (a : Stat) (why : Refusal) → StatReply a ≡ Refused why → ⊥
stat_not_refused a why e = cc

names_not_refused : (a : List (List ℕ)) (why : Refusal) → NamesReply a ≡ Refused why → ⊥
names_not_refused a why e = cc

bytes_not_refused : (a : List ℕ) (why : Refusal) → Bytes a ≡ Refused why → ⊥
bytes_not_refused a why e = cc

-- the thing of which this is told
abbrev pub IsThing : Stat → Option Thing → Type 0
IsThing there thing = ((there.kind ≡ DirKind) × (thing ≡ Some Dir)) ⊎ ((bytes : List ℕ) × (there.kind ≡ FileKind) × (thing ≡ Some (File bytes)) × (there.size ≡ length bytes))

-- What is told of node n.
pub record ToldOf (t : Tree) (n : ℕ) (reply : Reply) : Type 0 where
  pub there : Stat
  pub is : reply ≡ StatReply there
  pub number : there.number ≡ n
  pub thing : IsThing there (get t.nodes n)

told_of : (t : Tree) (path : List (List ℕ)) (n : ℕ) (reply : Reply) (thing : Thing) → get t.nodes n ≡ Some thing → reply ≡ stat_of t path n (Some thing) → ToldOf t n reply
told_of t path n reply Dir at is = record {
  there = record { kind = DirKind; number = n; size = 64 * length (names_in t.names path); links = 1 };
  is = is;
  number = refl;
  thing = inl (refl, at);
}
told_of t path n reply (File bytes) at is = record {
  there = record { kind = FileKind; number = n; size = length bytes; links = path_count t.names n };
  is = is;
  number = refl;
  thing = inr (bytes, refl, at, refl);
}

-- At `/log`.
module _ (none : (old new : Session) (reply : Reply) → IsSound old.limit.nodes old.tree → get old.tree.names log_path ≡ None → step old (StatCmd log_path) ≡ (new, reply) → (reply ≡ Refused NotFound) × (new ≡ old))
    (stat : (n : ℕ) (thing : Thing) (old new : Session) (reply : Reply) → IsSound old.limit.nodes old.tree → get old.tree.names log_path ≡ Some n → get old.tree.nodes n ≡ Some thing → step old (StatCmd log_path) ≡ (new, reply)
    → (reply ≡ stat_of old.tree log_path n (Some thing)) × (new ≡ old))
    (f : Session) (sound : IsSound f.limit.nodes f.tree) (reply : Reply) (answers : AnswersQuestion f (StatCmd log_path) reply) where
  -- nothing is there; or this is told of it; or the disk failed
  abbrev AtLog : Type 0
  AtLog = ((reply ≡ Refused NotFound) × (get f.tree.names log_path ≡ None)) ⊎ (((n : ℕ) × (get f.tree.names log_path ≡ Some n) × ToldOf f.tree n reply) ⊎ IsOfDisk reply)

  at_log : AtLog
  at_log = by answers
    where
      found : step f (StatCmd log_path) ≡ (f, reply) → (o : Option ℕ) → get f.tree.names log_path ≡ o → AtLog
      found is None e = inl ((none f f reply sound e is).0, e)
      found is (Some n) e = let x = sound.named log_path n e in inr (inl (n, e, told_of f.tree log_path n reply x.0 x.1 (stat n x.0 f f reply sound e x.1 is).0))

      by : AnswersQuestion f (StatCmd log_path) reply → AtLog
      by (inl is) = found is (get f.tree.names log_path) refl
      by (inr refused) = inr (inr refused)

  kind_at : (n : ℕ) (there : Stat) → get f.tree.names log_path ≡ Some n → IsThing there (get f.tree.nodes n) → HasAtLog f.tree (Some there.kind)
  kind_at n there at (inl (kind, is)) = subst (λ k. HasAtLog f.tree (Some k)) (sym kind) (n, at, is)
  kind_at n there at (inr (bytes, kind, is, size)) = subst (λ k. HasAtLog f.tree (Some k)) (sym kind) (n, bytes, at, is)

  pub nothing_there : reply ≡ Refused NotFound → HasAtLog f.tree None
  nothing_there is = by at_log
    where
      by : AtLog → HasAtLog f.tree None
      by (inl (told, e)) = e
      by (inr (inl (n, at, told))) = absurd (stat_not_refused told.there NotFound (sym told.is ∙ is))
      by (inr (inr refused)) = absurd (not_of_disk reply refused is)

  pub something_there : (there : Stat) → reply ≡ StatReply there → HasAtLog f.tree (Some there.kind)
  something_there there is = by at_log
    where
      by : AtLog → HasAtLog f.tree (Some there.kind)
      by (inl (told, e)) = absurd (stat_not_refused there NotFound (sym is ∙ told))
      by (inr (inl (n, at, told))) = subst (λ (s : Stat). HasAtLog f.tree (Some s.kind)) (same_stat told.there there (sym told.is ∙ is)) (kind_at n told.there at told.thing)
      by (inr (inr (why, outside, refused))) = absurd (stat_not_refused there why (sym is ∙ refused))

  -- another reply is a refusal of the disk
  pub log_refused : is_stat reply ≡ false → IsOfDisk reply
  log_refused other = by at_log
    where
      by : AtLog → IsOfDisk reply
      by (inl (told, e)) = absurd (false≢true (sym other ∙ ap is_stat told))
      by (inr (inl (n, at, told))) = absurd (false≢true (sym other ∙ ap is_stat told.is))
      by (inr (inr refused)) = refused

-- The names in the directory.
module _ (list : (n : ℕ) (old new : Session) (reply : Reply) → IsSound old.limit.nodes old.tree → get old.tree.names log_path ≡ Some n → get old.tree.nodes n ≡ Some Dir → step old (ListNames log_path) ≡ (new, reply)
    → (reply ≡ NamesReply (names_in old.tree.names log_path)) × (new ≡ old))
    (f : Session) (sound : IsSound f.limit.nodes f.tree) (reply : Reply) (answers : AnswersQuestion f (ListNames log_path) reply) (there : HasDirectory f.tree) where
  listed : (reply ≡ NamesReply (names_in f.tree.names log_path)) ⊎ IsOfDisk reply
  listed = by answers
    where
      by : AnswersQuestion f (ListNames log_path) reply → (reply ≡ NamesReply (names_in f.tree.names log_path)) ⊎ IsOfDisk reply
      by (inl is) = inl (list there.0 f f reply sound there.1 there.2 is).0
      by (inr refused) = inr refused

  pub names_are : (names : List (List ℕ)) → reply ≡ NamesReply names → names ≡ names_in f.tree.names log_path
  names_are names is = ⊎_elim (λ told. same_names names (names_in f.tree.names log_path) (sym is ∙ told)) (λ refused. absurd (names_not_refused names refused.0 (sym is ∙ refused.2))) listed

  pub list_refused : is_names reply ≡ false → IsOfDisk reply
  list_refused other = ⊎_elim (λ told. absurd (false≢true (sym other ∙ ap is_names told))) (λ refused. refused) listed

-- A file in it.
module _ (stat : (name : List ℕ) (n : ℕ) (thing : Thing) (old new : Session) (reply : Reply) → IsSound old.limit.nodes old.tree → get old.tree.names (path_in_log name) ≡ Some n → get old.tree.nodes n ≡ Some thing → step old (StatCmd (path_in_log name)) ≡ (new, reply)
    → (reply ≡ stat_of old.tree (path_in_log name) n (Some thing)) × (new ≡ old))
    (f : Session) (sound : IsSound f.limit.nodes f.tree) (first n : ℕ) (at : get f.tree.names (segment_path first) ≡ Some n) (reply : Reply) (answers : AnswersQuestion f (StatCmd (segment_path first)) reply) where
  told_there : ToldOf f.tree n reply ⊎ IsOfDisk reply
  told_there = by answers
    where
      by : AnswersQuestion f (StatCmd (segment_path first)) reply → ToldOf f.tree n reply ⊎ IsOfDisk reply
      by (inl is) = let x = sound.named (segment_path first) n at in inl (told_of f.tree (segment_path first) n reply x.0 x.1 (stat (segment_name first) n x.0 f f reply sound at x.1 is).0)
      by (inr refused) = inr refused

  pub told_thing : (there : Stat) → reply ≡ StatReply there → (there.number ≡ n) × IsThing there (get f.tree.nodes n)
  told_thing there is = ⊎_elim
      (λ told. subst (λ (s : Stat). (s.number ≡ n) × IsThing s (get f.tree.nodes n)) (same_stat told.there there (sym told.is ∙ is)) (told.number, told.thing))
      (λ refused. absurd (stat_not_refused there refused.0 (sym is ∙ refused.2))) told_there

  pub told_some : reply ≢ Refused NotFound
  told_some is = ⊎_elim (λ told. stat_not_refused told.there NotFound (sym told.is ∙ is)) (λ refused. not_of_disk reply refused is) told_there

  pub stat_refused : is_stat reply ≡ false → IsOfDisk reply
  stat_refused other = ⊎_elim (λ told. absurd (false≢true (sym other ∙ ap is_stat told.is))) (λ refused. refused) told_there

-- Its bytes.
module _ (read : (name : List ℕ) (n : ℕ) (bytes : List ℕ) (offset count : ℕ) (old new : Session) (reply : Reply) → IsSound old.limit.nodes old.tree → get old.tree.names (path_in_log name) ≡ Some n → get old.tree.nodes n ≡ Some (File bytes)
    → step old (Read (path_in_log name) offset count) ≡ (new, reply) → (reply ≡ Bytes (take count (drop offset bytes))) × (new ≡ old))
    (f : Session) (sound : IsSound f.limit.nodes f.tree) (first node : ℕ) (bytes : List ℕ) (file : HasFile f.tree first node bytes) (offset count : ℕ) (reply : Reply)
    (answers : AnswersQuestion f (Read (segment_path first) offset count) reply) where
  read_there : (reply ≡ Bytes (take count (drop offset bytes))) ⊎ IsOfDisk reply
  read_there = by answers
    where
      by : AnswersQuestion f (Read (segment_path first) offset count) reply → (reply ≡ Bytes (take count (drop offset bytes))) ⊎ IsOfDisk reply
      by (inl is) = inl (read (segment_name first) node bytes offset count f f reply sound file.at file.file is).0
      by (inr refused) = inr refused

  pub bytes_are : (found : List ℕ) → reply ≡ Bytes found → found ≡ take count (drop offset bytes)
  bytes_are found is = ⊎_elim (λ told. same_bytes found (take count (drop offset bytes)) (sym is ∙ told)) (λ refused. absurd (bytes_not_refused found refused.0 (sym is ∙ refused.2))) read_there

  pub read_refused : is_bytes reply ≡ false → IsOfDisk reply
  read_refused other = ⊎_elim (λ told. absurd (false≢true (sym other ∙ ap is_bytes told))) (λ refused. refused) read_there

-- A file, or none.

no_kind : DirKind ≡ FileKind → ⊥
no_kind e = cc

-- what has such a kind or size is no file of a log
pub no_file : ((t : Tree) (name : List ℕ) (n : ℕ) → get t.names (path_in_log name) ≡ Some n → get t.nodes n ≡ Some Dir → HasNoLog t)
    → (t : Tree) (first n : ℕ) (there : Stat) → get t.names (segment_path first) ≡ Some n → IsThing there (get t.nodes n) → ((bytes : List ℕ) → get t.nodes n ≡ Some (File bytes) → length bytes ≤ 1073741824)
    → (there.kind ≡ DirKind) ⊎ (2 ^ 32 ≤ there.size) → HasNoLog t
no_file law t first n there at (inl dir) small why = law t (segment_name first) n at dir.1
no_file law t first n there at (inr (bytes, kind, is, size)) small (inl dir) = absurd (no_kind (sym dir ∙ kind))
no_file law t first n there at (inr (bytes, kind, is, size)) small (inr big) = absurd (omega (arith, big, size, small bytes is))

-- and what is told to be a file is one
pub a_file : (t : Tree) (first n node size : ℕ) (there : Stat) → get t.names (segment_path first) ≡ Some n → there.number ≡ n → IsThing there (get t.nodes n) → there.kind ≡ FileKind → node ≡ there.number → size ≡ there.size
    → (bytes : List ℕ) × HasFile t first node bytes × (size ≡ length bytes)
a_file t first n node size there at number (inl dir) kind node_is size_is = absurd (no_kind (sym dir.0 ∙ kind))
a_file t first n node size there at number (inr (bytes, also, is, told)) kind node_is size_is =
    let same : n ≡ node = sym (node_is ∙ number) in
    (bytes, record { at = at ∙ ap Some same; file = subst (λ (k : ℕ). get t.nodes k ≡ Some (File bytes)) same is }, size_is ∙ told)
