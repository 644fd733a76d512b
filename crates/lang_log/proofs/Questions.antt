-- What is told of the directory of a log, and of what is in it.
use Rattle.std.proofs.Common.{◌≡◌, ℕ, Bool, true, List, Option, Some, None, Result, Err, refl, sym, ap, ◌∙◌, take, drop}
use Rattle.std.specs.FinMap.{get}
use Rattle.lang_tree.specs.declared.command.Cmd.{Cmd}
use Rattle.lang_tree.specs.declared.command.Cmd.TheVariants.{List as ListNames, Read, Stat}
use Rattle.lang_tree.specs.declared.command.Refusal.{Refusal}
use Rattle.lang_tree.specs.declared.command.Refusal.TheVariants.{NotDir, NotFound}
use Rattle.lang_tree.specs.declared.command.Reply.{Reply}
use Rattle.lang_tree.specs.declared.command.Reply.TheVariants.{Bytes, Names as NamesReply, Refused}
use Rattle.lang_tree.specs.Names.{names_in}
use Rattle.lang_tree.specs.Conditions.{refusal}
use Rattle.lang_tree.specs.Step.{Session, step, answered, accepted, stat_by, stat_of}
use Rattle.lang_tree.specs.Tree.{Dir, File, IsSound, Thing, Tree}
use Rattle.lang_tree.specs.Walk.{bytes_in, enter, is_dir, is_file, refusal_in, walk_refusal}
use Rattle.lang_log.specs.Names.{log_path, path_in_log, segment_path, segment_name}
use Rattle.lang_log.specs.Segments.{LiesIn, Segment}
use Rattle.lang_log.specs.Spelling.{spellings}
use Rattle.lang_log.proofs.Walks.{enter_on, file_free, one_none, thing_is, walk_free}

-- A question that isn't refused is answered, and changes nothing.
told : (cmd : Cmd) (answer : Reply) (old new : Session) (reply : Reply) → refusal old.limit old.tree cmd ≡ None → accepted old cmd ≡ (old, answer)
    → step old cmd ≡ (new, reply) → (reply ≡ answer) × (new ≡ old)
told cmd answer old new reply free is e = (ap (λ x. x.1) so, ap (λ x. x.0) so)
  where
    so : ◌≡◌ {A = Session × Reply} (new, reply) (old, answer)
    so = sym e ∙ ap (answered old cmd) free ∙ is

refused : (cmd : Cmd) (why : Refusal) (old new : Session) (reply : Reply) → refusal old.limit old.tree cmd ≡ Some why → step old cmd ≡ (new, reply)
    → (reply ≡ Refused why) × (new ≡ old)
refused cmd why old new reply is e = (ap (λ x. x.1) so, ap (λ x. x.0) so)
  where
    so : ◌≡◌ {A = Session × Reply} (new, reply) (old, Refused why)
    so = sym e ∙ ap (answered old cmd) is

stat_is : (t : Tree) (path : List (List ℕ)) (n : ℕ) (thing : Thing) → get t.names path ≡ Some n → get t.nodes n ≡ Some thing
    → stat_by t path (get t.names path) ≡ stat_of t path n (Some thing)
stat_is t path n thing at is = ap (stat_by t path) at ∙ ap (stat_of t path n) is

-- The directory.

enter_none : (b : Bool) (found : Option ℕ) (on : ℕ → Result ℕ Refusal) → b ≡ true → found ≡ None → enter b found on ≡ Err NotFound
enter_none b found on p q = ap (λ b. enter b found on) p ∙ ap (λ f. enter true f on) q

walk_to_log : (limit : ℕ) (t : Tree) (n : ℕ) → IsSound limit t → get t.names log_path ≡ Some n → walk_refusal t log_path ≡ None
walk_to_log limit t n sound at = ap refusal_in (enter_on _ _ _ n (ap is_dir sound.root_dir) at)

pub log_none : (old new : Session) (reply : Reply) → IsSound old.limit.nodes old.tree → get old.tree.names log_path ≡ None
    → step old (Stat log_path) ≡ (new, reply) → (reply ≡ Refused NotFound) × (new ≡ old)
log_none old new reply sound none e =
    refused (Stat log_path) NotFound old new reply (ap refusal_in (enter_none _ _ _ (ap is_dir sound.root_dir) none)) e

pub log_stat : (n : ℕ) (thing : Thing) (old new : Session) (reply : Reply) → IsSound old.limit.nodes old.tree → get old.tree.names log_path ≡ Some n
    → get old.tree.nodes n ≡ Some thing → step old (Stat log_path) ≡ (new, reply)
    → (reply ≡ stat_of old.tree log_path n (Some thing)) × (new ≡ old)
log_stat n thing old new reply sound at is e =
    told (Stat log_path) (stat_of old.tree log_path n (Some thing)) old new reply (walk_to_log old.limit.nodes old.tree n sound at)
    (ap (λ reply. (old, reply)) (stat_is old.tree log_path n thing at is)) e

pub log_list : (n : ℕ) (old new : Session) (reply : Reply) → IsSound old.limit.nodes old.tree → get old.tree.names log_path ≡ Some n
    → get old.tree.nodes n ≡ Some Dir → step old (ListNames log_path) ≡ (new, reply)
    → (reply ≡ NamesReply (names_in old.tree.names log_path)) × (new ≡ old)
log_list n old new reply sound at is e =
    told (ListNames log_path) (NamesReply (names_in old.tree.names log_path)) old new reply
    (one_none _ _ NotDir (walk_to_log old.limit.nodes old.tree n sound at) (ap is_file (thing_is old.tree log_path n Dir at is))) refl e

-- What is in it.

pub name_stat : (name : List ℕ) (n : ℕ) (thing : Thing) (old new : Session) (reply : Reply) → IsSound old.limit.nodes old.tree
    → get old.tree.names (path_in_log name) ≡ Some n → get old.tree.nodes n ≡ Some thing → step old (Stat (path_in_log name)) ≡ (new, reply)
    → (reply ≡ stat_of old.tree (path_in_log name) n (Some thing)) × (new ≡ old)
name_stat name n thing old new reply sound at is e =
    told (Stat (path_in_log name)) (stat_of old.tree (path_in_log name) n (Some thing)) old new reply
    (walk_free old.limit.nodes old.tree sound name n at) (ap (λ reply. (old, reply)) (stat_is old.tree (path_in_log name) n thing at is)) e

pub name_read : (name : List ℕ) (n : ℕ) (bytes : List ℕ) (offset count : ℕ) (old new : Session) (reply : Reply) → IsSound old.limit.nodes old.tree
    → get old.tree.names (path_in_log name) ≡ Some n → get old.tree.nodes n ≡ Some (File bytes)
    → step old (Read (path_in_log name) offset count) ≡ (new, reply) → (reply ≡ Bytes (take count (drop offset bytes))) × (new ≡ old)
name_read name n bytes offset count old new reply sound at file e =
    told (Read (path_in_log name) offset count) (Bytes (take count (drop offset bytes))) old new reply
    (file_free old.limit.nodes old.tree sound name n bytes at file)
    (ap (λ x. (old, Bytes (take count (drop offset (bytes_in x))))) (thing_is old.tree (path_in_log name) n (File bytes) at file)) e

pub read_step : (s : Segment) (offset count : ℕ) (old new : Session) (reply : Reply) → IsSound old.limit.nodes old.tree → LiesIn old.tree s
    → step old (Read (segment_path s.first) offset count) ≡ (new, reply)
    → (reply ≡ Bytes (take count (drop offset (spellings s.appends)))) × (new ≡ old)
read_step s offset count old new reply sound lies e =
    name_read (segment_name s.first) s.node (spellings s.appends) offset count old new reply sound lies.at lies.file e
