-- A new segment, and the directory of the log.
use Rattle.std.proofs.Common.{◌≡◌, ◌≢◌, ℕ, List, [], ◌∷◌, ◌++◌, Option, Some, None, is_none, true, refl, sym, ap, ◌∙◌, subst, ◌⊎◌, inl, inr}
use Rattle.std.specs.FinMap.{get, insert}
use Rattle.lang_tree.specs.declared.command.Cmd.{Cmd}
use Rattle.lang_tree.specs.declared.command.Cmd.TheVariants.{Create, Mkdir}
use Rattle.lang_tree.specs.declared.command.Refusal.TheVariants.{NoNode}
use Rattle.lang_tree.specs.declared.command.Reply.{Reply}
use Rattle.lang_tree.specs.declared.command.Reply.TheVariants.{Ok as Done}
use Rattle.lang_tree.specs.Tree.{Tree, Thing, Dir, File, IsSound}
use Rattle.lang_tree.specs.Conditions.{refusal, when, least_unused}
use Rattle.lang_tree.specs.Step.{Session, step, answered, changed_to, added, with_node}
use Rattle.lang_log.specs.Commands.{IsAsked, LacksNode, Leaves}
use Rattle.lang_log.specs.Names.{log_path, path_in_log, segment_path, segment_name}
use Rattle.lang_log.specs.Segments.{Segment, HasSegments, LiesIn, OneIsNamed, new_segment}
use Rattle.lang_log.proofs.Maps.{name_here, name_look, node_here, node_other}
use Rattle.lang_log.proofs.Walks.{none_some, parent_free, log_free, log_short, segment_short, make_is, unused_is_free}
use Rattle.lang_log.proofs.Rows.{with_new, still_named, new_named, new_apart}

pub longer : {A : Type 0} (a b c : A) (xs : List A) → a ∷ [] ≡ b ∷ c ∷ xs → ⊥
longer a b c xs e = cc

pub same_name : (a b : List ℕ) → path_in_log a ≡ path_in_log b → a ≡ b
same_name a b e = cc

-- A node was made at the path, under a number that no node had.
record IsMade (path : List (List ℕ)) (thing : Thing) (old new : Session) (reply : Reply) : Type 0 where
  pub node : ℕ
  pub free : get old.tree.nodes node ≡ None
  pub done : reply ≡ Done
  pub changed : new.changed ≡ true
  pub tree : record old.tree { names = insert old.tree.names path node; nodes = insert old.tree.nodes node thing } ≡ new.tree

-- what comes of a path that isn't there and may be made
made_step : (path : List (List ℕ)) (thing : Thing) (cmd : Cmd) (old new : Session) (reply : Reply)
    → refusal old.limit old.tree cmd ≡ when (is_none (least_unused old.limit.nodes old.tree)) NoNode
    → answered old cmd None ≡ changed_to old (added old.limit.nodes old.tree path thing) → step old cmd ≡ (new, reply)
    → LacksNode old new reply ⊎ IsMade path thing old new reply
made_step path thing cmd old new reply refused done e = by (least_unused old.limit.nodes old.tree) refl (sym e ∙ ap (answered old cmd) refused)
  where
    by : (o : Option ℕ) → least_unused old.limit.nodes old.tree ≡ o
        → (new, reply) ≡ answered old cmd (when (is_none (least_unused old.limit.nodes old.tree)) NoNode)
        → LacksNode old new reply ⊎ IsMade path thing old new reply
    by None is e =
        let so = e ∙ ap (λ o. answered old cmd (when (is_none o) NoNode)) is in
        inl (record { refused = ap (λ x. x.1) so; same = ap (λ x. x.0) so })
    by (Some n) is e =
        let so = e ∙ ap (λ o. answered old cmd (when (is_none o) NoNode)) is ∙ done ∙ ap (λ o. changed_to old (with_node old.tree path thing o)) is in
        inr (record {
          node = n;
          free = unused_is_free old.limit.nodes old.tree n is;
          done = ap (λ x. x.1) so;
          changed = ap (λ x. x.0.changed) so;
          tree = sym (ap (λ x. x.0.tree) so);
        })

-- a tree with an empty segment more
module _ (t : Tree) (segments : List Segment) (first n : ℕ) (h : HasSegments t segments) (absent : get t.names (segment_path first) ≡ None) (free : get t.nodes n ≡ None) where
  abbrev fresh : Segment
  fresh = new_segment first n

  abbrev after : Tree
  after = record t { names = insert t.names (segment_path first) n; nodes = insert t.nodes n (File []) }

  used : (k : ℕ) (x : Thing) → get t.nodes k ≡ Some x → k ≢ n
  used k x is e = none_some x free (ap (get t.nodes) (sym e) ∙ is)

  stays : (q : Segment) → LiesIn t q → LiesIn after q
  stays q lies = record { at = by (name_look t.names (segment_path first) n (segment_path q.first)); file = node_other t.nodes n (File []) q.node (used q.node _ lies.file) ∙ lies.file }
    where
      by : (segment_path q.first ≡ segment_path first) ⊎ (get after.names (segment_path q.first) ≡ get t.names (segment_path q.first))
          → get after.names (segment_path q.first) ≡ Some q.node
      by (inl e) = absurd (none_some q.node (ap (get t.names) e ∙ absent) lies.at)
      by (inr e) = e ∙ lies.at

  directory : (k : ℕ) → get after.names log_path ≡ Some k → get after.nodes k ≡ Some Dir
  directory k at = by (name_look t.names (segment_path first) n log_path)
    where
      by : (log_path ≡ segment_path first) ⊎ (get after.names log_path ≡ get t.names log_path) → get after.nodes k ≡ Some Dir
      by (inl e) = absurd (longer _ _ _ _ e)
      by (inr e) = let dir = h.directory k (sym e ∙ at) in node_other t.nodes n (File []) k (used k Dir dir) ∙ dir

  only : (name : List ℕ) (k : ℕ) → get after.names (path_in_log name) ≡ Some k → OneIsNamed (segments ++ fresh ∷ []) name
  only name k at = by (name_look t.names (segment_path first) n (path_in_log name))
    where
      by : (path_in_log name ≡ segment_path first) ⊎ (get after.names (path_in_log name) ≡ get t.names (path_in_log name))
          → OneIsNamed (segments ++ fresh ∷ []) name
      by (inl e) = new_named segments fresh name (same_name name (segment_name first) e)
      by (inr e) = still_named segments fresh name (h.only name k (sym e ∙ at))

  pub with_empty : HasSegments after (segments ++ fresh ∷ [])
  with_empty = record {
    directory = directory;
    there = with_new t after segments fresh stays (record { at = name_here t.names (segment_path first) n; file = node_here t.nodes n (File []) }) h.there;
    only = only;
    apart = new_apart t segments fresh (λ q lies e. used q.node _ lies.file (sym e)) h.there h.apart;
  }

-- a name in the directory of the log that no segment has isn't there
pub no_segment : (t : Tree) (segments : List Segment) (name : List ℕ) → HasSegments t segments → (OneIsNamed segments name → ⊥)
    → get t.names (path_in_log name) ≡ None
no_segment t segments name h none = by (get t.names (path_in_log name)) refl
  where
    by : (o : Option ℕ) → get t.names (path_in_log name) ≡ o → get t.names (path_in_log name) ≡ None
    by None is = is
    by (Some n) is = absurd (none (h.only name n is))

pub create_step : (segments : List Segment) (first directory : ℕ) (old new : Session) (reply : Reply) → get old.tree.names log_path ≡ Some directory
    → (OneIsNamed segments (segment_name first) → ⊥) → IsAsked segments old (Create (segment_path first)) new reply
    → LacksNode old new reply ⊎ ((node : ℕ) × Leaves (segments ++ new_segment first node ∷ []) new reply)
create_step segments first k old new reply there none asked =
    by (made_step (segment_path first) (File []) (Create (segment_path first)) old new reply
    (make_is old.limit old.tree (segment_path first) (segment_short old.limit.layout first)
    (parent_free old.limit.nodes old.tree asked.sound (segment_name first) k there (asked.had.directory k there)) absent) refl asked.answered)
  where
    absent : get old.tree.names (segment_path first) ≡ None
    absent = no_segment old.tree segments (segment_name first) asked.had none

    by : LacksNode old new reply ⊎ IsMade (segment_path first) (File []) old new reply
        → LacksNode old new reply ⊎ ((node : ℕ) × Leaves (segments ++ new_segment first node ∷ []) new reply)
    by (inl lacks) = inl lacks
    by (inr made) =
        inr (
          made.node,
          record {
            done = made.done;
            changed = made.changed;
            has = subst (λ t. HasSegments t (segments ++ new_segment first made.node ∷ [])) made.tree
                (with_empty old.tree segments first made.node asked.had absent made.free);
          },
        )

-- where there is no directory of a log, nothing is logged
pub none_logged : (limit : ℕ) (t : Tree) → IsSound limit t → get t.names log_path ≡ None → HasSegments t []
none_logged limit t sound none = record {
  directory = λ n at. absurd (none_some n none at);
  there = tt;
  only = λ name n at. let up = sound.parents log_path name n at in none_some up.0 none up.1;
  apart = tt;
}

-- nor where it was just made
made_empty : (limit : ℕ) (t : Tree) (n : ℕ) → IsSound limit t → get t.names log_path ≡ None
    → HasSegments (record t { names = insert t.names log_path n; nodes = insert t.nodes n Dir }) []
made_empty limit t n sound none = record {
  directory = λ k at. ap (get (insert t.nodes n Dir)) (sym (same k at)) ∙ node_here t.nodes n Dir;
  there = tt;
  only = only;
  apart = tt;
}
  where
    same : (k : ℕ) → get (insert t.names log_path n) log_path ≡ Some k → n ≡ k
    same k at = let here = name_here t.names log_path n in cc

    only : (name : List ℕ) (k : ℕ) → get (insert t.names log_path n) (path_in_log name) ≡ Some k → ⊥
    only name k at = by (name_look t.names log_path n (path_in_log name))
      where
        by : (path_in_log name ≡ log_path) ⊎ (get (insert t.names log_path n) (path_in_log name) ≡ get t.names (path_in_log name)) → ⊥
        by (inl e) = longer _ _ _ _ (sym e)
        by (inr e) = let up = sound.parents log_path name k (sym e ∙ at) in none_some up.0 none up.1

pub mkdir_step : (old new : Session) (reply : Reply) → get old.tree.names log_path ≡ None → IsAsked [] old (Mkdir log_path) new reply
    → LacksNode old new reply ⊎ Leaves [] new reply
mkdir_step old new reply none asked =
    by (made_step log_path Dir (Mkdir log_path) old new reply (make_is old.limit old.tree log_path (log_short old.limit.layout) (log_free old.limit.nodes old.tree asked.sound) none)
    refl asked.answered)
  where
    by : LacksNode old new reply ⊎ IsMade log_path Dir old new reply → LacksNode old new reply ⊎ Leaves [] new reply
    by (inl lacks) = inl lacks
    by (inr made) =
        inr (record {
          done = made.done;
          changed = made.changed;
          has = subst (λ t. HasSegments t []) made.tree (made_empty old.limit.nodes old.tree made.node asked.sound none);
        })

pub directory_there : (limit : ℕ) (t : Tree) (s : Segment) → IsSound limit t → LiesIn t s → (n : ℕ) × (get t.names log_path ≡ Some n)
directory_there limit t s sound lies = let up = sound.parents log_path (segment_name s.first) s.node lies.at in (up.0, up.1)
