-- The first segment goes.
use Rattle.std.proofs.Common.{◌≡◌, ◌≢◌, ℕ, ◌==◌, Bool, true, false, if◌then◌else◌, List, ◌∷◌, Some, refl, sym, ap, ◌∙◌, subst, ◌⊎◌, inl, inr}
use Rattle.std.specs.FinMap.{get, remove}
use Rattle.lang_tree.specs.declared.command.Cmd.TheVariants.{Unlink}
use Rattle.lang_tree.specs.declared.command.Reply.{Reply}
use Rattle.lang_tree.specs.Tree.{Tree, Nodes, Dir}
use Rattle.lang_tree.specs.Names.{path_count}
use Rattle.lang_tree.specs.Step.{Session, answered, changed_to, removed_by}
use Rattle.lang_log.specs.Commands.{IsAsked, Leaves}
use Rattle.lang_log.specs.Spelling.{spellings}
use Rattle.lang_log.specs.Names.{log_path, path_in_log, segment_path, segment_name}
use Rattle.lang_log.specs.Segments.{Segment, HasSegments, LiesIn, OneIsNamed}
use Rattle.lang_log.proofs.Maps.{name_gone, name_left, node_stays}
use Rattle.lang_log.proofs.Walks.{none_some, file_free}
use Rattle.lang_log.proofs.Rows.{without}
use Rattle.lang_log.proofs.Making.{longer}

-- what other nodes a tree has where one may be gone
others_stay : (nodes : Nodes) (n k : ℕ) (b : Bool) → k ≢ n → get (if b then remove nodes n else nodes) k ≡ get nodes k
others_stay nodes n k true apart = node_stays nodes n k apart
others_stay nodes n k false apart = refl

module _ (t : Tree) (s : Segment) (rest : List Segment) (h : HasSegments t (s ∷ rest)) where
  abbrev path : List (List ℕ)
  path = segment_path s.first

  abbrev after : Tree
  after = record t { names = remove t.names path; nodes = if path_count (remove t.names path) s.node == 0 then remove t.nodes s.node else t.nodes }

  stays : (q : Segment) → q.node ≢ s.node → LiesIn t q → LiesIn after q
  stays q apart lies = record { at = by (name_left t.names path (segment_path q.first)); file = others_stay t.nodes s.node q.node _ apart ∙ lies.file }
    where
      by : (segment_path q.first ≡ path) ⊎ (get after.names (segment_path q.first) ≡ get t.names (segment_path q.first))
          → get after.names (segment_path q.first) ≡ Some q.node
      by (inl e) = let mine = h.there.0.at in let its = ap (get t.names) (sym e) ∙ lies.at in absurd (apart cc)
      by (inr e) = e ∙ lies.at

  dir_apart : (k : ℕ) → get t.nodes k ≡ Some Dir → k ≢ s.node
  dir_apart k dir e = let file = h.there.0.file in let same : get t.nodes k ≡ get t.nodes s.node = ap (get t.nodes) e in cc

  directory : (k : ℕ) → get after.names log_path ≡ Some k → get after.nodes k ≡ Some Dir
  directory k at = by (name_left t.names path log_path)
    where
      by : (log_path ≡ path) ⊎ (get after.names log_path ≡ get t.names log_path) → get after.nodes k ≡ Some Dir
      by (inl e) = absurd (longer _ _ _ _ e)
      by (inr e) = let dir = h.directory k (sym e ∙ at) in others_stay t.nodes s.node k _ (dir_apart k dir) ∙ dir

  only : (name : List ℕ) (k : ℕ) → get after.names (path_in_log name) ≡ Some k → OneIsNamed rest name
  only name k at = by (name_left t.names path (path_in_log name))
    where
      behind : OneIsNamed (s ∷ rest) name → (path_in_log name ≡ path → ⊥) → OneIsNamed rest name
      behind (inl e) other = absurd (other (ap path_in_log e))
      behind (inr later) other = later

      by : (path_in_log name ≡ path) ⊎ (get after.names (path_in_log name) ≡ get t.names (path_in_log name)) → OneIsNamed rest name
      by (inl e) = absurd (none_some k (ap (get after.names) e ∙ name_gone t.names path) at)
      by (inr e) = behind (h.only name k (sym e ∙ at)) (λ same. none_some k (ap (get after.names) same ∙ name_gone t.names path) at)

  pub gone : HasSegments after rest
  gone = record { directory = directory; there = without t after s.node rest stays h.apart.0 h.there.1; only = only; apart = h.apart.1 }

pub unlink_step : (s : Segment) (rest : List Segment) (old new : Session) (reply : Reply) → IsAsked (s ∷ rest) old (Unlink (segment_path s.first)) new reply
    → Leaves rest new reply
unlink_step s rest old new reply asked = record {
  done = ap (λ x. x.1) so;
  changed = ap (λ x. x.0.changed) so;
  has = subst (λ t. HasSegments t rest) (sym (ap (λ x. x.0.tree) so)) (gone old.tree s rest asked.had);
}
  where
    lies : LiesIn old.tree s
    lies = asked.had.there.0

    so : (new, reply) ≡ changed_to old (after old.tree s rest asked.had)
    so = sym asked.answered
        ∙ ap (answered old (Unlink (segment_path s.first)))
        (file_free old.limit.nodes old.tree asked.sound (segment_name s.first) s.node (spellings s.appends) lies.at lies.file)
        ∙ ap (λ o. changed_to old (removed_by old.tree (segment_path s.first) o)) lies.at
