-- The commands that put bytes into a file, as one: what they answer, take and make.
use Rattle.std.proofs.Common.{◌≡◌, inl, inr, ℕ, ◌+◌, ◌<◌, min, false, List, length, replicate, None, Some, refl, sym, subst, ap, ◌∙◌}
use Rattle.std.specs.FinMap.{get}
use Rattle.lang_tree.specs.declared.command.Cmd.{Cmd}
use Rattle.lang_tree.specs.declared.command.Cmd.TheVariants.{Write, Fill}
use Rattle.lang_tree.specs.Conditions.{refusal}
use Rattle.lang_tree.specs.Sharing.{BlocksAlone, SharedNodes, SharedPlaces, figures_over, figures_over_by, is_renewed, shared_at, write_over_figures}
use Rattle.lang_tree.specs.Tree.{Tree}
use Rattle.lang_tree.specs.Step.{Session, changes_snapshots, step, answered, written, write}
use Rattle.lang_tree.specs.Walk.{content}
use Rattle.crash_stands.specs.Inodes.{Inodes, AFile}
use Rattle.crash_stands.specs.Maps.{IsMapOf}
use Rattle.crash_stands.specs.Walks.{LeadsTo}
use Rattle.fs_inodes.specs.Changes.{Sets}
use Rattle.fs_inodes.specs.Lookups.{number_at}
use Rattle.fs_session.specs.Commands.{grown_by}
use Rattle.fs_session.specs.Space.{grown_in, touched_by}
use Rattle.fs_commands.specs.Writing.{PutsBytes}

-- what other bytes of a file make of the inode map, for a command
abbrev pub Maps : Cmd → List (List ℕ) → ℕ → List ℕ → Type 0
Maps cmd path offset bytes = (s : Session) (m new : Inodes) (node links : ℕ) (old : List ℕ) → IsMapOf s.limit.nodes m s.tree → refusal s.limit s.tree cmd ≡ None → 0 < length bytes → LeadsTo m path node → m node ≡ Some (AFile links old)
    → Sets m new node (Some (AFile links (written offset bytes old))) → IsMapOf s.limit.nodes new (step s cmd).0.tree

pub record PutsSo (cmd : Cmd) (path : List (List ℕ)) (offset : ℕ) (bytes : List ℕ) : Type 0 where
  pub takes : (bitmap : ℕ) (shared : SharedNodes) (alone : BlocksAlone) (f : Session) → refusal f.limit f.tree cmd ≡ None
      → figures_over bitmap shared alone f cmd ≡ write_over_figures bitmap (shared_at shared (get f.tree.names path)) (length (content f.tree path)) offset (length bytes)
  pub answer : (f : Session) → refusal f.limit f.tree cmd ≡ None → (step f cmd).1 ≡ (write f path offset bytes).1
  pub grown : (m : Inodes) → grown_by m cmd ≡ number_at m path
  pub lies : (f : Session) → grown_in f cmd ≡ get f.tree.names path
  pub touches : (t : Tree) (shared : SharedPlaces) → touched_by t cmd shared ≡ is_renewed shared (min offset (length (content t path))) (offset + length bytes)
  pub keeps : changes_snapshots cmd ≡ false
  pub maps : Maps cmd path offset bytes

write_so : (path : List (List ℕ)) (offset : ℕ) (bytes : List ℕ) → Maps (Write path offset bytes) path offset bytes → PutsSo (Write path offset bytes) path offset bytes
write_so path offset bytes law = record {
  takes = λ bitmap shared alone f accepted. ap (λ r. figures_over_by bitmap shared alone f.limit f.tree (Write path offset bytes) r) accepted;
  answer = λ f accepted. ap (λ r. (answered f (Write path offset bytes) r).1) accepted;
  grown = λ m. refl;
  lies = λ f. refl;
  touches = λ t shared. refl;
  keeps = refl;
  maps = law;
}

fill_so : (path : List (List ℕ)) (offset n byte : ℕ) (bytes : List ℕ) → bytes ≡ replicate n byte → n ≡ length bytes → Maps (Fill path offset n byte) path offset bytes → PutsSo (Fill path offset n byte) path offset bytes
fill_so path offset n byte bytes is size law = record {
  takes = λ bitmap shared alone f accepted. ap (λ r. figures_over_by bitmap shared alone f.limit f.tree (Fill path offset n byte) r) accepted
      ∙ ap (λ m. write_over_figures bitmap (shared_at shared (get f.tree.names path)) (length (content f.tree path)) offset m) size;
  answer = λ f accepted. ap (λ r. (answered f (Fill path offset n byte) r).1) accepted ∙ ap (λ xs. (write f path offset xs).1) (sym is);
  grown = λ m. refl;
  lies = λ f. refl;
  touches = λ t shared. ap (λ m. is_renewed shared (min offset (length (content t path))) (offset + m)) size;
  keeps = refl;
  maps = law;
}

pub puts_so : (cmd : Cmd) (path : List (List ℕ)) (offset : ℕ) (bytes : List ℕ) → PutsBytes cmd path offset bytes
    → ((s : Session) (m new : Inodes) (path : List (List ℕ)) (offset : ℕ) (bytes : List ℕ) (node links : ℕ) (old : List ℕ) → IsMapOf s.limit.nodes m s.tree → refusal s.limit s.tree (Write path offset bytes) ≡ None
    → 0 < length bytes → LeadsTo m path node → m node ≡ Some (AFile links old) → Sets m new node (Some (AFile links (written offset bytes old))) → IsMapOf s.limit.nodes new (step s (Write path offset bytes)).0.tree)
    → ((s : Session) (m new : Inodes) (path : List (List ℕ)) (offset count byte node links : ℕ) (old : List ℕ) → IsMapOf s.limit.nodes m s.tree → refusal s.limit s.tree (Fill path offset count byte) ≡ None
    → 0 < count → LeadsTo m path node → m node ≡ Some (AFile links old) → Sets m new node (Some (AFile links (written offset (replicate count byte) old))) → IsMapOf s.limit.nodes new (step s (Fill path offset count byte)).0.tree)
    → PutsSo cmd path offset bytes
puts_so cmd path offset bytes (inl is) writes fills =
    subst (λ c. PutsSo c path offset bytes) (sym is) (write_so path offset bytes (λ s m new node links old map accepted some leads at sets. writes s m new path offset bytes node links old map accepted some leads at sets))
puts_so cmd path offset bytes (inr fill) writes fills =
    subst (λ c. PutsSo c path offset bytes) (sym fill.1)
    (fill_so path offset (length bytes) fill.0 bytes fill.2 refl
    (λ s m new node links old map accepted some leads at sets. fills s m new path offset (length bytes) fill.0 node links old map accepted some leads at (subst (λ xs. Sets m new node (Some (AFile links (written offset xs old)))) fill.2 sets)))
