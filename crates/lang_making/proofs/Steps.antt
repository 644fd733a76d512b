-- Commands that are done one after the other, and what each one that makes a part of a tree leaves.
use Rattle.std.proofs.Common.{◌≡◌, ℕ, ◌<◌, true, false, List, [], ◌∷◌, ◌++◌, length, replicate, Some, None, refl, ap, ◌∙◌, subst, inl}
use Rattle.std.specs.FinMap.{get, insert}
use Rattle.lang_tree.specs.declared.command.Cmd.{Cmd}
use Rattle.lang_tree.specs.declared.command.Cmd.TheVariants.{Mkdir, Create, Link}
use Rattle.lang_tree.specs.declared.command.Reply.{Reply}
use Rattle.lang_tree.specs.declared.command.Reply.TheVariants.{Ok as Done}
use Rattle.lang_tree.specs.Tree.{Tree, Thing, Dir, File, IsSound}
use Rattle.lang_tree.specs.Paths.{parent, is_too_long}
use Rattle.lang_tree.specs.Names.{path_count}
use Rattle.lang_tree.specs.Conditions.{refusal, least_unused}
use Rattle.lang_tree.specs.Step.{Session, step, answered, changed_to, with_node, linked_by}
use Rattle.lang_tree.specs.Run.{Run}
use Rattle.lang_making.proofs.Walks.{nothing_refuses_new, nothing_refuses_link}

-- all the commands are done, and they lead from the one session to the other
abbrev pub Does : Session → List Cmd → Session → Type 0
Does s [] end = end ≡ s
Does s (cmd ∷ cmds) end = (next : Session) × (step s cmd ≡ (next, Done)) × Does next cmds end

pub does_join : (s m e : Session) (xs ys : List Cmd) → Does s xs m → Does m ys e → Does s (xs ++ ys) e
does_join s m e [] ys a b = subst (λ s. Does s ys e) a b
does_join s m e (x ∷ xs) ys a b = (a.0, a.1, does_join a.0 m e xs ys a.2 b)

pub does_run : (s e : Session) (cmds : List Cmd) → Does s cmds e → Run (λ why. false) s cmds (replicate (length cmds) Done) e
does_run s e [] a = a
does_run s e (cmd ∷ cmds) a = (a.0, inl a.1, does_run a.0 e cmds a.2)

-- no command leaves a tree that isn't sound
abbrev pub StepsKeepSound : Type 0
StepsKeepSound = (s : Session) (cmd : Cmd) → IsSound s.limit.nodes s.tree → IsSound s.limit.nodes (step s cmd).0.tree

-- a tree with another change
abbrev pub with_tree : Session → Tree → Session
with_tree s t = record s { tree = t; changed = true }

-- what a session is whose tree became this one by a command that was done
pub sound_after : StepsKeepSound → (s : Session) (cmd : Cmd) (t : Tree) → IsSound s.limit.nodes s.tree → step s cmd ≡ (with_tree s t, Done) → IsSound s.limit.nodes t
sound_after keeps s cmd t ok is = subst (λ (x : Session × Reply). IsSound s.limit.nodes x.0.tree) is (keeps s cmd ok)

pub answers_done : (s : Session) (cmd : Cmd) → refusal s.limit s.tree cmd ≡ None → step s cmd ≡ answered s cmd None
answers_done s cmd free = ap (answered s cmd) free

-- the tree with a node more
abbrev pub with_path : Tree → List (List ℕ) → ℕ → Thing → Tree
with_path t p m x = record t { names = insert t.names p m; nodes = insert t.nodes m x }

module _ (s : Session) (ok : IsSound s.limit.nodes s.tree) where
  module _ (p : List (List ℕ)) (k m : ℕ) (at : get s.tree.names (parent p) ≡ Some k) (dir : get s.tree.nodes k ≡ Some Dir) (none : get s.tree.names p ≡ None)
      (unused : least_unused s.limit.nodes s.tree ≡ Some m) (short : is_too_long s.limit.layout p ≡ false) where
    pub mkdir_done : step s (Mkdir p) ≡ (with_tree s (with_path s.tree p m Dir), Done)
    mkdir_done = answers_done s (Mkdir p) (nothing_refuses_new s.limit s.tree ok p k m at dir none unused short)
        ∙ ap (λ o. changed_to s (with_node s.tree p Dir o)) unused

    pub create_done : step s (Create p) ≡ (with_tree s (with_path s.tree p m (File [])), Done)
    create_done = answers_done s (Create p) (nothing_refuses_new s.limit s.tree ok p k m at dir none unused short)
        ∙ ap (λ o. changed_to s (with_node s.tree p (File []) o)) unused

  pub link_done : (q p : List (List ℕ)) (j k : ℕ) (bytes : List ℕ) → get s.tree.names q ≡ Some j → get s.tree.nodes j ≡ Some (File bytes)
      → get s.tree.names (parent p) ≡ Some k → get s.tree.nodes k ≡ Some Dir → get s.tree.names p ≡ None → path_count s.tree.names j < 65535
      → is_too_long s.limit.layout p ≡ false → step s (Link q p) ≡ (with_tree s (record s.tree { names = insert s.tree.names p j }), Done)
  link_done q p j k bytes at file up dir none few short =
      answers_done s (Link q p) (nothing_refuses_link s.limit s.tree ok q p j k bytes at file up dir none few short)
      ∙ ap (λ o. changed_to s (linked_by s.tree p o)) at

-- What a write behind the end of file j leaves, or several of them: the file has these bytes, and all else is as it was.
pub record Wrote (s e : Session) (j : ℕ) (bytes : List ℕ) : Type 0 where
  pub limit : e.limit ≡ s.limit
  pub names : e.tree.names ≡ s.tree.names
  pub snapshots : e.tree.snapshots ≡ s.tree.snapshots
  pub here : get e.tree.nodes j ≡ Some (File bytes)
  pub others : (k : ℕ) → (k ≡ j → ⊥) → get e.tree.nodes k ≡ get s.tree.nodes k
  pub sound : IsSound e.limit.nodes e.tree

pub wrote_nothing : (s : Session) (j : ℕ) (bytes : List ℕ) → IsSound s.limit.nodes s.tree → get s.tree.nodes j ≡ Some (File bytes) → Wrote s s j bytes
wrote_nothing s j bytes ok file = record { limit = refl; names = refl; snapshots = refl; here = file; others = λ k apart. refl; sound = ok }

pub wrote_more : (s m e : Session) (j : ℕ) (some bytes : List ℕ) → Wrote s m j some → Wrote m e j bytes → Wrote s e j bytes
wrote_more s m e j some bytes a b = record {
  limit = b.limit ∙ a.limit;
  names = b.names ∙ a.names;
  snapshots = b.snapshots ∙ a.snapshots;
  here = b.here;
  others = λ k apart. b.others k apart ∙ a.others k apart;
  sound = b.sound;
}
