-- On the way to a tree no more blocks are taken than in the end: no command that makes it frees one.
use Rattle.std.proofs.Common.{◌≡◌, ℕ, ◌+◌, ◌≤◌, ◌==◌, Bool, true, false, List, [], ◌∷◌, ◌++◌, length, map, take, drop, ◌*◌, ◌/◌, min, Option, Some, None, if◌then◌else◌, refl, sym, ap, ◌∙◌, subst, arith}
use Rattle.std.specs.List.{flat_map, range_with_len}
use Rattle.std.specs.Ordering.{eq_by_cmp}
use Rattle.std.specs.FinMap.{len}
use Rattle.base_types.specs.declared.layout.Layout.{Layout}
use Rattle.lang_tree.specs.declared.command.Cmd.{Cmd}
use Rattle.lang_tree.specs.declared.command.Cmd.TheVariants.{Mkdir, Create, Write, Link}
use Rattle.lang_tree.specs.declared.command.Refusal.{Refusal}
use Rattle.lang_tree.specs.Tree.{Tree, Bounds, IsSound, HasSmallFiles, path_cmp}
use Rattle.lang_tree.specs.Walk.{is_dir, thing_at, content}
use Rattle.lang_tree.specs.Conditions.{refusal}
use Rattle.lang_tree.specs.Figures.{blocks, figures, figures_by, accepted_figures, nothing, writing}
use Rattle.lang_tree.specs.Step.{Session, step, start, changes_snapshots}
use Rattle.lang_making.specs.Making.{paths_made, first_alike, is_path, file_command, path_command, byte_commands, writing as writing_bytes, making, tree_after, HasFewPaths, HasShortNames}
use Rattle.lang_making.proofs.Steps.{Does, StepsKeepSound}
use Rattle.lang_making.proofs.Paths.{Laws}
use Rattle.lang_making.proofs.Trees.{StartIsSound, some_number, all_done}
use Rattle.lang_making.proofs.Between.{StepsKeepLimit, does_split, does_fold, does_limit}
use Rattle.lang_making.proofs.Renumbered.{same_blocks}

-- whether the command is one of those that make a tree
adds : Cmd → Bool
adds (Mkdir path) = true
adds (Create path) = true
adds (Write path offset bytes) = true
adds (Link path other) = true
adds cmd = false

abbrev AllAdd : List Cmd → Type 0
AllAdd [] = Unit {0}
AllAdd (cmd ∷ cmds) = (adds cmd ≡ true) × AllAdd cmds

add_join : (xs ys : List Cmd) → AllAdd xs → AllAdd ys → AllAdd (xs ++ ys)
add_join [] ys a b = b
add_join (x ∷ xs) ys a b = (a.0, add_join xs ys a.1 b)

add_back : (xs ys : List Cmd) → AllAdd (xs ++ ys) → AllAdd ys
add_back [] ys a = a
add_back (x ∷ xs) ys a = add_back xs ys a.1

file_adds : (o : Option (List (List ℕ))) (p : List (List ℕ)) → adds (file_command o p) ≡ true
unfolding adds
file_adds None p = refl
file_adds (Some q) p = by (eq_by_cmp path_cmp q p)
  where
    by : (b : Bool) → adds (if b then Create p else Link q p) ≡ true
    by true = refl
    by false = refl

path_adds : (t : Tree) (paths : List (List (List ℕ))) (p : List (List ℕ)) → adds (path_command t paths p) ≡ true
unfolding adds
path_adds t paths p = by (is_dir (thing_at t p))
  where
    by : (b : Bool) → adds (if b then Mkdir p else file_command (first_alike t paths p) p) ≡ true
    by true = refl
    by false = file_adds (first_alike t paths p) p

paths_add : (t : Tree) (paths ps : List (List (List ℕ))) → AllAdd (map (path_command t paths) ps)
paths_add t paths [] = tt
paths_add t paths (p ∷ ps) = (path_adds t paths p, paths_add t paths ps)

pieces_add : (size : ℕ) (p : List (List ℕ)) (bytes : List ℕ) (places : List ℕ) → AllAdd (map (λ i. Write p (size * i) (take size (drop (size * i) bytes))) places)
unfolding adds
pieces_add size p bytes [] = tt
pieces_add size p bytes (i ∷ places) = (refl, pieces_add size p bytes places)

bytes_add : (t : Tree) (paths : List (List (List ℕ))) (p : List (List ℕ)) → AllAdd (byte_commands t paths p)
bytes_add t paths p = by (is_path p (first_alike t paths p))
  where
    by : (b : Bool) → AllAdd (if b then writing_bytes p (content t p) else [])
    by true = pieces_add 65536 p (content t p) (range_with_len 0 ((length (content t p) + 65535) / 65536))
    by false = tt

all_bytes_add : (t : Tree) (paths ps : List (List (List ℕ))) → AllAdd (flat_map (byte_commands t paths) ps)
all_bytes_add t paths [] = tt
all_bytes_add t paths (p ∷ ps) = add_join (byte_commands t paths p) (flat_map (byte_commands t paths) ps) (bytes_add t paths p) (all_bytes_add t paths ps)

making_adds : (t : Tree) → AllAdd (making t)
making_adds t =
    add_join (map (path_command t (paths_made t.names)) (paths_made t.names)) (flat_map (byte_commands t (paths_made t.names)) (paths_made t.names))
    (paths_add t (paths_made t.names) (paths_made t.names)) (all_bytes_add t (paths_made t.names) (paths_made t.names))

-- Such a command makes no snapshot and frees nothing.

keeps_snapshots : (cmd : Cmd) → adds cmd ≡ true → changes_snapshots cmd ≡ false
unfolding adds
keeps_snapshots (Mkdir path) e = refl
keeps_snapshots (Create path) e = refl
keeps_snapshots (Write path offset bytes) e = refl
keeps_snapshots (Link path other) e = refl
keeps_snapshots cmd e = absurd cc

accepted_frees_none : (bitmap : ℕ) (limit : Bounds) (t : Tree) (cmd : Cmd) → adds cmd ≡ true → (accepted_figures bitmap limit t cmd).freed ≡ 0
unfolding adds
accepted_frees_none bitmap limit t (Mkdir path) e = refl
accepted_frees_none bitmap limit t (Create path) e = refl
accepted_frees_none bitmap limit t (Write path offset bytes) e = by (length bytes == 0)
  where
    by : (b : Bool) → (if b then nothing else writing bitmap (length (content t path)) (min offset (length (content t path))) (offset + length bytes)).freed ≡ 0
    by true = refl
    by false = refl
accepted_frees_none bitmap limit t (Link path other) e = refl
accepted_frees_none bitmap limit t cmd e = absurd cc

frees_none : (bitmap : ℕ) (s : Session) (cmd : Cmd) → adds cmd ≡ true → (figures bitmap s cmd).freed ≡ 0
frees_none bitmap s cmd e = by (refusal s.limit s.tree cmd)
  where
    by : (r : Option Refusal) → (figures_by bitmap s.limit s.tree cmd r).freed ≡ 0
    by None = accepted_frees_none bitmap s.limit s.tree cmd e
    by (Some why) = refl

-- the figures of a command are what the blocks change by
abbrev pub FiguresTell : Type 0
FiguresTell = (bitmap : ℕ) (s : Session) (cmd : Cmd) → changes_snapshots cmd ≡ false → IsSound s.limit.nodes s.tree
    → blocks s.limit.layout (step s cmd).0.tree + (figures bitmap s cmd).freed ≡ blocks s.limit.layout s.tree + (figures bitmap s cmd).need

module _ (keeps : StepsKeepSound) (same_limit : StepsKeepLimit) (tell : FiguresTell) where
  next_sound : (s next : Session) (cmd : Cmd) → IsSound s.limit.nodes s.tree → (step s cmd).0 ≡ next → IsSound next.limit.nodes next.tree
  next_sound s next cmd ok is = subst (λ (x : Session). IsSound x.limit.nodes x.tree) is (subst (λ (n : Bounds). IsSound n.nodes (step s cmd).0.tree) (sym (same_limit s cmd)) (keeps s cmd ok))

  does_sound : (s e : Session) (cmds : List Cmd) → IsSound s.limit.nodes s.tree → Does s cmds e → IsSound e.limit.nodes e.tree
  does_sound s e [] ok a = subst (λ (x : Session). IsSound x.limit.nodes x.tree) (sym a) ok
  does_sound s e (cmd ∷ cmds) ok a = does_sound a.0 e cmds (next_sound s a.0 cmd ok (ap (λ x. x.0) a.1)) a.2

  one_rises : (s : Session) (cmd : Cmd) → adds cmd ≡ true → IsSound s.limit.nodes s.tree → blocks s.limit.layout s.tree ≤ blocks s.limit.layout (step s cmd).0.tree
  one_rises s cmd e ok = more (blocks s.limit.layout s.tree) (blocks s.limit.layout (step s cmd).0.tree) (figures 0 s cmd).freed (figures 0 s cmd).need (tell 0 s cmd (keeps_snapshots cmd e) ok) (frees_none 0 s cmd e)
    where
      more : (before after freed need : ℕ) → after + freed ≡ before + need → freed ≡ 0 → before ≤ after
      more before after freed need h none = omega (arith, h, none)

  rises : (s e : Session) (cmds : List Cmd) → IsSound s.limit.nodes s.tree → AllAdd cmds → Does s cmds e → (l : Layout) → s.limit.layout ≡ l → blocks l s.tree ≤ blocks l e.tree
  rises s e [] ok add a l same = subst (λ (x : Session). blocks l s.tree ≤ blocks l x.tree) (sym a) (self (blocks l s.tree))
    where
      self : (n : ℕ) → n ≤ n
      self n = omega arith
  rises s e (cmd ∷ cmds) ok add a l same =
      let is : (step s cmd).0 ≡ a.0 = ap (λ x. x.0) a.1 in
      let one : blocks l s.tree ≤ blocks l (a.0).tree =
      subst (λ (x : Session). blocks l s.tree ≤ blocks l x.tree) is (subst (λ l. blocks l s.tree ≤ blocks l (step s cmd).0.tree) same (one_rises s cmd add.0 ok)) in
      let next : (a.0).limit.layout ≡ l = sym (ap (λ (x : Session). x.limit.layout) is) ∙ ap (λ (n : Bounds). n.layout) (same_limit s cmd) ∙ same in
      both (blocks l s.tree) (blocks l (a.0).tree) (blocks l e.tree) one (rises a.0 e cmds (next_sound s a.0 cmd ok is) add.1 a.2 l next)
    where
      both : (a b c : ℕ) → a ≤ b → b ≤ c → a ≤ c
      both a b c h k = omega (arith, h, k)

  module _ (laws : Laws) (start_sound : StartIsSound) (limit : Bounds) (most : ℕ) (t : Tree) (ok : IsSound most t) (small : HasSmallFiles t.nodes) (few : HasFewPaths t.names)
      (short : HasShortNames limit.layout t.names) (room : len t.nodes ≤ limit.nodes) where
    pub no_more_blocks : (front back : List Cmd) → making t ≡ front ++ back → blocks limit.layout (tree_after limit front) ≤ blocks limit.layout t
    no_more_blocks front back split =
        let all = all_done laws start_sound limit most t ok room small few short in
        let r = does_split (start limit) all.0 front back (subst (λ l. Does (start limit) l all.0) split all.1) in
        let sound = does_sound (start limit) r.0 front (start_sound limit (some_number laws start_sound limit most t ok room)) r.1 in
        let less = rises r.0 all.0 back sound (add_back front back (subst AllAdd split (making_adds t))) r.2
        limit.layout (ap (λ (n : Bounds). n.layout) (does_limit same_limit (start limit) r.0 front r.1)) in
        let tree : (r.0).tree ≡ tree_after limit front = ap (λ s. s.tree) (does_fold (start limit) r.0 front r.1) in
        subst (λ (x : Tree). blocks limit.layout x ≤ blocks limit.layout t) tree (subst (λ n. blocks limit.layout (r.0).tree ≤ n) (same_blocks t (all.0).tree all.3 limit.layout) less)
