-- The blocks of a sound tree after a command are those before it, with what its figures need and without what they free.
use Rattle.std.proofs.Common.{◌≡◌, ℕ, ◌+◌, ◌==◌, min, max, nat_lt, Bool, true, false, ◌&&◌, if◌then◌else◌, List, [], length, replicate, None, refl, sym, ap, ◌∙◌, arith, eqb-true, nat_le}
use Rattle.std.proofs.lemmas.Bool.{ltb-true, ltb-false, true≢false}
use Rattle.std.proofs.lemmas.List.{length-replicate}
use Rattle.base_types.specs.declared.layout.Layout.{Layout}
use Rattle.lang_tree.specs.declared.command.Cmd.{Cmd}
use Rattle.lang_tree.specs.declared.command.Cmd.TheVariants.{Mkdir, Create, Write, Fill, Read, Truncate, Link, Unlink, Rmdir, Rename, Stat, List as ListNames, Snap, Unsnap, Snaps, At, Osync, Dsync, Durable, Dwait, Poll, Bad}
use Rattle.lang_tree.specs.declared.command.Reply.TheVariants.{Ok as Done}
use Rattle.lang_tree.specs.declared.command.Refusal.TheVariants.{IsDir, TooLarge}
use Rattle.lang_tree.specs.Tree.{Tree, Dir, File, IsSound}
use Rattle.lang_tree.specs.Walk.{walk_refusal, thing_at, is_dir, is_same_node, content}
use Rattle.lang_tree.specs.Conditions.{when, is_too_large, write_refusal, truncate_refusal, refusal}
use Rattle.lang_tree.specs.Step.{Session, step, answered, changed_to, edited, written, resized, removed, moved, osync, dwait, changes_snapshots}
use Rattle.lang_tree.specs.Figures.{Figures, nothing, writing, blocks, blocks_for, write_figures, truncate_figures, move_figures, figures_by, figures}
use Rattle.lang_tree.proofs.walking.Found.{no_reasons, not_so}
use Rattle.lang_tree.proofs.soundness.Sound.{can_unlink}
use Rattle.lang_tree.proofs.blocks.BlockChanges.{length_written, length_resized, added_blocks, linked_blocks, edited_blocks, gone_blocks, rmdir_blocks, moved_blocks}

-- the new tree has the blocks of the old one, with what the figures need and without what they free
abbrev Tells : Layout → Tree → Tree → Figures → Type 0
Tells l new old f = blocks l new + f.freed ≡ blocks l old + f.need

choice_tells : (l : Layout) (s : Session) (t : Tree) (b : Bool) (f : Figures) → (b ≡ false → Tells l t s.tree f) → Tells l (if b then (s, Done) else changed_to s t).0.tree s.tree (if b then nothing else f)
choice_tells l s t b f h1 = grind arith

more_alone : (after before grown : ℕ) → after ≡ before + grown → after + 0 ≡ before + grown
more_alone after before grown e = omega (arith, e)

less_alone : (after before freed : ℕ) → after + freed ≡ before → after + freed ≡ before + 0
less_alone after before freed e = omega (arith, e)

-- Files.

writing_tells : (l : Layout) (bitmap size lo hi : ℕ) (new old : Tree) → blocks l new + blocks_for size ≡ blocks l old + blocks_for (max size hi) → Tells l new old (writing bitmap size lo hi)
writing_tells l bitmap size lo hi new old e = omega (arith, e)

write_tells : (l : Layout) (bitmap : ℕ) (s : Session) → IsSound s.limit.nodes s.tree → (path : List (List ℕ)) (offset : ℕ) (bytes : List ℕ) (count : ℕ) → length bytes ≡ count → write_refusal s.tree path offset count ≡ None
    → Tells l (edited s.tree path (written offset bytes)) s.tree (writing bitmap (length (content s.tree path)) (min offset (length (content s.tree path))) (offset + count))
write_tells l bitmap s ok path offset bytes count long e =
    let r = no_reasons (walk_refusal s.tree path) (when (is_dir (thing_at s.tree path)) IsDir) (when (nat_lt 0 count && is_too_large (offset + count)) TooLarge) [] e in
    let old = content s.tree path in
    let size : length (written offset bytes old) ≡ max (length old) (offset + count) = length_written offset bytes old ∙ ap (λ n. max (length old) (offset + n)) long in
    writing_tells l bitmap (length old) (min offset (length old)) (offset + count) (edited s.tree path (written offset bytes)) s.tree
    (edited_blocks l s.limit.nodes s.tree ok path (written offset bytes) r.0 (not_so (is_dir (thing_at s.tree path)) IsDir r.1) ∙ ap (λ n. blocks l s.tree + blocks_for n) size)

fill_tells : (l : Layout) (bitmap : ℕ) (s : Session) → IsSound s.limit.nodes s.tree → (path : List (List ℕ)) (offset count byte : ℕ) → write_refusal s.tree path offset count ≡ None
    → Tells l (if length (replicate count byte) == 0 then (s, Done) else changed_to s (edited s.tree path (written offset (replicate count byte)))).0.tree s.tree (write_figures bitmap (length (content s.tree path)) offset count)
fill_tells l bitmap s ok path offset count byte e =
    let new = edited s.tree path (written offset (replicate count byte)) in
    let f = write_figures bitmap (length (content s.tree path)) offset count in
    ap (λ n. blocks l (if n == 0 then (s, Done) else changed_to s new).0.tree + f.freed) (length-replicate count byte)
    ∙ choice_tells l s new (count == 0) _ (λ _. write_tells l bitmap s ok path offset (replicate count byte) count (length-replicate count byte) e)

resized_tells : (l : Layout) (bitmap old size : ℕ) (new before : Tree) → blocks l new + blocks_for old ≡ blocks l before + blocks_for size → Tells l new before (truncate_figures bitmap old size)
resized_tells l bitmap old size new before e = grind (arith, nat_lt old size, nat_lt size old, ltb-true, ltb-false)

truncate_tells : (l : Layout) (bitmap : ℕ) (s : Session) → IsSound s.limit.nodes s.tree → (path : List (List ℕ)) (size : ℕ) → truncate_refusal s.tree path size ≡ None
    → Tells l (if size == length (content s.tree path) then (s, Done) else changed_to s (edited s.tree path (resized size))).0.tree s.tree (truncate_figures bitmap (length (content s.tree path)) size)
truncate_tells l bitmap s ok path size e = by (size == length (content s.tree path)) refl
  where
    by : (b : Bool) → (size == length (content s.tree path)) ≡ b
        → Tells l (if b then (s, Done) else changed_to s (edited s.tree path (resized size))).0.tree s.tree (truncate_figures bitmap (length (content s.tree path)) size)
    by true is = resized_tells l bitmap (length (content s.tree path)) size s.tree s.tree (ap (λ n. blocks l s.tree + blocks_for n) (sym (eqb-true size (length (content s.tree path)) is)))
    by false is =
        let r = no_reasons (walk_refusal s.tree path) (when (is_dir (thing_at s.tree path)) IsDir) (when (is_too_large size) TooLarge) [] e in
        resized_tells l bitmap (length (content s.tree path)) size (edited s.tree path (resized size)) s.tree
        (edited_blocks l s.limit.nodes s.tree ok path (resized size) r.0 (not_so (is_dir (thing_at s.tree path)) IsDir r.1) ∙ ap (λ n. blocks l s.tree + blocks_for n) (length_resized size (content s.tree path)))

-- The commands.

osync_tells : (l : Layout) (s : Session) (b : Bool) → Tells l (osync s b).0.tree s.tree nothing
osync_tells l s b = grind arith

dwait_tells : (l : Layout) (s : Session) (n : ℕ) (b : Bool) → Tells l (dwait s n b).0.tree s.tree nothing
dwait_tells l s n true = refl
dwait_tells l s n false = refl

accepted_tells : (bitmap : ℕ) (s : Session) (cmd : Cmd) → changes_snapshots cmd ≡ false → IsSound s.limit.nodes s.tree → refusal s.limit s.tree cmd ≡ None → Tells s.limit.layout (answered s cmd None).0.tree s.tree (figures_by bitmap s.limit s.tree cmd None)
accepted_tells bitmap s (Mkdir path) live ok e = more_alone _ _ _ (added_blocks s.limit.layout s.limit.nodes s.tree ok path Dir refl e)
accepted_tells bitmap s (Create path) live ok e = more_alone _ _ _ (added_blocks s.limit.layout s.limit.nodes s.tree ok path (File []) refl e)
accepted_tells bitmap s (Write path offset bytes) live ok e = choice_tells s.limit.layout s _ (length bytes == 0) _ (λ _. write_tells s.limit.layout bitmap s ok path offset bytes (length bytes) refl e)
accepted_tells bitmap s (Fill path offset count byte) live ok e = fill_tells s.limit.layout bitmap s ok path offset count byte e
accepted_tells bitmap s (Read path offset count) live ok e = refl
accepted_tells bitmap s (Truncate path size) live ok e = truncate_tells s.limit.layout bitmap s ok path size e
accepted_tells bitmap s (Link path other) live ok e = more_alone _ _ _ (linked_blocks s.limit.layout s.limit.nodes s.tree ok path other e)
accepted_tells bitmap s (Unlink path) live ok e = less_alone _ _ _ (gone_blocks s.limit.layout s.limit.nodes s.tree ok path (can_unlink s.limit.nodes s.tree ok path e))
accepted_tells bitmap s (Rmdir path) live ok e = less_alone _ _ _ (rmdir_blocks s.limit.layout s.limit.nodes s.tree ok path e)
accepted_tells bitmap s (Rename from to) live ok e = choice_tells s.limit.layout s (moved (removed s.tree to) from to) (is_same_node s.tree from to) (move_figures bitmap s.limit.layout s.tree from to) (moved_blocks s.limit.layout s.limit.nodes s.tree ok bitmap from to e)
accepted_tells bitmap s (Stat path) live ok e = refl
accepted_tells bitmap s (ListNames path) live ok e = refl
accepted_tells bitmap s (Snap name) live ok e = absurd (true≢false live)
accepted_tells bitmap s (Unsnap name) live ok e = absurd (true≢false live)
accepted_tells bitmap s Snaps live ok e = refl
accepted_tells bitmap s (At name l) live ok e = refl
accepted_tells bitmap s Osync live ok e = osync_tells s.limit.layout s s.changed
accepted_tells bitmap s Dsync live ok e = osync_tells s.limit.layout s s.changed
accepted_tells bitmap s Durable live ok e = refl
accepted_tells bitmap s (Dwait n) live ok e = dwait_tells s.limit.layout s n (nat_le n s.points)
accepted_tells bitmap s Poll live ok e = refl
accepted_tells bitmap s Bad live ok e = refl

pub figures_tell : (bitmap : ℕ) (s : Session) (cmd : Cmd) → changes_snapshots cmd ≡ false → IsSound s.limit.nodes s.tree → blocks s.limit.layout (step s cmd).0.tree + (figures bitmap s cmd).freed ≡ blocks s.limit.layout s.tree + (figures bitmap s cmd).need
figures_tell bitmap s cmd live ok = grind (arith, refusal s.limit s.tree cmd, s.limit, s.tree, accepted_tells)
