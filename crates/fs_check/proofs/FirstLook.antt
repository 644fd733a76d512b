-- The first look at the nodes, one node more, and all of them.
use Rattle.std.proofs.Common.{◌≡◌, ◌≢◌, ℕ, zero, suc, ◌+◌, ◌<◌, ◌≤◌, List, [], ◌∷◌, ◌++◌, length, Option, None, Some, option_map, refl, sym, ap, ◌∙◌, arith, subst, ⊎_elim}
use Rattle.std.proofs.lemmas.Bool.{cases_lt, ne_eqb}
use Rattle.std.proofs.lemmas.List.{get_or_append_left, get_or_push, get_or_past}
use Rattle.base_types.specs.declared.layout.Layout.{Layout}
use Rattle.base_types.specs.Layouts.{slots_held}
use Rattle.layout_bytes.specs.declared.node.NodeKind.{NodeKind}
use Rattle.layout_bytes.specs.declared.node.NodeKind.TheVariants as kind
use Rattle.layout_bytes.specs.Bytes.{when}
use Rattle.lang_tree.specs.Tree.{Bounds}
use Rattle.crash_stands.specs.Files.{FileNode, Files}
use Rattle.crash_stands.specs.Inodes.{ADir, inode_by, inode_of}
use Rattle.layout_bytes.specs.Slot.{slots_in}
use Rattle.fs_files.specs.declared.look.FileFacts.{FileFacts}
use Rattle.fs_files.specs.Calls.{facts_of}
use Rattle.fs_snapshots.specs.Nodes.{facts_are}
use Rattle.fs_check.specs.declared.damage.TreeDamage.{TreeDamage}
use Rattle.fs_check.specs.declared.looked.Looked.{Looked}
use Rattle.fs_check.specs.declared.looked.Looked.TheVariants.{Unused}
use Rattle.fs_check.specs.Damage.{IsBroken}
use Rattle.fs_check.specs.Looked.{seen, IsSeen, IsSeenAs, IsLookOf, IsLookAs, HasWrongLink, AreSeen}
use Rattle.fs_check.proofs.Seeing.{dir_plain}

look_as : (x : FileNode) (k : NodeKind) (look : Looked) → IsLookAs k (facts_of x) look → IsSeenAs k x look
look_as x kind.Free look h = h
look_as x kind.Dir look h = h
look_as x kind.File look h = h
look_as x kind.Snapshot look h = h

-- what is kept of a look is what is seen of the node
look_seen : (o : Option FileNode) (found : Option FileFacts) (look : Looked) → found ≡ option_map facts_of o → IsLookOf found look → IsSeen o look
look_seen None found look e h = subst (λ f. IsLookOf f look) e h
look_seen (Some x) found look e h = look_as x x.kind look (subst (λ f. IsLookOf f look) e h)

-- one node more
pub seen_push : (files : Files) (nodes : List Looked) (n : ℕ) (found : Option FileFacts) (look : Looked) → length nodes ≡ n → ((k : ℕ) → k < n → IsSeen (files k) (seen nodes k)) → found ≡ option_map facts_of (files n) → IsLookOf found look
    → (k : ℕ) → k < n + 1 → IsSeen (files k) (seen (nodes ++ look ∷ []) k)
seen_push files nodes n found look len before e h k low = ⊎_elim (λ less. subst (IsSeen (files k)) (sym (get_or_append_left nodes (look ∷ []) Unused k (omega (arith, less, len)))) (before k less))
    (λ more. let same : n ≡ k = omega (arith, low, more) in
    subst (IsSeen (files k)) (sym (get_or_push nodes look Unused k (len ∙ same))) (look_seen (files k) found look (e ∙ ap (λ j. option_map facts_of (files j)) same) h))
    (cases_lt k n)

-- the first place stays
pub zero_push : (nodes : List Looked) (n : ℕ) (look : Looked) → length nodes ≡ n → 1 ≤ n → seen nodes 0 ≡ Unused → seen (nodes ++ look ∷ []) 0 ≡ Unused
zero_push nodes n look len low e = get_or_append_left nodes (look ∷ []) Unused 0 (omega (arith, low, len)) ∙ e

-- before the first look number 0 alone was seen, which no node has
pub first_seen : (files : Files) → files 0 ≡ None → (k : ℕ) → k < 1 → IsSeen (files k) (seen (Unused ∷ []) k)
first_seen files none zero low = subst (λ o. IsSeen o Unused) (sym none) refl
first_seen files none (suc k) low = absurd (omega (arith, low))

-- all nodes were seen
pub all_seen : (limit : ℕ) (files : Files) → ((k : ℕ) → limit < k → files k ≡ None) → (nodes : List Looked) (n : ℕ) → length nodes ≡ n → limit < n → ((k : ℕ) → k < n → IsSeen (files k) (seen nodes k)) → AreSeen files nodes
all_seen limit files none nodes n len most before k = ⊎_elim (λ less. before k less)
    (λ more. subst (λ o. IsSeen o (seen nodes k)) (sym (none k (omega (arith, most, more)))) (get_or_past nodes k Unused (omega (arith, len, more))))
    (cases_lt k n)

wrong_inode : (layout : Layout) (x : FileNode) → x.kind ≡ kind.Dir → x.links ≢ 1 → inode_of layout x ≡ None
wrong_inode layout x is link =
    ap (λ k. inode_by layout k x.links x.bytes) is ∙ ap (λ b. when b (option_map ADir (slots_in layout (slots_held layout (length x.bytes)) x.bytes))) (ne_eqb x.links 1 link)

-- a directory with another number of links than one is broken
pub link_broken : (limit : Bounds) (node : ℕ) (files : Files) (found : Option FileFacts) (why : TreeDamage) → found ≡ option_map facts_of (files node) → HasWrongLink node found why → IsBroken limit files why
link_broken limit node files found why e h =
    let x = facts_are (files node) h.facts (sym h.there ∙ e) in
    subst (IsBroken limit files) (sym h.is)
    (record {
      file = x.0;
      used = x.1;
      plain = dir_plain x.0 (ap (λ (f : FileFacts). f.kind) (sym x.2) ∙ h.is_dir);
      unread = wrong_inode limit.layout x.0 (ap (λ (f : FileFacts). f.kind) (sym x.2) ∙ h.is_dir) (λ l. h.link (ap (λ (f : FileFacts). f.links) x.2 ∙ l));
    })
