-- A node that loses a link: how many it has, and what it is then.
use Rattle.std.proofs.Common.{◌≡◌, ◌≢◌, ℕ, ◌-◌, ◌≤◌, ◌==◌, Bool, true, false, List, length, if◌then◌else◌, Option, Some, None, option_and_then, Result, Ok, Err, OnOk, refl, sym, ap, subst, ◌∙◌, arith}
use Rattle.std.proofs.lemmas.Bool.{eqb-true, eq-eqb}
use Rattle.std.proofs.lemmas.Option.{none-some, same_Some}
use Rattle.base_types.specs.declared.layout.Layout.{Layout}
use Rattle.base_types.specs.Seal.{Blocks}
use Rattle.layout_geometry.specs.Geometry.{Geometry}
use Rattle.layout_bytes.specs.declared.node.NodeKind.{NodeKind}
use Rattle.layout_bytes.specs.declared.node.NodeKind.TheVariants.{Free, Dir, File, Snapshot}
use Rattle.layout_bytes.specs.Bytes.{when}
use Rattle.crash_stands.specs.Files.{FileNode, Files, files_of}
use Rattle.crash_stands.specs.Inodes.{Inode, AFile, IsInodeOf, inode_by, inode_of, inodes_of}
use Rattle.fs_inodes.specs.Changes.{one_link_less}
use Rattle.fs_files.specs.declared.look.FileFacts.{FileFacts}
use Rattle.fs_files.specs.Calls.{IsWithFile, with_links}
use Rattle.fs_files.specs.Growing.{alone}
use Rattle.fs_commands.specs.declared.paths.NodeFound.{NodeFound}
use Rattle.fs_commands.specs.Removing.{IsFound, LosesLink, blocks_gone}
use Rattle.fs_commands.proofs.Given.{LinksLaw}

-- what is left of a test that fails: nothing
left_by : {A : Type 0} (t : Bool) (x : Option A) (y : A) → (t ≡ true → ⊥) → when t x ≡ Some y → ⊥
left_by true x y fails e = fails refl
left_by false x y fails e = none-some y e

-- a directory has one link
pub dir_links : (lay : Layout) (links : ℕ) (bytes : List ℕ) (inode : Inode) → links ≢ 1 → inode_by lay Dir links bytes ≡ Some inode → ⊥
dir_links lay links bytes inode more reads = left_by (links == 1) _ inode (λ e. more (eqb-true links 1 e)) reads

-- what holds where two calls' results do
pub on_both : {A E P Q R : Type 0} (r : Result A E) → OnOk r P → OnOk r Q → (P → Q → R) → OnOk r R
on_both (Ok x) p q both = both p q
on_both (Err e) p q both = tt

pub on_one : {A E P Q : Type 0} (r : Result A E) → OnOk r P → (P → Q) → OnOk r Q
on_one (Ok x) p on = on p
on_one (Err e) p on = tt

-- A link that wasn't the last one.

-- what has more links than one is a file, and reads as one with one link less
less : (lay : Layout) (kind : NodeKind) (links : ℕ) (bytes : List ℕ) (inode : Inode) → links ≢ 1 → inode_by lay kind links bytes ≡ Some inode → IsInodeOf lay (Some (record { kind = kind; links = links - 1; bytes = bytes })) (one_link_less inode)
less lay Free links bytes inode more reads = absurd (none-some inode reads)
less lay Snapshot links bytes inode more reads = absurd (none-some inode reads)
less lay Dir links bytes inode more reads = absurd (dir_links _ links bytes inode more reads)
less lay File links bytes inode more reads = subst (λ (i : Inode). IsInodeOf lay (Some (record { kind = File; links = links - 1; bytes = bytes })) (one_link_less i)) (same_Some (AFile links bytes) inode reads) (file (links == 1) refl)
  where
    file : (b : Bool) → (links == 1) ≡ b → IsInodeOf lay (Some (record { kind = File; links = links - 1; bytes = bytes })) (if links == 1 then None else Some (AFile (links - 1) bytes))
    file true e = absurd (more (eqb-true links 1 e))
    file false e = subst (λ b. IsInodeOf lay (Some (record { kind = File; links = links - 1; bytes = bytes })) (if b then None else Some (AFile (links - 1) bytes))) (sym e) refl

-- it has as many links as a number on the disk, of those that a node keeps
kept_links : (lay : Layout) (kind : NodeKind) (links : ℕ) (bytes : List ℕ) (inode : Inode) → (1 ≤ links) × (kind ≡ File → links ≤ 65535) → links ≢ 1 → inode_by lay kind links bytes ≡ Some inode → (2 ≤ links) × (links ≤ 65535)
kept_links lay Free links bytes inode has more reads = absurd (none-some inode reads)
kept_links lay Snapshot links bytes inode has more reads = absurd (none-some inode reads)
kept_links lay Dir links bytes inode has more reads = absurd (dir_links _ links bytes inode more reads)
kept_links lay File links bytes inode has more reads = (omega (arith, has.0, more), has.1 refl)

pub keeps_links : LinksLaw → (g : Geometry) (m : Blocks) (node : NodeFound) (found : IsFound (files_of g m) node) (inode : Inode) (less : ℕ) → inodes_of g.layout (files_of g m) node.number ≡ Some inode → node.facts.links ≢ 1
    → (2 ≤ node.facts.links → node.facts.links ≤ 65535 → less ≡ node.facts.links - 1) → less ≡ found.file.links - 1
keeps_links has g m node found inode less reads more law =
    let x = found.file in
    let links : node.facts.links ≡ x.links = ap (λ (f : FileFacts). f.links) found.facts in
    let so = kept_links _ x.kind x.links x.bytes inode (has g m node.number x found.is) (λ e. more (links ∙ e)) (sym (ap (option_and_then (inode_of g.layout)) found.is) ∙ reads) in
    law (omega (arith, links, so.0)) (omega (arith, links, so.1)) ∙ ap (λ n. n - 1) links

pub link_kept : (l : Layout) (old new : Files) (node : NodeFound) (found : IsFound old node) (inode : Inode) (less : ℕ) → inodes_of l old node.number ≡ Some inode → node.facts.links ≢ 1 → less ≡ found.file.links - 1
    → IsWithFile old new node.number (Some (with_links found.file less)) → LosesLink l old new node.number
link_kept l old new node found inode n reads more is set =
    let x = found.file in
    record {
      own = subst (λ (o : Option FileNode). IsInodeOf l o (option_and_then one_link_less (inodes_of l old node.number))) (sym (set.own ∙ ap (λ n. Some (with_links x n)) is))
          (subst (λ (o : Option Inode). IsInodeOf l (Some (with_links x (x.links - 1))) (option_and_then one_link_less o)) (sym reads)
          (less l x.kind x.links x.bytes inode (λ e. more (ap (λ (f : FileFacts). f.links) found.facts ∙ e)) (sym (ap (option_and_then (inode_of l)) found.is) ∙ reads)));
      others = set.others;
    }

-- What is altered.

-- no block goes where a link stays
pub none_gone : (kept : ℕ → Bool) (f : FileFacts) (places : List ℕ) → f.links ≢ 1 → 0 ≡ blocks_gone kept f places
none_gone kept f places more = by (f.links == 1) refl
  where
    by : (b : Bool) → (f.links == 1) ≡ b → 0 ≡ (if f.links == 1 then length (alone kept places) else 0)
    by true e = absurd (more (eqb-true f.links 1 e))
    by false e = sym (ap (λ b. if b then length (alone kept places) else 0) e)

-- and all of its own that aren't kept with the last one
pub all_gone : (kept : ℕ → Bool) (f : FileFacts) (places : List ℕ) → f.links ≡ 1 → length (alone kept places) ≡ blocks_gone kept f places
all_gone kept f places last = sym (ap (λ b. if b then length (alone kept places) else 0) (eq-eqb f.links 1 last))
