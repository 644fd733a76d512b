use Rattle.std.proofs.Common.{◌≡◌, ℕ, List, length, sym, subst, ap, ◌∙◌, arith}
use Rattle.lang_tree.specs.Tree.{Bounds}
use Rattle.crash_stands.specs.Maps.{IsMapOf}
use Rattle.fs_inodes.specs.Lookups.{bytes_of, inode_at, is_dir_inode}
use Rattle.fs_files.specs.declared.look.FileFacts.{FileFacts}
use Rattle.fs_files.specs.Calls.{files_in}
use Rattle.fs_files.specs.Drafts.{begun_beside, nothing_drafted}
use Rattle.fs_dirs.specs.Directories.{inodes_in}
use Rattle.fs_commands.proofs.writing.Written.{file_bytes, file_reads}
use Rattle.fs_commands.proofs.found.a_file_is_at_its_path.Goals as goal

pub returns : goal.returns
returns g c = λ told f path found h file walk.
    let s = g.S.Blocks.state c.args.blocks.now in
    let m = inodes_in s nothing_drafted in
    let x = file.0 in
    let map = c.blocks_have_the_map_of_their_tree.ensures.map s.books.geom s.map f.tree h.tree in
    let leads = c.walks_are_the_same.ensures.ends m path found.number walk in
    let at = c.the_node_at_a_path_gives_the_inode.ensures.inode s.books.geom.layout (files_in s nothing_drafted) path found.number x leads file.1 in
    let size : length x.bytes ≡ found.facts.size = sym (ap (λ (q : FileFacts). q.size) file.2) in
    let bytes : length (bytes_of (inode_at m path)) ≡ found.facts.size = ap (λ (xs : List ℕ). length xs) (ap bytes_of at ∙ file_bytes _ x file.3) ∙ size in
    record {
      map = subst (λ (b : Bounds). IsMapOf b.nodes m f.tree) (sym h.limit) map;
      walk = walk;
      leads = leads;
      file = ap is_dir_inode (at ∙ file_reads _ x file.3);
      size = bytes;
      holds = ap (λ (xs : List ℕ). length xs) (c.paths_lead_to_inodes.ensures.bytes s.books.geom.i m f.tree path map) ∙ bytes;
      most = omega (arith, size, c.a_file_fits_the_disk.ensures (begun_beside c.args.shared.now) found.number x told (c.a_draft_may_begin.ensures c.args.shared.now c.requires.begin) file.1);
    }
