use Rattle.std.proofs.Common.{◌≢◌, true, IfOk, sym, subst, ap, ◌∙◌}
use Rattle.layout_bytes.specs.declared.node.NodeKind.TheVariants.{Free}
use Rattle.fs_files.specs.declared.look.FileFacts.{FileFacts}
use Rattle.fs_files.specs.Calls.{files_in, is_dir}
use Rattle.fs_files.specs.Drafts.{begun_beside, nothing_drafted}
use Rattle.fs_dirs.specs.Directories.{inodes_in}
use Rattle.fs_commands.specs.Looks.{LeadsToFound}
use Rattle.fs_commands.proofs.looking.InUse.{no_snapshot}
use Rattle.fs_commands.proofs.writing.Found.{no_dir, walk_fails, walk_ends}
use Rattle.fs_commands.proofs.bytes.find_file.Goals as goal

pub returns-in-Err-clause-file : goal.returns-in-Err-clause-file
returns-in-Err-clause-file g c = λ told t stands.
    let s = g.S.Blocks.state c.args.blocks.now in
    walk_fails (inodes_in s nothing_drafted) c.args.path.now c.in-Err.why
    (subst (λ r. LeadsToFound s.books.geom.layout (files_in s nothing_drafted) c.args.path.now r) c.in-Err.is (c.in_ok-found.ensures.found told t stands))

pub returns-then-is_dir-clause-file : goal.returns-then-is_dir-clause-file
returns-then-is_dir-clause-file g c = λ told t stands.
    let s = g.S.Blocks.state c.args.blocks.now in
    let led = subst (λ r. LeadsToFound s.books.geom.layout (files_in s nothing_drafted) c.args.path.now r) c.in-Ok.is (c.in_ok-found.ensures.found told t stands) in
    let map = c.blocks_have_the_map_of_their_tree.ensures.map s.books.geom s.map t stands in
    let leads = c.walks_are_the_same.ensures.ends (inodes_in s nothing_drafted) c.args.path.now c.in-Ok.found.number led.0 in
    let shows = c.the_node_at_a_path_gives_the_inode.ensures.facts s.books.geom.layout s.books.geom.i (files_in s nothing_drafted) t c.args.path.now c.in-Ok.found.number led.1.0 map leads led.1.1
    (c.a_directory_has_whole_slots.ensures c.args.blocks.now (begun_beside c.args.shared.now) c.in-Ok.found.number led.1.0 told (c.a_draft_may_begin.ensures c.args.shared.now c.requires.begin) led.1.1) in
    walk_ends (inodes_in s nothing_drafted) c.args.path.now c.in-Ok.found.number true led.0 (shows.dir ∙ sym (ap (λ (q : FileFacts). is_dir q.kind) led.1.2) ∙ sym c.is_dir.ensures ∙ c.if-is_dir.true)

pub returns-else-is_dir-clause-file : goal.returns-else-is_dir-clause-file
returns-else-is_dir-clause-file g c = λ told t stands.
    let s = g.S.Blocks.state c.args.blocks.now in
    let led = subst (λ r. LeadsToFound s.books.geom.layout (files_in s nothing_drafted) c.args.path.now r) c.in-Ok.is (c.in_ok-found.ensures.found told t stands) in
    let kind = ap (λ (q : FileFacts). q.kind) led.1.2 in
    let map = c.blocks_have_the_map_of_their_tree.ensures.map s.books.geom s.map t stands in
    let inode = map.shows.used c.args.path.now c.in-Ok.found.number (c.walks_are_the_same.ensures.ends (inodes_in s nothing_drafted) c.args.path.now c.in-Ok.found.number led.0) in
    (led.0, (led.1.0, led.1.1, led.1.2, no_dir led.1.0.kind (λ free. subst (λ r. IfOk r (λ f. f.facts.kind ≢ Free)) c.in-Ok.is c.in_ok-found.ensures.used (kind ∙ free)) (no_snapshot _ (files_in s nothing_drafted c.in-Ok.found.number) inode.0 inode.1 led.1.0 led.1.1) (sym (ap is_dir kind) ∙ sym c.is_dir.ensures ∙ c.if-is_dir.false)))
