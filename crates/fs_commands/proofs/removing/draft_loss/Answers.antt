use Rattle.std.proofs.Common.{ℕ, ◌-◌, [], false, length, take, Err, subst, ap, ◌∙◌, IsTrue, List}
use Rattle.layout_directory.specs.Directory.{without_at}
use Rattle.base_types.specs.Layouts.{directory_blocks}
use Rattle.lang_tree.specs.Figures.{release}
use Rattle.crash_stands.specs.Files.{files_of}
use Rattle.crash_stands.specs.Inodes.{AreInodesOf}
use Rattle.engine_blocks.specs.State.{Bookkeeping}
use Rattle.fs_files.specs.Calls.{files_in, places_in, IsWithPlaces}
use Rattle.fs_files.specs.Content.{fails_reading}
use Rattle.fs_files.specs.Drafts.{DraftState, nothing_drafted}
use Rattle.fs_dirs.specs.Changing.{Alters, IsWithSlots}
use Rattle.fs_dirs.specs.Directories.{inodes_in}
use Rattle.fs_session.specs.Commands.{places_of}
use Rattle.fs_session.specs.Sessions.{inodes}
use Rattle.fs_commands.specs.Removing.{IsNamed}
use Rattle.fs_commands.proofs.keeping.Begun.{altered_beside}
use Rattle.fs_commands.proofs.looking.Found.{looks_more}
use Rattle.fs_commands.proofs.removed.Names.{has_place, node_still, node_plain, node_shown, name_leaves, name_lost}
use Rattle.fs_commands.proofs.removing.draft_loss.Given as given
use Rattle.fs_commands.proofs.removing.draft_loss.Goals as goal
use Rattle.fs_commands.proofs.removing.draft_loss.Goals.{In-Ok}

-- the slot went
slot_gone : (g : given.Over) (c : goal.In-Ok g) → IsTrue g.S.Blocks.tells → (name : List ℕ) (named : IsNamed (g.S.Blocks.state c.args.blocks.now).books.geom.layout (files_in (g.S.Blocks.state c.args.blocks.now) nothing_drafted) name c.args.named.now)
    → IsWithSlots (g.S.Blocks.state c.args.blocks.now).books.geom.layout (files_in (g.S.Blocks.state c.args.blocks.now) nothing_drafted) (files_in (g.S.Blocks.state c.take_slot.new.blocks) c.take_slot.new.draft) c.args.named.now.dir (without_at c.args.named.now.entry.place named.slots)
slot_gone g c told name named =
    let s = g.S.Blocks.state c.args.blocks.now in
    let n = c.args.named.now in
    subst (λ b. IsWithSlots s.books.geom.layout (files_in s b) (files_in (g.S.Blocks.state c.take_slot.new.blocks) c.take_slot.new.draft) n.dir (without_at n.entry.place named.slots)) c.beside-draft.ensures
    (c.in-Ok.ensures.slots told named.slots (ap (λ b. inodes_in s b n.dir) c.beside-draft.ensures ∙ named.dir))

-- and its directory has the first of its blocks
blocks_left : (g : given.Over) (c : goal.In-Ok g) → IsTrue g.S.Blocks.tells → (name : List ℕ) (named : IsNamed (g.S.Blocks.state c.args.blocks.now).books.geom.layout (files_in (g.S.Blocks.state c.args.blocks.now) nothing_drafted) name c.args.named.now)
    → IsWithPlaces (places_of (g.S.Blocks.state c.args.blocks.now)) (places_in (g.S.Blocks.state c.take_slot.new.blocks) c.take_slot.new.draft) c.args.named.now.dir
    (take (directory_blocks (g.S.Blocks.state c.args.blocks.now).books.geom.layout (length named.slots - 1)) (places_of (g.S.Blocks.state c.args.blocks.now) c.args.named.now.dir))
blocks_left g c told name named =
    let s = g.S.Blocks.state c.args.blocks.now in
    let n = c.args.named.now in
    subst (λ b. IsWithPlaces (places_in s b) (places_in (g.S.Blocks.state c.take_slot.new.blocks) c.take_slot.new.draft) n.dir (take (directory_blocks s.books.geom.layout (length named.slots - 1)) (places_in s b n.dir))) c.beside-draft.ensures
    (c.in-Ok.ensures.places told named.slots (ap (λ b. inodes_in s b n.dir) c.beside-draft.ensures ∙ named.dir))

-- each node in use reads as an inode before
all_read : (g : given.Over) (c : goal.In-Ok g) → IsTrue g.S.Blocks.tells → AreInodesOf (g.S.Blocks.state c.args.blocks.now).books.geom.layout (files_in (g.S.Blocks.state c.args.blocks.now) nothing_drafted) (inodes (g.S.Blocks.state c.args.blocks.now))
all_read g c told =
    let s = g.S.Blocks.state c.args.blocks.now in
    let t = c.requires.stands told in
    c.files_have_one_map.ensures.read s.books.geom.layout (files_of s.books.geom s.map) (λ k file is. c.blocks_have_a_map.ensures.reads s.books.geom s.map t.0 k file t.1 is)

pub take_slot-requires-clause-there : goal.take_slot-requires-clause-there
take_slot-requires-clause-there g c = λ told.
    let named = c.requires.named told in
    has_place (g.S.Blocks.state c.args.blocks.now) c.beside-draft.result named.0 c.args.named.now c.beside-draft.ensures named.1

pub lose_link-requires-clause-found : goal.lose_link-requires-clause-found
lose_link-requires-clause-found g c = λ told.
    let named = c.requires.named told in
    node_still (g.S.Blocks.state c.args.blocks.now) (g.S.Blocks.state c.take_slot.new.blocks) c.take_slot.new.draft named.0 c.args.named.now named.1 (slot_gone g (goal.at.lose_link-requires-clause-found g c).In-Ok told named.0 named.1) (ap (λ (b : Bookkeeping). b.geom) c.in-Ok.ensures.looks.books)

pub returns-in-Ok-lose_link-clause-loses : goal.returns-in-Ok-lose_link-clause-loses
returns-in-Ok-lose_link-clause-loses g c = λ told name named.
    let s = g.S.Blocks.state c.args.blocks.now in
    let mid = g.S.Blocks.state c.take_slot.new.blocks in
    let now = g.S.Blocks.state c.lose_link.new.blocks in
    let d = c.take_slot.new.draft in
    let e = c.lose_link.new.draft in
    let n = c.args.named.now in
    let p = (goal.at.returns-in-Ok-lose_link-clause-loses g c).In-Ok in
    let reads = all_read g p told in
    let taken = slot_gone g p told name named in
    let laid = ap (λ (b : Bookkeeping). b.geom) c.in-Ok.ensures.looks.books in
    name_lost s mid d name n named taken laid now e (c.in-Ok-lose_link.ensures.link told named.inode (node_shown s mid d name n named taken laid))
    (ap (λ (b : Bookkeeping). b.geom) c.in-Ok-lose_link.ensures.looks.books ∙ laid) reads c.directories_are_read.ensures c.alterations_add_up.ensures.both
    (altered_beside c.args.shared.now 3 [] (release s.books.geom.layout (length named.slots)) d
    (subst (λ b. Alters 3 [] (release s.books.geom.layout (length named.slots)) b d) c.beside-draft.ensures (c.in-Ok.ensures.alters told named.slots (ap (λ b. inodes_in s b n.dir) c.beside-draft.ensures ∙ named.dir))))
    c.in-Ok-lose_link.ensures.kept (c.in-Ok-lose_link.ensures.alters told) (directory_blocks s.books.geom.layout (length named.slots - 1)) (blocks_left g p told name named) (c.in-Ok-lose_link.ensures.placed told)

pub returns-in-Ok-lose_link-clause-leaves : goal.returns-in-Ok-lose_link-clause-leaves
returns-in-Ok-lose_link-clause-leaves g c = λ told.
    let s = g.S.Blocks.state c.args.blocks.now in
    let mid = g.S.Blocks.state c.take_slot.new.blocks in
    let d = c.take_slot.new.draft in
    let n = c.args.named.now in
    let p = (goal.at.returns-in-Ok-lose_link-clause-leaves g c).In-Ok in
    let named = c.requires.named told in
    let taken = slot_gone g p told named.0 named.1 in
    let laid = ap (λ (b : Bookkeeping). b.geom) c.in-Ok.ensures.looks.books in
    name_leaves s mid d named.0 n named.1 taken laid (g.S.Blocks.state c.lose_link.new.blocks) c.lose_link.new.draft (directory_blocks s.books.geom.layout (length named.1.slots - 1)) (blocks_left g p told named.0 named.1)
    (c.in-Ok-lose_link.ensures.leaves told (node_plain s mid d named.0 n named.1 taken laid))

pub returns-in-Ok-lose_link-clause-kept : goal.returns-in-Ok-lose_link-clause-kept
returns-in-Ok-lose_link-clause-kept g c = c.in-Ok-lose_link.ensures.kept ∙ c.in-Ok.ensures.kept ∙ ap (λ (b : DraftState). b.kept) c.beside-draft.ensures

pub returns-in-Ok-lose_link-clause-looks : goal.returns-in-Ok-lose_link-clause-looks
returns-in-Ok-lose_link-clause-looks g c =
    looks_more g.S.Blocks.tells false (g.S.Blocks.state c.args.blocks.now) (g.S.Blocks.state c.take_slot.new.blocks) (g.S.Blocks.state c.lose_link.new.blocks) c.in-Ok.ensures.looks c.in-Ok-lose_link.ensures.looks

pub returns-clause-looks : goal.returns-clause-looks
returns-clause-looks g c =
    let s = g.S.Blocks.state c.args.blocks.now in
    let mid = g.S.Blocks.state c.take_slot.new.blocks in
    let now = g.S.Blocks.state c.lose_link.new.blocks in
    looks_more g.S.Blocks.tells (fails_reading {T = ℕ} (Err c.in-Err-lose_link.why)) s mid now c.in-Ok.ensures.looks c.in-Err-lose_link.ensures.looks
