use Rattle.std.proofs.Common.{ℕ, [], IsTrue, List, set, sym, subst, ap, ◌∙◌}
use Rattle.crash_stands.specs.Files.{files_of}
use Rattle.fs_inodes.specs.Changes.{MovesSlot, slot_of}
use Rattle.engine_blocks.specs.State.{Bookkeeping}
use Rattle.fs_files.specs.Calls.{IsWithPlaces, files_in, places_in}
use Rattle.fs_files.specs.Drafts.{DraftState, nothing_drafted}
use Rattle.fs_dirs.specs.Changing.{Alters, IsWithSlots}
use Rattle.fs_dirs.specs.Directories.{inodes_in}
use Rattle.fs_session.specs.Commands.{places_of}
use Rattle.fs_session.specs.Sessions.{inodes}
use Rattle.fs_commands.proofs.Placing.{placed_kept}
use Rattle.fs_commands.specs.Moving.{MayRename}
use Rattle.fs_commands.proofs.keeping.Begun.{altered_beside}
use Rattle.fs_commands.proofs.keeping.Laid.{inodes_laid, reads_laid}
use Rattle.fs_commands.proofs.moved.Free.{leaves_within, moves_within, used_within}
use Rattle.fs_commands.proofs.moved.Onto.{place_within}
use Rattle.fs_commands.proofs.moving.draft_within.Given as given
use Rattle.fs_commands.proofs.moving.draft_within.Goals as goal
use Rattle.fs_commands.proofs.moving.draft_within.Goals.{In-Ok}

-- the slot has the other name
named_so : (g : given.Over) (c : goal.In-Ok g) → IsTrue g.S.Blocks.tells → (name : List ℕ) (may : MayRename (g.S.Blocks.state c.args.blocks.now) c.args.source.now name c.args.other.now)
    → IsWithSlots (g.S.Blocks.state c.args.blocks.now).books.geom.layout (files_in (g.S.Blocks.state c.args.blocks.now) nothing_drafted) (files_in (g.S.Blocks.state c.set_slot.new.blocks) c.set_slot.new.draft) c.args.source.now.dir (set may.from.slots c.args.source.now.entry.place (slot_of c.args.source.now.entry.node.number c.args.other.now))
named_so g c told name may =
    let s = g.S.Blocks.state c.args.blocks.now in
    let f1 = files_in (g.S.Blocks.state c.set_slot.new.blocks) c.set_slot.new.draft in
    let n = c.args.source.now in
    subst (λ (o : List ℕ). IsWithSlots s.books.geom.layout (files_in s nothing_drafted) f1 n.dir (set may.from.slots n.entry.place (slot_of n.entry.node.number o))) c.copy.ensures
    (subst (λ d. IsWithSlots s.books.geom.layout (files_in s d) f1 n.dir (set may.from.slots n.entry.place (slot_of n.entry.node.number c.copy.result))) c.beside-draft.ensures
    (c.in-Ok.ensures.slots told may.from.slots (ap (λ d. inodes_in s d n.dir) c.beside-draft.ensures ∙ may.from.dir)))

-- and its directory the same blocks
placed_so : (g : given.Over) (c : goal.In-Ok g) → IsTrue g.S.Blocks.tells
    → IsWithPlaces (places_of (g.S.Blocks.state c.args.blocks.now)) (places_in (g.S.Blocks.state c.set_slot.new.blocks) c.set_slot.new.draft) c.args.source.now.dir (places_of (g.S.Blocks.state c.args.blocks.now) c.args.source.now.dir)
placed_so g c told =
    let s = g.S.Blocks.state c.args.blocks.now in
    let dir = c.args.source.now.dir in
    subst (λ d. IsWithPlaces (places_in s d) (places_in (g.S.Blocks.state c.set_slot.new.blocks) c.set_slot.new.draft) dir (places_in s d dir)) c.beside-draft.ensures (c.in-Ok.ensures.places told)

pub set_slot-requires-clause-there : goal.set_slot-requires-clause-there
set_slot-requires-clause-there g c = λ told.
    let s = g.S.Blocks.state c.args.blocks.now in
    let name = (c.requires.moves told).0 in
    let may = (c.requires.moves told).1 in
    (may.from.slots, ap (λ d. inodes_in s d c.args.source.now.dir) c.beside-draft.ensures ∙ may.from.dir, place_within (inodes_in s nothing_drafted) name c.args.source.now may.from)

pub returns-in-Ok-clause-kept : goal.returns-in-Ok-clause-kept
returns-in-Ok-clause-kept g c = c.in-Ok.ensures.kept ∙ ap (λ (d : DraftState). d.kept) c.beside-draft.ensures

pub returns-in-Ok-clause-leaves : goal.returns-in-Ok-clause-leaves
returns-in-Ok-clause-leaves g c = λ told.
    let s = g.S.Blocks.state c.args.blocks.now in
    let t = g.S.Blocks.state c.set_slot.new.blocks in
    let name = (c.requires.moves told).0 in
    let may = (c.requires.moves told).1 in
    let p = (goal.at.returns-in-Ok-clause-leaves g c).In-Ok in
    leaves_within s.books.geom.layout (files_in s nothing_drafted) (files_in t c.set_slot.new.draft) c.args.source.now name c.args.other.now may.from may.into (named_so g p told name may) c.a_name_stands_at_its_place.ensures.in_place
    (places_of s) (places_in t c.set_slot.new.draft) (places_of s c.args.source.now.dir) (placed_so g p told)

pub returns-in-Ok-clause-moves : goal.returns-in-Ok-clause-moves
returns-in-Ok-clause-moves g c = λ told name may.
    let s = g.S.Blocks.state c.args.blocks.now in
    let t = g.S.Blocks.state c.set_slot.new.blocks in
    let tree = c.requires.stands told in
    let f0 = files_in s nothing_drafted in
    let f1 = files_in t c.set_slot.new.draft in
    let reads = c.files_have_one_map.ensures.read s.books.geom.layout (files_of s.books.geom s.map) (λ k file is. c.blocks_have_a_map.ensures.reads s.books.geom s.map tree.0 k file tree.1 is) in
    let p = (goal.at.returns-in-Ok-clause-moves g c).In-Ok in
    let named = named_so g p told name may in
    let laid = ap (λ (b : Bookkeeping). b.geom) c.in-Ok.ensures.looks.books in
    record {
      moves = subst (λ m. MovesSlot (inodes s) m c.args.source.now.dir c.args.source.now.dir c.args.source.now.entry.node.number name c.args.other.now) (sym (inodes_laid s t laid c.set_slot.new.draft))
          (moves_within s.books.geom.layout f0 f1 c.args.source.now name c.args.other.now may.from may.into named c.a_name_stands_at_its_place.ensures.in_place);
      reads = reads_laid s t laid c.set_slot.new.draft
          (c.directories_are_read.ensures s.books.geom.layout f0 f1 c.args.source.now.dir (set may.from.slots c.args.source.now.entry.place (slot_of c.args.source.now.entry.node.number c.args.other.now)) named reads);
      alters = altered_beside c.args.shared.now 1 [] 0 c.set_slot.new.draft (subst (λ d. Alters 1 [] 0 d c.set_slot.new.draft) c.beside-draft.ensures (c.in-Ok.ensures.alters told));
      placed = placed_kept (places_of s) (places_in t c.set_slot.new.draft) c.args.source.now.dir [] (placed_so g p told);
      used = used_within s.books.geom.layout f0 f1 c.args.source.now name c.args.other.now may.from may.into named c.a_name_stands_at_its_place.ensures.in_place;
    }
