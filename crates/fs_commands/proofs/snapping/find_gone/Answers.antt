use Rattle.std.proofs.Common.{◌≡◌, IsTrue, length, min, None, Some, ap, subst, sym, ◌∙◌, rules}
use Rattle.std.proofs.lemmas.Bool.{false≢true}
use Rattle.lang_tree.specs.declared.command.Cmd.TheVariants.{Unsnap}
use Rattle.lang_tree.specs.declared.command.Refusal.TheVariants.{NoSnap}
use Rattle.layout_geometry.specs.Geometry.{Geometry, IsGeometry, bitmap_blocks}
use Rattle.lang_tree.specs.Values.{value_of}
use Rattle.fs_dirs.specs.Directories.{IsNumber}
use Rattle.fs_snapshots.specs.Among.{used_number}
use Rattle.fs_snapshots.specs.Known.{snapshot_number}
use Rattle.fs_commands.specs.Known.{counts_in}
use Rattle.fs_session.specs.Snapshots.{alone_among, live_files}
use Rattle.fs_session.specs.Space.{HasRoom}
use Rattle.fs_commands.specs.Snapping.{figures_to_unsnap}
use Rattle.lang_tree.specs.Figures.{Figures}
use Rattle.fs_commands.proofs.planning.Looking.{cut_short, lacks_quietly, no_look, refusal_plan, room_plan}
use Rattle.fs_commands.proofs.snapped.Answers.{named_is}
use Rattle.fs_commands.proofs.unsnapped.Found.{alone_few, figures_so, goes_behind, no_room, unsnap_refused}
use Rattle.fs_commands.proofs.unsnapped.Planned.{unsnap_is}
use Rattle.fs_commands.proofs.snapping.find_gone.Given as given
use Rattle.fs_commands.proofs.snapping.find_gone.Goals as goal
use Rattle.fs_commands.proofs.snapping.find_gone.Goals.{After-has_room}

pub returns-in_default-clause-refused : goal.returns-in_default-clause-refused
returns-in_default-clause-refused g c =
    let s = g.S.Blocks.state c.args.blocks.now in
    let is : c.number.result ≡ None = search rules in
    refusal_plan g.S.Blocks.tells g.S.Blocks.state c.calls_compose.ensures.rests g.met.S.Blocks.is_sound (Unsnap c.args.name.now) c.args.blocks.now c.args.blocks.now NoSnap c.requires.may.begin.going
    (λ told f h. unsnap_refused s f c.args.name.now h c.what_is_known_of_snapshots_is_so.ensures.named (sym ((c.requires.knows told).named c.args.name.now) ∙ sym c.number.ensures ∙ is))
    (no_look g.S.Blocks.tells s)

pub returns-then-not-is_in_table-clause-refused : goal.returns-then-not-is_in_table-clause-refused
returns-then-not-is_in_table-clause-refused g c =
    let s = g.S.Blocks.state c.args.blocks.now in
    refusal_plan g.S.Blocks.tells g.S.Blocks.state c.calls_compose.ensures.rests g.met.S.Blocks.is_sound (Unsnap c.args.name.now) c.args.blocks.now c.args.blocks.now NoSnap c.requires.may.begin.going
    (λ told f h.
    let there = named_is s.books.geom s.map f.tree c.args.name.now h.tree c.what_is_known_of_snapshots_is_so.ensures.named c.in-Some.number (sym ((c.requires.knows told).named c.args.name.now) ∙ sym c.number.ensures ∙ c.in-Some.is) in
    let number = used_number s.books.geom s.map c.in-Some.number there.0 there.1 in
    let limit : c.i.result ≡ s.books.geom.i = c.i.ensures ∙ ap (λ (x : Geometry). x.i) c.geom-2.ensures in
    absurd (false≢true (sym c.if-not-is_in_table.true ∙ c.is_in_table.ensures.1 (subst (λ n. IsNumber n c.in-Some.number) (sym limit) (record { from = number.0; upto = number.1 })))))
    (no_look g.S.Blocks.tells s)

pub what_goes-requires-clause-snapshot : goal.what_goes-requires-clause-snapshot
what_goes-requires-clause-snapshot g c = λ told.
    let s = g.S.Blocks.state c.args.blocks.now in
    let t = c.requires.may.stands told in
    named_is s.books.geom s.map t.0 c.args.name.now t.1 c.what_is_known_of_snapshots_is_so.ensures.named c.in-Some.number (sym ((c.requires.knows told).named c.args.name.now) ∙ sym c.number.ensures ∙ c.in-Some.is)

pub returns-in-Err-clause-lacking : goal.returns-in-Err-clause-lacking
returns-in-Err-clause-lacking g c =
    cut_short g.S.Blocks.tells g.S.Blocks.state c.calls_compose.ensures.rests (Unsnap c.args.name.now) c.args.blocks.now c.what_goes.new.blocks c.in-Err.why c.refusal_of.result c.refusal_of.ensures c.requires.may.begin.going c.in-Err.ensures.refused c.in-Err.ensures.looks

-- the number is that of the snapshot of this name
named : (g : given.Over) (c : After-has_room g) → IsTrue g.S.Blocks.tells → snapshot_number (g.S.Blocks.state c.args.blocks.now).books.geom (g.S.Blocks.state c.args.blocks.now).map c.args.name.now ≡ Some c.in-Some.number
named g c told = sym ((c.requires.knows told).named c.args.name.now) ∙ sym c.number.ensures ∙ c.in-Some.is

-- and these are the figures
weighed : (g : given.Over) (c : After-has_room g) → IsTrue g.S.Blocks.tells → value_of c.unsnap_figures-figures.result ≡ figures_to_unsnap (g.S.Blocks.state c.args.blocks.now) c.in-Some.number (length c.in-Ok.lists.alone.items)
weighed g c told =
    let s = g.S.Blocks.state c.args.blocks.now in
    let tree = c.requires.may.stands told in
    let law = c.what_is_known_of_snapshots_is_so.ensures in
    let goes = c.in-Ok.ensures.lists told in
    let there = named_is s.books.geom s.map tree.0 c.args.name.now tree.1 law.named c.in-Some.number (named g c told) in
    let long : c.len.result ≡ length c.in-Ok.lists.alone.items = search rules in
    let few = alone_few s (counts_in c.args.known.now) c.in-Some.number c.in-Ok.lists goes (c.requires.may.begin.sound told) there law.each (subst IsGeometry c.geom.ensures c.lawful.ensures.limits) c.in-Ok.ensures.«data» in
    c.unsnap_figures-figures.ensures
    ∙ figures_so s c.bitmap_blocks-bitmap.result c.in-Ok.lists.own c.min-alone.result c.in-Some.number c.in-Ok.lists.alone.items
    (c.bitmap_blocks-bitmap.ensures ∙ ap (λ (k : Geometry). bitmap_blocks k) c.geom-3.ensures ∙ ap (λ b. bitmap_blocks b.geom) c.in-Ok.ensures.looks.books) goes.own (c.min-alone.ensures ∙ ap (λ n. min n 1048576) long) few

pub returns-in-Err-has_room-clause-lacking : goal.returns-in-Err-has_room-clause-lacking
returns-in-Err-has_room-clause-lacking g c =
    let s = g.S.Blocks.state c.args.blocks.now in
    let t = g.S.Blocks.state c.what_goes.new.blocks in
    let at = (goal.at.returns-in-Err-has_room-clause-lacking g c).After-has_room in
    let looks = c.in-Ok.ensures.looks in
    let quiet = lacks_quietly t.books (value_of c.unsnap_figures-figures.result) c.in-Err-has_room.why c.in-Err-has_room.ensures.refused in
    let law = c.what_is_known_of_snapshots_is_so.ensures in
    room_plan g.S.Blocks.tells g.S.Blocks.state c.calls_compose.ensures.rests (Unsnap c.args.name.now) c.args.blocks.now c.what_goes.new.blocks c.in-Err-has_room.why c.requires.may.begin.going quiet.0 quiet.1
    (λ told f h.
    let goes = c.in-Ok.ensures.lists told in
    let is = unsnap_is s c.args.name.now (counts_in c.args.known.now) c.in-Ok.lists.alone.items c.in-Some.number f h law.named
    (λ k there. c.counts_tell_what_is_shared.ensures.alone c.args.blocks.now f (counts_in c.args.known.now) c.args.name.now k h (c.requires.knows told).kept there)
    (λ k there. c.counts_tell_what_is_shared.ensures.blocks c.args.blocks.now f c.args.name.now k h there) (named g at told)
    (goes.alone ∙ ap (alone_among (counts_in c.args.known.now) (live_files s.books.geom s.map)) goes.kept) in
    no_room s t c.args.name.now c.in-Some.number (length c.in-Ok.lists.alone.items) f (value_of c.unsnap_figures-figures.result) c.in-Err-has_room.why is (weighed g at told) looks.books c.in-Err-has_room.ensures.refused)
    looks

pub returns-clause-gone : goal.returns-clause-gone
returns-clause-gone g c =
    let s = g.S.Blocks.state c.args.blocks.now in
    let t = g.S.Blocks.state c.what_goes.new.blocks in
    let at = (goal.at.returns-clause-gone g c).After-has_room in
    let looks = c.in-Ok.ensures.looks in
    let here : HasRoom s.books (value_of c.unsnap_figures-figures.result) = subst (λ b. HasRoom b (value_of c.unsnap_figures-figures.result)) looks.books c.in-Ok-has_room.ensures.room in
    goes_behind g.S.Blocks.tells s t looks c.args.name.now (counts_in c.args.known.now) _ (record {
      number = subst (λ n. IsNumber n c.in-Some.number) (c.i.ensures ∙ ap (λ (x : Geometry). x.i) c.geom-2.ensures) (c.is_in_table.ensures.0 c.if-not-is_in_table.false);
      «data» = c.in-Ok.ensures.«data»;
      weight = here.weight;
      named = named g at;
      kept = λ told. (c.in-Ok.ensures.lists told).kept;
      alone = λ told. (c.in-Ok.ensures.lists told).alone;
      cost = λ told. ap (λ (n : Figures). n.cost) (weighed g at told);
      room = λ told. subst (HasRoom s.books) (weighed g at told) here;
    })
