use Rattle.std.proofs.Common.{◌≡◌, All, Err, IfSome, IsTrue, None, Some, false, ap, ap₂, subst, sym, ◌∙◌}
use Rattle.layout_geometry.specs.Geometry.{IsGeometry}
use Rattle.lang_tree.specs.declared.command.Cmd.TheVariants.{Snap}
use Rattle.lang_tree.specs.declared.command.Refusal.TheVariants.{Exists, NoNode}
use Rattle.lang_tree.specs.Figures.{Figures}
use Rattle.lang_tree.specs.Values.{value_of}
use Rattle.crash_stands.specs.Stands.{AreSound}
use Rattle.engine_blocks.specs.Puts.{IsData}
use Rattle.engine_blocks.specs.State.{Bookkeeping}
use Rattle.fs_dirs.specs.Directories.{IsNumber}
use Rattle.fs_files.specs.Content.{fails_reading}
use Rattle.fs_files.specs.Effects.{LooksOnly}
use Rattle.fs_files.specs.Places.{looks_more}
use Rattle.fs_snapshots.specs.Known.{snapshot_number}
use Rattle.fs_session.specs.declared.plan.Plan.{Plan}
use Rattle.fs_session.specs.Commands.{least_number}
use Rattle.fs_session.specs.Snapshots.{live_files}
use Rattle.fs_session.specs.Space.{HasRoom}
use Rattle.fs_commands.specs.Gathering.{live_dirs}
use Rattle.fs_commands.specs.Snapping.{figures_to_snap}
use Rattle.fs_commands.proofs.planning.Before.{looked_first}
use Rattle.fs_commands.proofs.planning.Behind.{least_still}
use Rattle.fs_commands.proofs.planning.Looking.{cut_short, full_plan, no_look, refusal_plan}
use Rattle.fs_commands.proofs.snapped.Fresh.{accepts, costs, name_there, no_number, told_none, told_number}
use Rattle.fs_commands.proofs.snapped.Kept.{still}
use Rattle.fs_commands.proofs.snapping.find_new.Given as given
use Rattle.fs_commands.proofs.snapping.find_new.Goals as goal
use Rattle.fs_commands.proofs.snapping.find_new.Goals.{After-has_room, After-shared}

-- no snapshot has the name
free : (g : given.Over) (c : After-shared g) → IsTrue g.S.Blocks.tells → snapshot_number (g.S.Blocks.state c.args.blocks.now).books.geom (g.S.Blocks.state c.args.blocks.now).map c.args.name.now ≡ None
free g c told = sym ((c.requires.knows told).named c.args.name.now) ∙ sym c.number.ensures ∙ told_none c.number.result (sym c.is_some.ensures ∙ c.if-is_some.false)

-- nothing was done so far but reads
read : (g : given.Over) (c : After-has_room g) → LooksOnly g.S.Blocks.tells false (g.S.Blocks.state c.args.blocks.now) (g.S.Blocks.state c.gather_live.new.blocks)
read g c = looks_more g.S.Blocks.tells false (g.S.Blocks.state c.args.blocks.now) (g.S.Blocks.state c.least_unused.new.blocks) (g.S.Blocks.state c.gather_live.new.blocks) c.in-Ok-Some.ensures.looks c.in-Ok.ensures.looks

-- the least number that no node has
least : (g : given.Over) (c : After-has_room g) → IsTrue g.S.Blocks.tells → least_number (g.S.Blocks.state c.gather_live.new.blocks) ≡ Some c.in-Ok-Some.number
least g c told = least_still g.S.Blocks.tells _ _ (read g c) told c.in-Ok-Some.number (sym (c.in-Ok-Some.ensures.least told) ∙ c.in-Ok-Some.field-0-is)

dirs : (g : given.Over) (c : After-has_room g) → IsTrue g.S.Blocks.tells → c.in-Ok.live.dirs.items ≡ live_dirs (g.S.Blocks.state c.gather_live.new.blocks).books.geom (g.S.Blocks.state c.gather_live.new.blocks).map
dirs g c told = c.in-Ok.ensures.dirs told ∙ sym (ap₂ live_dirs (ap (λ (b : Bookkeeping). b.geom) c.in-Ok.ensures.looks.books) (c.in-Ok.ensures.looks.map told))

inside : (g : given.Over) (c : After-has_room g) → All (IsData (g.S.Blocks.state c.gather_live.new.blocks).books.geom) c.in-Ok.live.dirs.items
inside g c = subst (λ (b : Bookkeeping). All (IsData b.geom) c.in-Ok.live.dirs.items) (sym c.in-Ok.ensures.looks.books) c.in-Ok.ensures.dirs_data

-- what was weighed
weighed : (g : given.Over) (c : After-has_room g) → IsTrue g.S.Blocks.tells → value_of c.snap_figures-figures.result ≡ figures_to_snap (g.S.Blocks.state c.gather_live.new.blocks)
weighed g c told =
    let s = g.S.Blocks.state c.args.blocks.now in
    let t = g.S.Blocks.state c.gather_live.new.blocks in
    let looks = read g c in
    costs t c.geom-geom.result (value_of c.snap_figures-figures.result) c.bitmap_blocks.result c.snapshot_count.result c.deref.result.now c.geom-geom.ensures c.snap_figures-figures.ensures c.bitmap_blocks.ensures c.snapshot_count.ensures.value
    (c.deref.ensures.value ∙ dirs g c told) (subst IsGeometry (c.geom.ensures ∙ sym (ap (λ (b : Bookkeeping). b.geom) looks.books)) c.lawful.ensures.limits)
    (still g.S.Blocks.tells s t looks AreSound told (c.requires.may.begin.sound told)) (subst (All (IsData t.books.geom)) (sym c.deref.ensures.value) (inside g c))

pub returns-then-is_some-clause-refused : goal.returns-then-is_some-clause-refused
returns-then-is_some-clause-refused g c =
    let s = g.S.Blocks.state c.args.blocks.now in
    refusal_plan g.S.Blocks.tells g.S.Blocks.state c.calls_compose.ensures.rests g.met.S.Blocks.is_sound (Snap c.args.name.now) c.args.blocks.now c.args.blocks.now Exists c.requires.may.begin.going
    (λ told f h.
    let n = told_number c.number.result (sym c.is_some.ensures ∙ c.if-is_some.true) in
    name_there c.what_is_known_of_snapshots_is_so.ensures.named s f h c.args.name.now n.0 (sym ((c.requires.knows told).named c.args.name.now) ∙ sym c.number.ensures ∙ n.1))
    (no_look g.S.Blocks.tells s)

pub returns-in-Ok-None-clause-refused : goal.returns-in-Ok-None-clause-refused
returns-in-Ok-None-clause-refused g c =
    refusal_plan g.S.Blocks.tells g.S.Blocks.state c.calls_compose.ensures.rests g.met.S.Blocks.is_sound (Snap c.args.name.now) c.args.blocks.now c.least_unused.new.blocks NoNode c.requires.may.begin.going
    (λ told f h. no_number c.what_is_known_of_snapshots_is_so.ensures.named (g.S.Blocks.state c.args.blocks.now) f h c.args.name.now (free g (goal.at.returns-in-Ok-None-clause-refused g c).After-shared told)
    (c.counts_tell_what_is_shared.ensures.least c.args.blocks.now f h) (sym (c.in-Ok-None.ensures.least told) ∙ c.in-Ok-None.field-0-is))
    c.in-Ok-None.ensures.looks

pub returns-in-Err-clause-lacking : goal.returns-in-Err-clause-lacking
returns-in-Err-clause-lacking g c =
    cut_short g.S.Blocks.tells g.S.Blocks.state c.calls_compose.ensures.rests (Snap c.args.name.now) c.args.blocks.now c.least_unused.new.blocks c.in-Err.why c.refusal_of.result c.refusal_of.ensures c.requires.may.begin.going c.in-Err.ensures.refused c.in-Err.ensures.looks

pub returns-in-Err-gather_live-clause-lacking : goal.returns-in-Err-gather_live-clause-lacking
returns-in-Err-gather_live-clause-lacking g c =
    let why = c.in-Err-gather_live.why in
    cut_short g.S.Blocks.tells g.S.Blocks.state c.calls_compose.ensures.rests (Snap c.args.name.now) c.args.blocks.now c.gather_live.new.blocks why c.refusal_of-in-Err-gather_live.result c.refusal_of-in-Err-gather_live.ensures c.requires.may.begin.going
    c.in-Err-gather_live.ensures.refused
    (looks_more g.S.Blocks.tells (fails_reading {T = Plan} (Err why)) (g.S.Blocks.state c.args.blocks.now) (g.S.Blocks.state c.least_unused.new.blocks) (g.S.Blocks.state c.gather_live.new.blocks) c.in-Ok-Some.ensures.looks c.in-Err-gather_live.ensures.looks)

pub returns-in-Err-has_room-clause-lacking : goal.returns-in-Err-has_room-clause-lacking
returns-in-Err-has_room-clause-lacking g c =
    let s = g.S.Blocks.state c.args.blocks.now in
    let t = g.S.Blocks.state c.gather_live.new.blocks in
    let now = (goal.at.returns-in-Err-has_room-clause-lacking g c).After-has_room in
    let looks = read g now in
    looked_first g.S.Blocks.tells g.S.Blocks.state c.calls_compose.ensures.rests c.calls_compose.ensures.advances (Snap c.args.name.now) (Err c.in-Err-has_room.why) c.args.blocks.now c.gather_live.new.blocks c.gather_live.new.blocks c.requires.may.begin.going looks
    (full_plan g.S.Blocks.tells g.S.Blocks.state c.calls_compose.ensures.rests (Snap c.args.name.now) c.gather_live.new.blocks (value_of c.snap_figures-figures.result) c.in-Err-has_room.why (ap (λ (b : Bookkeeping). b.stopped) looks.books ∙ c.requires.may.begin.going) c.in-Err-has_room.ensures.refused
    (λ told f h.
    let none = still g.S.Blocks.tells s t looks (λ g m. snapshot_number g m c.args.name.now ≡ None) told (free g (goal.at.returns-in-Err-has_room-clause-lacking g c).After-shared told) in
    let a = accepts c.what_is_known_of_snapshots_is_so.ensures.named t f h c.args.name.now none (c.counts_tell_what_is_shared.ensures.least c.gather_live.new.blocks f h) c.in-Ok-Some.number (least g now told) (c.counts_tell_what_is_shared.ensures.live c.gather_live.new.blocks f h) in
    (a.0, a.1 ∙ sym (weighed g now told))))

pub returns-clause-new : goal.returns-clause-new
returns-clause-new g c =
    let s = g.S.Blocks.state c.args.blocks.now in
    let t = g.S.Blocks.state c.gather_live.new.blocks in
    let now = (goal.at.returns-clause-new g c).After-has_room in
    let looks = read g now in
    record {
      number = subst (λ (b : Bookkeeping). IsNumber b.geom.i c.in-Ok-Some.number) (sym looks.books) (subst (λ o. IfSome o (IsNumber s.books.geom.i)) c.in-Ok-Some.field-0-is c.in-Ok-Some.ensures.number);
      «data» = inside g now;
      weight = c.in-Ok-has_room.ensures.room.weight;
      least = λ told. least g now told;
      free = λ told. still g.S.Blocks.tells s t looks (λ g m. snapshot_number g m c.args.name.now ≡ None) told (free g (goal.at.returns-clause-new g c).After-shared told);
      files = λ told. c.in-Ok.ensures.files told ∙ sym (ap₂ live_files (ap (λ (b : Bookkeeping). b.geom) c.in-Ok.ensures.looks.books) (c.in-Ok.ensures.looks.map told));
      dirs = λ told. dirs g now told;
      cost = λ told. ap (λ (f : Figures). f.cost) (weighed g now told);
      room = λ told. subst (HasRoom t.books) (weighed g now told) c.in-Ok-has_room.ensures.room;
    }

pub returns-clause-looks : goal.returns-clause-looks
returns-clause-looks g c = read g (goal.at.returns-clause-looks g c).After-has_room
