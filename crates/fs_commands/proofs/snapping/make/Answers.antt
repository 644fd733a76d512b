use Rattle.std.proofs.Common.{◌≡◌, IsTrue, refl, sym, ap, subst, ◌∙◌}
use Rattle.base_types.specs.Seal.{Blocks}
use Rattle.layout_geometry.specs.Geometry.{Geometry, IsGeometry}
use Rattle.lang_tree.specs.declared.command.Cmd.TheVariants.{Snap}
use Rattle.lang_tree.specs.declared.command.Refusal.TheVariants.{NoMemory}
use Rattle.engine_blocks.specs.State.{Bookkeeping}
use Rattle.fs_files.specs.declared.refusal.FileRefusal.TheVariants as file
use Rattle.fs_snapshots.specs.Known.{CountsKeepers, KnowsSnapshots, snapshot_number}
use Rattle.fs_session.specs.Plans.{plan_fails_reading, plan_fails_settling}
use Rattle.fs_session.specs.Snapshots.{live_files}
use Rattle.fs_session.specs.Staying.{between_settles}
use Rattle.fs_commands.specs.Known.{counts_in, number_in}
use Rattle.fs_commands.proofs.planning.Before.{looked_first}
use Rattle.fs_commands.proofs.planning.Looking.{cut_short, no_look}
use Rattle.fs_commands.proofs.snapped.Knows.{knows_same}
use Rattle.fs_commands.proofs.snapped.Made.{counted_in, name_by, plans_ready, ready_counts, ready_long}
use Rattle.fs_commands.proofs.unsnapped.Found.{refused_map}
use Rattle.fs_commands.proofs.snapping.make.Given as given
use Rattle.fs_commands.proofs.snapping.make.Goals as goal
use Rattle.fs_commands.proofs.snapping.make.Goals.{After-make_ready}

-- what is known once room was made
counted : (g : given.Over) (c : After-make_ready g) → IsTrue g.S.Blocks.tells → CountsKeepers (g.S.Blocks.state c.args.blocks.now).books.geom (g.S.Blocks.state c.args.blocks.now).map (counts_in c.make_ready.new.self)
counted g c told =
    let s = g.S.Blocks.state c.args.blocks.now in
    ready_counts s.books.geom s.map (counts_in c.args.known.now) (counts_in c.make_ready.new.self) c.n.result (c.n.ensures ∙ ap (λ (k : Geometry). k.n) c.geom-2.ensures) (c.requires.knows told).kept c.make_ready.ensures.counts c.make_ready.ensures.room

pub returns-in-Err-clause-carries : goal.returns-in-Err-clause-carries
returns-in-Err-clause-carries g c = λ start looks.
    c.carry.ensures.carries (Snap c.args.name.now) start refl
    (cut_short g.S.Blocks.tells g.S.Blocks.state c.calls_compose.ensures.rests (Snap c.args.name.now) start c.args.blocks.now file.NoMemory NoMemory refl (sym (ap (λ (b : Bookkeeping). b.stopped) looks.books) ∙ c.requires.may.begin.going) tt looks)

pub returns-in-Err-clause-knows : goal.returns-in-Err-clause-knows
returns-in-Err-clause-knows g c = λ told.
    let s = g.S.Blocks.state c.args.blocks.now in
    let t = g.S.Blocks.state c.carry.new.blocks in
    let carries = c.carry.ensures.carries (Snap c.args.name.now) c.args.blocks.now refl
    (cut_short g.S.Blocks.tells g.S.Blocks.state c.calls_compose.ensures.rests (Snap c.args.name.now) c.args.blocks.now c.args.blocks.now file.NoMemory NoMemory refl c.requires.may.begin.going tt (no_look g.S.Blocks.tells s)) in
    knows_same s t (counts_in c.make_ready.new.self) (number_in c.make_ready.new.self) carries.runs.geom (refused_map g.S.Blocks.tells s t c.carry.result told (c.carry.ensures.map told) carries.unspent)
    (record {
      kept = counted g (goal.at.returns-in-Err-clause-knows g c).After-make_ready told;
      named = λ name. c.in-Err.ensures.err name ∙ (c.requires.knows told).named name;
    })

pub plan_snap-planned-requires-clause-may : goal.plan_snap-planned-requires-clause-may
plan_snap-planned-requires-clause-may g c =
    let s = g.S.Blocks.state c.args.blocks.now in
    plans_ready g.S.Blocks.tells s (counts_in c.args.known.now) c.shared.result.now
    (λ told. c.what_is_known_of_snapshots_is_so.ensures.kept s.books.geom s.map c.shared.result.now
    (subst (CountsKeepers s.books.geom s.map) (sym c.shared.ensures) (counted g (goal.at.plan_snap-planned-requires-clause-may g c).After-make_ready told)))
    c.requires.may

pub carry-requires-2-clause-between : goal.carry-requires-2-clause-between
carry-requires-2-clause-between g c =
    between_settles g.S.Blocks.tells (plan_fails_reading c.plan_snap-planned.result) (plan_fails_settling c.plan_snap-planned.result) (g.S.Blocks.state c.args.blocks.now) (g.S.Blocks.state c.plan_snap-planned.new.blocks) c.args.unused.now
    (λ new. c.a_sync_may_follow.ensures.rests (g.S.Blocks.state c.args.blocks.now).books new) c.plan_snap-planned.ensures.plans.settles c.requires.between

pub returns-in-Ok-carry-clause-carries : goal.returns-in-Ok-carry-clause-carries
returns-in-Ok-carry-clause-carries g c = λ start looks.
    c.in-Ok-carry.ensures.carries (Snap c.args.name.now) start refl
    (looked_first g.S.Blocks.tells g.S.Blocks.state c.calls_compose.ensures.rests c.calls_compose.ensures.advances (Snap c.args.name.now) c.plan_snap-planned.result start c.args.blocks.now c.plan_snap-planned.new.blocks
    (sym (ap (λ (b : Bookkeeping). b.stopped) looks.books) ∙ c.requires.may.begin.going) looks c.plan_snap-planned.ensures.plans)

pub returns-in-Ok-carry-clause-knows : goal.returns-in-Ok-carry-clause-knows
returns-in-Ok-carry-clause-knows g c = λ told.
    let s = g.S.Blocks.state c.args.blocks.now in
    let t = g.S.Blocks.state c.carry-2.new.blocks in
    let geom = s.books.geom in
    let name = c.args.name.now in
    let new = c.args.new.now in
    let law = c.a_snapshot_becomes_known.ensures in
    let carries = c.in-Ok-carry.ensures.carries (Snap name) c.args.blocks.now refl c.plan_snap-planned.ensures.plans in
    let fits : IsGeometry geom = subst IsGeometry c.geom.ensures c.lawful.ensures.limits in
    let sound = c.requires.may.begin.sound told in
    let made = c.plan_snap-planned.ensures.adds told c.carry-2.new.blocks (c.in-Ok-carry.ensures.map told) in
    let ready = counted g (goal.at.returns-in-Ok-carry-clause-knows g c).After-make_ready told in
    let long = ready_long geom s.map (counts_in c.args.known.now) (counts_in c.make_ready.new.self) c.n.result (c.n.ensures ∙ ap (λ (k : Geometry). k.n) c.geom-2.ensures) (c.requires.knows told).kept c.make_ready.ensures.counts c.make_ready.ensures.room c.in-Ok.ensures.made in
    let more = counted_in geom (counts_in c.make_ready.new.self) (counts_in c.count_in.new.self) c.deref.result.now (live_files geom s.map) (c.deref.ensures.value ∙ c.requires.new.files told) long (law.within geom s.map)
    (law.few geom s.map new.number (counts_in c.make_ready.new.self) fits c.requires.new.number made.1.free ready) (law.once geom s.map sound) c.count_in.ensures.counts in
    let names = law.named geom s.map t.map (c.requires.may.stands told).0 new.number name made.0 fits (c.requires.may.stands told).1 (c.requires.new.free told) made.1 in
    subst (λ (k : Geometry). KnowsSnapshots k t.map (counts_in c.count_in.new.self) (number_in c.count_in.new.self)) (sym carries.runs.geom)
    (record {
      kept = law.counts geom s.map t.map new.number name made.0 (counts_in c.make_ready.new.self) (counts_in c.count_in.new.self) fits sound made.1 ready more;
      named = name_by name (number_in c.args.known.now) (snapshot_number geom s.map) (number_in c.count_in.new.self) (snapshot_number geom t.map) (c.requires.knows told).named
          (c.count_in.ensures.numbers name ∙ c.in-Ok.ensures.here ∙ sym names.0) (λ other off. c.count_in.ensures.numbers other ∙ c.in-Ok.ensures.others other off) names.1;
    })

pub returns-in-Err-carry-clause-carries : goal.returns-in-Err-carry-clause-carries
returns-in-Err-carry-clause-carries g c = λ start looks.
    c.in-Err-carry.ensures.carries (Snap c.args.name.now) start refl
    (looked_first g.S.Blocks.tells g.S.Blocks.state c.calls_compose.ensures.rests c.calls_compose.ensures.advances (Snap c.args.name.now) c.plan_snap-planned.result start c.args.blocks.now c.plan_snap-planned.new.blocks
    (sym (ap (λ (b : Bookkeeping). b.stopped) looks.books) ∙ c.requires.may.begin.going) looks c.plan_snap-planned.ensures.plans)

pub returns-in-Err-carry-clause-knows : goal.returns-in-Err-carry-clause-knows
returns-in-Err-carry-clause-knows g c = λ told.
    let s = g.S.Blocks.state c.args.blocks.now in
    let t = g.S.Blocks.state c.carry-2.new.blocks in
    let name = c.args.name.now in
    let carries = c.in-Err-carry.ensures.carries (Snap name) c.args.blocks.now refl c.plan_snap-planned.ensures.plans in
    knows_same s t (counts_in c.forget.new.self) (number_in c.forget.new.self) carries.runs.geom (carries.unspent.map told)
    (record {
      kept = subst (CountsKeepers s.books.geom s.map) (sym c.forget.ensures.counts) (counted g (goal.at.returns-in-Err-carry-clause-knows g c).After-make_ready told);
      named = name_by name (number_in c.args.known.now) (snapshot_number s.books.geom s.map) (number_in c.forget.new.self) (snapshot_number s.books.geom s.map) (c.requires.knows told).named
          (c.forget.ensures.here ∙ sym (c.requires.new.free told)) (λ other off. c.forget.ensures.others other off ∙ c.in-Ok.ensures.others other off) (λ other off. refl);
    })
