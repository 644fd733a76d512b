use Rattle.std.proofs.Common.{◌≡◌, ◌∙◌, ◌<◌, All, IsTrue, length, refl, sym, subst, ap}
use Rattle.layout_geometry.specs.Geometry.{IsGeometry}
use Rattle.lang_tree.specs.declared.command.Cmd.TheVariants.{Unsnap}
use Rattle.fs_session.specs.Plans.{plan_fails_reading, plan_fails_settling}
use Rattle.fs_session.specs.Staying.{between_settles}
use Rattle.fs_files.specs.Shared.{keepers}
use Rattle.fs_snapshots.specs.Known.{KnowsSnapshots}
use Rattle.fs_commands.specs.Known.{CountsIn, CountsOut, counts_in, number_in}
use Rattle.fs_commands.proofs.planning.Before.{looked_first}
use Rattle.fs_commands.proofs.snapped.Knows.{knows_same}
use Rattle.fs_commands.proofs.unsnapped.Known.{known_again}
use Rattle.fs_commands.proofs.unsnapped.Once.{IsOnce}
use Rattle.fs_commands.proofs.unsnapped.Rest.{below_most, goes_counted, goes_listed, knows_gone, room_again}
use Rattle.fs_commands.proofs.snapping.take_away.Given as given
use Rattle.fs_commands.proofs.snapping.take_away.Goals as goal
use Rattle.fs_commands.proofs.snapping.take_away.Goals.{After-shared}

-- the counts are those without the snapshot
out : (g : given.Over) (c : After-shared g) → IsTrue g.S.Blocks.tells → CountsOut c.args.gone.now.kept.items (counts_in c.args.known.now) (counts_in c.count_out.new.self)
out g c told =
    let s = g.S.Blocks.state c.args.blocks.now in
    let law = c.what_is_known_of_snapshots_is_so.ensures in
    let known = (c.requires.knows told).kept in
    let stands = c.requires.may.stands told in
    subst (λ xs. All (λ b. 0 < keepers (counts_in c.args.known.now) b) xs → IsOnce xs → CountsOut xs (counts_in c.args.known.now) (counts_in c.count_out.new.self)) c.deref.ensures.value c.count_out.ensures.counts
    (goes_counted g.S.Blocks.tells s c.args.name.now (counts_in c.args.known.now) c.args.gone.now c.requires.gone told stands law.named known law.each)
    (goes_listed g.S.Blocks.tells s c.args.name.now (counts_in c.args.known.now) c.args.gone.now c.requires.gone told stands law.named known law.each)

pub plan_unsnap-planned-requires : goal.plan_unsnap-planned-requires
plan_unsnap-planned-requires g c = record {
  may = record {
    counts = counts_in c.args.known.now;
    may = c.requires.may;
    known = λ told. (c.requires.knows told).kept;
    goes = c.requires.gone;
    out = λ told. subst (CountsOut c.args.gone.now.kept.items (counts_in c.args.known.now)) (sym c.shared.ensures) (out g (goal.at.plan_unsnap-planned-requires g c).After-shared told);
  };
}

pub carry-requires-clause-between : goal.carry-requires-clause-between
carry-requires-clause-between g c =
    between_settles g.S.Blocks.tells (plan_fails_reading c.plan_unsnap-planned.result) (plan_fails_settling c.plan_unsnap-planned.result) (g.S.Blocks.state c.args.blocks.now) (g.S.Blocks.state c.plan_unsnap-planned.new.blocks) c.args.unused.now
    (λ new. c.a_sync_may_follow.ensures.rests (g.S.Blocks.state c.args.blocks.now).books new) c.plan_unsnap-planned.ensures.plans.settles c.requires.between

pub returns-in-Ok-clause-carries : goal.returns-in-Ok-clause-carries
returns-in-Ok-clause-carries g c = λ start looks.
    c.in-Ok.ensures.carries (Unsnap c.args.name.now) start refl
    (looked_first g.S.Blocks.tells g.S.Blocks.state c.calls_compose.ensures.rests c.calls_compose.ensures.advances (Unsnap c.args.name.now) c.plan_unsnap-planned.result start c.args.blocks.now c.plan_unsnap-planned.new.blocks
    (sym (ap (λ b. b.stopped) looks.books) ∙ c.requires.may.begin.going) looks c.plan_unsnap-planned.ensures.plans)

pub returns-in-Err-clause-carries : goal.returns-in-Err-clause-carries
returns-in-Err-clause-carries g c = λ start looks.
    c.in-Err.ensures.carries (Unsnap c.args.name.now) start refl
    (looked_first g.S.Blocks.tells g.S.Blocks.state c.calls_compose.ensures.rests c.calls_compose.ensures.advances (Unsnap c.args.name.now) c.plan_unsnap-planned.result start c.args.blocks.now c.plan_unsnap-planned.new.blocks
    (sym (ap (λ b. b.stopped) looks.books) ∙ c.requires.may.begin.going) looks c.plan_unsnap-planned.ensures.plans)

pub returns-in-Ok-clause-knows : goal.returns-in-Ok-clause-knows
returns-in-Ok-clause-knows g c = λ told.
    let s = g.S.Blocks.state c.args.blocks.now in
    let t = g.S.Blocks.state c.carry.new.blocks in
    let law = c.what_is_known_of_snapshots_is_so.ensures in
    let knows = c.requires.knows told in
    let geom : t.books.geom ≡ s.books.geom = (c.in-Ok.ensures.carries (Unsnap c.args.name.now) c.args.blocks.now refl c.plan_unsnap-planned.ensures.plans).runs.geom in
    subst (λ k. KnowsSnapshots k t.map (counts_in c.forget.new.self) (number_in c.forget.new.self)) (sym geom)
    (subst (λ cs. KnowsSnapshots s.books.geom t.map cs (number_in c.forget.new.self)) (sym c.forget.ensures.counts)
    (knows_gone g.S.Blocks.tells s c.args.name.now (counts_in c.args.known.now) c.args.gone.now c.requires.gone told (c.requires.may.stands told) law.named knows.kept law.each (counts_in c.count_out.new.self)
    (out g (goal.at.returns-in-Ok-clause-knows g c).After-shared told) (number_in c.count_out.new.self) (number_in c.forget.new.self) t.map
    (λ q. c.count_out.ensures.numbers q ∙ knows.named q) c.forget.ensures.here c.forget.ensures.others (subst IsGeometry c.geom.ensures c.lawful.ensures.limits)
    (c.plan_unsnap-planned.ensures.takes told c.carry.new.blocks (c.in-Ok.ensures.map told)) c.a_snapshot_goes.ensures c.a_snapshot_stays_with_its_blocks.ensures.marked c.a_snapshot_stays_with_its_blocks.ensures.blocks))

pub returns-in-Err-clause-knows : goal.returns-in-Err-clause-knows
returns-in-Err-clause-knows g c = λ told.
    let s = g.S.Blocks.state c.args.blocks.now in
    let t = g.S.Blocks.state c.carry.new.blocks in
    let law = c.what_is_known_of_snapshots_is_so.ensures in
    let knows = c.requires.knows told in
    let counts = counts_in c.args.known.now in
    let gone = c.args.gone.now in
    let stands = c.requires.may.stands told in
    let lower = out g (goal.at.returns-in-Err-clause-knows g c).After-shared told in
    let carried = c.in-Err.ensures.carries (Unsnap c.args.name.now) c.args.blocks.now refl c.plan_unsnap-planned.ensures.plans in
    let back = subst (λ xs. All (λ b. b < length (counts_in c.count_out.new.self)) xs → All (λ b. keepers (counts_in c.count_out.new.self) b < 65535) xs → IsOnce xs → CountsIn xs (counts_in c.count_out.new.self) (counts_in c.count_in.new.self))
    c.deref-in-Err.ensures.value c.count_in.ensures.counts
    (room_again g.S.Blocks.tells s c.args.name.now counts gone c.requires.gone told stands law.named knows.kept law.each (counts_in c.count_out.new.self) lower)
    (below_most g.S.Blocks.tells s c.args.name.now counts gone c.requires.gone told stands law.named knows.kept law.each (counts_in c.count_out.new.self) lower (subst IsGeometry c.geom.ensures c.lawful.ensures.limits))
    (goes_listed g.S.Blocks.tells s c.args.name.now counts gone c.requires.gone told stands law.named knows.kept law.each) in
    knows_same s t (counts_in c.count_in.new.self) (number_in c.count_in.new.self) carried.runs.geom (carried.unspent.map told) (record {
      kept = known_again s.books.geom s.map counts gone.kept.items (counts_in c.count_out.new.self) (counts_in c.count_in.new.self) knows.kept lower back;
      named = λ q. c.count_in.ensures.numbers q ∙ c.count_out.ensures.numbers q ∙ knows.named q;
    })
