-- Each name of the directory comes to the plan, and its directories to the list.
use Rattle.std.proofs.Common.{◌≡◌, ◌+◌, ◌-◌, ◌<◌, ◌∷◌, ◌++◌, ℕ, true, List, [], length, map, min, drop, slice_get, Some, refl, sym, ap, ◌∙◌, subst, append_assoc, append-nil, length-append, arith}
use Rattle.std.specs.Prelude.{◌^◌, reverse}
use Rattle.std.proofs.lemmas.Option.{slice_get_read}
use Rattle.base_types.specs.Layouts.{directory_blocks}
use Rattle.lang_tree.specs.declared.command.Cmd.TheVariants.{Stat}
use Rattle.lang_tree.specs.declared.command.Reply.TheVariants.{Stat as StatReply}
use Rattle.lang_tree.specs.Step.{stat}
use Rattle.lang_tree.specs.Tree.{Tree}
use Rattle.lang_tree.specs.Walk.{is_dir, thing_at}
use Rattle.engine_store.specs.StoreOf.{state_of}
use Rattle.fs_commands.specs.Opened.{blocks_in}
use Rattle.cmd_upgrade.specs.declared.plan.Entry.{Entry}
use Rattle.cmd_upgrade.specs.declared.plan.Plan.{Plan}
use Rattle.cmd_upgrade.specs.declared.refusal.UpgradeRefusal.{UpgradeRefusal}
use Rattle.cmd_upgrade.specs.Looked.{IsSeen, StopsFor}
use Rattle.cmd_upgrade.specs.Plans.{Adds, IsPlanOf, entry_of}
use Rattle.cmd_upgrade.proofs.Keeping.{stays_on}
use Rattle.cmd_upgrade.proofs.PathLoop.{passed_on, want_stops}
use Rattle.cmd_upgrade.proofs.Seen.{names_seen, seen_stat}
use Rattle.cmd_upgrade.proofs.Visiting.{GoesDown, dirs_added, dirs_of, last_of, visit_done, visits_more, visits_none}
use Rattle.cmd_upgrade.proofs.walk.visit.Goals as goal

pub loop-name-init : goal.loop-name-init
loop-name-init g c = record {
  upto = omega arith;
  raises = c.names_at.ensures.raises;
  count = omega (arith, ap (λ (p : Plan). length p.entries.items) c.count_names.ensures);
  keeps = c.names_at.ensures.keeps;
  stays = c.names_at.ensures.stays;
  visits = λ told first t looked. visits_none t c.args.dir.now c.names-names.result.now c.count_names.new.self;
  more = ([], ap (λ (p : Plan). p.entries.items) c.count_names.ensures ∙ sym (append-nil c.args.plan.now.entries.items));
}

pub loop-name-preserved : goal.loop-name-preserved
loop-name-preserved g c =
    let known = g.D.Disk.state in
    let old = state_of known (blocks_in c.args.served.now) in
    let mid = state_of known (blocks_in c.loop-name.served) in
    let names = c.names-names.result.now in
    let i = c.loop-name.name-index in
    let name = c.name-item.result in
    let before = c.loop-name.invariant in
    let within : i < length names = omega (arith, c.loop-name-test.true) in
    let e = entry_of c.in_ok-path.path c.in_ok-stat.stat in
    record {
      upto = omega (arith, within);
      raises = omega (arith, before.raises, c.stat_at.ensures.raises);
      count = omega (arith, before.count, ap (λ (es : List Entry). length es) c.in_ok-add.ensures.entry, length-append c.loop-name.plan.entries.items (e ∷ []));
      keeps = stays_on g.D.Disk.tells old mid (state_of known (blocks_in c.stat_at.new.served)) before.keeps c.stat_at.ensures.keeps;
      stays = λ told first t looked. c.stat_at.ensures.stays told first t (before.stays told first t looked);
      visits = λ told first t looked.
          let stands = looked.stands.stands in
          let sound = c.a_tree_that_stands_is_sound.ensures.sound stands.held.header.geom stands.map t stands.tree in
          visits_more c.args.layout t c.args.dir.now names i name (StatReply c.in_ok-stat.stat) c.count_names.new.self c.loop-name.plan c.add.new.self (before.visits told first t looked)
          (slice_get_read names (length names) i name refl within c.name-item.is)
          (ap (stat t) (sym c.in_ok-path.ensures.path) ∙ c.in_ok-stat.ensures.stat told first t (before.stays told first t looked))
          (subst (λ (p : List (List ℕ)). Adds c.args.layout t p (StatReply c.in_ok-stat.stat) c.loop-name.plan c.add.new.self) c.in_ok-path.ensures.path (c.in_ok-add.ensures.adds c.args.layout stands.held.header.geom.i t sound));
      more = (before.more.0 ++ e ∷ [], c.in_ok-add.ensures.entry ∙ ap (λ (es : List Entry). es ++ e ∷ []) before.more.1 ∙ append_assoc c.args.plan.now.entries.items before.more.0 (e ∷ []));
    }

pub add_dirs-requires : goal.add_dirs-requires
add_dirs-requires g c = omega (
  arith,
  c.len-before.ensures,
  c.count_names.new.self.entries.ok.0,
  ap (λ (p : Plan). length p.entries.items) c.count_names.ensures,
  ap (λ (es : List Entry). length es) c.loop-name.invariant.more.1,
  length-append c.args.plan.now.entries.items c.loop-name.invariant.more.0,
)

pub returns-clause-plan : goal.returns-clause-plan
returns-clause-plan g c = λ told first t looked h.
    let stands = looked.stands.stands in
    let n = first.blocks in
    let img = first.base in
    let law = c.a_walk_finds_all_paths.ensures in
    let names = c.names-names.result.now in
    let sound = c.a_tree_that_stands_is_sound.ensures.sound stands.held.header.geom stands.map t stands.tree in
    let down : GoesDown c.args.layout t = record {
      made = λ path k at. law.made n k img t path stands at;
      blocks = λ path k at. law.blocks c.args.layout n k img t path stands at;
      file = λ path k bytes at there. law.file n k img t path bytes stands at there;
      none = λ path k bytes at there. law.none c.args.layout n k img t path bytes stands at there;
    } in
    visit_done stands.held.header.geom.i t sound c.args.layout down c.args.todo.now.items c.add_dirs.new.todo.items c.args.dir.now names c.loop-name.name-index c.args.plan.now c.count_names.new.self c.loop-name.plan
    (c.names-names.ensures ∙ c.in_ok-list.ensures.names told first t looked) (omega (arith, c.loop-name-test.false)) c.loop-name.invariant.upto
    c.count_names.ensures (c.loop-name.invariant.visits told first t looked)
    (c.in_ok-add_dirs.ensures.dirs ∙ ap (λ (k : ℕ). c.args.todo.now.items ++ reverse (dirs_of (drop k c.loop-name.plan.entries.items))) (c.len-before.ensures ∙ c.count_names.new.self.entries.ok.0)) h

pub returns-clause-dirs : goal.returns-clause-dirs
returns-clause-dirs g c =
    dirs_added c.args.todo.now.items c.add_dirs.new.todo.items c.args.plan.now.entries.items c.loop-name.plan.entries.items c.loop-name.invariant.more.0 c.loop-name.invariant.more.1
    (c.in_ok-add_dirs.ensures.dirs
    ∙ ap (λ (k : ℕ). c.args.todo.now.items ++ reverse (dirs_of (drop k c.loop-name.plan.entries.items))) (c.len-before.ensures ∙ c.count_names.new.self.entries.ok.0 ∙ ap (λ (p : Plan). length p.entries.items) c.count_names.ensures))

pub returns-in_err-stat-clause-keeps : goal.returns-in_err-stat-clause-keeps
returns-in_err-stat-clause-keeps g c =
    let known = g.D.Disk.state in
    stays_on g.D.Disk.tells (state_of known (blocks_in c.args.served.now)) (state_of known (blocks_in c.loop-name.served)) (state_of known (blocks_in c.stat_at.new.served)) c.loop-name.invariant.keeps c.stat_at.ensures.keeps

pub returns-in_err-stat-clause-stays : goal.returns-in_err-stat-clause-stays
returns-in_err-stat-clause-stays g c = λ told first t looked. c.stat_at.ensures.stays told first t (c.loop-name.invariant.stays told first t looked)

pub returns-in_err-list-clause-stops : goal.returns-in_err-list-clause-stops
returns-in_err-list-clause-stops g c = λ told first t looked.
    let s = state_of g.D.Disk.state (blocks_in c.names_at.new.served) in
    let stands = looked.stands.stands in
    let sound = c.a_tree_that_stands_is_sound.ensures.sound stands.held.header.geom stands.map t stands.tree in
    passed_on c.from_residual.result c.in_err-list.field-0.0 (λ (why : UpgradeRefusal). IsPlanOf c.args.layout t (c.args.todo.now.items ++ c.args.dir.now ∷ []) c.args.plan.now → StopsFor s why) c.from_residual.ensures
    (λ h fault. c.in_err-list.ensures.stops told first t looked fault (names_seen c.a_walk_comes_to_each_path.ensures.walk stands.held.header.geom.i t sound c.args.dir.now (last_of (λ q. is_dir (thing_at t q) ≡ true) c.args.todo.now.items c.args.dir.now h.dirs)))

pub returns-in_err-stat-clause-stops : goal.returns-in_err-stat-clause-stops
returns-in_err-stat-clause-stops g c = λ told first t looked.
    let s = state_of g.D.Disk.state (blocks_in c.stat_at.new.served) in
    let stands = looked.stands.stands in
    let sound = c.a_tree_that_stands_is_sound.ensures.sound stands.held.header.geom stands.map t stands.tree in
    let names = c.names-names.result.now in
    let i = c.loop-name.name-index in
    let name = c.name-item.result in
    let within : i < length names = omega (arith, c.loop-name-test.true) in
    let child = c.a_walk_comes_to_each_path.ensures.names t.names c.args.dir.now i name
    (subst (λ (xs : List (List ℕ)). slice_get xs i ≡ Some name) (c.names-names.ensures ∙ c.in_ok-list.ensures.names told first t looked) (slice_get_read names (length names) i name refl within c.name-item.is)) in
    passed_on c.from_residual-in_err-stat.result c.in_err-stat.field-0.0 (λ (why : UpgradeRefusal). IsPlanOf c.args.layout t (c.args.todo.now.items ++ c.args.dir.now ∷ []) c.args.plan.now → StopsFor s why) c.from_residual-in_err-stat.ensures
    (λ h fault. c.in_err-stat.ensures.stops told first t (c.loop-name.invariant.stays told first t looked) fault
    (subst (λ (p : List (List ℕ)). IsSeen t (Stat p)) (sym c.in_ok-path.ensures.path) (seen_stat c.a_walk_comes_to_each_path.ensures.walk stands.held.header.geom.i t sound (c.args.dir.now ++ name ∷ []) child.0 child.1)))

pub returns-in_err-add-clause-stops : goal.returns-in_err-add-clause-stops
returns-in_err-add-clause-stops g c = λ told first t looked.
    let s = state_of g.D.Disk.state (blocks_in c.stat_at.new.served) in
    passed_on c.from_residual-in_err-add.result c.in_err-add.field-0.0 (λ (why : UpgradeRefusal). IsPlanOf c.args.layout t (c.args.todo.now.items ++ c.args.dir.now ∷ []) c.args.plan.now → StopsFor s why) c.from_residual-in_err-add.ensures
    (λ h. want_stops c.in_err-add.field-0.0 c.in_err-add.ensures.memory)

-- so many looks were made
pub returns-in_err-list-clause-raises : goal.returns-in_err-list-clause-raises
returns-in_err-list-clause-raises g c = λ told first t looked. omega (arith, c.names_at.ensures.raises)

pub returns-in_err-path-clause-raises : goal.returns-in_err-path-clause-raises
returns-in_err-path-clause-raises g c = λ told first t looked.
    omega (arith, c.loop-name.invariant.raises, c.loop-name.invariant.upto, ap (λ (xs : List (List ℕ)). length xs) (c.names-names.ensures ∙ c.in_ok-list.ensures.names told first t looked))

pub returns-in_err-stat-clause-raises : goal.returns-in_err-stat-clause-raises
returns-in_err-stat-clause-raises g c = λ told first t looked.
    omega (arith, c.loop-name.invariant.raises, c.stat_at.ensures.raises, c.loop-name-test.true, ap (λ (xs : List (List ℕ)). length xs) (c.names-names.ensures ∙ c.in_ok-list.ensures.names told first t looked))

pub returns-in_err-add-clause-raises : goal.returns-in_err-add-clause-raises
returns-in_err-add-clause-raises g c = λ told first t looked.
    omega (arith, c.loop-name.invariant.raises, c.stat_at.ensures.raises, c.loop-name-test.true, ap (λ (xs : List (List ℕ)). length xs) (c.names-names.ensures ∙ c.in_ok-list.ensures.names told first t looked))

pub returns-in_err-add_dirs-clause-raises : goal.returns-in_err-add_dirs-clause-raises
returns-in_err-add_dirs-clause-raises g c = λ told first t looked.
    omega (arith, c.loop-name.invariant.raises, c.loop-name.invariant.upto, ap (λ (xs : List (List ℕ)). length xs) (c.names-names.ensures ∙ c.in_ok-list.ensures.names told first t looked))

pub returns-clause-raises : goal.returns-clause-raises
returns-clause-raises g c = λ told first t looked.
    omega (arith, c.loop-name.invariant.raises, c.loop-name.invariant.upto, ap (λ (xs : List (List ℕ)). length xs) (c.names-names.ensures ∙ c.in_ok-list.ensures.names told first t looked))

pub returns-clause-grows : goal.returns-clause-grows
returns-clause-grows g c = λ told first t looked.
    omega (arith, c.loop-name.invariant.count, c.loop-name.invariant.upto, c.loop-name-test.false, ap (λ (xs : List (List ℕ)). length xs) (c.names-names.ensures ∙ c.in_ok-list.ensures.names told first t looked))

pub returns-in_err-add-clause-keeps : goal.returns-in_err-add-clause-keeps
returns-in_err-add-clause-keeps g c =
    let known = g.D.Disk.state in
    stays_on g.D.Disk.tells (state_of known (blocks_in c.args.served.now)) (state_of known (blocks_in c.loop-name.served)) (state_of known (blocks_in c.stat_at.new.served)) c.loop-name.invariant.keeps c.stat_at.ensures.keeps

pub returns-in_err-add-clause-stays : goal.returns-in_err-add-clause-stays
returns-in_err-add-clause-stays g c = λ told first t looked. c.stat_at.ensures.stays told first t (c.loop-name.invariant.stays told first t looked)
