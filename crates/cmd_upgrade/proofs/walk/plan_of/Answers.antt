-- A walk from the root on: each directory once, and then there is none left.
use Rattle.std.proofs.Common.{◌≡◌, ◌∷◌, ◌++◌, ◌==◌, ℕ, List, [], true≢false, length, refl, sym, ap, ◌∙◌, subst, length-append, arith, eqb-true, rules, vec_len}
use Rattle.engine_blocks.specs.State.{State}
use Rattle.engine_store.specs.StoreOf.{state_of}
use Rattle.fs_commands.specs.Opened.{blocks_in}
use Rattle.cmd_upgrade.specs.declared.plan.Entry.{Entry}
use Rattle.cmd_upgrade.specs.Looked.{StopsFor}
use Rattle.cmd_upgrade.specs.Plans.{IsPlanOf, dirs_among}
use Rattle.cmd_upgrade.proofs.Directories.{few_dirs}
use Rattle.cmd_upgrade.proofs.Keeping.{stays_here, stays_on}
use Rattle.cmd_upgrade.proofs.PathLoop.{passed_on}
use Rattle.cmd_upgrade.proofs.Sessions.{looked_tree}
use Rattle.cmd_upgrade.proofs.Visiting.{few_entries, next_fits}
use Rattle.cmd_upgrade.proofs.Walking.{no_length}
use Rattle.cmd_upgrade.proofs.walk.plan_of.Goals as goal

pub loop-init : goal.loop-init
loop-init g c =
    let empty : c.new-todo.result.items ≡ [] = search rules in
    let root : c.push.new.self.items ≡ [] ∷ [] = c.in_ok-push.ensures.items ∙ ap (λ (ps : List (List (List ℕ))). ps ++ c.root.result ∷ []) empty ∙ ap (λ (p : List (List ℕ)). p ∷ []) c.root.ensures in
    record {
      keeps = stays_here g.D.Disk.tells (state_of g.D.Disk.state (blocks_in c.args.served.now));
      stays = λ told first t looked. looked;
      plan = λ told first t looked.
          let stands = looked.stands.stands in
          subst (λ (ps : List (List (List ℕ))). IsPlanOf c.args.layout t ps c.new-plan.result) (sym root)
          (c.new-plan.ensures.plan c.args.layout stands.held.header.geom.i t (c.a_tree_that_stands_is_sound.ensures.sound stands.held.header.geom stands.map t stands.tree));
      upto = omega arith;
      raises = λ told first t looked. omega arith;
      dirs = omega (arith, ap (λ (ps : List (List (List ℕ))). length ps) root, ap dirs_among c.new-plan.ensures.none);
    }

pub loop-preserved : goal.loop-preserved
loop-preserved g c =
    let known = g.D.Disk.state in
    let before = c.loop.invariant in
    record {
      keeps = stays_on g.D.Disk.tells (state_of known (blocks_in c.args.served.now)) (state_of known (blocks_in c.loop.served)) (state_of known (blocks_in c.visit.new.served)) before.keeps c.visit.ensures.keeps;
      stays = λ told first t looked. c.visit.ensures.stays told first t (before.stays told first t looked);
      plan = λ told first t looked.
          c.in_ok-visit.ensures.plan told first t (before.stays told first t looked)
          (subst (λ (ps : List (List (List ℕ))). IsPlanOf c.args.layout t ps c.loop.plan) c.in-Some.ensures.items (before.plan told first t looked));
      upto = omega (arith, c.loop-test.true);
      raises = λ told first t looked.
          let now = before.stays told first t looked in
          omega (arith, before.raises told first t looked, c.visit.ensures.raises told first t now, c.in_ok-visit.ensures.grows told first t now);
      dirs = omega (arith, before.dirs, c.in_ok-visit.ensures.dirs, ap (λ (ps : List (List (List ℕ))). length ps) c.in-Some.ensures.items, length-append c.pop.new.self.items (c.in-Some.dir ∷ []));
    }

pub returns-in_default-clause-plan : goal.returns-in_default-clause-plan
returns-in_default-clause-plan g c = λ told first t looked.
    subst (λ (ps : List (List (List ℕ))). IsPlanOf c.args.layout t ps c.loop.plan) (no_length c.loop.todo.items (sym c.loop.todo.ok.0 ∙ c.in_default.ensures.cases.0)) (c.loop.invariant.plan told first t looked)

pub returns-in_err-visit-clause-keeps : goal.returns-in_err-visit-clause-keeps
returns-in_err-visit-clause-keeps g c =
    let known = g.D.Disk.state in
    stays_on g.D.Disk.tells (state_of known (blocks_in c.args.served.now)) (state_of known (blocks_in c.loop.served)) (state_of known (blocks_in c.visit.new.served)) c.loop.invariant.keeps c.visit.ensures.keeps

pub returns-in_err-visit-clause-stays : goal.returns-in_err-visit-clause-stays
returns-in_err-visit-clause-stays g c = λ told first t looked. c.visit.ensures.stays told first t (c.loop.invariant.stays told first t looked)

pub returns-in_err-visit-clause-stops : goal.returns-in_err-visit-clause-stops
returns-in_err-visit-clause-stops g c = λ told first t looked.
    passed_on c.from_residual-in_err-visit.result c.in_err-visit.field-0.0 (StopsFor (state_of g.D.Disk.state (blocks_in c.visit.new.served))) c.from_residual-in_err-visit.ensures
    (c.in_err-visit.ensures.stops told first t (c.loop.invariant.stays told first t looked)
    (subst (λ (ps : List (List (List ℕ))). IsPlanOf c.args.layout t ps c.loop.plan) c.in-Some.ensures.items (c.loop.invariant.plan told first t looked)))

-- So many looks were made.

pub returns-in_default-clause-raises : goal.returns-in_default-clause-raises
returns-in_default-clause-raises g c = λ told first t looked.
    let known = g.D.Disk.state in
    let s = state_of known (blocks_in c.args.served.now) in
    let most : c.i-most.result ≡ s.books.geom.i = c.i-most.ensures ∙ ap (λ g. g.i) c.geom.ensures ∙ ap (λ b. (state_of known b).books.geom.i) c.blocks-2.ensures in
    omega (arith, most, c.loop.invariant.raises told first t looked, c.loop-test.true, few_entries c.args.layout t c.loop.todo.items c.loop.plan (c.loop.invariant.plan told first t looked))

pub returns-in_err-visit-clause-raises : goal.returns-in_err-visit-clause-raises
returns-in_err-visit-clause-raises g c = λ told first t looked.
    let known = g.D.Disk.state in
    let s = state_of known (blocks_in c.args.served.now) in
    let most : c.i-most.result ≡ s.books.geom.i = c.i-most.ensures ∙ ap (λ g. g.i) c.geom.ensures ∙ ap (λ b. (state_of known b).books.geom.i) c.blocks-2.ensures in
    let stands = looked.stands.stands in
    let now = c.loop.invariant.stays told first t looked in
    let plan = subst (λ (ps : List (List (List ℕ))). IsPlanOf c.args.layout t ps c.loop.plan) c.in-Some.ensures.items (c.loop.invariant.plan told first t looked) in
    omega (
      arith,
      most,
      c.loop.invariant.raises told first t looked,
      c.visit.ensures.raises told first t now,
      c.loop-test.true,
      next_fits c.args.layout t c.pop.new.self.items c.in-Some.dir c.loop.plan (λ k at. c.a_walk_finds_all_paths.ensures.made first.blocks k first.base t c.in-Some.dir stands at) plan,
    )

pub returns-then-not-is_empty-clause-raises : goal.returns-then-not-is_empty-clause-raises
returns-then-not-is_empty-clause-raises g c = λ told first t looked.
    let known = g.D.Disk.state in
    let s = state_of known (blocks_in c.args.served.now) in
    let most : c.i-most.result ≡ s.books.geom.i = c.i-most.ensures ∙ ap (λ g. g.i) c.geom.ensures ∙ ap (λ b. (state_of known b).books.geom.i) c.blocks-2.ensures in
    omega (arith, most, c.loop.invariant.raises told first t looked, c.loop-test.false, few_entries c.args.layout t c.loop.todo.items c.loop.plan (c.loop.invariant.plan told first t looked), c.loop.invariant.upto)

pub returns-clause-raises : goal.returns-clause-raises
returns-clause-raises g c = λ told first t looked.
    let known = g.D.Disk.state in
    let s = state_of known (blocks_in c.args.served.now) in
    let most : c.i-most.result ≡ s.books.geom.i = c.i-most.ensures ∙ ap (λ g. g.i) c.geom.ensures ∙ ap (λ b. (state_of known b).books.geom.i) c.blocks-2.ensures in
    omega (arith, most, c.loop.invariant.raises told first t looked, c.loop-test.false, few_entries c.args.layout t c.loop.todo.items c.loop.plan (c.loop.invariant.plan told first t looked), c.loop.invariant.upto)

pub returns-in_err-push-clause-raises : goal.returns-in_err-push-clause-raises
returns-in_err-push-clause-raises g c = λ told first t looked. omega arith

pub returns-then-not-is_empty-clause-stops : goal.returns-then-not-is_empty-clause-stops
returns-then-not-is_empty-clause-stops g c = λ told first t looked fault.
    let known = g.D.Disk.state in
    let s = state_of known (blocks_in c.args.served.now) in
    let sound = c.a_tree_that_stands_is_sound.ensures.sound s.books.geom s.map t (looked_tree first t s looked) in
    let few = few_dirs s.books.geom.i t sound c.each_path_is_made_once.ensures.once c.args.layout c.loop.todo.items c.loop.plan (c.loop.invariant.plan told first t looked) in
    let most : c.i-most.result ≡ s.books.geom.i = c.i-most.ensures ∙ ap (λ g. g.i) c.geom.ensures ∙ ap (λ b. (state_of known b).books.geom.i) c.blocks-2.ensures in
    let some : vec_len c.loop.todo ≡ 0 → ⊥ = λ none. true≢false (sym (c.is_empty.ensures ∙ ap (λ n. n == 0) none) ∙ c.if-not-is_empty.true) in
    absurd (omega (arith, few, most, c.loop.invariant.dirs, c.loop-test.false, some, c.loop.todo.ok.0))

pub returns-clause-plan : goal.returns-clause-plan
returns-clause-plan g c = λ told first t looked.
    subst (λ (ps : List (List (List ℕ))). IsPlanOf c.args.layout t ps c.loop.plan) (no_length c.loop.todo.items (sym c.loop.todo.ok.0 ∙ eqb-true (vec_len c.loop.todo) 0 (sym c.is_empty.ensures ∙ c.if-not-is_empty.false))) (c.loop.invariant.plan told first t looked)
