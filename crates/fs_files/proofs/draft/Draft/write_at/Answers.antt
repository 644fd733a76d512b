use Rattle.std.proofs.Common.{◌≡◌, inl, ◌+◌, ◌<◌, ◌==◌, Bool, true, false, IsTrue, if◌then◌else◌, length, Some, refl, sym, ap, subst, ◌∙◌, rules, arith}
use Rattle.std.proofs.lemmas.Grind.{common_steps}
use Rattle.std.proofs.lemmas.Bool.{eqb-true}
use Rattle.std.proofs.lemmas.Result.{on_ok_weaker}
use Rattle.lang_tree.specs.Step.{written}
use Rattle.layout_geometry.specs.Geometry.{IsGeometry}
use Rattle.engine_blocks.specs.State.{Bookkeeping, State}
use Rattle.crash_stands.specs.Files.{used_node}
use Rattle.fs_files.specs.Calls.{with_bytes}
use Rattle.fs_files.specs.declared.refusal.FileRefusal.TheVariants as refusal
use Rattle.fs_files.specs.Changing.{WritesAt}
use Rattle.fs_files.specs.Content.{fails_reading}
use Rattle.fs_files.specs.Drafts.{drafted}
use Rattle.fs_files.specs.Nodes.{node_of_open, IsOpen}
use Rattle.fs_files.specs.Effects.{LooksOnly}
use Rattle.fs_files.specs.Places.{looks_more}
use Rattle.fs_files.proofs.frames.Carry.{draft_looks}
use Rattle.fs_files.proofs.calling.Nodes.{has_table, none_found}
use Rattle.fs_files.proofs.calling.WriteAt.{once_then, slots_then, refused_then, few_then, file_then, grows_then, has_then, among_then, bytes_then, some_bytes}
use Rattle.fs_files.proofs.drafts.Refused.{err_maps, same_error}
use Rattle.fs_files.proofs.calling.WriteLooks.{looked, looks_then}
use Rattle.fs_files.proofs.draft.Draft.write_at.Goals as goal
use Rattle.fs_files.proofs.draft.Draft.write_at.Goals.{In-Some, After-write_loaded}

-- the node that was read
module _ (g : _) (c : In-Some g) where
  abbrev s : State
  s = g.S.Blocks.state c.args.blocks.now

  abbrev t : State
  t = g.S.Blocks.state c.load.new.blocks

  opened : IsOpen s.books.geom c.in-Some.node
  opened = search (rules, c.in_ok-node.ensures.open)

  used : IsTrue g.S.Blocks.tells → Some (node_of_open s.books.geom.layout c.in-Some.node) ≡ used_node s.books.geom (drafted c.args.self.now s.map) c.args.number
  used told =
      let there = c.in_ok-node.ensures.node told (has_table s c.args.self.now c.args.number (subst IsGeometry c.geom-geom.ensures c.lawful.ensures.limits) c.requires.look.from c.requires.look.upto (c.requires.look.may.sound told)) in
      search (rules, there)

-- the geometry stays
geom_same : (g : _) (c : After-write_loaded g) → (g.S.Blocks.state c.write_loaded.new.blocks).books.geom ≡ (g.S.Blocks.state c.args.blocks.now).books.geom
geom_same g c = c.write_loaded.ensures.settles.pipeline.geom ∙ ap (λ (k : Bookkeeping). k.geom) c.in_ok-node.ensures.looks.books

pub write_loaded-requires-clause-some : goal.write_loaded-requires-clause-some
write_loaded-requires-clause-some g c = inl (some_bytes (length c.args.bytes.now) (sym c.is_empty.ensures ∙ c.if-is_empty.false))

pub write_loaded-requires-clause-once : goal.write_loaded-requires-clause-once
write_loaded-requires-clause-once g c = λ told more.
    let b = (goal.at.write_loaded-requires-clause-once g c).In-Some in
    once_then g.S.Blocks.tells (s g b) (t g b) c.args.number c.args.self.now c.in-Some.node c.in_ok-node.ensures.looks told (c.requires.look.may.sound told) (opened g b) (used g b told) c.a_list_has_its_runs.ensures.places c.args.offset (c.args.offset + length c.args.bytes.now) (omega (arith, some_bytes (length c.args.bytes.now) (sym c.is_empty.ensures ∙ c.if-is_empty.false))) (c.requires.grows.once told) more

pub write_loaded-requires-clause-slots : goal.write_loaded-requires-clause-slots
write_loaded-requires-clause-slots g c = λ told dir.
    let b = (goal.at.write_loaded-requires-clause-slots g c).In-Some in
    slots_then g.S.Blocks.tells (s g b) (t g b) c.args.number c.args.self.now c.in-Some.node c.in_ok-node.ensures.looks told (c.requires.look.may.sound told) (opened g b) (used g b told) c.a_list_has_its_runs.ensures.places (c.args.offset + length c.args.bytes.now) (c.requires.slots told) dir

pub returns-then-is_empty : goal.returns-then-is_empty
returns-then-is_empty g c =
    let s = g.S.Blocks.state c.args.blocks.now in
    let d = c.args.self.now in
    let ys = c.args.bytes.now in
    let none : (length ys == 0) ≡ true = sym c.is_empty.ensures ∙ c.if-is_empty.true in
    let still : LooksOnly g.S.Blocks.tells false s s = first_of (search rules, grind (arith, common_steps)) in
    record {
      file = λ told x at. record { own = at ∙ ap (λ (q : Bool). Some (with_bytes x (if q then x.bytes else written c.args.offset ys x.bytes))) {x = true} {y = length ys == 0} (sym none); others = λ l other. refl };
      nothing = λ zero. refl;
      places = λ told x at some. absurd (omega (arith, some, eqb-true (length ys) 0 none));
      draft = c.requires.look.may;
      kept = refl;
      grows = λ told x at some. absurd (omega (arith, some, eqb-true (length ys) 0 none));
      among = λ told x at some. absurd (omega (arith, some, eqb-true (length ys) 0 none));
      changes = λ told some. absurd (omega (arith, some, eqb-true (length ys) 0 none));
      refused = λ told. tt;
      settles = looked g.S.Blocks.state g.S.Blocks.tells c.calls_compose.ensures.advances c.calls_compose.ensures.rests false c.args.blocks.now c.args.blocks.now c.requires.look.going still;
      looks = λ told x at few. still;
    }

pub returns : goal.returns
returns g c =
    let b = (goal.at.returns g c).In-Some in
    let u = g.S.Blocks.state c.write_loaded.new.blocks in
    let geom = geom_same g (goal.at.returns g c).After-write_loaded in
    let given : 0 < length c.args.bytes.now = some_bytes (length c.args.bytes.now) (sym c.is_empty.ensures ∙ c.if-is_empty.false) in
    record {
      file = λ told.
          on_ok_weaker c.write_loaded.result (λ w x at. bytes_then _ _ c.args.number c.args.offset c.args.bytes.now x given
          (file_then (s g b) (t g b) u c.args.number c.args.offset c.args.bytes.now c.args.self.now c.write_loaded.new.draft geom (c.in_ok-node.ensures.looks.map told) (sym (c.write_loaded.ensures.settles.map told)) w x at))
          (c.write_loaded.ensures.file told);
      nothing = λ zero. absurd (omega (arith, zero, given));
      places = λ told.
          on_ok_weaker c.write_loaded.result (λ w x at some. has_then (s g b) (t g b) u c.args.number c.args.offset c.args.bytes.now c.args.self.now c.write_loaded.new.draft geom (c.in_ok-node.ensures.looks.map told) (sym (c.write_loaded.ensures.settles.map told)) w x at)
          (c.write_loaded.ensures.file told);
      draft = c.write_loaded.ensures.draft;
      kept = c.write_loaded.ensures.kept;
      grows = λ told.
          on_ok_weaker c.write_loaded.result (λ w x at some. grows_then (s g b) (t g b) u c.args.number c.args.offset c.args.bytes.now c.args.self.now c.write_loaded.new.draft geom (c.in_ok-node.ensures.looks.map told) (sym (c.write_loaded.ensures.settles.map told)) w x at)
          (c.write_loaded.ensures.file told);
      among = λ told.
          on_ok_weaker c.write_loaded.result (λ w x at some. among_then (s g b) (t g b) u c.args.number c.args.offset c.args.bytes.now c.args.self.now c.write_loaded.new.draft geom (c.in_ok-node.ensures.looks.map told) (sym (c.write_loaded.ensures.settles.map told)) w x at)
          (c.write_loaded.ensures.file told);
      changes = λ told.
          let there = c.requires.used told in
          on_ok_weaker c.write_loaded.result (λ w some. (grows_then (s g b) (t g b) u c.args.number c.args.offset c.args.bytes.now c.args.self.now c.write_loaded.new.draft geom (c.in_ok-node.ensures.looks.map told) (sym (c.write_loaded.ensures.settles.map told)) w there.0 there.1).changes)
          (c.write_loaded.ensures.file told);
      refused = λ told.
          err_maps c.write_loaded.result (λ why h x at. refused_then g.S.Blocks.tells (s g b) (t g b) c.args.number c.args.self.now c.in-Some.node c.in_ok-node.ensures.looks told (c.requires.look.may.sound told) (opened g b) (used g b told) c.a_list_has_its_runs.ensures.places
          c.args.offset (c.args.offset + length c.args.bytes.now) x (g.S.Blocks.state c.write_loaded.new.blocks).books why at h) c.write_loaded.ensures.refused;
      settles = looks_then g.S.Blocks.state g.S.Blocks.tells c.calls_compose.ensures.advances c.calls_compose.ensures.rests _ _ c.args.blocks.now c.load.new.blocks c.write_loaded.new.blocks c.requires.look.going c.in_ok-node.ensures.looks c.write_loaded.ensures.settles;
      looks = λ told x at few.
          looks_more g.S.Blocks.tells (fails_reading c.write_loaded.result) (s g b) (t g b) (g.S.Blocks.state c.write_loaded.new.blocks) c.in_ok-node.ensures.looks
          (c.write_loaded.ensures.looks (few_then g.S.Blocks.tells (s g b) (t g b) c.args.number c.args.self.now c.in-Some.node c.in_ok-node.ensures.looks told (c.requires.look.may.sound told) (opened g b) (used g b told) c.a_list_has_its_runs.ensures.places c.args.offset (c.args.offset + length c.args.bytes.now) x at few));
    }

pub returns-in_default : goal.returns-in_default
returns-in_default g c =
    let s = g.S.Blocks.state c.args.blocks.now in
    let t = g.S.Blocks.state c.load.new.blocks in
    let d = c.args.self.now in
    let geom = subst IsGeometry c.geom-geom.ensures c.lawful.ensures.limits in
    let node = λ (told : IsTrue g.S.Blocks.tells). c.in_ok-node.ensures.node told (has_table s d c.args.number geom c.requires.look.from c.requires.look.upto (c.requires.look.may.sound told)) in
    record {
      file = λ told x at. none_found s d c.args.number x c.in_ok-node.field-0 c.in_default.is (node told) at;
      nothing = λ zero. refl;
      places = λ told x at some. none_found s d c.args.number x c.in_ok-node.field-0 c.in_default.is (node told) at;
      draft = draft_looks g.S.Blocks.tells false s t d c.in_ok-node.ensures.looks c.requires.look.may;
      kept = refl;
      grows = λ told x at some. none_found s d c.args.number x c.in_ok-node.field-0 c.in_default.is (node told) at;
      among = λ told x at some. none_found s d c.args.number x c.in_ok-node.field-0 c.in_default.is (node told) at;
      changes = λ told some. let there = c.requires.used told in none_found s d c.args.number there.0 c.in_ok-node.field-0 c.in_default.is (node told) there.1;
      refused = λ told. tt;
      settles = looked g.S.Blocks.state g.S.Blocks.tells c.calls_compose.ensures.advances c.calls_compose.ensures.rests false c.args.blocks.now c.load.new.blocks c.requires.look.going c.in_ok-node.ensures.looks;
      looks = λ told x at few. c.in_ok-node.ensures.looks;
    }

pub returns-in_err-node : goal.returns-in_err-node
returns-in_err-node g c =
    let s = g.S.Blocks.state c.args.blocks.now in
    let t = g.S.Blocks.state c.load.new.blocks in
    same_error c.from_residual.result refusal.ReadFault (λ r. WritesAt g.S.Blocks.tells c.args.number c.args.offset c.args.bytes.now r s t c.args.self.now c.args.self.now) c.from_residual.ensures.1
    (search (rules, looked g.S.Blocks.state g.S.Blocks.tells c.calls_compose.ensures.advances c.calls_compose.ensures.rests true c.args.blocks.now c.load.new.blocks c.requires.look.going c.in_err-node.ensures.looks, c.in_err-node.ensures.looks))
