use Rattle.std.proofs.Common.{◌≡◌, inr, ◌+◌, ◌<◌, true, false, IsTrue, [], length, max, min, option_map, Some, refl, sym, ap, subst, ◌∙◌, arith, rules}
use Rattle.std.specs.Prelude.{IfSome}
use Rattle.std.proofs.lemmas.Result.{on_ok_weaker}
use Rattle.layout_geometry.specs.Geometry.{IsGeometry}
use Rattle.engine_blocks.specs.State.{Bookkeeping, State, reusable_blocks}
use Rattle.crash_stands.specs.Files.{FileNode, used_node}
use Rattle.fs_files.specs.declared.refusal.FileRefusal.TheVariants as refusal
use Rattle.fs_files.specs.Calls.{files_in}
use Rattle.fs_files.specs.Changing.{ResizesFile}
use Rattle.fs_files.specs.Content.{fails_reading}
use Rattle.fs_files.specs.Effects.{LooksAndSettles}
use Rattle.fs_files.specs.Drafts.{drafted}
use Rattle.fs_files.specs.Growing.{taken_by}
use Rattle.fs_files.specs.Nodes.{AreWholeSlots, IsOpen, node_of_open}
use Rattle.fs_files.specs.Shared.{is_kept}
use Rattle.fs_files.specs.Places.{looks_more}
use Rattle.fs_files.proofs.frames.Carry.{draft_looks}
use Rattle.fs_files.proofs.calling.Nodes.{has_table, none_found}
use Rattle.fs_files.proofs.calling.Resized.{IsRead, read_at, read_size, since_read, same_file, kept_places, cut_read, ends_then, same_resizes, cut_resizes, longer_few, longer_file, longer_places, longer_refused, longer_resizes}
use Rattle.fs_files.proofs.calling.WriteAt.{among_then, few_then, file_then, grows_then, has_then, once_then, refused_then, slots_then}
use Rattle.fs_files.proofs.drafts.Refused.{ok_both, err_maps, same_error}
use Rattle.fs_files.proofs.calling.WriteLooks.{looked, looks_then, settles_none}
use Rattle.fs_files.proofs.draft.Draft.resize.Goals as goal
use Rattle.fs_files.proofs.draft.Draft.resize.Goals.{In-Some}

-- the node that was read, and its file
module _ (g : _) (c : goal.In-Some g) where
  abbrev s : State
  s = g.S.Blocks.state c.args.blocks.now

  abbrev t : State
  t = g.S.Blocks.state c.load.new.blocks

  fits : IsOpen s.books.geom c.in-Some.node
  fits = subst (λ f. IfSome f (IsOpen s.books.geom)) c.in-Some.is c.in_ok-node.ensures.open

  is : IsTrue g.S.Blocks.tells → Some (node_of_open s.books.geom.layout c.in-Some.node) ≡ used_node s.books.geom (drafted c.args.self.now s.map) c.args.number
  is known = ap (option_map (node_of_open s.books.geom.layout)) (sym c.in-Some.is)
      ∙ c.in_ok-node.ensures.node known (has_table s c.args.self.now c.args.number (subst IsGeometry c.geom.ensures c.lawful.ensures.limits) c.requires.look.from c.requires.look.upto (c.requires.look.may.sound known))

  read : (x : FileNode) → IsTrue g.S.Blocks.tells → files_in s c.args.self.now c.args.number ≡ Some x → IsRead g.S.Blocks.tells s t c.args.number c.in-Some.node x c.args.self.now
  read x known at = record {
    known = known;
    looks = c.in_ok-node.ensures.looks;
    draft = c.requires.look.may;
    fits = fits;
    is = is known;
    at = at;
    places = c.a_list_has_its_runs.ensures.places;
  }

pub write_loaded-requires-clause-some : goal.write_loaded-requires-clause-some
write_loaded-requires-clause-some g c = inr (omega (arith, c.if-size-node.false, c.if-size-node-2.false))

pub write_loaded-requires-clause-size : goal.write_loaded-requires-clause-size
write_loaded-requires-clause-size g c = omega (arith, c.requires.grows.size)

pub write_loaded-requires-clause-once : goal.write_loaded-requires-clause-once
write_loaded-requires-clause-once g c = λ known more.
    let b = (goal.at.write_loaded-requires-clause-once g c).In-Some in
    once_then g.S.Blocks.tells (s g b) (t g b) c.args.number c.args.self.now c.in-Some.node c.in_ok-node.ensures.looks known (c.requires.look.may.sound known) (fits g b) (is g b known) c.a_list_has_its_runs.ensures.places c.args.size c.args.size (omega (arith, c.if-size-node.false, c.if-size-node-2.false)) (c.requires.grows.once known)
    (subst (λ hi. 0 < taken_by (is_kept c.args.self.now.kept) (min c.args.size c.in-Some.node.size) hi c.in-Some.node.places) {x = c.args.size + 0} {y = c.args.size} (omega arith) more)

pub write_loaded-requires-clause-slots : goal.write_loaded-requires-clause-slots
write_loaded-requires-clause-slots g c = λ known dir.
    let b = (goal.at.write_loaded-requires-clause-slots g c).In-Some in
    let more : c.in-Some.node.size < c.args.size = omega (arith, c.if-size-node.false, c.if-size-node-2.false) in
    subst (λ hi. AreWholeSlots (t g b).books.geom.layout (max c.in-Some.node.size hi)) {x = c.args.size} {y = c.args.size + 0} (omega arith)
    (slots_then g.S.Blocks.tells (s g b) (t g b) c.args.number c.args.self.now c.in-Some.node c.in_ok-node.ensures.looks known (c.requires.look.may.sound known) (fits g b) (is g b known) c.a_list_has_its_runs.ensures.places c.args.size
    (λ x at directory. subst (λ n. AreWholeSlots (s g b).books.geom.layout n) {x = c.args.size} {y = max (length x.bytes) c.args.size} (omega (arith, more, read_size g.S.Blocks.tells (s g b) (t g b) c.args.number c.args.size c.in-Some.node x c.args.self.now (read g b x known at))) (c.requires.slots known x at directory).whole) dir)

pub cut-requires-clause-slots : goal.cut-requires-clause-slots
cut-requires-clause-slots g c = λ told.
    let b = (goal.at.cut-requires-clause-slots g c).In-Some in
    ends_then g.S.Blocks.tells (s g b) (t g b) c.args.number c.args.size c.args.self.now c.in_ok-node.ensures.looks told (c.requires.slots told)

pub returns : goal.returns
returns g c =
    let b = (goal.at.returns g c).In-Some in
    let u = g.S.Blocks.state c.write_loaded.new.blocks in
    let d = c.args.self.now in
    let more : c.in-Some.node.size < c.args.size = omega (arith, c.if-size-node.false, c.if-size-node-2.false) in
    let geom : u.books.geom ≡ (s g b).books.geom = c.write_loaded.ensures.settles.pipeline.geom ∙ ap (λ (k : Bookkeeping). k.geom) c.in_ok-node.ensures.looks.books in
    record {
      file = λ known.
          on_ok_weaker c.write_loaded.result (λ w x at. longer_file g.S.Blocks.tells (s g b) (t g b) c.args.number c.args.size c.in-Some.node x d (read g b x known at) more _ _
          (file_then (s g b) (t g b) u c.args.number c.args.size [] d c.write_loaded.new.draft geom (c.in_ok-node.ensures.looks.map known) (sym (c.write_loaded.ensures.settles.map known)) w x at)) (c.write_loaded.ensures.file known);
      cut = λ known. on_ok_weaker c.write_loaded.result (λ w x at short. absurd (omega (arith, short, more, read_size g.S.Blocks.tells (s g b) (t g b) c.args.number c.args.size c.in-Some.node x d (read g b x known at)))) (c.write_loaded.ensures.file known);
      places = λ known.
          on_ok_weaker c.write_loaded.result (λ w x at less. longer_places g.S.Blocks.tells (s g b) (t g b) c.args.number c.args.size c.in-Some.node x d (read g b x known at) more u.books _
          (has_then (s g b) (t g b) u c.args.number c.args.size [] d c.write_loaded.new.draft geom (c.in_ok-node.ensures.looks.map known) (sym (c.write_loaded.ensures.settles.map known)) w x at)) (c.write_loaded.ensures.file known);
      draft = c.write_loaded.ensures.draft;
      kept = c.write_loaded.ensures.kept;
      resizes = λ known.
          on_ok_weaker c.write_loaded.result (λ w x at. longer_resizes g.S.Blocks.tells (s g b) (t g b) c.args.number c.args.size c.in-Some.node x d (read g b x known at) more u.books (s g b).books.geom c.write_loaded.new.draft _ geom
          (grows_then (s g b) (t g b) u c.args.number c.args.size [] d c.write_loaded.new.draft geom (c.in_ok-node.ensures.looks.map known) (sym (c.write_loaded.ensures.settles.map known)) w x at)
          (among_then (s g b) (t g b) u c.args.number c.args.size [] d c.write_loaded.new.draft geom (c.in_ok-node.ensures.looks.map known) (sym (c.write_loaded.ensures.settles.map known)) w x at)) (c.write_loaded.ensures.file known);
      refused = λ known.
          err_maps c.write_loaded.result (λ why h x at less. longer_refused g.S.Blocks.tells (s g b) (t g b) c.args.number c.args.size c.in-Some.node x d (read g b x known at) more (s g b).books u.books why
          (refused_then g.S.Blocks.tells (s g b) (t g b) c.args.number d c.in-Some.node c.in_ok-node.ensures.looks known (c.requires.look.may.sound known) (fits g b) (is g b known) c.a_list_has_its_runs.ensures.places c.args.size (c.args.size + 0) x u.books why at h)) c.write_loaded.ensures.refused;
      cut_refused = λ known. err_maps c.write_loaded.result (λ why h x at short. absurd (omega (arith, short, more, read_size g.S.Blocks.tells (s g b) (t g b) c.args.number c.args.size c.in-Some.node x d (read g b x known at)))) c.write_loaded.ensures.refused;
      settles = looks_then g.S.Blocks.state g.S.Blocks.tells c.calls_compose.ensures.advances c.calls_compose.ensures.rests _ _ c.args.blocks.now c.load.new.blocks c.write_loaded.new.blocks c.requires.look.going c.in_ok-node.ensures.looks c.write_loaded.ensures.settles;
      looks = λ known x at few.
          looks_more g.S.Blocks.tells _ (s g b) (t g b) u c.in_ok-node.ensures.looks
          (c.write_loaded.ensures.looks (few_then g.S.Blocks.tells (s g b) (t g b) c.args.number d c.in-Some.node c.in_ok-node.ensures.looks known (c.requires.look.may.sound known) (fits g b) (is g b known) c.a_list_has_its_runs.ensures.places c.args.size (c.args.size + 0) x at
          (longer_few g.S.Blocks.tells (s g b) (t g b) c.args.number c.args.size c.in-Some.node x d (read g b x known at) more (reusable_blocks (s g b).books) few)));
    }

pub returns-in_err-node : goal.returns-in_err-node
returns-in_err-node g c =
    let s = g.S.Blocks.state c.args.blocks.now in
    let t = g.S.Blocks.state c.load.new.blocks in
    same_error c.from_residual.result refusal.ReadFault (λ r. ResizesFile g.S.Blocks.tells c.args.number c.args.size r s t c.args.self.now c.args.self.now) c.from_residual.ensures.1
    (search (rules, looked g.S.Blocks.state g.S.Blocks.tells c.calls_compose.ensures.advances c.calls_compose.ensures.rests true c.args.blocks.now c.load.new.blocks c.requires.look.going c.in_err-node.ensures.looks, c.in_err-node.ensures.looks))

pub returns-in_default : goal.returns-in_default
returns-in_default g c =
    let s = g.S.Blocks.state c.args.blocks.now in
    let t = g.S.Blocks.state c.load.new.blocks in
    let d = c.args.self.now in
    let geom = subst IsGeometry c.geom.ensures c.lawful.ensures.limits in
    let node = λ (known : IsTrue g.S.Blocks.tells). c.in_ok-node.ensures.node known (has_table s d c.args.number geom c.requires.look.from c.requires.look.upto (c.requires.look.may.sound known)) in
    record {
      file = λ known x at. none_found s d c.args.number x c.in_ok-node.field-0 c.in_default.is (node known) at;
      cut = λ known x at short. none_found s d c.args.number x c.in_ok-node.field-0 c.in_default.is (node known) at;
      places = λ known x at long. none_found s d c.args.number x c.in_ok-node.field-0 c.in_default.is (node known) at;
      draft = draft_looks g.S.Blocks.tells false s t d c.in_ok-node.ensures.looks c.requires.look.may;
      kept = refl;
      resizes = λ known x at. none_found s d c.args.number x c.in_ok-node.field-0 c.in_default.is (node known) at;
      refused = λ known. tt;
      cut_refused = λ known. tt;
      settles = looked g.S.Blocks.state g.S.Blocks.tells c.calls_compose.ensures.advances c.calls_compose.ensures.rests false c.args.blocks.now c.load.new.blocks c.requires.look.going c.in_ok-node.ensures.looks;
      looks = λ known x at few. c.in_ok-node.ensures.looks;
    }

pub returns-then-size-node : goal.returns-then-size-node
returns-then-size-node g c =
    let b = (goal.at.returns-then-size-node g c).In-Some in
    record {
      file = λ known x at. same_file g.S.Blocks.tells (s g b) (t g b) c.args.number c.args.size c.in-Some.node x c.args.self.now (read g b x known at) c.if-size-node.true;
      cut = λ known x at short. kept_places g.S.Blocks.tells (s g b) (t g b) c.args.number c.args.size c.in-Some.node x c.args.self.now (read g b x known at) c.if-size-node.true;
      places = λ known x at long. absurd (omega (arith, long, c.if-size-node.true, read_size g.S.Blocks.tells (s g b) (t g b) c.args.number c.args.size c.in-Some.node x c.args.self.now (read g b x known at)));
      kept = refl;
      draft = draft_looks g.S.Blocks.tells false (s g b) (t g b) c.args.self.now c.in_ok-node.ensures.looks c.requires.look.may;
      resizes = λ known x at. same_resizes g.S.Blocks.tells (s g b) (t g b) c.args.number c.args.size c.in-Some.node x c.args.self.now (read g b x known at) (t g b).books _ c.if-size-node.true;
      refused = λ told. tt;
      cut_refused = λ told. tt;
      settles = looked g.S.Blocks.state g.S.Blocks.tells c.calls_compose.ensures.advances c.calls_compose.ensures.rests false c.args.blocks.now c.load.new.blocks c.requires.look.going c.in_ok-node.ensures.looks;
      looks = λ known x at few. c.in_ok-node.ensures.looks;
    }

pub returns-then-size-node-2 : goal.returns-then-size-node-2
returns-then-size-node-2 g c =
    let b = (goal.at.returns-then-size-node-2 g c).In-Some in
    record {
      file = λ known.
          on_ok_weaker c.cut.result (λ made x at.
          let r = read g b x known at in
          since_read g.S.Blocks.tells (s g b) (t g b) c.args.number c.args.size c.in-Some.node x c.args.self.now r _ _ (made x (read_at g.S.Blocks.tells (s g b) (t g b) c.args.number c.args.size c.in-Some.node x c.args.self.now r))) (c.cut.ensures.file known);
      cut = λ known. on_ok_weaker c.cut.result (λ made x at short. cut_read g.S.Blocks.tells (s g b) (t g b) c.args.number c.args.size c.in-Some.node x c.args.self.now (read g b x known at) _ made) (c.cut.ensures.places known);
      places = λ known. on_ok_weaker c.cut.result (λ made x at long. absurd (omega (arith, long, c.if-size-node-2.true, read_size g.S.Blocks.tells (s g b) (t g b) c.args.number c.args.size c.in-Some.node x c.args.self.now (read g b x known at)))) (c.cut.ensures.places known);
      kept = c.cut.ensures.kept;
      draft = c.cut.ensures.draft;
      resizes = λ known.
          ok_both c.cut.result (λ shrinks among x at.
          let r = read g b x known at in
          let now = read_at g.S.Blocks.tells (s g b) (t g b) c.args.number c.args.size c.in-Some.node x c.args.self.now r in
          cut_resizes g.S.Blocks.tells (s g b) (t g b) c.args.number c.args.size c.in-Some.node x c.args.self.now r (g.S.Blocks.state c.cut.new.blocks).books c.cut.new.draft _ c.cut.ensures.looks.books
          (omega (arith, c.if-size-node-2.true)) (shrinks x now) (among x now)) (c.cut.ensures.shrinks known) (c.cut.ensures.among known);
      refused = λ known. err_maps c.cut.result (λ why no x at long. absurd (omega (arith, long, c.if-size-node-2.true, read_size g.S.Blocks.tells (s g b) (t g b) c.args.number c.args.size c.in-Some.node x c.args.self.now (read g b x known at)))) c.cut.ensures.refused;
      cut_refused = λ known. err_maps c.cut.result (λ why no x at short. no) c.cut.ensures.refused;
      settles =
          let tells = g.S.Blocks.tells in
          let s = g.S.Blocks.state c.args.blocks.now in
          let one = g.S.Blocks.state c.load.new.blocks in
          let t = g.S.Blocks.state c.cut.new.blocks in
          subst (λ b. LooksAndSettles tells (fails_reading c.cut.result) b s t) (sym (settles_none c.cut.result c.cut.ensures.refused))
          (looked g.S.Blocks.state tells c.calls_compose.ensures.advances c.calls_compose.ensures.rests (fails_reading c.cut.result) c.args.blocks.now c.cut.new.blocks c.requires.look.going (looks_more tells (fails_reading c.cut.result) s one t c.in_ok-node.ensures.looks c.cut.ensures.looks));
      looks = λ known x at few. looks_more g.S.Blocks.tells (fails_reading c.cut.result) (s g b) (t g b) (g.S.Blocks.state c.cut.new.blocks) c.in_ok-node.ensures.looks c.cut.ensures.looks;
    }
