use Rattle.std.proofs.Common.{◌≡◌, ℕ, List, false, IsTrue, Some, option_map, refl, sym, subst, ap, ◌∙◌, arith}
use Rattle.std.specs.Prelude.{IfSome}
use Rattle.layout_geometry.specs.Geometry.{IsGeometry}
use Rattle.engine_blocks.specs.State.{Bookkeeping, State}
use Rattle.crash_stands.specs.Files.{FileNode}
use Rattle.fs_files.specs.Calls.{files_in, places_in, cut_blocks, ChangesAmong, Shrinks}
use Rattle.fs_files.specs.Nodes.{IsOpen, node_of_open}
use Rattle.fs_files.specs.Places.{looks_more}
use Rattle.fs_files.proofs.frames.Carry.{draft_looks, places_look}
use Rattle.fs_files.proofs.calling.Nodes.{has_table}
use Rattle.fs_files.proofs.calling.Resized.{IsRead, read_at, read_size, since_read, cut_read, ends_then}
use Rattle.fs_files.proofs.draft.Draft.cut_to.Goals as goal
use Rattle.fs_files.proofs.draft.Draft.cut_to.Goals.{In-Some}

-- the node that was read, and its file
module _ (g : _) (c : In-Some g) where
  abbrev s : State
  s = g.S.Blocks.state c.args.blocks.now

  abbrev t : State
  t = g.S.Blocks.state c.load.new.blocks

  read : (x : FileNode) → IsTrue g.S.Blocks.tells → files_in s c.args.self.now c.args.number ≡ Some x → IsRead g.S.Blocks.tells s t c.args.number c.in-Some.node x c.args.self.now
  read x known at = record {
    known = known;
    looks = c.in_ok-node.ensures.looks;
    draft = c.requires.look.may;
    fits = subst (λ f. IfSome f (IsOpen s.books.geom)) c.in-Some.is c.in_ok-node.ensures.open;
    is = ap (option_map (node_of_open s.books.geom.layout)) (sym c.in-Some.is)
        ∙ c.in_ok-node.ensures.node known (has_table s c.args.self.now c.args.number (subst IsGeometry c.geom.ensures c.lawful.ensures.limits) c.requires.look.from c.requires.look.upto (c.requires.look.may.sound known));
    at = at;
    places = c.a_list_has_its_runs.ensures.places;
  }

pub cut-requires-clause-slots : goal.cut-requires-clause-slots
cut-requires-clause-slots g c = λ told.
    let b = (goal.at.cut-requires-clause-slots g c).In-Some in
    ends_then g.S.Blocks.tells (s g b) (t g b) c.args.number c.args.size c.args.self.now c.in_ok-node.ensures.looks told (c.requires.cuts.slots told)

pub returns-then-node-size : goal.returns-then-node-size
returns-then-node-size g c =
    let b = (goal.at.returns-then-node-size g c).In-Some in
    let longer = λ (told : IsTrue g.S.Blocks.tells) (x : FileNode) (at : files_in (s g b) c.args.self.now c.args.number ≡ Some x). read_size g.S.Blocks.tells (s g b) (t g b) c.args.number c.args.size c.in-Some.node x c.args.self.now (read g b x told at) in
    record {
      file = λ told x at. absurd (omega (arith, c.if-node-size.true, c.requires.cuts.shorter told x at, longer told x at));
      places = λ told. let there = c.requires.used told in absurd (omega (arith, c.if-node-size.true, c.requires.cuts.shorter told there.0 there.1, longer told there.0 there.1));
      draft = draft_looks g.S.Blocks.tells false (s g b) (t g b) c.args.self.now c.in_ok-node.ensures.looks c.requires.look.may;
      kept = refl;
      shrinks = λ told x at. absurd (omega (arith, c.if-node-size.true, c.requires.cuts.shorter told x at, longer told x at));
      among = λ told x at. absurd (omega (arith, c.if-node-size.true, c.requires.cuts.shorter told x at, longer told x at));
      refused = tt;
      looks = c.in_ok-node.ensures.looks;
    }

pub returns : goal.returns
returns g c =
    let b = (goal.at.returns g c).In-Some in
    let tells = g.S.Blocks.tells in
    let u = g.S.Blocks.state c.cut.new.blocks in
    let d = c.args.self.now in
    let e = c.cut.new.draft in
    record {
      file = λ told x at.
          let r = read g b x told at in
          since_read tells (s g b) (t g b) c.args.number c.args.size c.in-Some.node x d r _ _ (c.in_ok-cut.ensures.file told x (read_at tells (s g b) (t g b) c.args.number c.args.size c.in-Some.node x d r));
      places = λ told.
          let there = c.requires.used told in
          cut_read tells (s g b) (t g b) c.args.number c.args.size c.in-Some.node there.0 d (read g b there.0 told there.1) _ (c.in_ok-cut.ensures.places told);
      draft = c.in_ok-cut.ensures.draft;
      kept = c.in_ok-cut.ensures.kept;
      shrinks = λ told x at.
          subst (λ (ps : List ℕ). Shrinks x ps (places_in u e c.args.number) c.args.size d e) (places_look tells false (s g b) (t g b) d c.in_ok-node.ensures.looks told c.args.number)
          (c.in_ok-cut.ensures.shrinks told x (read_at tells (s g b) (t g b) c.args.number c.args.size c.in-Some.node x d (read g b x told at)));
      among = λ told x at.
          subst (λ (ps : List ℕ). ChangesAmong (cut_blocks (s g b).books.geom c.args.number x ps c.args.size) d e) (places_look tells false (s g b) (t g b) d c.in_ok-node.ensures.looks told c.args.number)
          (subst (λ (k : Bookkeeping). ChangesAmong (cut_blocks k.geom c.args.number x (places_in (t g b) d c.args.number) c.args.size) d e) c.in_ok-node.ensures.looks.books
          (c.in_ok-cut.ensures.among told x (read_at tells (s g b) (t g b) c.args.number c.args.size c.in-Some.node x d (read g b x told at))));
      refused = tt;
      looks = looks_more tells false (s g b) (t g b) u c.in_ok-node.ensures.looks c.in_ok-cut.ensures.looks;
    }
