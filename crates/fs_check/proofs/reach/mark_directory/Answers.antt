use Rattle.std.proofs.Common.{sym, ap, ◌∙◌}
use Rattle.std.proofs.lemmas.Result.{err_from_is_err_and}
use Rattle.crash_stands.specs.Bounds.{bounds_of}
use Rattle.fs_snapshots.specs.Nodes.{same_slots}
use Rattle.fs_check.specs.Damage.{IsBroken}
use Rattle.fs_check.proofs.Looking.{none_broken}
use Rattle.fs_check.specs.Marks.{targets}
use Rattle.fs_check.proofs.Seeing.{dir_some, dir_none, dir_used}
use Rattle.fs_check.proofs.reach.mark_directory.Goals as goal

pub read_slots-requires-clause-used : goal.read_slots-requires-clause-used
read_slots-requires-clause-used g c = λ tells. dir_used (g.N.Nodes.nodes (g.S.Blocks.state c.args.blocks.now) c.args.files.now).files c.args.nodes.now c.args.dir c.in-Directory.size (c.requires.seen tells) (sym c.seen.ensures ∙ c.in-Directory.is)

pub returns-in_err-slots-clause-broken : goal.returns-in_err-slots-clause-broken
returns-in_err-slots-clause-broken g c = λ tells.
    let s = g.S.Blocks.state c.args.blocks.now in
    let p = err_from_is_err_and c.from_residual.result c.from_residual.ensures.1 in
    rw (p.1, p.2) (none_broken (IsBroken (bounds_of s.books.geom) (g.N.Nodes.nodes s c.args.files.now).files) c.in_err-slots.field-0.0 c.in_err-slots.ensures.refused)

pub returns-in_default-2-clause-broken : goal.returns-in_default-2-clause-broken
returns-in_default-2-clause-broken g c = λ tells.
    dir_none (g.S.Blocks.state c.args.blocks.now).books.geom.layout c.in_ok-slots.field-0 (λ v. v.items) (g.N.Nodes.nodes (g.S.Blocks.state c.args.blocks.now) c.args.files.now).files c.args.nodes.now c.args.dir c.in-Directory.size (c.requires.seen tells) (sym c.seen.ensures ∙ c.in-Directory.is) (c.in_ok-slots.ensures.slots tells) c.in_default-2.is

pub returns-clause-marks : goal.returns-clause-marks
returns-clause-marks g c = record {
  named = targets c.as_slice.result.now;
  sets = c.in_ok-mark_slots.ensures;
  those = λ tells slots is.
      ap targets
      (c.as_slice.ensures.value
      ∙ same_slots c.in-Some.slots.items slots
      (sym (dir_some (g.S.Blocks.state c.args.blocks.now).books.geom.layout c.in_ok-slots.field-0 c.in-Some.slots (λ v. v.items) (g.N.Nodes.nodes (g.S.Blocks.state c.args.blocks.now) c.args.files.now).files c.args.nodes.now c.args.dir c.in-Directory.size (c.requires.seen tells) (sym c.seen.ensures ∙ c.in-Directory.is) (c.in_ok-slots.ensures.slots tells) c.in-Some.is)
      ∙ is));
}
