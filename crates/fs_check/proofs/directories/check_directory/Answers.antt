use Rattle.std.proofs.Common.{subst}
use Rattle.std.proofs.lemmas.Result.{err_from_is_err_and}
use Rattle.crash_stands.specs.Bounds.{bounds_of}
use Rattle.crash_stands.specs.Inodes.{AreDistinct}
use Rattle.fs_check.specs.Damage.{IsBroken}
use Rattle.fs_check.specs.Slots.{Repeats, AreCounted, NameUsed, IsBrokenIn}
use Rattle.fs_check.proofs.Looking.{none_broken}
use Rattle.fs_check.proofs.Seeing.{if_some, if_none, dir_some, dir_none, dir_used, repeats_name, broken_in}
use Rattle.fs_check.proofs.directories.check_directory.Goals as goal

pub read_slots-requires-clause-used : goal.read_slots-requires-clause-used
read_slots-requires-clause-used g c = λ tells. dir_used (g.N.Nodes.nodes (g.S.Blocks.state c.args.blocks.now) c.args.files.now).files c.args.nodes.now c.args.dir c.args.size (c.requires.seen tells) c.requires.dir

pub returns-in_err-slots-clause-broken : goal.returns-in_err-slots-clause-broken
returns-in_err-slots-clause-broken g c = λ tells.
    let s = g.S.Blocks.state c.args.blocks.now in
    let p = err_from_is_err_and c.from_residual.result c.from_residual.ensures.1 in
    rw (p.1, p.2) (none_broken (IsBroken (bounds_of s.books.geom) (g.N.Nodes.nodes s c.args.files.now).files) c.in_err-slots.field-0.0 c.in_err-slots.ensures.refused)

pub returns-in_default-clause-broken : goal.returns-in_default-clause-broken
returns-in_default-clause-broken g c = λ tells.
    dir_none (g.S.Blocks.state c.args.blocks.now).books.geom.layout c.in_ok-slots.field-0 (λ v. v.items) (g.N.Nodes.nodes (g.S.Blocks.state c.args.blocks.now) c.args.files.now).files c.args.nodes.now c.args.dir c.args.size (c.requires.seen tells) c.requires.dir (c.in_ok-slots.ensures.slots tells) c.in_default.is

pub returns-in-Some-2-clause-broken : goal.returns-in-Some-2-clause-broken
returns-in-Some-2-clause-broken g c = λ tells.
    let files = (g.N.Nodes.nodes (g.S.Blocks.state c.args.blocks.now) c.args.files.now).files in
    repeats_name (g.S.Blocks.state c.args.blocks.now).books.geom.layout files c.args.dir c.in-Some-2.place c.in-Some.slots.items
    (dir_some (g.S.Blocks.state c.args.blocks.now).books.geom.layout c.in_ok-slots.field-0 c.in-Some.slots (λ v. v.items) files c.args.nodes.now c.args.dir c.args.size (c.requires.seen tells) c.requires.dir (c.in_ok-slots.ensures.slots tells) c.in-Some.is)
    (subst (λ xs. Repeats xs c.in-Some-2.place) c.as_slice.ensures.value (if_some c.in_ok-place.field-0 c.in-Some-2.place (Repeats c.as_slice.result.now) c.in-Some-2.is c.in_ok-place.ensures.repeats))

pub returns-in_err-count_slots-clause-broken : goal.returns-in_err-count_slots-clause-broken
returns-in_err-count_slots-clause-broken g c = λ tells.
    let s = g.S.Blocks.state c.args.blocks.now in
    let files = (g.N.Nodes.nodes s c.args.files.now).files in
    let p = err_from_is_err_and c.from_residual-in_err-count_slots.result c.from_residual-in_err-count_slots.ensures.1 in
    rw (p.1, p.2)
    (broken_in (bounds_of s.books.geom) files c.args.nodes.now c.args.dir c.in-Some.slots.items c.in_err-count_slots.field-0.0 (c.requires.seen tells)
    (dir_some (g.S.Blocks.state c.args.blocks.now).books.geom.layout c.in_ok-slots.field-0 c.in-Some.slots (λ v. v.items) files c.args.nodes.now c.args.dir c.args.size (c.requires.seen tells) c.requires.dir (c.in_ok-slots.ensures.slots tells) c.in-Some.is)
    (subst (λ xs. IsBrokenIn c.args.nodes.now c.args.dir xs c.in_err-count_slots.field-0.0) c.as_slice-2.ensures.value c.in_err-count_slots.ensures.broken))

pub returns-clause-went : goal.returns-clause-went
returns-clause-went g c = λ tells.
    let files = (g.N.Nodes.nodes (g.S.Blocks.state c.args.blocks.now) c.args.files.now).files in
    record {
      slots = c.in-Some.slots.items;
      is_dir = dir_some (g.S.Blocks.state c.args.blocks.now).books.geom.layout c.in_ok-slots.field-0 c.in-Some.slots (λ v. v.items) files c.args.nodes.now c.args.dir c.args.size (c.requires.seen tells) c.requires.dir (c.in_ok-slots.ensures.slots tells) c.in-Some.is;
      distinct = subst AreDistinct c.as_slice.ensures.value (if_none c.in_ok-place.field-0 (AreDistinct c.as_slice.result.now) c.in_default-2.is c.in_ok-place.ensures.distinct);
      names = subst (NameUsed c.args.nodes.now) c.as_slice-2.ensures.value c.in_ok-count_slots.ensures.names;
      counted = subst (λ xs. AreCounted xs c.args.named.now c.count_slots.new.named) c.as_slice-2.ensures.value c.in_ok-count_slots.ensures.counted;
    }
