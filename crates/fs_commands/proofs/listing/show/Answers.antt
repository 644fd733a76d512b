use Rattle.std.proofs.Common.{◌≡◌, false, None, Some, subst, sym, refl, ap, ◌∙◌, rules}
use Rattle.std.specs.Io.KnownBytes.{Appends}
use Rattle.base_io.specs.Prefix.{TakesPrefix}
use Rattle.engine_blocks.specs.State.{Bookkeeping}
use Rattle.lang_tree.specs.Tree.{Dir, File}
use Rattle.lang_tree.specs.Listing.{line_of}
use Rattle.fs_commands.proofs.listed.Reads.{never_unknown}
use Rattle.fs_commands.proofs.listed.Texts.{on_err}
use Rattle.fs_commands.proofs.listed.Shows.{may_read, dir_front, dir_taken, dir_writes, file_front, file_writes}
use Rattle.fs_commands.proofs.listing.show.Goals as goal

pub returns-in_err-write_dir-clause-front : goal.returns-in_err-write_dir-clause-front
returns-in_err-write_dir-clause-front g c = λ told.
    let s = g.S.Blocks.state c.args.blocks.now in
    on_err _ _ (dir_front s (g.N.Nodes.nodes s c.args.files.now) c.args.walk.now c.args.number c.a_listing_goes_down.ensures.paths c.in-Some.facts (sym c.in-Some.is ∙ c.in_ok-facts.ensures.facts told) _ (sym c.is_dir.ensures ∙ c.if-is_dir.true) _ c.prefixes_join.ensures.first
    (subst (λ p. TakesPrefix (g.K.Sink.taken c.args.out.now) (g.K.Sink.taken c.write_dir.new.out) (line_of p c.args.number (Some Dir))) c.as_slice.ensures.value c.in_err-write_dir.ensures.front))

pub enter-requires-clause-read : goal.enter-requires-clause-read
enter-requires-clause-read g c =
    let looks = c.in_ok-facts.ensures.looks in
    record {
      going = ap (λ (b : Bookkeeping). b.stopped) looks.books ∙ c.requires.read.going;
      may = c.laws.ensures.stays false c.args.blocks.now c.look.new.blocks looks c.requires.read.may;
    }

pub returns-in_err-enter-clause-front : goal.returns-in_err-enter-clause-front
returns-in_err-enter-clause-front g c = λ told.
    let s = g.S.Blocks.state c.args.blocks.now in
    on_err _ _ (dir_taken s (g.N.Nodes.nodes s c.args.files.now) c.args.walk.now c.args.number c.a_listing_goes_down.ensures.paths c.in-Some.facts (sym c.in-Some.is ∙ c.in_ok-facts.ensures.facts told) _ (sym c.is_dir.ensures ∙ c.if-is_dir.true) _ c.prefixes_join.ensures.second
    (subst (λ p. Appends (g.K.Sink.taken c.args.out.now) (g.K.Sink.taken c.write_dir.new.out) (line_of p c.args.number (Some Dir))) c.as_slice.ensures.value c.in_ok-write_dir.ensures.all))

pub returns-then-is_dir-clause-writes : goal.returns-then-is_dir-clause-writes
returns-then-is_dir-clause-writes g c = λ told.
    let s = g.S.Blocks.state c.args.blocks.now in
    dir_writes s (g.N.Nodes.nodes s c.args.files.now) c.args.walk.now c.args.number c.a_listing_goes_down.ensures.paths c.in-Some.facts (sym c.in-Some.is ∙ c.in_ok-facts.ensures.facts told) _ (sym c.is_dir.ensures ∙ c.if-is_dir.true)
    g.S.Blocks.tells (g.S.Blocks.state c.look.new.blocks) _ c.enter.new.walk _ c.in_ok-facts.ensures.looks (c.laws.ensures.same false c.args.blocks.now c.look.new.blocks c.in_ok-facts.ensures.looks told)
    (subst (λ p. Appends (g.K.Sink.taken c.args.out.now) (g.K.Sink.taken c.write_dir.new.out) (line_of p c.args.number (Some Dir))) c.as_slice.ensures.value c.in_ok-write_dir.ensures.all)
    (c.in_ok-enter.ensures.enters told)

pub write_file-requires : goal.write_file-requires
write_file-requires g c = record {
  read = may_read g.S.Blocks.tells (g.S.Blocks.state c.args.blocks.now) (g.S.Blocks.state c.look.new.blocks) _ _ _ _ c.args.number c.in-Some.facts c.in_ok-facts.ensures.looks
      (c.laws.ensures.stays false c.args.blocks.now c.look.new.blocks c.in_ok-facts.ensures.looks) (c.laws.ensures.same false c.args.blocks.now c.look.new.blocks c.in_ok-facts.ensures.looks) c.requires.read c.requires.number
      (λ told. sym c.in-Some.is ∙ c.in_ok-facts.ensures.facts told);
}

pub returns-in_err-write_file-clause-front : goal.returns-in_err-write_file-clause-front
returns-in_err-write_file-clause-front g c = λ told.
    let s = g.S.Blocks.state c.args.blocks.now in
    on_err _ _ (file_front s (g.N.Nodes.nodes s c.args.files.now) c.args.walk.now c.args.number c.a_listing_goes_down.ensures.paths c.in-Some.facts (sym c.in-Some.is ∙ c.in_ok-facts.ensures.facts told) _ (sym c.is_dir.ensures ∙ c.if-is_dir.false)
    _ (c.laws.ensures.same false c.args.blocks.now c.look.new.blocks c.in_ok-facts.ensures.looks told) _ c.prefixes_join.ensures.first
    (λ x at is. subst (λ p. TakesPrefix (g.K.Sink.taken c.args.out.now) (g.K.Sink.taken c.write_file.new.out) (line_of p c.args.number (Some (File x.bytes)))) c.as_slice-path.ensures.value (c.in_err-write_file.ensures.front told x at is)))

pub returns-clause-writes : goal.returns-clause-writes
returns-clause-writes g c = λ told.
    let s = g.S.Blocks.state c.args.blocks.now in
    file_writes s (g.N.Nodes.nodes s c.args.files.now) c.args.walk.now c.args.number c.a_listing_goes_down.ensures.paths c.in-Some.facts (sym c.in-Some.is ∙ c.in_ok-facts.ensures.facts told) _ (sym c.is_dir.ensures ∙ c.if-is_dir.false)
    _ (c.laws.ensures.same false c.args.blocks.now c.look.new.blocks c.in_ok-facts.ensures.looks told) _ _
    (λ x at is. subst (λ p. Appends (g.K.Sink.taken c.args.out.now) (g.K.Sink.taken c.write_file.new.out) (line_of p c.args.number (Some (File x.bytes)))) c.as_slice-path.ensures.value (c.in_ok-write_file.ensures.all told x at is))
    c.leave-2.ensures refl refl

pub returns-in_default-clause-writes : goal.returns-in_default-clause-writes
returns-in_default-clause-writes g c = λ told m t h leads walk.
    let none : None ≡ c.in_ok-facts.field-0 = search rules in
    absurd (never_unknown (g.S.Blocks.state c.args.blocks.now) _ m t h c.args.walk.now.path.items c.args.number leads (none ∙ c.in_ok-facts.ensures.facts told))
