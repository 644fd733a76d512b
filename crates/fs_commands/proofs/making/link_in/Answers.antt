use Rattle.std.proofs.Common.{◌≡◌, ◌+◌, ◌≤◌, ◌<◌, ℕ, List, length, nat_lt, true, false, sym, subst, ap, ◌∙◌, arith}
use Rattle.std.proofs.lemmas.Bool.{ltb-false, ltb-true}
use Rattle.base_types.specs.declared.layout.Layout.{Layout}
use Rattle.base_types.specs.Layouts.{longest_name}
use Rattle.layout_geometry.specs.Geometry.{Geometry}
use Rattle.lang_tree.specs.declared.command.Cmd.TheVariants.{Link}
use Rattle.lang_tree.specs.declared.command.Refusal.TheVariants.{IsDir, NameTooLong, TooManyLinks}
use Rattle.fs_inodes.specs.Changes.{slot_of}
use Rattle.fs_commands.specs.Making.{MayLink}
use Rattle.fs_commands.proofs.planning.Looking.{refusal_plan, no_look}
use Rattle.fs_commands.proofs.making.link_in.Goals as goal

pub returns-then-is_dir-clause-plans : goal.returns-then-is_dir-clause-plans
returns-then-is_dir-clause-plans g c = λ path other walked appears.
    refusal_plan g.S.Blocks.tells g.S.Blocks.state c.calls_compose.ensures.rests g.met.S.Blocks.is_sound (Link path other) c.args.blocks.now c.args.blocks.now IsDir c.requires.may.begin.going
    (λ told f h. c.the_tree_links_files.ensures.directory c.args.blocks.now f path other c.args.found.now c.args.vacancy.now h (walked told) (appears told) (sym c.is_dir.ensures ∙ c.if-is_dir.true)) (no_look g.S.Blocks.tells (g.S.Blocks.state c.args.blocks.now))

pub returns-then-found-ge-MOST_LINKS-clause-plans : goal.returns-then-found-ge-MOST_LINKS-clause-plans
returns-then-found-ge-MOST_LINKS-clause-plans g c = λ path other walked appears.
    refusal_plan g.S.Blocks.tells g.S.Blocks.state c.calls_compose.ensures.rests g.met.S.Blocks.is_sound (Link path other) c.args.blocks.now c.args.blocks.now TooManyLinks c.requires.may.begin.going
    (λ told f h. c.the_tree_links_files.ensures.many c.args.blocks.now f path other c.args.found.now c.args.vacancy.now h (walked told) (appears told) (sym c.is_dir.ensures ∙ c.if-is_dir.false) (omega (arith, c.if-found-ge-MOST_LINKS.true))) (no_look g.S.Blocks.tells (g.S.Blocks.state c.args.blocks.now))

-- whether the name is too long for the disk
measured : (l : Layout) (name : List ℕ) (l2 : Layout) → l ≡ l2 → (nat_lt (longest_name l) (length name) ≡ true → longest_name l2 < length name) × (nat_lt (longest_name l) (length name) ≡ false → length name ≤ longest_name l2)
measured l name l2 same =
    subst (λ (k : Layout). (nat_lt (longest_name l) (length name) ≡ true → longest_name k < length name) × (nat_lt (longest_name l) (length name) ≡ false → length name ≤ longest_name k)) same
    (ltb-true (longest_name l) (length name), ltb-false (longest_name l) (length name))

pub link_file-requires-clause-short : goal.link_file-requires-clause-short
link_file-requires-clause-short g c =
    subst (λ (name : List ℕ). length name ≤ longest_name (g.S.Blocks.state c.args.blocks.now).books.geom.layout) (sym c.copy.ensures)
    ((measured c.layout.result c.args.vacancy.now.name _ (c.layout.ensures ∙ ap (λ (k : Geometry). k.layout) c.geom.ensures)).1 (sym c.is_long.ensures ∙ c.if-is_long.false))

pub returns-then-is_long-clause-plans : goal.returns-then-is_long-clause-plans
returns-then-is_long-clause-plans g c = λ path other walked appears.
    refusal_plan g.S.Blocks.tells g.S.Blocks.state c.calls_compose.ensures.rests g.met.S.Blocks.is_sound (Link path other) c.args.blocks.now c.args.blocks.now NameTooLong c.requires.may.begin.going
    (λ told f h. c.the_tree_links_files.ensures.long c.args.blocks.now f path other c.args.found.now c.args.vacancy.now h (walked told) (appears told) (sym c.is_dir.ensures ∙ c.if-is_dir.false) (omega (arith, c.if-found-ge-MOST_LINKS.false))
    ((measured c.layout.result c.args.vacancy.now.name _ (c.layout.ensures ∙ ap (λ (k : Geometry). k.layout) c.geom.ensures)).0 (sym c.is_long.ensures ∙ c.if-is_long.true))) (no_look g.S.Blocks.tells (g.S.Blocks.state c.args.blocks.now))

pub returns-clause-plans : goal.returns-clause-plans
returns-clause-plans g c = λ path other walked appears.
    let s = g.S.Blocks.state c.args.blocks.now in
    let v = c.args.vacancy.now in
    let found = c.args.found.now in
    c.link_file.ensures.plans (Link path other)
    (λ told f h. subst (λ name. MayLink s f (Link path other) v.dir v.count (slot_of found.number name) (found.facts.links + 1)) (sym c.copy.ensures)
    (c.the_tree_links_files.ensures.accepted c.args.blocks.now f path other found v h (walked told) (appears told) (sym c.is_dir.ensures ∙ c.if-is_dir.false) (omega (arith, c.if-found-ge-MOST_LINKS.false))
    ((measured c.layout.result v.name _ (c.layout.ensures ∙ ap (λ (k : Geometry). k.layout) c.geom.ensures)).1 (sym c.is_long.ensures ∙ c.if-is_long.false))))
