use Rattle.std.proofs.Common.{false, option_map, rules, sym, ap, ◌∙◌}
use Rattle.crash_stands.specs.Inodes.{inodes_of}
use Rattle.fs_files.specs.Calls.{facts_of}
use Rattle.fs_files.specs.NodeMaps.{NodeMap}
use Rattle.fs_snapshots.specs.Nodes.{facts_are}
use Rattle.fs_commands.proofs.looking.Found.{looks_more, is_used}
use Rattle.fs_commands.proofs.paths.find_in.Goals as goal

pub returns-in-Err-clause-found : goal.returns-in-Err-clause-found
returns-in-Err-clause-found g c = λ told t map. sym (sym c.in-Err.is ∙ c.in_ok-number.ensures.end told t map)

pub look-requires : goal.look-requires
look-requires g c = record {
  going = search rules;
  from = search rules;
  upto = search rules;
  may = c.laws.ensures.stays false c.args.blocks.now c.walk.new.blocks c.in_ok-number.ensures.looks c.requires.read.may;
}

pub returns-in-Some-clause-found : goal.returns-in-Some-clause-found
returns-in-Some-clause-found g c = λ told t map.
    let v = g.N.Nodes.nodes (g.S.Blocks.state c.args.blocks.now) c.args.files.now in
    let same = c.laws.ensures.same false c.args.blocks.now c.walk.new.blocks c.in_ok-number.ensures.looks told in (
      sym (sym c.in-Ok.is ∙ c.in_ok-number.ensures.end told t map),
      facts_are (v.files c.in-Ok.number) c.in-Some.facts (sym c.in-Some.is ∙ c.in_ok-facts.ensures.facts told ∙ ap (λ (n : NodeMap). option_map facts_of (n.files c.in-Ok.number)) same),
    )

pub returns-in-Some-clause-looks : goal.returns-in-Some-clause-looks
returns-in-Some-clause-looks g c =
    looks_more g.S.Blocks.tells false (g.S.Blocks.state c.args.blocks.now) (g.S.Blocks.state c.walk.new.blocks) (g.S.Blocks.state c.look.new.blocks) c.in_ok-number.ensures.looks c.in_ok-facts.ensures.looks

pub returns-in-None-clause-found : goal.returns-in-None-clause-found
returns-in-None-clause-found g c = λ told t map.
    let v = g.N.Nodes.nodes (g.S.Blocks.state c.args.blocks.now) c.args.files.now in
    let same = c.laws.ensures.same false c.args.blocks.now c.walk.new.blocks c.in_ok-number.ensures.looks told in
    let leads = c.walks_are_the_same.ensures.ends (inodes_of (g.S.Blocks.state c.args.blocks.now).books.geom.layout v.files) c.args.path.now c.in-Ok.number (sym (sym c.in-Ok.is ∙ c.in_ok-number.ensures.end told t map)) in
    let used = map.shows.used c.args.path.now c.in-Ok.number leads in
    absurd (is_used _ (v.files c.in-Ok.number) used.0 used.1 (sym c.in-None.is ∙ c.in_ok-facts.ensures.facts told ∙ ap (λ (n : NodeMap). option_map facts_of (n.files c.in-Ok.number)) same))

pub returns-in-None-clause-looks : goal.returns-in-None-clause-looks
returns-in-None-clause-looks g c =
    looks_more g.S.Blocks.tells false (g.S.Blocks.state c.args.blocks.now) (g.S.Blocks.state c.walk.new.blocks) (g.S.Blocks.state c.look.new.blocks) c.in_ok-number.ensures.looks c.in_ok-facts.ensures.looks

pub returns-in-Some-clause-there : goal.returns-in-Some-clause-there
returns-in-Some-clause-there g c = λ told.
    let v = g.N.Nodes.nodes (g.S.Blocks.state c.args.blocks.now) c.args.files.now in
    let same = c.laws.ensures.same false c.args.blocks.now c.walk.new.blocks c.in_ok-number.ensures.looks told in
    facts_are (v.files c.in-Ok.number) c.in-Some.facts (sym c.in-Some.is ∙ c.in_ok-facts.ensures.facts told ∙ ap (λ (n : NodeMap). option_map facts_of (n.files c.in-Ok.number)) same)
