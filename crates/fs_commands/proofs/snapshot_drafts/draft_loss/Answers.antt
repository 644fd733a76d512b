use Rattle.std.proofs.Common.{◌≡◌, false, sym, subst, rules}
use Rattle.fs_files.specs.Content.{fails_reading}
use Rattle.fs_files.specs.Drafts.{FreesBlocks, begun_beside}
use Rattle.fs_files.specs.Effects.{LooksOnly}
use Rattle.fs_files.specs.Places.{looks_none}
use Rattle.fs_commands.proofs.unsnapped.Lost.{begins_apart, begins_beside, goes_used, lost}
use Rattle.fs_commands.proofs.snapshot_drafts.draft_loss.Given as given
use Rattle.fs_commands.proofs.snapshot_drafts.draft_loss.Goals as goal
use Rattle.fs_commands.proofs.snapshot_drafts.draft_loss.Goals.{In_ok-draft}

-- the draft begins with the frees
begun : (g : given.Over) (c : In_ok-draft g) → FreesBlocks c.args.gone.now.alone.items (begun_beside c.args.shared.now) c.in_ok-draft.draft
begun g c = subst (λ xs. FreesBlocks xs (begun_beside c.args.shared.now) c.in_ok-draft.draft) c.deref.ensures.value c.in_ok-draft.ensures

pub drop_node-requires-clause-look : goal.drop_node-requires-clause-look
drop_node-requires-clause-look g c =
    let s = g.S.Blocks.state c.args.blocks.now in
    let may = c.requires.may in
    let law = c.what_is_known_of_snapshots_is_so.ensures.named in
    let beside = c.sound_beside_what_is_kept.ensures.to in
    record {
      going = may.may.begin.going;
      from = may.goes.number.from;
      upto = may.goes.number.upto;
      may = c.a_draft_begins_with_frees.ensures.draft c.args.shared.now c.args.gone.now.alone.items c.in_ok-draft.draft may.may.begin.none_bare
          (λ told. begins_beside g.S.Blocks.tells s c.args.name.now c.args.gone.now c.args.shared.now may law beside told)
          (λ told. begins_apart g.S.Blocks.tells s c.args.name.now c.args.gone.now c.args.shared.now may law beside told)
          may.goes.«data» (begun g (goal.at.drop_node-requires-clause-look g c).In_ok-draft);
    }

pub drop_node-requires-clause-used : goal.drop_node-requires-clause-used
drop_node-requires-clause-used g c = λ told.
    let s = g.S.Blocks.state c.args.blocks.now in
    let may = c.requires.may in
    let law = c.what_is_known_of_snapshots_is_so.ensures.named in
    let beside = c.sound_beside_what_is_kept.ensures.to in
    let frees = begun g (goal.at.drop_node-requires-clause-used g c).In_ok-draft in
    goes_used g.S.Blocks.tells s c.args.name.now c.args.gone.now c.args.shared.now may law beside told s c.in_ok-draft.draft c.in_ok-draft.draft frees
    (c.a_draft_begins_with_frees.ensures.files c.args.shared.now c.args.gone.now.alone.items c.in_ok-draft.draft
    (λ told. begins_apart g.S.Blocks.tells s c.args.name.now c.args.gone.now c.args.shared.now may law beside told) may.goes.«data» frees told)

pub returns-in_err-draft-clause-looks : goal.returns-in_err-draft-clause-looks
returns-in_err-draft-clause-looks g c =
    let s = g.S.Blocks.state c.args.blocks.now in
    let quiet : fails_reading c.from_residual.result ≡ false = search rules in
    subst (λ b. LooksOnly g.S.Blocks.tells b s s) (sym quiet) (looks_none g.S.Blocks.tells s)

pub returns-clause-loss : goal.returns-clause-loss
returns-clause-loss g c = λ told.
    let s = g.S.Blocks.state c.args.blocks.now in
    let may = c.requires.may in
    let law = c.what_is_known_of_snapshots_is_so.ensures.named in
    let beside = c.sound_beside_what_is_kept.ensures.to in
    let frees = begun g (goal.at.returns-clause-loss g c).In_ok-draft in
    let drops = c.in_ok-drop_node.ensures in
    lost g.S.Blocks.tells s c.args.name.now c.args.gone.now c.args.shared.now may law beside told (g.S.Blocks.state c.drop_node.new.blocks) c.in_ok-draft.draft c.drop_node.new.self frees
    (c.a_draft_begins_with_frees.ensures.files c.args.shared.now c.args.gone.now.alone.items c.in_ok-draft.draft
    (λ told. begins_apart g.S.Blocks.tells s c.args.name.now c.args.gone.now c.args.shared.now may law beside told) may.goes.«data» frees told)
    (drops.file told) (drops.places told) (drops.among told) (drops.changes told)
