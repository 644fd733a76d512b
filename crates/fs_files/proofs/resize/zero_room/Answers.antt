use Rattle.std.proofs.Common.{◌≡◌, ◌/◌, false, not, if◌then◌else◌, [], drop, sym, subst, ◌∙◌, arith}
use Rattle.std.specs.Prelude.{OnOk}
use Rattle.base_types.specs.declared.words.Class.TheVariants.{Meta}
use Rattle.fs_files.specs.Content.{WritesContent}
use Rattle.fs_files.specs.Nodes.{fills_blocks}
use Rattle.fs_files.proofs.bytes.Pieces.{writes_none}
use Rattle.fs_files.proofs.bytes.Sizes.{blocks_hold}
use Rattle.fs_files.proofs.calling.Resizes.{zeros_there}
use Rattle.fs_files.proofs.resize.zero_room.Goals as goal

pub returns-then-fills_blocks-clause-writes : goal.returns-then-fills_blocks-clause-writes
returns-then-fills_blocks-clause-writes g c = writes_none Meta _ c.args.draft.now

pub returns-then-fills_blocks-clause-bytes : goal.returns-then-fills_blocks-clause-bytes
returns-then-fills_blocks-clause-bytes g c = λ tells content zeros.
    let hold = blocks_hold c.args.size in
    zeros_there (g.S.Blocks.state c.args.blocks.now).map c.args.size c.args.places.now c.args.draft.now content (omega (arith, c.requires.count, hold.0, hold.1)) (zeros (sym c.fills_blocks.ensures ∙ c.if-fills_blocks.true))

pub returns-clause-writes : goal.returns-clause-writes
returns-clause-writes g c =
    let room : fills_blocks c.args.layout c.args.size ≡ false = sym c.fills_blocks.ensures ∙ c.if-fills_blocks.false in
    subst (λ t. OnOk c.zero_rest.result (WritesContent Meta (if not t then drop (c.args.size / 1024) c.args.places.now else []) c.args.draft.now c.zero_rest.new.draft)) (sym room) c.zero_rest.ensures.writes
