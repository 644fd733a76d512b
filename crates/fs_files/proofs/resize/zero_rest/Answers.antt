use Rattle.std.proofs.Common.{◌≡◌, ◌*◌, ◌-◌, length, subst, arith}
use Rattle.std.specs.Prelude.{OnOk}
use Rattle.crash_stands.specs.Files.{joined}
use Rattle.fs_files.specs.Bytes.{overwrite}
use Rattle.fs_files.specs.Drafts.{drafted}
use Rattle.fs_files.proofs.bytes.Sizes.{blocks_hold}
use Rattle.fs_files.proofs.calling.Resizes.{zero_part}
use Rattle.fs_files.proofs.resize.zero_rest.Goals as goal

pub returns-clause-bytes : goal.returns-clause-bytes
returns-clause-bytes g c = λ tells content.
    let m = (g.S.Blocks.state c.args.blocks.now).map in
    let hold = blocks_hold c.args.size in
    subst (λ ys. OnOk c.write_content.result (joined (drafted c.write_content.new.draft m) c.args.places.now ≡ overwrite c.args.size ys (joined (drafted c.args.draft.now m) c.args.places.now)))
    (zero_part _ (1024 * length c.args.places.now - c.args.size) (omega (arith, c.requires.count, c.count.ensures.value, c.from.ensures, hold.0, hold.1)) (omega (arith, c.count.ensures.value, c.from.ensures)))
    (c.write_content.ensures.bytes tells content)
