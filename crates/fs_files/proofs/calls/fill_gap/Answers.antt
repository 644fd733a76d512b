use Rattle.std.proofs.Common.{◌≡◌, ℕ, ◌*◌, ◌-◌, ◌+◌, ◌≤◌, length, length-take, take, replicate, min, subst, arith}
use Rattle.std.proofs.lemmas.List.{length-replicate}
use Rattle.std.specs.Prelude.{OnOk}
use Rattle.base_types.specs.declared.words.Class.{Class}
use Rattle.crash_stands.specs.Files.{joined}
use Rattle.fs_files.specs.Bytes.{met, overwrite}
use Rattle.fs_files.specs.Content.{WritesContent}
use Rattle.fs_files.specs.Drafts.{drafted}
use Rattle.fs_files.specs.Nodes.{class_of}
use Rattle.fs_files.proofs.calling.Gaps.{gap_zeros}
use Rattle.fs_files.proofs.calls.fill_gap.Goals as goal

pub returns-clause-writes : goal.returns-clause-writes
returns-clause-writes g c =
    let size = c.args.node.now.size in
    let end = min c.args.end (1024 * c.args.held) in
    let gap = take (c.min-stop.result - size) (replicate {A = ℕ} 1024 0) in
    let long : length gap ≡ end - size = omega (arith, length-take (c.min-stop.result - size) (replicate {A = ℕ} 1024 0), length-replicate {A = ℕ} 1024 0, c.min-stop.ensures, c.from.ensures, c.requires.held) in
    let upto : size + length gap ≡ end = omega (arith, long, c.requires.held, c.requires.more) in
    subst (λ n. OnOk c.write_content.result (WritesContent (class_of c.args.node.now.kind) (met size n c.args.node.now.places) c.args.draft.now c.write_content.new.draft)) upto
    (subst (λ (x : Class). OnOk c.write_content.result (WritesContent x (met size (size + length gap) c.args.node.now.places) c.args.draft.now c.write_content.new.draft)) c.class_of.ensures c.write_content.ensures.writes)

pub returns-clause-bytes : goal.returns-clause-bytes
returns-clause-bytes g c = λ told content.
    let m = (g.S.Blocks.state c.args.blocks.now).map in
    let ps = c.args.node.now.places in
    let size = c.args.node.now.size in
    let stop : c.min-stop.result ≡ min c.args.end (1024 * c.args.held) = omega (arith, c.min-stop.ensures, c.from.ensures) in
    let few : min c.args.end (1024 * c.args.held) - size ≤ 1024 = omega (arith, c.requires.held) in
    subst (λ ys. OnOk c.write_content.result (joined (drafted c.write_content.new.draft m) ps ≡ overwrite size ys (joined (drafted c.args.draft.now m) ps)))
    (gap_zeros c.min-stop.result size (min c.args.end (1024 * c.args.held)) stop few)
    (c.write_content.ensures.bytes told content)
