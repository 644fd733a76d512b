use Rattle.std.proofs.Common.{◌≡◌, false, Option, Some, IfSome, sym, ap, subst, ◌∙◌, option_map}
use Rattle.fs_files.specs.declared.node_blocks.OpenFile.{OpenFile}
use Rattle.fs_files.specs.Places.{looks_more}
use Rattle.fs_snapshots.proofs.KeptOpens.{bytes_told}
use Rattle.fs_snapshots.proofs.reading.KeptNodesNodes.read_at.Goals as goal

-- what holds of what there is holds of this
of_some : (o : Option OpenFile) (f : OpenFile) (P : OpenFile → Type 0) → o ≡ Some f → IfSome o P → P f
of_some o f P is holds = subst (λ x. IfSome x P) is holds

pub returns-clause-bytes : goal.returns-clause-bytes
returns-clause-bytes g c = λ tells x at.
    let s = g.S.Blocks.state c.args.blocks.now in
    bytes_told s.books.geom s.map (g.S.Blocks.state c.open.new.blocks).map c.args.self.now.places c.args.number c.args.offset c.args.len c.in-Some.file x c.in_ok-bytes.bytes (c.in_ok-file.ensures.looks.map tells)
    c.requires.look.may.gone.«data» (c.requires.look.may.whole tells) at
    (ap (option_map (λ (f : OpenFile). f.facts)) (sym c.in-Some.is) ∙ c.in_ok-file.ensures.facts tells)
    (of_some _ c.in-Some.file _ c.in-Some.is (c.in_ok-file.ensures.places tells))
    (c.in_ok-bytes.ensures.bytes tells)

pub returns-clause-looks : goal.returns-clause-looks
returns-clause-looks g c =
    looks_more g.S.Blocks.tells false (g.S.Blocks.state c.args.blocks.now) (g.S.Blocks.state c.open.new.blocks) (g.S.Blocks.state c.read_bytes.new.blocks) c.in_ok-file.ensures.looks c.in_ok-bytes.ensures.looks
