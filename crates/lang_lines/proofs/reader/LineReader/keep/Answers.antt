-- Bytes without a line feed are more of the open line.
use Rattle.std.proofs.Common.{ℕ, List, length, ap, ◌∙◌, drop}
use Rattle.lang_lines.specs.Reading.{ReaderState}
use Rattle.lang_lines.proofs.Giving.{keeps, kept_line}
use Rattle.lang_lines.proofs.reader.LineReader.keep.Goals as goal

pub returns-clause-ok : goal.returns-clause-ok
returns-clause-ok g c =
    let old = c.args.self.now in
    keeps g.P.LineParser.bad g.P.LineParser.says old _ c.args.count c.requires.going c.requires.within c.requires.no_feed (ap (λ (r : ReaderState). r.count) c.self.view_is) (ap (λ (r : ReaderState). r.over) c.self.view_is)
    (c.pass.ensures ∙ ap (λ (r : ReaderState). drop c.args.count r.ahead) c.self.view_is)
    (kept_line c.args.count c.min-more.result c.saturating_sub.result (length c.as_slice.result.now) _ c.self.inside.line.items c.self.inside.chunk c.bytes.result.now old.line old.ahead
    c.in_ok-extend_from_slice.ensures.items c.bytes.ensures c.min-more.ensures c.saturating_sub.ensures (ap (λ (l : List ℕ). length l) c.as_slice.ensures.value) (ap (λ (r : ReaderState). r.line) c.self.view_is) (ap (λ (r : ReaderState). r.ahead) c.self.view_is))
