-- The line feed ends the open line.
use Rattle.std.proofs.Common.{ap, ◌∙◌, drop, option_to_list}
use Rattle.std.proofs.lemmas.Result.{IfOk-weaker}
use Rattle.lang_lines.specs.Lines.{longest, items_of_line}
use Rattle.lang_lines.specs.Reading.{ReaderState}
use Rattle.lang_lines.proofs.Giving.{closes}
use Rattle.lang_lines.proofs.reader.LineReader.take_open.Goals as goal

pub returns-then-is_ok-clause-ok : goal.returns-then-is_ok-clause-ok
returns-then-is_ok-clause-ok g c =
    IfOk-weaker c.item_of_line-found.result _ _
    (λ found says. closes g.P.LineParser.bad g.P.LineParser.says c.args.self.now _ (option_to_list found) c.requires.going c.requires.feed
    (says ∙ ap ((items_of_line g.P.LineParser.bad g.P.LineParser.says longest)) (c.as_slice.ensures.value ∙ ap (λ (r : ReaderState). r.line) c.self.view_is))
    (ap (λ (r : ReaderState). r.count) c.self.view_is) (ap (λ (r : ReaderState). r.over) c.self.view_is)
    (c.pass.ensures ∙ ap (λ (r : ReaderState). drop 1 r.ahead) c.self.view_is) c.clear.ensures.items)
    c.item_of_line-found.ensures
