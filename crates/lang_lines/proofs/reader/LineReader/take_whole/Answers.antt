-- The line lies whole ahead.
use Rattle.std.proofs.Common.{◌+◌, ap, ◌∙◌, take, drop, option_to_list}
use Rattle.std.proofs.lemmas.Result.{IfOk-weaker}
use Rattle.lang_lines.specs.Lines.{longest, items_of_line}
use Rattle.lang_lines.specs.Reading.{ReaderState}
use Rattle.lang_lines.proofs.Giving.{takes}
use Rattle.lang_lines.proofs.reader.LineReader.take_whole.Goals as goal

pub returns-then-is_ok-clause-ok : goal.returns-then-is_ok-clause-ok
returns-then-is_ok-clause-ok g c =
    let at = c.args.at in
    IfOk-weaker c.item_of_line-found.result _ _
    (λ found says. takes g.P.LineParser.bad g.P.LineParser.says c.args.self.now _ at (option_to_list found) c.requires.going c.requires.none c.requires.no_feed c.requires.feed
    (says ∙ ap (λ t. (items_of_line g.P.LineParser.bad g.P.LineParser.says longest) (take at t)) (c.bytes.ensures ∙ ap (λ (r : ReaderState). r.ahead) c.self.view_is))
    (ap (λ (r : ReaderState). r.count) c.self.view_is) (ap (λ (r : ReaderState). r.over) c.self.view_is)
    (c.pass.ensures ∙ ap (λ (r : ReaderState). drop (at + 1) r.ahead) c.self.view_is) (ap (λ (r : ReaderState). r.line) c.self.view_is ∙ c.requires.none))
    c.item_of_line-found.ensures
