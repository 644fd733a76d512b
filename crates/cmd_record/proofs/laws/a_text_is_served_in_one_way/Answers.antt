-- What is served has lawful contents, and these are those of one text.
use Rattle.std.proofs.Common.{◌++◌, sym, ap, ◌∙◌}
use Rattle.cmd_trace.specs.Line.{end_line}
use Rattle.cmd_record.specs.Traces.{contents}
use Rattle.cmd_record.proofs.laws.a_text_is_served_in_one_way.Goals as goal

pub returns-clause-front : goal.returns-clause-front
returns-clause-front c = λ g h cmds asked text s t.
    c.equal_traces_have_equal_contents.ensures.front (contents g cmds text s) (contents h asked text t) s.lawful t.lawful (sym s.is ∙ t.is)

pub returns-clause-whole : goal.returns-clause-whole
returns-clause-whole c = λ g h seen read text s t.
    c.equal_traces_have_equal_contents.ensures.whole (contents g _ s.body s.served) (contents h _ t.body t.served) s.served.lawful t.served.lawful
    (ap (λ l. l ++ end_line) (sym s.served.is) ∙ sym s.is ∙ t.is ∙ ap (λ l. l ++ end_line) t.served.is)
