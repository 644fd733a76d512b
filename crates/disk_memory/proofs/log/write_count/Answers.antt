use Rattle.std.proofs.Common.{◌∙◌, rules, tests}
use Rattle.std.proofs.lemmas.Iterator.{YieldsList-from_slice}
use Rattle.std.proofs.lemmas.Iterator.Consumers.{count_from_yields_List, YieldsList-from_filter}
use Rattle.disk_memory.proofs.log_rows.RowCount.{is_write, length-writes}
use Rattle.disk_memory.proofs.log.write_count.Goals as goal

pub returns : goal.returns
returns c =
    count_from_yields_List c.filter.result c.count.result c.count.ensures.ran (YieldsList-from_filter _ is_write (YieldsList-from_slice c.args.events.now cc) c.filter.ensures.closure (λ x r q k. search (rules, tests)))
    ∙ length-writes c.args.events.now
