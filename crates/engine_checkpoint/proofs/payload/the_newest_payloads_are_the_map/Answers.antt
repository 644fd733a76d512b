-- By the law on what the records that aren't placed cover.
use Rattle.std.proofs.Common.{◌∙◌}
use Rattle.engine_checkpoint.specs.Agree.{data_of}
use Rattle.engine_checkpoint.proofs.CalmBlocks.{live_from, agrees_calm}
use Rattle.engine_checkpoint.proofs.Told.{covered_is_newest}
use Rattle.engine_checkpoint.proofs.payload.the_newest_payloads_are_the_map.Goals as goal

pub returns-clause-payload : goal.returns-clause-payload
returns-clause-payload c = λ base log l v ring waiting taken b x keeps a lives newest.
    c.the_newest_bytes_are_the_map.ensures.payload base log l (data_of v ring waiting) b x keeps a.agree lives
    (covered_is_newest a a.agree.batch a.agree.rest b (λ k w is. c.records_stand_in_order.ensures.numbers base log l k w keeps is) (c.counts_tell_the_batch.ensures.batch base log l (data_of v ring waiting) a.agree) (c.counts_tell_the_batch.ensures.rest base log l (data_of v ring waiting) a.agree) lives ∙ newest)

pub returns-clause-written : goal.returns-clause-written
returns-clause-written c = λ base log l v ring waiting taken b keeps a lives none.
    c.the_newest_bytes_are_the_map.ensures.written base log l (data_of v ring waiting) b keeps a.agree lives
    (covered_is_newest a a.agree.batch a.agree.rest b (λ k w is. c.records_stand_in_order.ensures.numbers base log l k w keeps is) (c.counts_tell_the_batch.ensures.batch base log l (data_of v ring waiting) a.agree) (c.counts_tell_the_batch.ensures.rest base log l (data_of v ring waiting) a.agree) lives ∙ none)

pub returns-clause-calm : goal.returns-clause-calm
returns-clause-calm c = λ base log l v ring waiting taken b keeps a lives. agrees_calm base log l v ring waiting taken keeps a c.a_read_gives_what_was_written_last.ensures.idle b (live_from l b lives)
