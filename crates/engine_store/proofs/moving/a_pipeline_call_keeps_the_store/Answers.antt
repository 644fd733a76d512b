use Rattle.engine_store.proofs.PipelineBytes.{bytes_noticed}
use Rattle.engine_store.proofs.PipelineCalls.{Laws, keeps_of, runs_of}
use Rattle.engine_store.proofs.moving.a_pipeline_call_keeps_the_store.Goals as goal

pub returns : goal.returns
returns c =
    let laws : Laws = record {
      last_map_is = record { payload = c.the_newest_payloads_are_the_map.ensures.payload; written = c.the_newest_payloads_are_the_map.ensures.written; calm = c.the_newest_payloads_are_the_map.ensures.calm; reads = c.a_read_gives_what_was_written_last.ensures.last; live = c.the_map_needs_only_live_blocks.ensures.live };
      begins = c.a_call_begins_safe.ensures;
      released = c.a_release_keeps_the_books.ensures.began;
      map = c.the_map_needs_only_live_blocks.ensures.map;
      began = c.the_map_needs_only_live_blocks.ensures.began;
      moves = c.a_pipeline_that_moves_moves_the_books.ensures.moves;
      goes_on = c.a_going_store_stays_so.ensures.goes_on;
      rises = c.a_going_store_stays_so.ensures.rises;
      stops = c.a_going_store_stays_so.ensures.stops;
      advances = c.a_call_that_stays_safe_advances.ensures.advances;
      tells_none = c.a_log_tells_its_records.ensures.none;
    } in
    record { keeps = keeps_of laws; runs = runs_of laws; noticed = bytes_noticed c.the_newest_payloads_are_the_map.ensures.calm }
