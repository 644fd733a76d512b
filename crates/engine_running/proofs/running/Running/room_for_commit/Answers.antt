use Rattle.std.proofs.Common.{◌∙◌, List, ap, sym, arith, length, map}
use Rattle.engine_running.specs.declared.put.Put.{Put}
use Rattle.engine_running.specs.Record.{block_of}
use Rattle.engine_running.proofs.running.Running.room_for_commit.Goals as goal

pub returns : goal.returns
returns c = record {
  tickets = omega (arith, c.in_ok-tickets.ensures.capacity, c.places_of-count.ensures 0 0 c.args.self.now.paid c.args.self.now.laid (ap (λ (l : List Put). length l) (sym c.payloads.ensures)) (ap (λ (l : List Put). length l) (sym c.fresh-laid.ensures)), ap (λ (l : List Put). length l) c.fresh-laid.ensures);
  empty = c.in_ok-tickets.ensures.items;
  fresh = c.in_ok-fresh.ensures ∙ ap (λ (l : List Put). map block_of l) c.fresh-laid.ensures;
}
