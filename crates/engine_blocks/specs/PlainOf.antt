-- What is known of a map of blocks in memory.
use Rattle.std.specs.Prelude.{◌-◌, ◌*◌, false, length, None}
use Rattle.base_types.specs.Seal.{blocks_of}
use Rattle.disk_contract.specs.Manner.{any_manner}
use Rattle.layout_geometry.specs.Geometry.{data_start}
use Rattle.engine_blocks.specs.declared.plain.PlainBlocks.{PlainBlocks}
use Rattle.engine_blocks.specs.State.{Bookkeeping, State, defined_part}
use Rattle.engine_blocks.specs.Plain.{role_in, marks_of, clear_in, crash_of}

-- blocks that were freed serve again after the next sync, and nothing waits
abbrev pub books_of : PlainBlocks → Bookkeeping
books_of p = record {
  geom = p.geom;
  running = record { roles = role_in p.roles.items; weight = p.weight; held = p.held; took = p.took };
  spare = record { puts = p.puts; takes = p.takes; frees = p.frees };
  marked = marks_of p.geom (blocks_of p.history.now);
  reusable = clear_in (blocks_of p.busy.items);
  waiting = 0;
  since = λ b. None;
  area = p.geom.n - data_start p.geom;
  room = 24 * (p.geom.j - 2);
  free_places = p.geom.j;
  turns = 0;
  owed = 0;
  point = length p.history.points - 1;
  floor = p.floor;
  stopped = false;
}

abbrev pub state_of : PlainBlocks → State
state_of p = record {
  books = books_of p;
  counts = record { ticks = record { made = p.ticks; polls = 0; manner = any_manner }; read_faults = 0; faults = 0; waits = 0 };
  map = defined_part (books_of p) (blocks_of p.history.now);
  crash = crash_of p.history.points p.floor;
}
