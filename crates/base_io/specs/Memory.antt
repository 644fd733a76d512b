-- The source and the sink in memory as values, and what each call makes of them. These say exactly
-- which calls fail, and how many bytes any other call moves; which bytes they are is described by the
-- traits' own clauses.
use Rattle.std.specs.Prelude.{ℕ, ◌==◌, Bool, if◌then◌else◌, ◌&&◌, ◌||◌, List, length, drop, take, ◌++◌, ◌-◌, min, nat_lt}
use Rattle.std.specs.List.{list_any}
use Rattle.base_types.specs.Counts.{next_count}

-- a source: the bytes left, the most that a call gives, the calls to fail, the calls and faults so far
pub record SourceState : Type 0 where
  pub left : List ℕ
  pub most : ℕ
  pub failing : List ℕ
  pub calls : ℕ
  pub faults : ℕ

-- a sink: the bytes taken, the room left, the most that a call takes, the calls to fail, the calls and faults so far
pub record SinkState : Type 0 where
  pub bytes : List ℕ
  pub room : ℕ
  pub most : ℕ
  pub failing : List ℕ
  pub calls : ℕ
  pub faults : ℕ

-- whether the next call, counted from 1, is one of those to fail
abbrev pub is_listed : List ℕ → ℕ → Bool
is_listed failing calls = list_any (λ n. n == next_count calls) failing

-- whether a pull fails
abbrev pub pull_fails : SourceState → Bool
pull_fails s = is_listed s.failing s.calls

-- how many bytes a pull gives that doesn't fail, into so much room
abbrev pub given : SourceState → ℕ → ℕ
given s wanted = min (min wanted s.most) (length s.left)

-- the source after a pull into so much room
abbrev pub pulled : SourceState → ℕ → SourceState
pulled s wanted = record {
  left = if pull_fails s then s.left else drop (given s wanted) s.left;
  most = s.most;
  failing = s.failing;
  calls = next_count s.calls;
  faults = if pull_fails s then next_count s.faults else s.faults;
}

-- whether a push fails: its call is listed, or there are bytes and no room is left
abbrev pub push_fails : SinkState → List ℕ → Bool
push_fails s piece = is_listed s.failing s.calls || (s.room == 0 && nat_lt 0 (length piece))

-- how many bytes a push takes that doesn't fail
abbrev pub accepted : SinkState → List ℕ → ℕ
accepted s piece = min (min (length piece) s.most) s.room

-- the sink after a push
abbrev pub pushed : SinkState → List ℕ → SinkState
pushed s piece = record {
  bytes = if push_fails s piece then s.bytes else s.bytes ++ take (accepted s piece) piece;
  room = if push_fails s piece then s.room else s.room - accepted s piece;
  most = s.most;
  failing = s.failing;
  calls = next_count s.calls;
  faults = if push_fails s piece then next_count s.faults else s.faults;
}
