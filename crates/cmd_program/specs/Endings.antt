-- How a run of the program ends, whatever its words ask for: what it met and left, which fault it had, and its last line. It is described in docs/PROMISES.md.
use Rattle.std.specs.Prelude.{◌≡◌, ℕ, ◌⊎◌, List, take, codes, Option}
use Rattle.std.specs.Io.KnownBytes.{Appends}
use Rattle.base_types.specs.Counts.{Rose}
use Rattle.disk_contract.specs.Bay.{BayState}
use Rattle.cmd_program.specs.declared.status.Status.{Status}
use Rattle.cmd_program.specs.declared.status.Status.TheVariants.{SourceFault, SinkFault}

-- What a run met and left: what there is of the input, what the output has, the counts of faults of both, and the bay.
pub record Met : Type 0 where
  pub left : Option (List ℕ)
  pub left_now : Option (List ℕ)
  pub taken : Option (List ℕ)
  pub taken_now : Option (List ℕ)
  pub source : ℕ
  pub source_now : ℕ
  pub sink : ℕ
  pub sink_now : ℕ
  pub bay : BayState
  pub bay_now : BayState

abbrev pub met : Option (List ℕ) → Option (List ℕ) → Option (List ℕ) → Option (List ℕ) → ℕ → ℕ → ℕ → ℕ → BayState → BayState → Met
met left left_now taken taken_now source source_now sink sink_now bay bay_now = record {
  left = left;
  left_now = left_now;
  taken = taken;
  taken_now = taken_now;
  source = source;
  source_now = source_now;
  sink = sink;
  sink_now = sink_now;
  bay = bay;
  bay_now = bay_now;
}

-- a fault of the source or of the sink comes only where its count rose
abbrev pub HasFault : Status → ℕ → ℕ → ℕ → ℕ → Type 0
HasFault SourceFault source source_now sink sink_now = Rose source source_now
HasFault SinkFault source source_now sink sink_now = Rose sink sink_now
HasFault _ source source_now sink sink_now = Unit

-- the run ends with this status behind this line; or the sink failed, and took a front of the line
abbrev pub EndsBehind : Status → List ℕ → Status → Option (List ℕ) → Option (List ℕ) → Type 0
EndsBehind status line result taken taken_now =
    ((result ≡ status) × Appends taken taken_now line)
    ⊎ ((result ≡ SinkFault) × ((n : ℕ) × Appends taken taken_now (take n line)))

-- the run ends with this status, and nothing more is written
abbrev pub EndsSilent : Status → Status → Option (List ℕ) → Option (List ℕ) → Type 0
EndsSilent status result taken taken_now = (result ≡ status) × (taken_now ≡ taken)

-- The same as EndsBehind, with its cause: where the sink failed its count rose. Only private contracts speak of it.
abbrev pub Tells : Status → Status → List ℕ → Option (List ℕ) → Option (List ℕ) → ℕ → ℕ → Type 0
Tells status result line taken taken_now sink sink_now =
    ((result ≡ status) × Appends taken taken_now line)
    ⊎ ((result ≡ SinkFault) × ((n : ℕ) × Appends taken taken_now (take n line)) × Rose sink sink_now)

-- The last line of each status that has one.

abbrev pub usage_line : List ℕ
usage_line = codes "error 2 usage\n"

abbrev pub disk_line : List ℕ
disk_line = codes "error 5 disk\n"

abbrev pub damaged_line : List ℕ
damaged_line = codes "error 6 damaged\n"

abbrev pub source_line : List ℕ
source_line = codes "error 7 source\n"

abbrev pub spent_line : List ℕ
spent_line = codes "error 9 spent\n"

abbrev pub no_prefix_line : List ℕ
no_prefix_line = codes "error 10 no prefix\n"

abbrev pub shape_line : List ℕ
shape_line = codes "error 11 shape\n"

abbrev pub long_line : List ℕ
long_line = codes "error 12 long input\n"

abbrev pub choice_line : List ℕ
choice_line = codes "error 13 choice\n"

abbrev pub room_line : List ℕ
room_line = codes "error 14 room\n"

abbrev pub unlike_line : List ℕ
unlike_line = codes "error 15 unlike\n"

abbrev pub log_line : List ℕ
log_line = codes "error 17 log\n"
