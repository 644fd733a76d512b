use Rattle.crash_argument.proofs.pipe.NewestBytes.{newest_payload, newest_written}
use Rattle.crash_argument.proofs.points.the_newest_bytes_are_the_map.Goals as goal

pub returns : goal.returns
returns c = record { payload = λ base log l p b y keeps k on. newest_payload base log l keeps p k b on y; written = λ base log l p b keeps k on. newest_written base log l keeps p k b on }
