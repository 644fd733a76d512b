use Rattle.engine_running.proofs.spelling.KeptPuts.{record_pays, record_lays}
use Rattle.engine_running.proofs.laws.a_record_keeps_its_puts.Goals as goal

pub returns : goal.returns
returns c = record { paid = record_pays c.payloads_read_back.ensures.bytes; laid = record_lays }
