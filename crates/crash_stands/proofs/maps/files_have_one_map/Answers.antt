use Rattle.crash_stands.proofs.OneMap.{own_map, all_read}
use Rattle.crash_stands.proofs.maps.files_have_one_map.Goals as goal

pub returns-clause-one : goal.returns-clause-one
returns-clause-one c = own_map

pub returns-clause-read : goal.returns-clause-read
returns-clause-read c = all_read
