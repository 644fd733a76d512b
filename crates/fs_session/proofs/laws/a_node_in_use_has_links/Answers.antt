use Rattle.fs_session.proofs.standing.Links.{file_links}
use Rattle.fs_session.proofs.laws.a_node_in_use_has_links.Goals as goal

pub returns : goal.returns
returns c = file_links
