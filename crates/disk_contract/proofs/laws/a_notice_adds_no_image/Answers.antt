use Rattle.disk_contract.proofs.Windows.{image_notice, IsHonest-notice}
use Rattle.disk_contract.proofs.laws.a_notice_adds_no_image.Goals as goal

pub returns-clause-image : goal.returns-clause-image
returns-clause-image c = image_notice

pub returns-clause-honest : goal.returns-clause-honest
returns-clause-honest c = IsHonest-notice
