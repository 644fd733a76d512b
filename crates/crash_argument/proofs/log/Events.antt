-- What one more event does to a log and to the cells of its blocks.
use Rattle.std.proofs.Common.{◌≡◌, ◌≢◌, ◌⊎◌, ⊎_elim, ◌==◌, [], ◌∷◌, ◌++◌, ◌∙◌}
pub use Rattle.disk_contract.specs.Logs.{IsNoticed-append, IsWritten-append, after_all-append, cell_of-append, other_lost, other_wrote}
