-- Notices leave the disk as the ledger says: it speaks of what the file system knows.
use Rattle.std.proofs.Common.{ℕ, List, [], ◌∷◌, ◌++◌}
use Rattle.base_types.specs.Seal.{Blocks}
use Rattle.disk_contract.specs.declared.event.Event.{Event}
use Rattle.disk_contract.specs.declared.event.Event.TheVariants.{Noticed}
use Rattle.disk_contract.specs.Cell.{IsWritten}
use Rattle.crash_argument.proofs.log.Events.{IsWritten-append}
use Rattle.crash_argument.specs.Ledger.{Ledger, IsConsistentWith}
use Rattle.crash_argument.proofs.log.Adds.{settles_one}
use Rattle.crash_argument.proofs.steps.Kept.{same_headers, same_record, same_numbers, same_home}

-- a notice leaves the disk as the ledger says
pub keeps_notice : (base : Blocks) (log : List Event) (l : Ledger) (t : ℕ) → IsConsistentWith base log l → IsConsistentWith base (log ++ Noticed t ∷ []) l
keeps_notice base log l t k = let written = λ (y : List ℕ) (w : IsWritten y log). IsWritten-append y log (Noticed t ∷ []) w in record {
  headers = same_headers base log (log ++ Noticed t ∷ []) l k written (settles_one base log t l.slot) (settles_one base log t _);
  each = λ i w is. same_record base log (log ++ Noticed t ∷ []) l k written w (k.each i w is) (λ j lt. settles_one base log t _) (λ late j e at. settles_one base log t e.block);
  numbers = same_numbers base log (log ++ Noticed t ∷ []) l k written (λ p. settles_one base log t _);
  shape = k.shape;
  ring = k.ring;
  known = k.known;
  home = same_home base log (log ++ Noticed t ∷ []) l k written (λ b high. settles_one base log t b);
}
