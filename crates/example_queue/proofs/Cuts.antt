-- What a power cut leaves is a crash image of the whole log.
use Rattle.std.proofs.Common.{◌≡◌, ℕ, List, length, take, take_all, sym, ap, ◌∙◌, subst, arith}
use Rattle.base_types.specs.Seal.{Blocks, blocks_of}
use Rattle.disk_contract.specs.declared.event.Event.{Event}
use Rattle.disk_contract.specs.Crash.{IsImage}
use Rattle.disk_memory.specs.MemDisk.{MemDiskState}

pub crash_by : (d e : MemDiskState) (moment : ℕ) (image : List (List ℕ)) (base : Blocks) → e ≡ d → moment ≡ length e.log → base ≡ blocks_of image → IsImage (length e.base) (blocks_of e.base) (take moment e.log) (blocks_of image) → IsImage (length d.base) (blocks_of d.base) d.log base
crash_by d e moment image base same last is crash =
    subst (λ (x : MemDiskState). IsImage (length x.base) (blocks_of x.base) x.log base) same
    (subst (λ (at : Blocks). IsImage (length e.base) (blocks_of e.base) e.log at) (sym is)
    (subst (λ (es : List Event). IsImage (length e.base) (blocks_of e.base) es (blocks_of image)) (ap (λ (n : ℕ). take n e.log) last ∙ take_all (length e.log) e.log (omega arith)) crash))
