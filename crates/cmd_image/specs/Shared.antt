-- Lemmas on marks, moments and bays, and on a store that was just mounted, that crates above cite too. They add no meaning to the promises.
use Rattle.std.proofs.Common.{◌≡◌, ◌⊎◌, inl, inr, ℕ, ◌<◌, ◌≤◌, nat_lt, Bool, true, IsTrue, List, [], ◌∷◌, ◌++◌, length, take_all, Option, Some, None, Ok, refl, sym, ap, ap₂, ◌∙◌, subst, arith}
use Rattle.std.proofs.lemmas.Bool.{ltb-true, or_cases}
use Rattle.std.specs.Io.KnownBytes.{Appends}
use Rattle.base_io.specs.Prefix.{TakesPrefix}
use Rattle.base_types.specs.Seal.{Blocks}
use Rattle.disk_contract.specs.declared.bay.Mark.{Mark}
use Rattle.disk_contract.specs.Bay.{BayState, BeginsWith, HasBlocks, Kept, Opens, has_faults}
use Rattle.disk_contract.specs.Crash.{Window}
use Rattle.disk_contract.specs.Disk as disk
use Rattle.crash_argument.specs.Ledger.{HoldsUnder}
use Rattle.engine_blocks.specs.State.{State}
use Rattle.cmd_session.specs.Serving.{IsMountedWith}
use Rattle.cmd_image.specs.Mounted.{IsFresh}
use Rattle.cmd_image.specs.Shows.{FailedByManner}
use Rattle.cmd_image.specs.Steps.{AreWithin, IsJustMounted, mark_in}

-- moments stay among the events as more come, and one of them more is
pub within_more : (n k : ℕ) (moments : List ℕ) → n ≤ k → AreWithin n moments → AreWithin k moments
within_more n k [] more within = tt
within_more n k (m ∷ moments) more within = (omega (arith, more, within.0), within_more n k moments more within.1)

pub within_on : (n : ℕ) (moments : List ℕ) (moment : ℕ) → AreWithin n moments → moment ≤ n → AreWithin n (moments ++ moment ∷ [])
within_on n [] moment within low = (low, tt)
within_on n (m ∷ moments) moment within low = (within.0, within_on n moments moment within.1 low)

-- the mark of blocks, by its parts
pub is_mark_in : (mark : Mark) (s : State) → mark.moment ≡ length s.crash.log → mark.read_faults ≡ s.counts.read_faults → mark.faults ≡ s.counts.faults → mark ≡ mark_in s
is_mark_in mark s moment reads others =
    ap (λ (n : ℕ). record { moment = n; read_faults = mark.read_faults; faults = mark.faults }) moment
    ∙ ap₂ (λ (r q : ℕ). record { moment = length s.crash.log; read_faults = r; faults = q }) reads others

-- what was taken whole was taken to some length
pub all_taken : (before after : Option (List ℕ)) (bytes : List ℕ) → Appends before after bytes → TakesPrefix before after bytes
all_taken before after bytes took = (length bytes, subst (λ (xs : List ℕ). Appends before after xs) (sym (take_all (length bytes) bytes (omega arith))) took)

-- a disk that was just opened has no event
pub fresh_by : (kept : Option Kept) (d : disk.State) → BeginsWith kept d → d.log ≡ []
fresh_by None d none = absurd none
fresh_by (Some kept) d begins = begins.log

-- it has no event yet
pub fresh : {D : Type 0} (state : D → disk.State) (tells : Bool) (name : List ℕ) (d : D) (old new : BayState) → Opens tells state name (Ok d) old new → IsFresh tells (state d)
fresh state tells name d old new opens = record { counts = opens.counts; nothing = λ t. fresh_by (old.kept name) (state d) (opens.disk t) }

-- a disk with faults, on which calls fail as its manner lets them
pub failed_by : (d : disk.State) → has_faults d ≡ true → (0 < d.read_faults → d.manner.reads_fail ≡ true) → (0 < d.faults → disk.HasFailed d) → FailedByManner d
failed_by d some reads others = by (or_cases (nat_lt 0 d.read_faults) (nat_lt 0 d.faults) some)
  where
    by : (nat_lt 0 d.read_faults ≡ true) ⊎ (nat_lt 0 d.faults ≡ true) → FailedByManner d
    by (inl unread) = let more = ltb-true 0 d.read_faults unread in inl (more, reads more)
    by (inr failed) = let more = ltb-true 0 d.faults failed in inr (more, others more)

-- a disk that began with an image has as many blocks
pub has_blocks : (kept : Option Kept) (first last : disk.State) → BeginsWith kept first → last.blocks ≡ first.blocks → HasBlocks last.blocks kept
has_blocks None first last none same = none
has_blocks (Some kept) first last begins same = sym (same ∙ begins.blocks)

module _ (tells : Bool) (told : IsTrue tells) (first : disk.State) (s : State) (h : IsJustMounted tells first s) where
  -- the store has the map of its image, and so has each image so far
  pub mounted_with : IsMountedWith s.books.geom s.map s
  mounted_with =
      let held = h.on.held told in
      record {
        geom = refl;
        map = refl;
        only = (h.begins told).only;
        images = subst (λ (n : ℕ). Window n s.crash.base s.crash.log 0 (λ img. HoldsUnder n s.books.geom img s.map)) (sym h.on.blocks)
            (subst (λ (x : Blocks). Window first.blocks x s.crash.log 0 (λ img. HoldsUnder first.blocks s.books.geom img s.map)) (sym (h.on.base told)) held.images);
      }
