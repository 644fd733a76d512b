-- A log that was just opened on a disk is that of the tree for which the disk stood, and why there is none.
use Rattle.std.proofs.Common.{◌≡◌, Bool, false, IsTrue, Ok, Err, Result, sym, ap, ◌∙◌, subst}
use Rattle.std.specs.Prelude.{IfErr, IfOk}
use Rattle.base_types.specs.Seal.{Blocks}
use Rattle.disk_contract.specs.Disk as disk
use Rattle.layout_geometry.specs.Geometry.{Geometry}
use Rattle.lang_tree.specs.Tree.{Tree}
use Rattle.lang_log.specs.Log.{HasNoLog}
use Rattle.crash_stands.specs.Stands.{IsTreeOf, StandsFor}
use Rattle.engine_blocks.specs.Crashes.{HasLiveBlocks, IsBegun}
use Rattle.engine_blocks.specs.State.{Bookkeeping, State}
use Rattle.engine_store.specs.Mounting.{BeginsWith}
use Rattle.fs_files.specs.Effects.{LooksOnly}
use Rattle.fs_log.specs.declared.refusal.OpenRefusal.{OpenRefusal}
use Rattle.fs_log.specs.declared.refusal.OpenRefusal.TheVariants.{BadLog, Fs as FsRefused}
use Rattle.fs_log.specs.Opening.{StandsAsMounted}
use Rattle.cmd_image.specs.Mounted.{IsMountedOn}
use Rattle.example_queue.specs.declared.opening.QueueRefusal.{QueueRefusal}
use Rattle.example_queue.specs.declared.opening.QueueRefusal.TheVariants.{Log as LogRefused}
use Rattle.example_queue.specs.Queue.{RefusesQueue}

-- what holds of each value that was returned holds of it in other words
pub on_ok : {T E : Type 0} (P Q : T → Type 0) (r : Result T E) → ((x : T) → P x → Q x) → IfOk r P → IfOk r Q
on_ok P Q (Ok x) more is = more x is
on_ok P Q (Err e) more is = tt

-- a tree that stands in the map is the one for which the image stands
pub stood_for : (tells : Bool) (told : IsTrue tells) (first : disk.State) (s : State) → IsMountedOn tells false first s → (t : Tree) → IsTreeOf s.books.geom s.map t → StandsFor first.blocks first.base t
stood_for tells told first s on t tree =
    let holds = (on.held told).holds in
    record { map = s.map; held = holds.held; tree = subst (λ (k : Geometry). IsTreeOf k s.map t) (sym holds.geom) tree }

-- a tree stands still in blocks that were only read
pub still_stands : (tells : Bool) (told : IsTrue tells) (s u : State) (t : Tree) → LooksOnly tells false s u → IsTreeOf s.books.geom s.map t → IsTreeOf u.books.geom u.map t
still_stands tells told s u t looks tree = subst (λ (k : Bookkeeping). IsTreeOf k.geom u.map t) (sym looks.books) (subst (λ (x : Blocks). IsTreeOf s.books.geom x t) (sym (looks.map told)) tree)

-- a store that was just mounted, and only read since, stands as it was mounted
pub as_mounted : (tells : Bool) (told : IsTrue tells) (s u : State) (t : Tree) → IsBegun s → BeginsWith s.books.geom s.map s → LooksOnly tells false s u → IsTreeOf s.books.geom s.map t → StandsAsMounted u t
as_mounted tells told s u t begun begins looks tree = record {
  point = ap (λ (k : Bookkeeping). k.point) looks.books ∙ begun.point;
  only = λ m is. subst (λ (k : Bookkeeping). HasLiveBlocks k.geom u.map m) (sym looks.books)
      (subst (λ (x : Blocks). HasLiveBlocks s.books.geom x m) (sym (looks.map told)) (begins.only m (((looks.crash told).point 0 m).0 is)));
  stands = still_stands tells told s u t looks tree;
}

-- A refusal of the log for no log is one of a tree that has none; no other says anything of the disk.

abbrev log_reason : QueueRefusal → OpenRefusal
log_reason (LogRefused why) = why
log_reason _ = BadLog

pub same_reason : (why : OpenRefusal) → LogRefused why ≡ LogRefused BadLog → why ≡ BadLog
same_reason why same = ap log_reason same

refuses : (first : disk.State) (why : QueueRefusal) (reason : OpenRefusal) → why ≡ LogRefused reason → (why ≡ LogRefused BadLog → (t : Tree) → StandsFor first.blocks first.base t → HasNoLog t) → RefusesQueue first why
refuses first why BadLog is none = subst (λ (x : QueueRefusal). RefusesQueue first x) (sym is) (none is)
refuses first why (FsRefused refusal) is none = subst (λ (x : QueueRefusal). RefusesQueue first x) (sym is) tt

pub on_refusal : {T : Type 0} (first : disk.State) (r : Result T QueueRefusal) → IfErr r (λ why. (reason : OpenRefusal) × (why ≡ LogRefused reason))
    → IfErr r (λ why. why ≡ LogRefused BadLog → (t : Tree) → StandsFor first.blocks first.base t → HasNoLog t) → IfErr r (RefusesQueue first)
on_refusal first (Ok x) own none = tt
on_refusal first (Err why) own none = refuses first why own.0 own.1 none

pub on_no_log : {T : Type 0} (P Q : Type 0) (r : Result T QueueRefusal) → (P → Q) → IfErr r (λ why. why ≡ LogRefused BadLog → P) → IfErr r (λ why. why ≡ LogRefused BadLog → Q)
on_no_log P Q (Ok x) more is = tt
on_no_log P Q (Err why) more is = λ same. more (is same)
