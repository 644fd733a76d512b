-- Disks that the bay hands out and gets back on the way of an upgrade: what came of them is put together.
use Rattle.std.proofs.Common.{◌≡◌, ◌⊎◌, ◌↔◌, inl, inr, ℕ, Bool, false, IsTrue, List, [], length, Option, Some, None, Result, Ok, Err, refl, sym, ◌∙◌, subst}
use Rattle.disk_contract.specs.declared.bay.BayFault.{BayFault}
use Rattle.std.proofs.lemmas.Bool.{false≢true}
use Rattle.base_types.specs.declared.layout.Layout.{Layout}
use Rattle.base_types.specs.Seal.{Blocks}
use Rattle.disk_contract.specs.Bay.{BayState, BeginsWith, Closes, Kept, Opens}
use Rattle.disk_contract.specs.Disk as disk
use Rattle.layout_geometry.specs.Geometry.{Geometry}
use Rattle.lang_tree.specs.Tree.{IsSound, Tree}
use Rattle.engine_blocks.specs.State.{State}
use Rattle.cmd_image.specs.declared.make_refusal.MakeRefusal.{MakeRefusal}
use Rattle.cmd_image.specs.Makes.{IsFormattedImage, MakeLeavesBay}
use Rattle.cmd_image.specs.Shows.{HasImage}
use Rattle.cmd_upgrade.specs.declared.plan.Plan.{Plan}
use Rattle.cmd_upgrade.specs.declared.refusal.UpgradeRefusal.{UpgradeRefusal}
use Rattle.cmd_upgrade.specs.declared.refusal.UpgradeRefusal.TheVariants.{Fault, NoMemory, NoRoom}
use Rattle.cmd_upgrade.specs.Looked.{IsStop, StopsFor}
use Rattle.cmd_upgrade.specs.Filled.{ComesOfLooked, FillsNew, MakesTree}
use Rattle.cmd_upgrade.specs.Plans.{IsWholePlan}
use Rattle.cmd_upgrade.specs.Refusals.{answer_of, of_bay, of_make}
use Rattle.cmd_upgrade.specs.Upgrades.{ComesOfDisk, IsOnlyMounted, TakesTree, UpgradesTo}

module _ {D : Type 0} (state : D → disk.State) (tells : Bool) (name : List ℕ) (old new : BayState) where
  -- the disk that was handed out, told by what is known of it
  pub handed_state : (d : D) → Opens tells state name (Ok d) old new → Opens tells (λ (s : disk.State). s) name (Ok (state d)) old new
  handed_state d o = record { counts = o.counts; disk = o.disk; manner = o.manner; kept = o.kept; cause = o.cause; fails = o.fails; same = o.same; disk_faults = o.disk_faults; handed = o.handed; closed = o.closed }

  pub none_handed : (fault : BayFault) → Opens tells state name (Err fault) old new → Opens tells (λ (s : disk.State). s) name (Err fault) old new
  none_handed fault o = record { counts = o.counts; disk = o.disk; manner = o.manner; kept = o.kept; cause = o.cause; fails = o.fails; same = o.same; disk_faults = o.disk_faults; handed = o.handed; closed = o.closed }

-- what holds of the image under a name holds of a disk that begins with it
pub begun_image : (kept : Option Kept) (d : disk.State) (P : ℕ → Blocks → Type 0) → BeginsWith kept d → HasImage kept P → P d.blocks d.base
begun_image None d P none has = absurd none
begun_image (Some kept) d P begins has = subst (λ (n : ℕ). P n d.base) (sym begins.blocks) (subst (λ (at : Blocks). P (length kept.image) at) (sym begins.base) has)

-- A plan that fits is one of a tree that the disk takes.
pub takes_by : (g : Geometry) (l : Layout) (t : Tree) (p : Plan) (fits : Bool) (most : ℕ) → ((limit : ℕ) (t : Tree) → IsSound limit t → IsWholePlan g.layout t p → IsTrue fits ↔ TakesTree g t) → l ≡ g.layout → IsSound most t
    → IsWholePlan l t p → IsTrue fits → TakesTree g t × IsWholePlan g.layout t p
takes_by g l t p fits most law same sound whole is = let planned = subst (λ (k : Layout). IsWholePlan k t p) same whole in ((law most t sound planned).0 is, planned)

pub lacks_by : (g : Geometry) (l : Layout) (t : Tree) (p : Plan) (fits : Bool) (most : ℕ) → ((limit : ℕ) (t : Tree) → IsSound limit t → IsWholePlan g.layout t p → IsTrue fits ↔ TakesTree g t) → l ≡ g.layout → IsSound most t
    → IsWholePlan l t p → fits ≡ false → ¬ TakesTree g t
lacks_by g l t p fits most law same sound whole no_room takes = false≢true (sym no_room ∙ (law most t sound (subst (λ (k : Layout). IsWholePlan k t p) same whole)).1 takes)

-- The new disk.

pub opens_no_new : {D : Type 0} (state : D → disk.State) (tells : Bool) (other : List ℕ) (g : Geometry) (t : Tree) (s : State) (fault : BayFault) (old new : BayState) → Opens tells state other (Err fault) old new
    → MakesTree tells other g t s (Err (of_bay fault)) old new
opens_no_new state tells other g t s fault old new o = inl (record { fault = fault; opens = none_handed state tells other old new fault o; is = refl })

pub fills_new : {D : Type 0} (state : D → disk.State) (tells : Bool) (other : List ℕ) (g : Geometry) (t : Tree) (s : State) (d : D) (ended : disk.State) (filled : Result (Unit {0}) UpgradeRefusal) (back : Result (Unit {0}) BayFault) (old opened new : BayState)
    → Opens tells state other (Ok d) old opened → FillsNew tells g t s (state d) ended filled → Closes tells other ended [] back opened new → MakesTree tells other g t s (answer_of filled back) old new
fills_new state tells other g t s d ended filled back old opened new o fills closes = inr (record {
  opened = opened;
  begun = state d;
  ended = ended;
  filled = filled;
  back = back;
  opens = handed_state state tells other old opened d o;
  fills = fills;
  closes = closes;
  is = refl;
})

-- the looks stopped, or there is no room
pub stops_before : (tells : Bool) (other : List ℕ) (g : Geometry) (t : Tree) (s : State) (why : UpgradeRefusal) (answer : Result (Unit {0}) UpgradeRefusal) (bay : BayState) → answer ≡ Err why → IsStop why
    → (IsTrue tells → StopsFor s why) → ComesOfLooked tells other g t s answer bay bay
stops_before tells other g t s why answer bay is stop refused = inl (record { same = refl; why = why; is = is; which = inr stop; room = λ told none. absurd (no_stop why stop none); refused = refused })
  where
    no_stop : (w : UpgradeRefusal) → IsStop w → w ≡ NoRoom → ⊥
    no_stop w (inl fault) none = let e : Fault ≡ NoRoom = sym fault ∙ none in cc
    no_stop w (inr memory) none = let e : NoMemory ≡ NoRoom = sym memory ∙ none in cc

pub no_room : (tells : Bool) (other : List ℕ) (g : Geometry) (t : Tree) (s : State) (bay : BayState) → (IsTrue tells → ¬ TakesTree g t) → ComesOfLooked tells other g t s (Err NoRoom) bay bay
no_room tells other g t s bay lacks = inl (record { same = refl; why = NoRoom; is = refl; which = inl refl; room = λ told none. lacks told; refused = λ told fault. absurd cc })

-- it wasn't made, or made and filled
pub no_new_made : (tells : Bool) (other : List ℕ) (g : Geometry) (t : Tree) (s : State) (why : MakeRefusal) (old new : BayState) → (IsTrue tells → TakesTree g t) → MakeLeavesBay tells other g (Err why) old new
    → ComesOfLooked tells other g t s (Err (of_make why)) old new
no_new_made tells other g t s why old new takes makes = inr (inl (record { why = why; takes = takes; makes = makes; is = refl }))

pub new_made : (tells : Bool) (other : List ℕ) (g : Geometry) (t : Tree) (s : State) (answer : Result (Unit {0}) UpgradeRefusal) (old made new : BayState) → (IsTrue tells → TakesTree g t)
    → MakeLeavesBay tells other g (Ok tt) old made → (IsTrue tells → HasImage (made.kept other) (IsFormattedImage g)) → MakesTree tells other g t s answer made new → ComesOfLooked tells other g t s answer old new
new_made tells other g t s answer old made new takes makes image tree = inr (inr (record { made = made; takes = takes; makes = makes; image = image; tree = tree }))

-- The disk on the image.

pub opens_no_image : {D : Type 0} (state : D → disk.State) (tells : Bool) (name other : List ℕ) (g : Geometry) (fault : BayFault) (old new : BayState) → Opens tells state name (Err fault) old new
    → UpgradesTo tells name other g (Err (of_bay fault)) old new
opens_no_image state tells name other g fault old new o = inl (record { fault = fault; opens = none_handed state tells name old new fault o; answer = refl })

pub upgrades_image : {D : Type 0} (state : D → disk.State) (tells : Bool) (name other : List ℕ) (g : Geometry) (d : D) (last : disk.State) (answer : Result (Unit {0}) UpgradeRefusal) (back : Result (Unit {0}) BayFault)
    (old opened between new : BayState) → Opens tells state name (Ok d) old opened → IsOnlyMounted tells (state d) last → ComesOfDisk tells other g (state d) last answer opened between → Closes tells name last [] back between new
    → UpgradesTo tells name other g (answer_of answer back) old new
upgrades_image state tells name other g d last answer back old opened between new o left comes closes = inr (record {
  first = state d;
  last = last;
  opened = opened;
  between = between;
  answer = answer;
  back = back;
  opens = handed_state state tells name old opened d o;
  left = left;
  comes = comes;
  closes = closes;
  answered = refl;
})
