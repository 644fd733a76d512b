-- What is under the names behind an upgrade, and what its answer says of the room: all follows from what came of the bay.
use Rattle.std.proofs.Common.{◌≡◌, ◌≢◌, ◌⊎◌, inl, inr, ℕ, Bool, true, false, IsTrue, List, [], length, Option, Some, None, Result, Ok, Err, IfErr, OnOk, is_ok, refl, sym, ap, ◌∙◌, subst}
use Rattle.std.proofs.lemmas.Bool.{false≢true}
use Rattle.std.proofs.lemmas.Option.{none-some}
use Rattle.base_types.specs.Seal.{Blocks, blocks_of}
use Rattle.disk_contract.specs.declared.bay.BayFault.{BayFault}
use Rattle.disk_contract.specs.declared.bay.BayFault.TheVariants as bay
use Rattle.disk_contract.specs.declared.event.Event.{Event}
use Rattle.disk_contract.specs.Bay.{BayState, Begins, BeginsWith, Closes, IsKeptOf, Kept, SameElsewhere, TakesBack}
use Rattle.disk_contract.specs.Crash.{IsHonest}
use Rattle.disk_contract.specs.Disk.{State}
use Rattle.layout_geometry.specs.Geometry.{Geometry}
use Rattle.lang_tree.specs.Tree.{Tree}
use Rattle.cmd_session.specs.Images.{StandsMounted}
use Rattle.cmd_image.specs.declared.make_refusal.MakeRefusal.{MakeRefusal}
use Rattle.cmd_image.specs.declared.make_refusal.MakeRefusal.TheVariants as make
use Rattle.cmd_image.specs.Makes.{MakeLeavesBay}
use Rattle.cmd_image.specs.Shows.{HasImage}
use Rattle.cmd_upgrade.specs.declared.refusal.UpgradeRefusal.{UpgradeRefusal}
use Rattle.cmd_upgrade.specs.declared.refusal.UpgradeRefusal.TheVariants.{Fault, Damaged, Spent, NoRoom, NoMemory}
use Rattle.cmd_upgrade.specs.Refusals.{answer_of, of_bay, of_make}
use Rattle.cmd_upgrade.specs.Upgrades.{ComesOfDisk, FillsDisk, HasRoomCause, LeavesBoth, SameBeside, SaysOfImage, StandsAlike, StandsStill, TakesTree, UpgradesImage, UpgradesTo}

-- what is under a name that a disk began with
begun_with : (kept : Option Kept) (d : State) → BeginsWith kept d → (k : Kept) × (kept ≡ Some k) × Begins k.image d
begun_with None d none = absurd none
begun_with (Some k) d begins = (k, refl, begins)

image_under : (kept : Option Kept) (d : State) (P : ℕ → Blocks → Type 0) → BeginsWith kept d → P d.blocks d.base → HasImage kept P
image_under None d P none is = absurd none
image_under (Some k) d P begins is = subst (λ (at : Blocks). P (length k.image) at) begins.base (subst (λ (n : ℕ). P n d.base) begins.blocks is)

-- what is under one that a disk was handed back under
kept_back : (d : State) (before now : Option Kept) (k : Kept) → before ≡ Some k → TakesBack d [] before now → (kept : Kept) × (now ≡ Some kept) × IsKeptOf d [] kept
kept_back d None now k is back = absurd (none-some k is)
kept_back d (Some b) None k is back = absurd back
kept_back d (Some b) (Some kept) k is back = (kept, refl, back)

-- all is well only where both are
both_ok : (answer : Result (Unit {0}) UpgradeRefusal) (back : Result (Unit {0}) BayFault) → is_ok (answer_of answer back) ≡ true → (is_ok answer ≡ true) × (is_ok back ≡ true)
both_ok (Ok x) (Ok y) is = (refl, refl)
both_ok (Ok x) (Err fault) is = absurd (false≢true is)
both_ok (Err why) back is = absurd (false≢true is)

on_ok : {T E : Type 0} (r : Result T E) (P : Type 0) → is_ok r ≡ true → OnOk r P → P
on_ok (Ok x) P is p = p
on_ok (Err why) P is p = absurd (false≢true is)

not_room_of_bay : (fault : BayFault) → of_bay fault ≡ NoRoom → ⊥
not_room_of_bay bay.Fault is = cc
not_room_of_bay bay.NoMemory is = cc

not_room_of_make : (why : MakeRefusal) → of_make why ≡ NoRoom → ⊥
not_room_of_make make.Fault is = cc
not_room_of_make make.NoMemory is = cc

same_why : (a b : UpgradeRefusal) → ◌≡◌ {A = Result (Unit {0}) UpgradeRefusal} (Err a) (Err b) → a ≡ b
same_why a b is = cc

-- each honest image of such a disk now stands for the tree, with other numbers
abbrev Holds : Tree → ℕ → Blocks → List Event → Type 0
Holds t n base log = (img : Blocks) → IsHonest n base log img → ∥ StandsAlike t n img ∥₁

module _ (tells : Bool) (told : IsTrue tells) (name other : List ℕ) (g : Geometry) where
  made_elsewhere : (r : Result (Unit {0}) MakeRefusal) (old new : BayState) → MakeLeavesBay tells other g r old new → SameElsewhere other old new
  made_elsewhere r old new (inl none) = none.makes.others told
  made_elsewhere r old new (inr back) = λ each apart. back.closes.others told each apart ∙ back.makes.others told each apart

  -- between the opening of the image and its return another name than this one is left alone
  comes_elsewhere : (first last : State) (answer : Result (Unit {0}) UpgradeRefusal) (old new : BayState) → ComesOfDisk tells other g first last answer old new → SameElsewhere other old new
  comes_elsewhere first last answer old new (inl n) = λ each apart. ap (λ (b : BayState). b.kept each) n.same
  comes_elsewhere first last answer old new (inr (inl n)) = λ each apart. ap (λ (b : BayState). b.kept each) n.same
  comes_elsewhere first last answer old new (inr (inr (inl f))) = made_elsewhere (Err f.why) old new f.makes
  comes_elsewhere first last answer old new (inr (inr (inr (inl f)))) = λ each apart. f.opens.kept told each ∙ made_elsewhere (Ok tt) old f.made f.makes each apart
  comes_elsewhere first last answer old new (inr (inr (inr (inr f)))) = λ each apart. f.closes.others told each apart ∙ f.opens.kept told each ∙ made_elsewhere (Ok tt) old f.made f.makes each apart

  pub same_beside : (result : Result (Unit {0}) UpgradeRefusal) (old new : BayState) → UpgradesTo tells name other g result old new → SameBeside name other old new
  same_beside result old new (inl none) = λ each a b. none.opens.kept told each
  same_beside result old new (inr u) = λ each a b. u.closes.others told each a ∙ comes_elsewhere u.first u.last u.answer u.opened u.between u.comes each b ∙ u.opens.kept told each

  -- The room.

  module _ (first last : State) (old new : BayState) where
    -- where all was done the new disk was filled
    filled_of : (answer : Result (Unit {0}) UpgradeRefusal) → is_ok answer ≡ true → ComesOfDisk tells other g first last answer old new → FillsDisk tells other g first last answer old new
    filled_of answer ok (inl n) = absurd (false≢true (sym (ap is_ok n.is) ∙ ok))
    filled_of answer ok (inr (inl n)) = absurd (false≢true (sym (ap is_ok n.is) ∙ ok))
    filled_of answer ok (inr (inr (inl f))) = absurd (false≢true (sym (ap is_ok f.is) ∙ ok))
    filled_of answer ok (inr (inr (inr (inl f)))) = absurd (false≢true (sym (ap is_ok f.is) ∙ ok))
    filled_of answer ok (inr (inr (inr (inr f)))) = f

    lacks : ComesOfDisk tells other g first last (Err NoRoom) old new → (t : Tree) × StandsMounted first.blocks first.base t × ¬ TakesTree g t
    lacks (inl n) = absurd (subst (λ (why : UpgradeRefusal). SaysOfImage why first.blocks first.base) (sym (same_why NoRoom n.why n.is)) (n.says told))
    lacks (inr (inl n)) = let room = n.room told in (room.0, room.1, room.2 (sym (same_why NoRoom n.why n.is)))
    lacks (inr (inr (inl f))) = absurd (not_room_of_make f.why (sym (same_why NoRoom (of_make f.why) f.is)))
    lacks (inr (inr (inr (inl f)))) = absurd (not_room_of_bay f.fault (sym (same_why NoRoom (of_bay f.fault) f.is)))
    lacks (inr (inr (inr (inr f)))) = absurd (by f.filled f.back f.which (sym f.is))
      where
        by : (filled : Result (Unit {0}) UpgradeRefusal) (back : Result (Unit {0}) BayFault) → IfErr filled (λ why. (why ≡ Fault) ⊎ (why ≡ NoMemory)) → answer_of filled back ≡ Err NoRoom → ⊥
        by (Ok x) (Ok y) which is = cc
        by (Ok x) (Err fault) which is = not_room_of_bay fault (same_why (of_bay fault) NoRoom is)
        by (Err why) back (inl fault) is = let e : Fault ≡ NoRoom = sym fault ∙ same_why why NoRoom is in cc
        by (Err why) back (inr memory) is = let e : NoMemory ≡ NoRoom = sym memory ∙ same_why why NoRoom is in cc

    room_by : (kept : Option Kept) (answer : Result (Unit {0}) UpgradeRefusal) (back : Result (Unit {0}) BayFault) → BeginsWith kept first → ComesOfDisk tells other g first last answer old new
        → HasRoomCause g (answer_of answer back) kept
    room_by kept (Ok x) (Ok y) begins comes =
        let tree = (filled_of (Ok x) refl comes).holds told in
        image_under kept first (λ n at. (t : Tree) × StandsMounted n at t × TakesTree g t) begins (tree.0, tree.1, tree.2.0)
    room_by kept (Ok x) (Err bay.Fault) begins comes = tt
    room_by kept (Ok x) (Err bay.NoMemory) begins comes = tt
    room_by kept (Err Fault) back begins comes = tt
    room_by kept (Err (Damaged damage)) back begins comes = tt
    room_by kept (Err Spent) back begins comes = tt
    room_by kept (Err NoRoom) back begins comes = image_under kept first (λ n at. (t : Tree) × StandsMounted n at t × ¬ TakesTree g t) begins (lacks comes)
    room_by kept (Err NoMemory) back begins comes = tt

  pub room_cause : (result : Result (Unit {0}) UpgradeRefusal) (old new : BayState) → UpgradesTo tells name other g result old new → HasRoomCause g result (old.kept name)
  room_cause result old new (inl none) = subst (λ (r : Result (Unit {0}) UpgradeRefusal). HasRoomCause g r (old.kept name)) (sym none.answer) (by none.fault)
    where
      by : (fault : BayFault) → HasRoomCause g (Err (of_bay fault)) (old.kept name)
      by bay.Fault = tt
      by bay.NoMemory = tt
  room_cause result old new (inr u) =
      subst (λ (r : Result (Unit {0}) UpgradeRefusal). HasRoomCause g r (old.kept name)) (sym u.answered)
      (room_by u.first u.last u.opened u.between (old.kept name) u.answer u.back (u.opens.disk told) u.comes)

  -- What is under both names.

  leaves_both : name ≢ other → (old new : BayState) (u : UpgradesImage tells name other g (Ok tt) old new) → LeavesBoth name other g old new
  leaves_both apart old new u =
      let ok = both_ok u.answer u.back (sym (ap is_ok u.answered)) in
      let f = filled_of u.first u.last u.opened u.between u.answer ok.0 u.comes in
      let filled_ok = both_ok f.filled f.back (sym (ap is_ok f.is) ∙ ok.0) in
      let was = begun_with (old.kept name) u.first (u.opens.disk told) in
      let made = begun_with (f.made.kept other) f.begun (f.opens.disk told) in
      let image = kept_back u.last (u.between.kept name) (new.kept name) was.0 (comes_elsewhere u.first u.last u.answer u.opened u.between u.comes name apart ∙ u.opens.kept told name ∙ was.1)
      (on_ok u.back (TakesBack u.last [] (u.between.kept name) (new.kept name)) ok.1 (u.closes.kept told)) in
      let filled = kept_back f.ended (f.opened.kept other) (u.between.kept other) made.0 (f.opens.kept told other ∙ made.1)
      (on_ok f.back (TakesBack f.ended [] (f.opened.kept other) (u.between.kept other)) filled_ok.1 (f.closes.kept told)) in
      let tree = f.holds told in
      record {
        before = was.0;
        was = was.1;
        tree = tree.0;
        stands = subst (λ (at : Blocks). StandsMounted (length was.0.image) at tree.0) was.2.base (subst (λ (n : ℕ). StandsMounted n u.first.base tree.0) was.2.blocks tree.1);
        takes = tree.2.0;
        image = image.0;
        is_image = image.1;
        began = image.2.base ∙ u.left.base told ∙ was.2.base;
        crash = subst (λ (es : List Event). StandsStill (length was.0.image) image.0.base es) (sym image.2.log)
            (subst (λ (at : Blocks). StandsStill (length was.0.image) at u.last.log) (sym image.2.base)
            (subst (λ (n : ℕ). StandsStill n u.last.base u.last.log) (u.left.blocks ∙ was.2.blocks) (u.left.crash told)));
        filled = filled.0;
        is_filled = u.closes.others told other (λ same. apart (sym same)) ∙ filled.1;
        size = filled.2.image.length ∙ f.blocks ∙ (f.formatted told).size;
        holds = subst (λ (es : List Event). Holds tree.0 g.n filled.0.base es) (sym filled.2.log)
            (subst (λ (at : Blocks). Holds tree.0 g.n at f.ended.log) (sym filled.2.base)
            (subst (λ (n : ℕ). Holds tree.0 n f.ended.base f.ended.log) (f.blocks ∙ (f.formatted told).size) (on_ok f.filled _ filled_ok.0 tree.2.1)));
      }

-- All that is said of an upgrade.
pub record SaysAll (tells : Bool) (name other : List ℕ) (g : Geometry) (result : Result (Unit {0}) UpgradeRefusal) (old new : BayState) : Type 0 where
  pub leaves : IsTrue tells → OnOk result (LeavesBoth name other g old new)
  pub room : IsTrue tells → HasRoomCause g result (old.kept name)
  pub others : IsTrue tells → SameBeside name other old new
  pub comes : UpgradesTo tells name other g result old new

pub says_all : (tells : Bool) (name other : List ℕ) (g : Geometry) → name ≢ other → (result : Result (Unit {0}) UpgradeRefusal) (old new : BayState) → UpgradesTo tells name other g result old new → SaysAll tells name other g result old new
says_all tells name other g apart result old new comes = record {
  leaves = λ told. by told result comes;
  room = λ told. room_cause tells told name other g result old new comes;
  others = λ told. same_beside tells told name other g result old new comes;
  comes = comes;
}
  where
    by : IsTrue tells → (r : Result (Unit {0}) UpgradeRefusal) → UpgradesTo tells name other g r old new → OnOk r (LeavesBoth name other g old new)
    by told (Ok x) (inl none) = absurd (false≢true (sym (ap is_ok none.answer)))
    by told (Ok x) (inr u) = leaves_both tells told name other g apart old new u
    by told (Err why) u = tt
