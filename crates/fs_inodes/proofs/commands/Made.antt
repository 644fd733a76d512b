-- One inode set, and each change as some inodes set one after the other: the map with them in place of the old ones is one that a command makes.
use Rattle.std.proofs.Common.{◌≡◌, ◌≢◌, ℕ, if◌then◌else◌, List, [], ◌∷◌, ◌++◌, slice_get, Option, Some, option_and_then, sym, refl, ap, ◌∙◌, eq-eqb, ne_eqb, arith}
use Rattle.layout_bytes.specs.declared.slot.Slot.{Slot}
use Rattle.layout_directory.specs.Directory.{without_at}
use Rattle.crash_stands.specs.Inodes.{Inode, Inodes, ADir}
use Rattle.crash_stands.specs.Walks.{node_in}
use Rattle.fs_inodes.specs.Changes.{slot_of, with_slot, one_link_less, with_inode, with_less, with_slot_in, without_slot_in, with_move, Sets, AddsSlot, TakesSlot, MovesSlot}
use Rattle.fs_inodes.specs.Lookups.{slots_of}

-- One inode set.

-- under its number stands the inode that was set
pub set_here : (m : Inodes) (k : ℕ) (x : Option Inode) (l : ℕ) → l ≡ k → with_inode m k x l ≡ x
set_here m k x l e = ap (λ b. if b then x else m l) (eq-eqb l k e)

-- and under every other one what was there
pub set_other : (m : Inodes) (k : ℕ) (x : Option Inode) (l : ℕ) → (l ≡ k → ⊥) → with_inode m k x l ≡ m l
set_other m k x l off = ap (λ b. if b then x else m l) (ne_eqb l k off)

-- so one inode was set
pub sets : (m : Inodes) (k : ℕ) (x : Option Inode) → Sets m (with_inode m k x) k x
sets m k x = record { here = set_here m k x k refl; others = set_other m k x }

-- a node set, and then the directory with the new slot
pub adds : (m : Inodes) (up node : ℕ) (name : List ℕ) (x : Inode) (slots : List Slot) → m up ≡ Some (ADir slots) → up ≢ node
    → AddsSlot m (with_inode (with_inode m node (Some x)) up (Some (ADir (slots ++ slot_of node name ∷ [])))) up node name x
adds m up node name x slots dir apart = grind arith

-- the directory without the slot, and then the node with one link less
pub takes : (m : Inodes) (up node place : ℕ) (name : List ℕ) (slots : List Slot) → m up ≡ Some (ADir slots) → slice_get slots place ≡ Some (slot_of node name) → up ≢ node
    → TakesSlot m (with_inode (with_inode m up (Some (ADir (without_at place slots)))) node (option_and_then one_link_less (m node))) up node name
takes m up node place name slots dir slot apart = grind arith

-- Of a move.

-- with one link less, another node is as it was
less_other : (m : Inodes) (o : Option ℕ) (k : ℕ) → (o ≡ Some k → ⊥) → with_less m o k ≡ m k
less_other m o k h1 = grind arith

-- and the node itself has one link less
less_here : (m : Inodes) (o : Option ℕ) (k : ℕ) → o ≡ Some k → with_less m o k ≡ option_and_then one_link_less (m k)
less_here m o k is = ap (λ o. with_less m o k) is ∙ set_here m k (option_and_then one_link_less (m k)) k refl

-- the second directory with the slot, then the first one without its own, and then the old node with one link less
pub moves : (m : Inodes) (from into node place : ℕ) (name other : List ℕ) (slots target : List Slot) → m from ≡ Some (ADir slots) → slice_get slots place ≡ Some (slot_of node name)
    → m into ≡ Some (ADir target) → node_in target other ≢ Some node → node_in target other ≢ Some from → node_in target other ≢ Some into
    → MovesSlot m (with_move m from place into (slot_of node other)) from into node name other
moves m from into node place name other slots target from_dir slot into_dir differ from_old into_old =
    let put : Inodes = with_slot_in m into (slot_of node other) in
    let out : Inodes = without_slot_in put from place in
    let old_is : node_in (slots_of (m into)) other ≡ node_in target other = ap (λ o. node_in (slots_of o) other) into_dir in
    let at_into : put into ≡ Some (ADir (with_slot target (slot_of node other))) =
    set_here m into (Some (ADir (with_slot (slots_of (m into)) (slot_of node other)))) into refl ∙ ap (λ o. Some (ADir (with_slot (slots_of o) (slot_of node other)))) into_dir in
    let at_from : with_move m from place into (slot_of node other) from ≡ Some (ADir (without_at place (slots_of (put from)))) =
    less_other out (node_in (slots_of (m into)) other) from (λ e. from_old (sym old_is ∙ e)) ∙ set_here put from (Some (ADir (without_at place (slots_of (put from))))) from refl in
    let put_other : (k : ℕ) → (k ≡ into → ⊥) → put k ≡ m k = λ k off. set_other m into (Some (ADir (with_slot (slots_of (m into)) (slot_of node other)))) k off in
    let out_other : (k : ℕ) → (k ≡ from → ⊥) → out k ≡ put k = λ k off. set_other put from (Some (ADir (without_at place (slots_of (put from))))) k off in
    record {
      slots = slots;
      place = place;
      from_dir = from_dir;
      slot = slot;
      target = target;
      into_dir = into_dir;
      differ = differ;
      within = λ e. at_from ∙ ap (λ o. Some (ADir (without_at place (slots_of o)))) (ap put e ∙ at_into);
      across = λ apart. (
        at_from ∙ ap (λ o. Some (ADir (without_at place (slots_of o)))) (put_other from apart ∙ from_dir),
        less_other out (node_in (slots_of (m into)) other) into (λ e. into_old (sym old_is ∙ e)) ∙ out_other into (λ e. apart (sym e)) ∙ at_into,
      );
      left = λ old is.
          less_here out (node_in (slots_of (m into)) other) old (old_is ∙ is)
          ∙ ap (option_and_then one_link_less) (out_other old (λ e. from_old (is ∙ ap Some e)) ∙ put_other old (λ e. into_old (is ∙ ap Some e)));
      others = λ k off away far. less_other out (node_in (slots_of (m into)) other) k (λ e. far (sym old_is ∙ e)) ∙ out_other k off ∙ put_other k away;
    }
