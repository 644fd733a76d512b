-- The three ways in which a slot moves: onto another one, to a free name of its directory, and to a free name of another directory.
use Rattle.std.proofs.Common.{◌≡◌, ◌≢◌, ℕ, ◌<◌, List, [], ◌∷◌, ◌++◌, length, set, slice_get, None, Some, option_and_then, refl, sym, subst, ap, ◌∙◌}
use Rattle.std.proofs.lemmas.Option.{none-some, same_Some}
use Rattle.layout_bytes.specs.declared.slot.Slot.{Slot}
use Rattle.layout_directory.specs.Directory.{place_of, without_at}
use Rattle.crash_stands.specs.Inodes.{Inodes, ADir}
use Rattle.crash_stands.specs.Walks.{node_in}
use Rattle.fs_inodes.specs.Changes.{slot_of, one_link_less, put_at, with_slot, Sets, MovesSlot}
use Rattle.fs_snapshots.specs.Nodes.{same_slots}

-- a name that has a place is set there, and one that has none comes behind
pub set_there : (slots : List Slot) (s : Slot) (place : ℕ) → place_of s.name slots ≡ Some place → with_slot slots s ≡ set slots place s
set_there slots s place e = ap (λ p. put_at p s slots) e

pub set_behind : (slots : List Slot) (s : Slot) → place_of s.name slots ≡ None → with_slot slots s ≡ slots ++ s ∷ []
set_behind slots s e = ap (λ p. put_at p s slots) e

-- Onto what is there: the target's slot is set, the source's goes, and the target's node loses a link.
pub onto : (m m1 m2 m3 : Inodes) (from into node old place tplace : ℕ) (name other : List ℕ) (slots target after : List Slot)
    → m from ≡ Some (ADir slots) → m into ≡ Some (ADir target) → slice_get slots place ≡ Some (slot_of node name) → place_of other target ≡ Some tplace → node_in target other ≡ Some old
    → old ≢ node → old ≢ from → old ≢ into
    → Sets m m1 into (Some (ADir (set target tplace (slot_of node other)))) → m1 from ≡ Some (ADir after) → Sets m1 m2 from (Some (ADir (without_at place after)))
    → m3 old ≡ option_and_then one_link_less (m2 old) → ((l : ℕ) → l ≢ old → m3 l ≡ m2 l) → MovesSlot m m3 from into node name other
onto m m1 m2 m3 from into node old place tplace name other slots target after dir tdir slot there names not_node not_from not_into one from_after two less others = record {
  slots = slots;
  place = place;
  from_dir = dir;
  slot = slot;
  target = target;
  into_dir = tdir;
  differ = λ e. not_node (same_Some old node (sym names ∙ e));
  within = λ same. others from (λ e. not_from (sym e)) ∙ two.here ∙ ap (λ xs. Some (ADir (without_at place xs)))
      (same_slots after (set target tplace (slot_of node other)) (sym from_after ∙ ap m1 same ∙ one.here) ∙ sym (set_there target (slot_of node other) tplace there));
  across = λ apart. (
    others from (λ e. not_from (sym e)) ∙ two.here ∙ ap (λ xs. Some (ADir (without_at place xs))) (same_slots after slots (sym from_after ∙ one.others from apart ∙ dir)),
    others into (λ e. not_into (sym e)) ∙ two.others into (λ e. apart (sym e)) ∙ one.here ∙ ap (λ xs. Some (ADir xs)) (sym (set_there target (slot_of node other) tplace there)),
  );
  left = λ k e. subst (λ n. m3 n ≡ option_and_then one_link_less (m n)) (same_Some old k (sym names ∙ e))
      (less ∙ ap (option_and_then one_link_less) (two.others old not_from ∙ one.others old not_into));
  others = λ k a b c. others k (λ e. c (names ∙ ap Some (sym e))) ∙ two.others k a ∙ one.others k b;
}

-- To a free name of its directory: the slot changes its name.
pub within : (m new : Inodes) (dir node place : ℕ) (name other : List ℕ) (slots : List Slot)
    → ((slots : List Slot) (s : Slot) (place : ℕ) → place_of s.name slots ≡ None → place < length slots → without_at place (with_slot slots s) ≡ set slots place s)
    → m dir ≡ Some (ADir slots) → slice_get slots place ≡ Some (slot_of node name) → place < length slots → place_of other slots ≡ None → node_in slots other ≡ None
    → Sets m new dir (Some (ADir (set slots place (slot_of node other)))) → MovesSlot m new dir dir node name other
within m new dir node place name other slots law is slot below free nothing sets = record {
  slots = slots;
  place = place;
  from_dir = is;
  slot = slot;
  target = slots;
  into_dir = is;
  differ = λ e. absurd (none-some node (sym nothing ∙ e));
  within = λ same. sets.here ∙ ap (λ xs. Some (ADir xs)) (sym (law slots (slot_of node other) place free below));
  across = λ apart. absurd (apart refl);
  left = λ k e. absurd (none-some k (sym nothing ∙ e));
  others = λ k a b c. sets.others k a;
}

-- To a free name of another directory: a slot comes there, and the source's goes.
pub across : (m m1 new : Inodes) (from into node place : ℕ) (name other : List ℕ) (slots target : List Slot) → from ≢ into
    → m from ≡ Some (ADir slots) → m into ≡ Some (ADir target) → slice_get slots place ≡ Some (slot_of node name) → place_of other target ≡ None → node_in target other ≡ None
    → Sets m m1 into (Some (ADir (target ++ slot_of node other ∷ []))) → Sets m1 new from (Some (ADir (without_at place slots))) → MovesSlot m new from into node name other
across m m1 new from into node place name other slots target apart dir tdir slot free nothing one two = record {
  slots = slots;
  place = place;
  from_dir = dir;
  slot = slot;
  target = target;
  into_dir = tdir;
  differ = λ e. absurd (none-some node (sym nothing ∙ e));
  within = λ same. absurd (apart same);
  across = λ d. (two.here, two.others into (λ e. apart (sym e)) ∙ one.here ∙ ap (λ xs. Some (ADir xs)) (sym (set_behind target (slot_of node other) free)));
  left = λ k e. absurd (none-some k (sym nothing ∙ e));
  others = λ k a b c. two.others k a ∙ one.others k b;
}
