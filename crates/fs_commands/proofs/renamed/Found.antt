-- What was found at a path is what inodes say of it, and it isn't the root.
use Rattle.std.proofs.Common.{◌≡◌, ◌≢◌, ℕ, List, slice_get, Option, None, Some, option_map, Ok, sym, subst, ap, ◌∙◌}
use Rattle.std.proofs.lemmas.Option.{none-some, same_Some}
use Rattle.base_types.specs.declared.layout.Layout.{Layout}
use Rattle.layout_bytes.specs.declared.slot.Slot.{Slot}
use Rattle.crash_stands.specs.Files.{Files}
use Rattle.crash_stands.specs.Inodes.{Inodes, ADir, inodes_of}
use Rattle.fs_inodes.specs.Changes.{slot_of}
use Rattle.fs_inodes.specs.Lookups.{number_at}
use Rattle.fs_commands.specs.declared.paths.Entry.{Entry}
use Rattle.fs_commands.specs.declared.paths.Spot.TheVariants.{Inside}
use Rattle.fs_commands.specs.Looks.{ComesTo, ShowsFacts}
use Rattle.fs_commands.specs.Renaming.{IsBelowRoot, ShowsEntry}
use Rattle.fs_commands.proofs.removed.Accepted.{entry_slot}
use Rattle.fs_commands.proofs.renamed.Reasons.{root_holds}
use Rattle.fs_commands.proofs.Given.{PlaceLaw}

pub found_shown : (l : Layout) (files : Files) (path : List (List ℕ)) (dir count : ℕ) (found : Option Entry) → ComesTo l files path (Ok (Inside dir count found)) → number_at (inodes_of l files) path ≡ option_map (λ (e : Entry). e.node.number) found
    → ((e : Entry) → ComesTo l files path (Ok (Inside dir count (Some e))) → ShowsFacts (inodes_of l files) path e.node.facts)
    → PlaceLaw
    → ((i : ℕ) (slots : List Slot) (s : Slot) → inodes_of l files dir ≡ Some (ADir slots) → slice_get slots i ≡ Some s → s.node ≢ 1) → ShowsEntry (inodes_of l files) path found × IsBelowRoot (inodes_of l files) found
found_shown l files path dir count None comes number shows place apart = (number, tt)
found_shown l files path dir count (Some e) comes number shows place apart =
    let h = comes.4 in
    let slot = entry_slot l files dir count comes.1 e h place in
    ((number, shows e comes), (apart e.place h.slots (slot_of e.node.number comes.1) h.dir slot, root_holds (inodes_of l files) comes.0 comes.1 e.node.number (sym (ap (number_at (inodes_of l files)) comes.2) ∙ number)))

-- what was found has another number than the root
pub number_apart : (m : Inodes) (found : Option Entry) (n : ℕ) → IsBelowRoot m found → option_map (λ (e : Entry). e.node.number) found ≡ Some n → n ≢ 1
number_apart m None n below is = absurd (none-some n is)
number_apart m (Some e) n below is = subst (λ k. k ≢ 1) (same_Some e.node.number n is) below.0
