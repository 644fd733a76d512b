-- What may be planned still may behind reads, and what was looked up is there still.
use Rattle.std.proofs.Common.{◌≡◌, ℕ, ◌-◌, ◌==◌, if◌then◌else◌, Bool, false, IsTrue, List, length, find, is_none, Some, Result, Ok, sym, subst, ap, ap₂, ◌∙◌}
use Rattle.std.specs.List.{range_with_len}
use Rattle.base_types.specs.Seal.{Blocks}
use Rattle.layout_bytes.specs.declared.slot.Slot.{Slot}
use Rattle.lang_tree.specs.declared.command.Refusal.{Refusal}
use Rattle.crash_stands.specs.Files.{Files}
use Rattle.crash_stands.specs.Inodes.{ADir, inodes_of}
use Rattle.fs_inodes.specs.Lookups.{walk_on}
use Rattle.engine_blocks.specs.Calls.{HasTurns}
use Rattle.engine_blocks.specs.Running.{HasNoBare}
use Rattle.engine_blocks.specs.State.{Bookkeeping, State}
use Rattle.fs_files.specs.Calls.{files_in, places_of as places_by, IsUsed}
use Rattle.fs_files.specs.Drafts.{drafted, nothing_drafted}
use Rattle.fs_files.specs.Shared.{is_kept}
use Rattle.fs_files.specs.Sound.{TellsKept}
use Rattle.fs_files.specs.Effects.{LooksOnly}
use Rattle.fs_dirs.specs.Changing.{HasCount}
use Rattle.fs_commands.specs.declared.making.Vacancy.{Vacancy}
use Rattle.fs_commands.specs.declared.paths.NodeFound.{NodeFound}
use Rattle.fs_commands.specs.declared.paths.Spot.{Spot}
use Rattle.lang_tree.specs.Figures.{blocks_for}
use Rattle.lang_tree.specs.Sharing.{alone_from, shared_met}
use Rattle.fs_commands.specs.Figures.{KeepsResized, LosesBlocks, MeetsKept, kept_places}
use Rattle.fs_commands.specs.Looks.{ComesTo, LeadsToFile, LeadsToFound}
use Rattle.fs_commands.specs.Making.{MayAppear}
use Rattle.fs_session.specs.Commands.{least_number, places_of}
use Rattle.fs_session.specs.Sessions.{AreUsedBelow, MayBegin, MayPlan}
use Rattle.fs_commands.specs.Writing.{IsFile}
use Rattle.fs_session.specs.Staying.{sound_stays, stands_still}
use Rattle.fs_commands.proofs.looking.Found.{over_same, same_files}

module _ (tells : Bool) (s t : State) (looks : LooksOnly tells false s t) where
  pub may_begin_still : {counts : List ℕ} → MayBegin tells s counts → MayBegin tells t counts
  may_begin_still {counts} may = record {
    going = ap (λ (b : Bookkeeping). b.stopped) looks.books ∙ may.going;
    none_bare = subst (λ (b : Bookkeeping). HasNoBare b.running) (sym looks.books) may.none_bare;
    sound = λ told. sound_stays s t (ap (λ (b : Bookkeeping). b.geom) looks.books) (looks.map told) (may.sound told);
    kept = λ told. subst (λ (b : Bookkeeping). TellsKept b.geom (is_kept counts) t.map) (sym looks.books) (subst (λ (m : Blocks). TellsKept s.books.geom (is_kept counts) m) (sym (looks.map told)) (may.kept told));
  }

  -- a command that may be planned still may
  pub may_plan_still : {counts : List ℕ} → MayPlan tells s counts → MayPlan tells t counts
  may_plan_still may = record {
    begin = may_begin_still may.begin;
    stands = λ told. stands_still s t (ap (λ (b : Bookkeeping). b.geom) looks.books) (looks.map told) (may.stands told);
    turns = subst HasTurns (sym looks.books) may.turns;
  }

  -- What was looked up is there still.
  module _ (told : IsTrue tells) where
    files_still : files_in t nothing_drafted ≡ files_in s nothing_drafted
    files_still = same_files tells false s t nothing_drafted looks told

    pub comes_still : (path : List (List ℕ)) (spot : Result Spot Refusal) → ComesTo s.books.geom.layout (files_in s nothing_drafted) path spot → ComesTo t.books.geom.layout (files_in t nothing_drafted) path spot
    comes_still path spot comes = over_same tells s t looks told (λ l files. ComesTo l files path spot) comes

    pub may_appear_still : (path : List (List ℕ)) (v : Result Vacancy Refusal) → MayAppear s.books.geom.layout (files_in s nothing_drafted) path v → MayAppear t.books.geom.layout (files_in t nothing_drafted) path v
    may_appear_still path v may = over_same tells s t looks told (λ l files. MayAppear l files path v) may

    -- a directory in which a name may come to be has as many slots as were counted
    pub counted_still : (path : List (List ℕ)) (v : Vacancy) → MayAppear s.books.geom.layout (files_in s nothing_drafted) path (Ok v) → HasCount t nothing_drafted v.dir v.count
    counted_still path v may = by (may_appear_still path (Ok v) may)
      where
        by : MayAppear t.books.geom.layout (files_in t nothing_drafted) path (Ok v) → HasCount t nothing_drafted v.dir v.count
        by ((up, name, is, at, h), last) = (h.slots, h.dir, h.count)

    pub found_still : (path : List (List ℕ)) (r : Result NodeFound Refusal) → LeadsToFound s.books.geom.layout (files_in s nothing_drafted) path r → LeadsToFound t.books.geom.layout (files_in t nothing_drafted) path r
    found_still path r found = over_same tells s t looks told (λ l files. LeadsToFound l files path r) found

    pub used_still : (k : ℕ) → IsUsed (files_in s nothing_drafted) k → IsUsed (files_in t nothing_drafted) k
    used_still k used = subst (λ (files : Files). IsUsed files k) (sym files_still) used

    pub count_still : (dir count : ℕ) → HasCount s nothing_drafted dir count → HasCount t nothing_drafted dir count
    count_still dir count has = over_same tells s t looks told (λ l files. (slots : List Slot) × (inodes_of l files dir ≡ Some (ADir slots)) × (count ≡ length slots)) has

    pub below_still : (first : ℕ) → AreUsedBelow (files_in s nothing_drafted) first → AreUsedBelow (files_in t nothing_drafted) first
    below_still first used = subst (λ (files : Files). AreUsedBelow files first) (sym files_still) used

    pub least_still : (node : ℕ) → least_number s ≡ Some node → least_number t ≡ Some node
    least_still node least = ap₂ (λ (b : Bookkeeping) (files : Files). find (λ n. is_none (files n)) (range_with_len 1 b.geom.i)) looks.books files_still ∙ least

    -- its blocks are those that it had
    pub places_still : places_of t ≡ places_of s
    places_still = ap₂ (λ (b : Bookkeeping) (m : Blocks). places_by b.geom (drafted nothing_drafted m)) looks.books (looks.map told)

    -- snapshots keep as many of its blocks
    pub meets_still : (counts : List ℕ) (k lo hi met : ℕ) → MeetsKept s counts k lo hi met → MeetsKept t counts k lo hi met
    meets_still counts k lo hi met h = λ x is. h x (ap (λ (fs : Files). fs k) (sym files_still) ∙ is) ∙ ap (λ (p : ℕ → List ℕ). shared_met (kept_places counts (p k)) (length x.bytes) lo hi) (sym places_still)

    pub resizes_still : (counts : List ℕ) (k size kept : ℕ) → KeepsResized s counts k size kept → KeepsResized t counts k size kept
    resizes_still counts k size kept h = record {
      grows = λ x is more. h.grows x (ap (λ (fs : Files). fs k) (sym files_still) ∙ is) more ∙ ap (λ (p : ℕ → List ℕ). shared_met (kept_places counts (p k)) (length x.bytes) (length x.bytes) size) (sym places_still);
      cuts = λ x is less. h.cuts x (ap (λ (fs : Files). fs k) (sym files_still) ∙ is) less
          ∙ ap (λ (p : ℕ → List ℕ). alone_from (kept_places counts (p k)) (blocks_for size) (blocks_for (length x.bytes) - blocks_for size)) (sym places_still);
    }

    pub loses_still : (counts : List ℕ) (node : NodeFound) (gone : ℕ) → LosesBlocks s counts node gone → LosesBlocks t counts node gone
    loses_still counts node gone h = h ∙ ap (λ (p : ℕ → List ℕ). if node.facts.links == 1 then alone_from (kept_places counts (p node.number)) 0 (blocks_for node.facts.size) else 0) (sym places_still)

    pub file_is_still : (found : NodeFound) → IsFile (files_in s nothing_drafted) found → IsFile (files_in t nothing_drafted) found
    file_is_still found file = subst (λ (files : Files). IsFile files found) (sym files_still) file

    pub walks_still : (path : List (List ℕ)) (k : ℕ) → walk_on (inodes_of s.books.geom.layout (files_in s nothing_drafted)) 1 path ≡ Ok k → walk_on (inodes_of t.books.geom.layout (files_in t nothing_drafted)) 1 path ≡ Ok k
    walks_still path k walk = over_same tells s t looks told (λ l files. walk_on (inodes_of l files) 1 path ≡ Ok k) walk

    -- a file that a path leads to
    module _ (path : List (List ℕ)) (found : NodeFound) (led : LeadsToFile s.books.geom.layout (files_in s nothing_drafted) path (Ok found)) where
      pub file_still : IsFile (files_in t nothing_drafted) found
      file_still = subst (λ (files : Files). IsFile files found) (sym files_still) led.1

      pub walk_still : walk_on (inodes_of t.books.geom.layout (files_in t nothing_drafted)) 1 path ≡ Ok found.number
      walk_still = over_same tells s t looks told (λ l files. walk_on (inodes_of l files) 1 path ≡ Ok found.number) led.0
